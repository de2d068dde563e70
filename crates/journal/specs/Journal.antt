-- Appending and recovery: what they refuse, the stores they make, and the page that some of these leave. Assumes nothing.
use Rattle.std.specs.Prelude.{◌≡◌, List, [], ◌∷◌, ◌++◌, ℕ, ◌+◌, ◌-◌, eqb, ltb, length, get_or, take}
use Rattle.text.specs.Choice.{pick}
use Rattle.journal.specs.Page.{least_page, most_page, version, closing, Content, zeros, size_bytes, entry}
use Rattle.journal.specs.Stores.{Store, stored, placed, cleared}
use Rattle.journal.specs.declared.Outcome.{Outcome}
use Rattle.journal.specs.declared.Refusal.{Refusal}
use Rattle.journal.specs.declared.Refusal.TheVariants.{WrongSize, WrongVersion, Unclean, NoRoom}

-- the numbers: 5 for a page outside 16 to 65,535 bytes or an empty answer, 2 for another version byte, 3 for a page that isn't finished entries and
-- zeros, 9 for an entry over the room left
abbrev pub number : Refusal → ℕ
number WrongSize = 5
number WrongVersion = 2
number Unclean = 3
number NoRoom = 9

pub data Verdict : Type 0 where
  granted : Verdict
  refused : Refusal → Verdict

-- "a page outside 16 to 65,535 bytes .. with 5, then another version byte with 2", then what is asked further
abbrev pub page_verdict : List ℕ → Verdict → Verdict
page_verdict p further =
    pick (ltb (length p) least_page) (refused WrongSize)
    (pick (ltb most_page (length p)) (refused WrongSize) (pick (eqb (get_or p 0 0) version) further (refused WrongVersion)))

unfoldable pub recover_verdict : List ℕ → Verdict
recover_verdict p = page_verdict p granted

-- "or an empty answer with 5, .. then in appending a page that isn't finished entries and zeros with 3, then an entry over the room left with 9"
unfoldable pub append_verdict : List ℕ → List ℕ → List ℕ → Verdict
append_verdict p rest a =
    pick (eqb (length a) 0) (refused WrongSize)
    (page_verdict p (pick (zeros rest) (pick (ltb (length rest) (length (entry a))) (refused NoRoom) granted) (refused Unclean)))

-- "Refused at 0"
abbrev pub outcome : ℕ → Outcome
outcome n = record { number = n; place = 0 }

abbrev pub outcome_of : Verdict → Outcome
outcome_of granted = outcome 0
outcome_of (refused r) = outcome (number r)

-- "storing nothing"
abbrev pub allowed : Verdict → List Store → List ℕ → List ℕ
allowed granted ss p = stored p ss
allowed (refused r) ss p = p

-- the stores of an entry at a place: its length, its answer, and the closing byte "stored last"
unfoldable pub entry_stores : ℕ → List ℕ → List Store
entry_stores at a = placed at (size_bytes a) ++ (placed (at + 2) a ++ placed (at + 2 + length a) (closing ∷ []))

-- the stores of appending, at the front of the rest
unfoldable pub appending : List ℕ → List ℕ → List ℕ → List Store
appending p rest a = entry_stores (length p - length rest) a

-- the stores of recovery: "clears the rest to zeros", from the page's end towards the front
unfoldable pub clearing : List ℕ → List ℕ → List Store
clearing p rest = cleared (length rest) (length p - length rest)

-- appending an answer to a page, of whose stores those are made that `made` takes: the outcome, and the page after
pub record Appends (made : List Store → List Store) (p a : List ℕ) (r : Outcome) (q : List ℕ) : Type 0 where
  pub answers : List (List ℕ)
  pub rest : List ℕ
  pub content : Content p answers rest
  pub result : r ≡ outcome_of (append_verdict p rest a)
  pub page : q ≡ allowed (append_verdict p rest a) (made (appending p rest a)) p

-- recovery of a page, in the same way
pub record Recovers (made : List Store → List Store) (p : List ℕ) (r : Outcome) (q : List ℕ) : Type 0 where
  pub answers : List (List ℕ)
  pub rest : List ℕ
  pub content : Content p answers rest
  pub result : r ≡ outcome_of (recover_verdict p)
  pub page : q ≡ allowed (recover_verdict p) (made (clearing p rest)) p

-- with a cut behind the first `budget` stores, and with none
abbrev pub AppendCut : ℕ → List ℕ → List ℕ → Outcome → List ℕ → Type 0
AppendCut budget = Appends (take budget)

abbrev pub Appended : List ℕ → List ℕ → Outcome → List ℕ → Type 0
Appended = Appends (λ ss. ss)

abbrev pub RecoverCut : ℕ → List ℕ → Outcome → List ℕ → Type 0
RecoverCut budget = Recovers (take budget)

abbrev pub Recovered : List ℕ → Outcome → List ℕ → Type 0
Recovered = Recovers (λ ss. ss)
