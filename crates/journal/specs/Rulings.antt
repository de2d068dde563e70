-- Rulings J01 to J05 on the journal, computed from the definitions, and where the theorems' premises hold and where not. Assumes nothing.
use Rattle.std.specs.Prelude.{◌≡◌, refl, List, [], ◌∷◌, ◌++◌, ℕ, take, replicate}
use Rattle.text.specs.All as TextAll
use Rattle.text.specs.Counted as TextCounted
use Rattle.journal.specs.Page.{zeros, entry, written, holding}
use Rattle.journal.specs.Stores.{stored, placed, cleared}
use Rattle.journal.specs.Journal.{Verdict, granted, refused, outcome, outcome_of, recover_verdict, append_verdict, allowed, entry_stores, appending, clearing, Appends, Recovers}
use Rattle.journal.specs.Working.Walk.{behind, finished_at, entries_in, entries, end_in, end_at, rest_of}
use Rattle.journal.specs.Working.Requests.{appends, recovers}

-- the number and the page after k stores of appending, and of recovery
unfoldable pub append_of : ℕ → List ℕ → List ℕ → ℕ × List ℕ
append_of k p a =
    ((outcome_of (append_verdict p (rest_of p) a)).number, allowed (append_verdict p (rest_of p) a) (take k (appending p (rest_of p) a)) p)

unfoldable pub recover_of : ℕ → List ℕ → ℕ × List ℕ
recover_of k p = ((outcome_of (recover_verdict p)).number, allowed (recover_verdict p) (take k (clearing p (rest_of p))) p)

-- these are what the definitions say
numbered : (v : Verdict) → outcome (outcome_of v).number ≡ outcome_of v
numbered granted = refl
numbered (refused r) = refl

pub append-is : (k : ℕ) (p a : List ℕ) → Appends (take k) p a (outcome (append_of k p a).0) (append_of k p a).1
unfolding append_of
append-is k p a =
    appends (take k) p a (outcome (outcome_of (append_verdict p (rest_of p) a)).number)
    (allowed (append_verdict p (rest_of p) a) (take k (appending p (rest_of p) a)) p) (numbered (append_verdict p (rest_of p) a)) refl

pub recover-is : (k : ℕ) (p : List ℕ) → Recovers (take k) p (outcome (recover_of k p).0) (recover_of k p).1
unfolding recover_of
recover-is k p =
    recovers (take k) p (outcome (outcome_of (recover_verdict p)).number) (allowed (recover_verdict p) (take k (clearing p (rest_of p))) p)
    (numbered (recover_verdict p)) refl

-- appending: J02-01, J02-02, J02-03, J02-04, J02-05, J02-06, J02-07, J02-08, J02-09, J02-10, J02-11, J03-01, J03-02, J03-03, J03-04, J03-05, J03-08, J03-09
abbrev appending_table : List (ℕ × List ℕ)
appending_table =
    append_of 99 (1 ∷ replicate 15 0) (255 ∷ [])
    ∷ append_of 99 (1 ∷ 0 ∷ 1 ∷ 255 ∷ 1 ∷ replicate 11 0) (1 ∷ 2 ∷ [])
    ∷ append_of 99 (1 ∷ 0 ∷ 1 ∷ 255 ∷ replicate 12 0) (1 ∷ [])
    ∷ append_of 99 (1 ∷ 0 ∷ 1 ∷ 255 ∷ 2 ∷ replicate 11 0) (1 ∷ [])
    ∷ append_of 99 (1 ∷ 0 ∷ 0 ∷ 0 ∷ 0 ∷ 0 ∷ 0 ∷ 0 ∷ 0 ∷ 0 ∷ 0 ∷ 0 ∷ 0 ∷ 0 ∷ 0 ∷ 1 ∷ []) (1 ∷ [])
    ∷ append_of 99 (1 ∷ 0 ∷ 0 ∷ 1 ∷ replicate 12 0) (1 ∷ [])
    ∷ append_of 99 (1 ∷ 0 ∷ 255 ∷ replicate 13 0) (1 ∷ [])
    ∷ append_of 99 (1 ∷ 0 ∷ 12 ∷ 7 ∷ 7 ∷ 7 ∷ 7 ∷ 7 ∷ 7 ∷ 7 ∷ 7 ∷ 7 ∷ 7 ∷ 7 ∷ 7 ∷ 1 ∷ []) (1 ∷ [])
    ∷ append_of 99 (1 ∷ 0 ∷ 9 ∷ 7 ∷ 7 ∷ 7 ∷ 7 ∷ 7 ∷ 7 ∷ 7 ∷ 7 ∷ 7 ∷ 1 ∷ 0 ∷ 0 ∷ 0 ∷ []) (1 ∷ [])
    ∷ append_of 99 (1 ∷ 0 ∷ 8 ∷ 7 ∷ 7 ∷ 7 ∷ 7 ∷ 7 ∷ 7 ∷ 7 ∷ 7 ∷ 1 ∷ replicate 4 0) (9 ∷ [])
    ∷ append_of 99 (1 ∷ 0 ∷ 9 ∷ 7 ∷ 7 ∷ 7 ∷ 7 ∷ 7 ∷ 7 ∷ 7 ∷ 7 ∷ 7 ∷ 1 ∷ 0 ∷ 0 ∷ 1 ∷ []) (1 ∷ [])
    ∷ append_of 99 (1 ∷ replicate 14 0) (1 ∷ [])
    ∷ append_of 99 (2 ∷ replicate 14 0) (1 ∷ [])
    ∷ append_of 99 (2 ∷ replicate 15 0) ([])
    ∷ append_of 99 (replicate 16 0) (1 ∷ [])
    ∷ append_of 99 (2 ∷ 1 ∷ 1 ∷ 1 ∷ 1 ∷ 1 ∷ 1 ∷ 1 ∷ 1 ∷ 1 ∷ 1 ∷ 1 ∷ 1 ∷ 1 ∷ 1 ∷ 1 ∷ []) (1 ∷ [])
    ∷ append_of 99 (1 ∷ replicate 15 0) (1 ∷ 1 ∷ 1 ∷ 1 ∷ 1 ∷ 1 ∷ 1 ∷ 1 ∷ 1 ∷ 1 ∷ 1 ∷ 1 ∷ [])
    ∷ append_of 99 (1 ∷ replicate 15 0) (1 ∷ 1 ∷ 1 ∷ 1 ∷ 1 ∷ 1 ∷ 1 ∷ 1 ∷ 1 ∷ 1 ∷ 1 ∷ 1 ∷ 1 ∷ [])
    ∷ []

pub appending-rulings : appending_table ≡
    (0, (1 ∷ 0 ∷ 1 ∷ 255 ∷ 1 ∷ replicate 11 0))
    ∷ (0, (1 ∷ 0 ∷ 1 ∷ 255 ∷ 1 ∷ 0 ∷ 2 ∷ 1 ∷ 2 ∷ 1 ∷ replicate 6 0))
    ∷ (3, (1 ∷ 0 ∷ 1 ∷ 255 ∷ replicate 12 0))
    ∷ (3, (1 ∷ 0 ∷ 1 ∷ 255 ∷ 2 ∷ replicate 11 0))
    ∷ (3, (1 ∷ 0 ∷ 0 ∷ 0 ∷ 0 ∷ 0 ∷ 0 ∷ 0 ∷ 0 ∷ 0 ∷ 0 ∷ 0 ∷ 0 ∷ 0 ∷ 0 ∷ 1 ∷ []))
    ∷ (3, (1 ∷ 0 ∷ 0 ∷ 1 ∷ replicate 12 0))
    ∷ (3, (1 ∷ 0 ∷ 255 ∷ replicate 13 0))
    ∷ (9, (1 ∷ 0 ∷ 12 ∷ 7 ∷ 7 ∷ 7 ∷ 7 ∷ 7 ∷ 7 ∷ 7 ∷ 7 ∷ 7 ∷ 7 ∷ 7 ∷ 7 ∷ 1 ∷ []))
    ∷ (9, (1 ∷ 0 ∷ 9 ∷ 7 ∷ 7 ∷ 7 ∷ 7 ∷ 7 ∷ 7 ∷ 7 ∷ 7 ∷ 7 ∷ 1 ∷ 0 ∷ 0 ∷ 0 ∷ []))
    ∷ (0, (1 ∷ 0 ∷ 8 ∷ 7 ∷ 7 ∷ 7 ∷ 7 ∷ 7 ∷ 7 ∷ 7 ∷ 7 ∷ 1 ∷ 0 ∷ 1 ∷ 9 ∷ 1 ∷ []))
    ∷ (3, (1 ∷ 0 ∷ 9 ∷ 7 ∷ 7 ∷ 7 ∷ 7 ∷ 7 ∷ 7 ∷ 7 ∷ 7 ∷ 7 ∷ 1 ∷ 0 ∷ 0 ∷ 1 ∷ []))
    ∷ (5, (1 ∷ replicate 14 0))
    ∷ (5, (2 ∷ replicate 14 0))
    ∷ (5, (2 ∷ replicate 15 0))
    ∷ (2, (replicate 16 0))
    ∷ (2, (2 ∷ 1 ∷ 1 ∷ 1 ∷ 1 ∷ 1 ∷ 1 ∷ 1 ∷ 1 ∷ 1 ∷ 1 ∷ 1 ∷ 1 ∷ 1 ∷ 1 ∷ 1 ∷ []))
    ∷ (0, (1 ∷ 0 ∷ 12 ∷ 1 ∷ 1 ∷ 1 ∷ 1 ∷ 1 ∷ 1 ∷ 1 ∷ 1 ∷ 1 ∷ 1 ∷ 1 ∷ 1 ∷ 1 ∷ []))
    ∷ (9, (1 ∷ replicate 15 0))
    ∷ []
unfolding append_of recover_of rest_of end_at end_in entries entries_in behind finished_at zeros entry append_verdict recover_verdict appending clearing stored placed cleared entry_stores TextAll.all TextCounted.pair_at TextCounted.part
appending-rulings = refl

-- recovery: J03-10, J03-11, J04-01, J04-02, J04-03, J04-04, J04-05
abbrev recovery_table : List (ℕ × List ℕ)
recovery_table =
    recover_of 99 (1 ∷ replicate 14 0)
    ∷ recover_of 99 (replicate 16 0)
    ∷ recover_of 99 (1 ∷ 0 ∷ 1 ∷ 255 ∷ 1 ∷ 0 ∷ 2 ∷ 255 ∷ replicate 8 0)
    ∷ recover_of 99 (1 ∷ 0 ∷ 1 ∷ 255 ∷ 0 ∷ 0 ∷ 1 ∷ 255 ∷ 1 ∷ replicate 7 0)
    ∷ recover_of 99 (1 ∷ 0 ∷ 0 ∷ 7 ∷ 7 ∷ 7 ∷ 7 ∷ 7 ∷ 7 ∷ 7 ∷ 7 ∷ 7 ∷ 7 ∷ 7 ∷ 7 ∷ 7 ∷ [])
    ∷ recover_of 99 (1 ∷ 0 ∷ 1 ∷ 255 ∷ 1 ∷ replicate 11 0)
    ∷ recover_of 99 (1 ∷ 0 ∷ 9 ∷ 7 ∷ 7 ∷ 7 ∷ 7 ∷ 7 ∷ 7 ∷ 7 ∷ 7 ∷ 7 ∷ 1 ∷ 0 ∷ 1 ∷ 7 ∷ [])
    ∷ []

pub recovery-rulings : recovery_table ≡
    (5, (1 ∷ replicate 14 0))
    ∷ (2, (replicate 16 0))
    ∷ (0, (1 ∷ 0 ∷ 1 ∷ 255 ∷ 1 ∷ replicate 11 0))
    ∷ (0, (1 ∷ replicate 15 0))
    ∷ (0, (1 ∷ replicate 15 0))
    ∷ (0, (1 ∷ 0 ∷ 1 ∷ 255 ∷ 1 ∷ replicate 11 0))
    ∷ (0, (1 ∷ 0 ∷ 9 ∷ 7 ∷ 7 ∷ 7 ∷ 7 ∷ 7 ∷ 7 ∷ 7 ∷ 7 ∷ 7 ∷ 1 ∷ 0 ∷ 0 ∷ 0 ∷ []))
    ∷ []
unfolding append_of recover_of rest_of end_at end_in entries entries_in behind finished_at zeros entry append_verdict recover_verdict appending clearing stored placed cleared entry_stores TextAll.all TextCounted.pair_at TextCounted.part
recovery-rulings = refl

-- a cut behind each of the five stores of an answer of two bytes, behind an entry; J05: the first stores no other byte than was there
abbrev before : List ℕ
before = 1 ∷ 0 ∷ 1 ∷ 255 ∷ 1 ∷ replicate 11 0

abbrev cuts : List (List (List ℕ))
cuts =
    entries (append_of 0 before (1 ∷ 1 ∷ [])).1
    ∷ entries (append_of 1 before (1 ∷ 1 ∷ [])).1
    ∷ entries (append_of 2 before (1 ∷ 1 ∷ [])).1
    ∷ entries (append_of 3 before (1 ∷ 1 ∷ [])).1
    ∷ entries (append_of 4 before (1 ∷ 1 ∷ [])).1
    ∷ entries (append_of 5 before (1 ∷ 1 ∷ [])).1
    ∷ []

abbrev held : List (List ℕ)
held = (255 ∷ []) ∷ []

pub cut-appending : cuts ≡ held ∷ held ∷ held ∷ held ∷ held ∷ ((255 ∷ []) ∷ (1 ∷ 1 ∷ []) ∷ []) ∷ []
unfolding append_of recover_of rest_of end_at end_in entries entries_in behind finished_at zeros entry append_verdict recover_verdict appending clearing stored placed cleared entry_stores TextAll.all TextCounted.pair_at TextCounted.part
cut-appending = refl

-- a cut within recovery, and recovery again
abbrev torn : List ℕ
torn = 1 ∷ 1 ∷ 1 ∷ 255 ∷ 1 ∷ replicate 11 7

pub cut-recovering : recover_of 99 (recover_of 5 torn).1 ≡ recover_of 99 torn
unfolding append_of recover_of rest_of end_at end_in entries entries_in behind finished_at zeros entry append_verdict recover_verdict appending clearing stored placed cleared entry_stores TextAll.all TextCounted.pair_at TextCounted.part
cut-recovering = refl

-- J01 (c): recovery from the front would make a finished entry of what was none, here with its first store. So may an order that isn't kept:
-- Theorems/Torn asks for a barrier before the last two stores
pub from-the-front : entries torn ≡ [] × (entries (stored torn (take 1 (placed 1 (replicate 15 0)))) ≡ (255 ∷ []) ∷ [])
unfolding append_of recover_of rest_of end_at end_in entries entries_in behind finished_at zeros entry append_verdict recover_verdict appending clearing stored placed cleared entry_stores TextAll.all TextCounted.pair_at TextCounted.part
from-the-front = (refl, refl)

-- J01 (b): the answer before the length would leave an entry of a wrong length, here behind the answer and the first byte of its length, 257. So may an
-- order that isn't kept: Theorems/Torn asks for a barrier behind the length
abbrev long : List ℕ
long = replicate 256 7 ++ (1 ∷ [])

pub answer-first : entries (stored (1 ∷ replicate 263 0) (placed 3 long ++ placed 1 (1 ∷ []))) ≡ replicate 256 7 ∷ []
unfolding append_of recover_of rest_of end_at end_in entries entries_in behind finished_at zeros entry append_verdict recover_verdict appending clearing stored placed cleared entry_stores TextAll.all TextCounted.pair_at TextCounted.part
answer-first = refl

-- an empty answer isn't read again: an entry's length is never 0
pub empty-answer : entries (holding 16 ([] ∷ [])) ≡ []
unfolding holding written append_of recover_of rest_of end_at end_in entries entries_in behind finished_at zeros entry append_verdict recover_verdict appending clearing stored placed cleared entry_stores TextAll.all TextCounted.pair_at TextCounted.part
empty-answer = refl
