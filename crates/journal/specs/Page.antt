-- A journal's page: a version byte, finished entries, and the rest behind them. Assumes nothing.
use Rattle.std.specs.Prelude.{◌≡◌, Bool, List, [], ◌∷◌, ◌++◌, ℕ, ◌+◌, ◌-◌, ◌*◌, ◌/◌, ◌%◌, ◌<◌, eqb, length, drop, replicate}
use Rattle.text.specs.All.{all}

-- "a page outside 16 to 65,535 bytes"
abbrev pub least_page : ℕ
least_page = 16

abbrev pub most_page : ℕ
most_page = 65535

-- "version byte 1 at the front"
abbrev pub version : ℕ
version = 1

-- "a closing byte of value 1"
abbrev pub closing : ℕ
closing = 1

-- "entries of two-byte length (the answer's, never 0), answer, and a closing byte of value 1": such bytes, and the answer they hold
pub record Entry (bytes answer : List ℕ) : Type 0 where
  pub high : ℕ
  pub low : ℕ
  pub spelled : bytes ≡ high ∷ low ∷ (answer ++ (closing ∷ []))
  pub measured : high * 256 + low ≡ length answer
  pub some : 0 < length answer

-- finished entries one behind the other, and their answers
pub data Entries : List ℕ → List (List ℕ) → Type 0 where
  e[] : Entries [] []
  e∷ : {e a s : List ℕ} {l : List (List ℕ)} → Entry e a → Entries s l → Entries (e ++ s) (a ∷ l)

-- no finished entry stands at the front of these bytes
abbrev pub Unfinished : List ℕ → Type 0
Unfinished s = (e a t : List ℕ) → Entry e a → s ≡ e ++ t → ⊥

-- what a page holds behind its first byte: "the finished entries from the front", and "the rest"
pub record Content (page : List ℕ) (answers : List (List ℕ)) (rest : List ℕ) : Type 0 where
  pub front : List ℕ
  pub entries : Entries front answers
  pub bytes : drop 1 page ≡ front ++ rest
  pub ends : Unfinished rest

abbrev pub is_zero : ℕ → Bool
is_zero b = eqb b 0

-- "zeros"
unfoldable pub zeros : List ℕ → Bool
zeros s = all is_zero s

-- the entry that is written for an answer: "two-byte length", big-endian, "answer, and a closing byte"
abbrev pub size_bytes : List ℕ → List ℕ
size_bytes a = length a / 256 ∷ length a % 256 ∷ []

unfoldable pub entry : List ℕ → List ℕ
entry a = size_bytes a ++ (a ++ (closing ∷ []))

unfoldable pub written : List (List ℕ) → List ℕ
written [] = []
written (a ∷ l) = entry a ++ written l

-- the page of n bytes that holds these answers and nothing else: "unused room zeros"
unfoldable pub holding : ℕ → List (List ℕ) → List ℕ
holding n l = version ∷ (written l ++ replicate (n - 1 - length (written l)) 0)
