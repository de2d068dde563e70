-- The fields of the record, and the tests on their bytes. Assumes nothing.
use Rattle.std.specs.Prelude.{Bool, true, false, List, [], ◌∷◌, ℕ, ◌+◌, ltb, leb, length, get_or}
use Rattle.text.specs.Choice.{pick}
use Rattle.text.specs.Scan.{run}
use Rattle.text.specs.Class.{is_letter, in_class, word}
use Rattle.text.specs.Equal.{equal}
use Rattle.text.specs.Counted.{part, pair_at}
use Rattle.principal.specs.Principal.{policy}
use Rattle.record.specs.Read.{Read, got, bad, and_then}

-- "out of range": the number if it lies between the two, else a refusal
abbrev pub within : ℕ → ℕ → ℕ → ℕ → ℕ → ℕ → Read ℕ
within least most n next number at = pick (ltb n least) (bad number at) (pick (ltb most n) (bad number at) (got n next))

-- "a count byte": 3 where it doesn't fit, 4 out of range
unfoldable pub count_at : List ℕ → ℕ → ℕ → ℕ → Read ℕ
count_at s least most at = pick (leb (length s) at) (bad 3 at) (within least most (get_or s at 0) (at + 1) 4 at)

-- "lengths are two bytes, big-endian": 3 where it doesn't fit, 5 out of range
unfoldable pub length_at : List ℕ → ℕ → ℕ → ℕ → Read ℕ
length_at s least most at = pick (ltb (length s) (at + 2)) (bad 3 at) (within least most (pair_at s at) (at + 2) 5 at)

-- so many bytes: 3 where they don't fit
unfoldable pub content_at : List ℕ → ℕ → ℕ → Read (List ℕ)
content_at s n at = pick (ltb (length s) (at + n)) (bad 3 at) (got (part s at n) (at + n))

-- "a length and its content are two fields"
unfoldable pub field_at : List ℕ → ℕ → ℕ → ℕ → Read (List ℕ)
field_at s least most at = and_then (length_at s least most at) (λ n p. content_at s n p)

-- "An attribute name is a letter, then letters, digits and underscores": how many bytes at the front may stand there
unfoldable pub name_front : List ℕ → ℕ
name_front b = pick (is_letter (get_or b 0 0)) (run (in_class word) b) 0

-- 6, "byte not permitted", at the first byte behind the front that may stand there
abbrev pub permitted : {A : Type 0} → ℕ → List ℕ → ℕ → Read A → Read A
permitted front b at r = pick (ltb front (length b)) (bad 6 (at + front)) r

-- 10, W-206: "Nobody asks as POLICY", at "the identifier's first byte, after its bytes are checked"
abbrev pub askable : {A : Type 0} → List ℕ → ℕ → Read A → Read A
askable b at r = pick (equal b policy) (bad 10 at) r

-- does a string stand among others?
unfoldable pub among : List ℕ → List (List ℕ) → Bool
among x [] = false
among x (y ∷ ys) = pick (equal x y) true (among x ys)

-- 7, "value or name repeated", at "the first byte of the later one"
abbrev pub distinct : {A : Type 0} → List ℕ → List (List ℕ) → ℕ → Read A → Read A
distinct b seen at r = pick (among b seen) (bad 7 at) r
