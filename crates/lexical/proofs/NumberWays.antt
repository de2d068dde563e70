-- The ways out of the functions of `number`. Assumes nothing.
use mathlib.Core.Path.{◌≡◌, refl, sym, ◌∙◌}
use mathlib.Core.List.{List, [], ◌∷◌}
use Prim.Native.Nat.{ℕ, zero, suc, ◌+◌, ◌-◌, ◌*◌, ◌≤◌, ◌<◌, min}
use native.Mathlib.Omega.{arith}
use native.Mathlib.Numerals.{add-one}
use lib.Dec.{leb}
use lib.ListN.{length, get_or, take, drop_of_length-le, length-drop}
use lib.Seq.{slice, drop-cons, get_or-take, get_or-drop}
use mir.Syntax.{w8}
use mir.Val.{Fits}
use borrow.Author.Tests.{lt-leb}
use Rattle.text.specs.Digits.{value_from, value}
use Rattle.lexical.specs.Theorems.UnitLaws.{Bytes}
use Rattle.lexical.specs.Number.{LIMIT, number_at}

-- numbers that are one when held at the limit are so behind the same digits
held_same : (bs : List ℕ) (x y : ℕ) → min x LIMIT ≡ min y LIMIT → min (value_from x bs) LIMIT ≡ min (value_from y bs) LIMIT
unfolding value_from
held_same [] x y h = h
held_same (b ∷ bs) x y h = held_same bs (x * 10 + (b - 48)) (y * 10 + (b - 48)) (omega (arith, h))

within : (v : ℕ) → v ≤ LIMIT → v ≡ min v LIMIT
within v h = omega (arith, h)

take_short : (t : ℕ) (l : List ℕ) → (length (take t l) ≤ t) × (length (take t l) ≤ length l)
take_short zero l = (omega arith, omega arith)
take_short (suc t) [] = (omega arith, omega arith)
take_short (suc t) (x ∷ xs) = (omega (arith, (take_short t xs).0), omega (arith, (take_short t xs).1))

take_long : (t : ℕ) (l : List ℕ) (i : ℕ) → i < t → i < length l → i < length (take t l)
take_long zero l i h k = let no : ⊥ = omega (arith, h) in absurd no
take_long (suc t) [] i h k = let no : ⊥ = omega (arith, k) in absurd no
take_long (suc t) (x ∷ xs) zero h k = omega arith
take_long (suc t) (x ∷ xs) (suc i) h k = omega (arith, take_long t xs i (omega (arith, h)) (omega (arith, k)))

-- what is left of the number behind v
unfoldable pub number_rest : List ℕ → ℕ → ℕ → ℕ → ℕ
number_rest s i end v = min (value_from v (slice i end s)) LIMIT

pub number-start : (s : List ℕ) (start end : ℕ) → number_rest s start end 0 ≡ min (number_at s start end) LIMIT
unfolding number_rest number_at value
number-start s start end = refl

module _ (s : List ℕ) (i end v r : ℕ) (inv : number_rest s i end v ≡ r) where
  pub number-end : v ≤ LIMIT → (n : ℕ) → n ≡ min end (length s) → n ≤ i → v ≡ r
  unfolding number_rest value_from
  number-end low n ne h =
      let l : length (take end s) ≤ i = omega (arith, h, (take_short end s).0, (take_short end s).1) in
      within v low ∙ (rw (drop_of_length-le (take end s) {i = i} l) at inv)

  module _ (n : ℕ) (ne : n ≡ min end (length s)) (h : i < n) (d : ℕ) (de : d ≡ get_or s i 0 - 48) (w : ℕ) (we : w ≡ min LIMIT (v * 10 + d)) where
    pub number_more : number_rest s (i + 1) end w ≡ r
    unfolding number_rest value_from
    number_more =
        let l : i < end = omega arith in
        let k : i < length s = omega arith in
        let e : w ≡ min (v * 10 + d) LIMIT = omega arith in
        rw (add-one i, e, de)
        (held_same (slice (suc i) end s) (min (v * 10 + (get_or s i 0 - 48)) LIMIT) (v * 10 + (get_or s i 0 - 48)) (omega arith)
        ∙ (rw (drop-cons (take end s) i 0 (take_long end s i l k), get_or-take end s i 0 l) at inv))

-- a front of bytes
bytes_take : (n : ℕ) (s : List ℕ) → Bytes s → Bytes (take n s)
bytes_take zero s f i = omega arith
bytes_take (suc n) [] f i = omega arith
bytes_take (suc n) (x ∷ xs) f zero = f 0
bytes_take (suc n) (x ∷ xs) f (suc i) = bytes_take n xs (λ j. f (suc j)) i

-- no less than what up to n bytes write behind w: 48 leaves at most 207 of a byte
top : ℕ → ℕ → ℕ
top zero w = w
top (suc n) w = top n (w * 10 + 207)

value-top : (n : ℕ) (bs : List ℕ) (v w : ℕ) → Bytes bs → length bs ≤ n → v ≤ w → value_from v bs ≤ top n w
unfolding value_from top
value-top zero [] v w f l h = h
value-top zero (b ∷ bs) v w f l h = let no : ⊥ = omega (arith, l) in absurd no
value-top (suc n) [] v w f l h = value-top n [] v (w * 10 + 207) f (omega arith) (omega (arith, h))
value-top (suc n) (b ∷ bs) v w f l h =
    value-top n bs (v * 10 + (b - 48)) (w * 10 + 207) (λ i. f (suc i)) (omega (arith, l)) (omega (arith, h, f 0))

-- seven bytes write at most 207 * 1111111
pub large-few : (s : List ℕ) (start end : ℕ) → ((i : ℕ) → Fits w8 (get_or s i 0)) → (d : ℕ) → d ≡ end - start → d < 8 → leb 8 d ≡ leb LIMIT (number_at s start end)
unfolding number_at value top
large-few s start end f d e h =
    let b : Bytes (slice start end s) = λ i. rw (get_or-drop start (take end s) i 0) (bytes_take end s (λ j. (f j).fits) (start + i)) in
    let l : length (slice start end s) ≤ 7 = rw length-drop (omega (arith, h, e, (take_short end s).0)) in
    let v : value_from 0 (slice start end s) ≤ 229999977 = value-top 7 (slice start end s) 0 0 b l (omega arith) in
    lt-leb 8 d h ∙ sym (lt-leb LIMIT (value_from 0 (slice start end s)) (omega (arith, v)))

pub ruleset large = (large-few)
