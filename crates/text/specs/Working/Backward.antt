-- Equality tested from the last bytes on, and the ways out of `same_above` and `same_bytes`. Assumes nothing.
use Rattle.std.specs.Prelude.{◌≡◌, refl, Bool, false, ◌&&◌, List, [], ◌∷◌, ◌++◌, ℕ, zero, suc, ◌+◌, ◌-◌, ◌*◌, ◌/◌, ◌%◌, ◌<◌, ◌≤◌, eqb, length, get_or, take, drop}
use Rattle.std.proofs.Math.Path.{sym}
use Rattle.std.proofs.Common.{ap, ◌∙◌, arith, zero-add, suc-add, take_all, take-suc, eq-eqb, take-take, drop-drop, length-take-le}
use Rattle.std.specs.Cmp.Lexicographic.{pointwise}
use Rattle.std.proofs.Math.Bool.{true}
use Rattle.std.proofs.Math.Seq.{take-nil}
use Rattle.text.specs.Choice.{split, clash}
use Rattle.text.specs.Equal.{equal, equal-refl, equal-true}
use Rattle.text.specs.Working.Blocks.{alike, take_more, append-like, append-unlike, byte-unlike, byte-like}

pub same-apart : (a b : List ℕ) → (length a ≡ length b → ⊥) → false ≡ equal a b
same-apart a b h = split (equal a b) (λ e. absurd (h (ap length (equal-true a b e)))) (λ e. sym e)

pub same_start : (a b : List ℕ) → length a ≡ length b → equal (take (length a) a) (take (length a) b) ≡ equal a b
same_start a b h = rw (take_all (length a) a (omega arith), take_all (length a) b (omega (arith, h)))

-- one byte less
module _ (a b : List ℕ) (i : ℕ) (r : Bool) (inv : equal (take i a) (take i b) ≡ r) (more : 0 < i) (inside : i ≤ length a) (long : length a ≡ length b) where
  last : (c : List ℕ) → i ≤ length c → take i c ≡ take (i - 1) c ++ (get_or c (i - 1) 0 ∷ [])
  last c h = let z : suc (i - 1) ≡ i = omega (arith, more) in ap (λ (n : ℕ). take n c) (sym z) ∙ take-suc c (i - 1) 0 (omega (arith, more, h))

  fronts : length (take (i - 1) a) ≡ length (take (i - 1) b)
  fronts = length-take-le (i - 1) a (omega (arith, inside)) ∙ sym (length-take-le (i - 1) b (omega (arith, inside, long)))

  inv' : equal (take (i - 1) a ++ (get_or a (i - 1) 0 ∷ [])) (take (i - 1) b ++ (get_or b (i - 1) 0 ∷ [])) ≡ r
  inv' = rw (last a inside, last b (omega (arith, inside, long))) at inv

  pub same-unlike : (get_or a (i - 1) 0 ≡ get_or b (i - 1) 0 → ⊥) → false ≡ r
  same-unlike h = sym (byte-unlike (take (i - 1) a) (take (i - 1) b) (get_or a (i - 1) 0) (get_or b (i - 1) 0) fronts h) ∙ inv'

  pub same-like : get_or a (i - 1) 0 ≡ get_or b (i - 1) 0 → equal (take (i - 1) a) (take (i - 1) b) ≡ r
  same-like h = sym (byte-like (take (i - 1) a) (take (i - 1) b) (get_or a (i - 1) 0) (get_or b (i - 1) 0) fronts h) ∙ inv'

pub same_none : (a b : List ℕ) (i : ℕ) (r : Bool) → equal (take i a) (take i b) ≡ r → i ≤ 0 → true ≡ r
unfolding equal
same_none a b i r inv h = let n : i ≡ 0 = omega (arith, h) in let z : equal (take 0 a) (take 0 b) ≡ r = rw n at inv in z

-- `same_above`: n bytes less
module _ (a b : List ℕ) (i n : ℕ) (r : Bool) (inv : equal (take i a) (take i b) ≡ r) (more : n ≤ i) (ha : i ≤ length a) (long : length a ≡ length b)
    (t : Bool) (te : t ≡ alike a b (i - n) n) where
  whole : (c : List ℕ) → take i c ≡ take (i - n) c ++ take n (drop (i - n) c)
  whole c = let z : i ≡ (i - n) + n = omega (arith, more) in ap (λ (k : ℕ). take k c) z ∙ take_more (i - n) n c

  below : length (take (i - n) a) ≡ length (take (i - n) b)
  below = length-take-le (i - n) a (omega (arith, ha)) ∙ sym (length-take-le (i - n) b (omega (arith, ha, long)))

  pub part-unlike : t ≡ false → r ≡ false
  unfolding alike
  part-unlike tf =
      sym inv ∙ rw (whole a, whole b) (append-unlike (take (i - n) a) (take (i - n) b) (take n (drop (i - n) a)) (take n (drop (i - n) b)) below (sym te ∙ tf))

  pub part-like : t ≡ true → equal (take (i - n) a) (take (i - n) b) ≡ r
  unfolding alike
  part-like tt =
      sym (append-like (take (i - n) a) (take (i - n) b) (take n (drop (i - n) a)) (take n (drop (i - n) b)) below (sym te ∙ tt)) ∙ (rw (whole a, whole b) at inv)

drop-take : (m n : ℕ) (l : List ℕ) → drop m (take (m + n) l) ≡ take n (drop m l)
drop-take zero n l = rw (zero-add n)
drop-take (suc m) n [] = rw (take-nil (suc m + n), take-nil n)
drop-take (suc m) n (x ∷ l) = rw (suc-add m n, drop-take m n l)

-- a part that differs, and one that is the same from `from` on up to i or further
module _ (a b : List ℕ) (from n : ℕ) (ha : from + n ≤ length a) (long : length a ≡ length b) (t : Bool) (te : t ≡ alike a b from n) where
  pub apart-unlike : t ≡ false → equal a b ≡ false
  unfolding alike
  apart-unlike tf =
      split (equal a b)
      (λ e. let q : a ≡ b = equal-true a b e in
      let s : equal (take n (drop from a)) (take n (drop from b)) ≡ true = rw q (equal-refl (take n (drop from b))) in clash s (sym te ∙ tf))
      (λ e. e)

  part_same : t ≡ true → take n (drop from a) ≡ take n (drop from b)
  unfolding alike
  part_same tt = equal-true (take n (drop from a)) (take n (drop from b)) (sym te ∙ tt)

  inner : (low i : ℕ) → from ≤ low → low ≤ i → i ≤ from + n → (c : List ℕ) → take (i - low) (drop (low - from) (take n (drop from c))) ≡ take (i - low) (drop low c)
  inner low i f l h c =
      let z : low ≡ from + (low - from) = omega (arith, f) in
      let m : n ≡ (low - from) + (n - (low - from)) = omega (arith, f, l, h) in
      ap (take (i - low))
      (ap (λ (k : ℕ). drop (low - from) (take k (drop from c))) m ∙ drop-take (low - from) (n - (low - from)) (drop from c))
      ∙ take-take (i - low) (n - (low - from)) (drop (low - from) (drop from c)) (omega (arith, f, l, h))
      ∙ ap (take (i - low)) (drop-drop (low - from) from c ∙ ap (λ (k : ℕ). drop k c) (sym z))

  pub part-rest : t ≡ true → (low i : ℕ) → from ≤ low → low ≤ i → i ≤ from + n → i ≤ length a → equal (take i a) (take i b) ≡ equal (take low a) (take low b)
  part-rest tt low i f l h k =
      let z : i ≡ low + (i - low) = omega (arith, l) in
      let same : take (i - low) (drop low a) ≡ take (i - low) (drop low b)
      = sym (inner low i f l h a) ∙ ap (λ (x : List ℕ). take (i - low) (drop (low - from) x)) (part_same tt) ∙ inner low i f l h b in
      let w : (c : List ℕ) → take i c ≡ take low c ++ take (i - low) (drop low c) = λ c. ap (λ (x : ℕ). take x c) z ∙ take_more low (i - low) c in
      let q : equal (take (i - low) (drop low a)) (take (i - low) (drop low b)) ≡ true = rw same (equal-refl (take (i - low) (drop low b))) in
      ap (λ (x : List ℕ). equal x (take i b)) (w a) ∙ ap (equal (take low a ++ take (i - low) (drop low a))) (w b)
      ∙ append-like (take low a) (take low b) (take (i - low) (drop low a)) (take (i - low) (drop low b))
      (length-take-le low a (omega (arith, l, k)) ∙ sym (length-take-le low b (omega (arith, l, k, long)))) q

-- the ways out
module _ (a b : List ℕ) (i low : ℕ) (inv : equal (take i a) (take i b) ≡ equal a b) (from : low ≤ i) (ha : i ≤ length a) (long : length a ≡ length b) where
  pub above-done : i ≤ low → equal a b ≡ (true && equal (take low a) (take low b))
  above-done h = let z : i ≡ low = omega (arith, from, h) in sym inv ∙ rw z

  pub above-unlike : 8 ≤ i - low → (t : Bool) → t ≡ alike a b (i - 8) 8 → t ≡ false → equal a b ≡ (false && equal (take low a) (take low b))
  above-unlike h t te tf = part-unlike a b i 8 (equal a b) inv (omega (arith, h)) ha long t te tf

  pub above-like : 8 ≤ i - low → (t : Bool) → t ≡ alike a b (i - 8) 8 → t ≡ true → equal (take (i - 8) a) (take (i - 8) b) ≡ equal a b
  above-like h t te tt = part-like a b i 8 (equal a b) inv (omega (arith, h)) ha long t te tt

  above_cases : (at : ℕ) → at + 8 ≤ length a → at ≤ low → i ≤ at + 8 → (t : Bool) → t ≡ alike a b at 8 → equal a b ≡ (t && equal (take low a) (take low b))
  above_cases at h l k true te = sym inv ∙ part-rest a b at 8 h long true te refl low i l from k ha
  above_cases at h l k false te = apart-unlike a b at 8 h long false te refl

  pub above-few : i < 8 → 8 ≤ length a → (t : Bool) → t ≡ alike a b 0 8 → equal a b ≡ (t && equal (take low a) (take low b))
  above-few h e t te = above_cases 0 (omega (arith, e)) (omega arith) (omega (arith, h)) t te

  pub above-last : i - low < 8 → 8 ≤ i → (t : Bool) → t ≡ alike a b (i - 8) 8 → equal a b ≡ (t && equal (take low a) (take low b))
  above-last h e t te = above_cases (i - 8) (omega (arith, e, ha)) (omega (arith, h, e, from)) (omega (arith, e)) t te

-- strings whose last bytes differ, and empty ones
pub last-unlike : (a b : List ℕ) → (get_or a (length a - 1) 0 ≡ get_or b (length b - 1) 0 → ⊥) → false ≡ equal a b
last-unlike a b h =
    split (equal a b) (λ e. absurd (h (ap (λ (c : List ℕ). get_or c (length c - 1) 0) (equal-true a b e)))) (λ e. sym e)

pub both-none : (a b : List ℕ) → length a ≡ length b → length a ≡ 0 → true ≡ equal a b
unfolding equal
both-none [] [] h e = refl
both-none [] (y ∷ b) h e = let no : ⊥ = omega (arith, h) in absurd no
both-none (x ∷ a) b h e = let no : ⊥ = omega (arith, e) in absurd no

-- `same_bytes`
pub same_blocks : (a b : List ℕ) (k : ℕ) (t : Bool) → equal a b ≡ (t && equal (take (k * 64) a) (take (k * 64) b)) → t ≡ true
    → (r : Bool) → r ≡ equal (take (k * 64) a) (take (k * 64) b) → r ≡ equal a b
same_blocks a b k t e tt r re = re ∙ sym (rw tt at e)

pub same-differ : (a b : List ℕ) (k : ℕ) (t : Bool) → equal a b ≡ (t && equal (take (k * 64) a) (take (k * 64) b)) → t ≡ false → false ≡ equal a b
same-differ a b k t e tf = sym (rw tf at e)

-- eight bytes less, in the loop over the eights above i
module _ (a b : List ℕ) (i k : ℕ) (inv : equal (take (i + k * 8) a) (take (i + k * 8) b) ≡ equal a b) (more : 0 < k) (ha : i + k * 8 ≤ length a)
    (long : length a ≡ length b) (t : Bool) (te : t ≡ alike a b (i + (k - 1) * 8) 8) where
  lower : i + (k - 1) * 8 ≡ i + k * 8 - 8
  lower = omega (arith, more)

  te' : t ≡ alike a b (i + k * 8 - 8) 8
  te' = te ∙ ap (λ (n : ℕ). alike a b n 8) lower

  pub eights-unlike : t ≡ false → equal a b ≡ false
  eights-unlike tf = part-unlike a b (i + k * 8) 8 (equal a b) inv (omega (arith, more)) ha long t te' tf

  pub eights-like : t ≡ true → equal (take (i + (k - 1) * 8) a) (take (i + (k - 1) * 8) b) ≡ equal a b
  eights-like tt = rw lower (part-like a b (i + k * 8) 8 (equal a b) inv (omega (arith, more)) ha long t te' tt)

pub above-all : (a b : List ℕ) (low : ℕ) → low ≤ length a → length a ≡ length b
    → equal (take (low + (length a - low) % 8 + (length a - low) / 8 * 8) a) (take (low + (length a - low) % 8 + (length a - low) / 8 * 8) b) ≡ equal a b
above-all a b low h long = let z : low + (length a - low) % 8 + (length a - low) / 8 * 8 ≡ length a = omega (arith, h) in rw z (same_start a b long)

module _ (a b : List ℕ) (low i k : ℕ) (inv : equal (take (i + k * 8) a) (take (i + k * 8) b) ≡ equal a b) (done : k ≤ 0) where
  inv₀ : equal (take i a) (take i b) ≡ equal a b
  inv₀ = let z : i + k * 8 ≡ i = omega (arith, done) in rw z at inv

  pub above-end : i ≡ low → equal a b ≡ (eqb i low && equal (take low a) (take low b))
  above-end h = sym inv₀ ∙ rw (h, eq-eqb low low refl)

  pub above-lowest : low ≤ i → i ≤ length a → i - low < 8 → 8 ≤ length a → length a ≡ length b → (s : ℕ) → s ≡ i - 8 → (t : Bool) → t ≡ alike a b s 8
      → equal a b ≡ (t && equal (take low a) (take low b))
  above-lowest from ha near e long s se t te =
      above_cases a b i low inv₀ from ha long (i - 8) (omega (arith, e, ha)) (omega (arith, near)) (omega arith) t (te ∙ ap (λ (n : ℕ). alike a b n 8) se)

-- the library's equality of lists of numbers is this equality
pub same-pointwise : (a b : List ℕ) → pointwise eqb a b ≡ equal a b
unfolding equal
same-pointwise [] [] = refl
same-pointwise [] (y ∷ b) = refl
same-pointwise (x ∷ a) [] = refl
same-pointwise (x ∷ a) (y ∷ b) = ap (λ (t : Bool). eqb x y && t) (same-pointwise a b)
