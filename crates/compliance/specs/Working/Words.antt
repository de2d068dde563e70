-- Flags as the binary digits of words, the lowest first, and the ways of the functions over them. Assumes nothing.
use Rattle.std.specs.Prelude.{◌≡◌, ℕ, zero, suc, ◌+◌, ◌-◌, ◌*◌, ◌/◌, ◌%◌, ◌^◌, ◌<◌, ◌≤◌, leb, ltb, eqb, length, get_or, set, drop, replicate, sum_by, bit_or, bit_and}
use Rattle.std.proofs.Math.Path.{refl, sym, ap}
use Rattle.std.proofs.Common.{◌∙◌, pow-suc, mod-eq_of_lt, arith, length-append, take-append-drop, get_or-append-add, shr-shr, leb-true, leb-false}
use mathlib.Core.List.{List, [], ◌∷◌, ◌++◌, append_assoc}
use Rattle.std.specs.Int.Count.{ones, ones_step}
use Rattle.std.proofs.lemmas.Nat.{or_disjoint}
use Rattle.std.proofs.lemmas.Nat.Bits.{and_pow}
use Rattle.std.specs.Int.Bits.{or_add_and}
use Rattle.std.proofs.lemmas.List.Sums.{sum_by-cons}
use borrow.Author.Tests.{le-ltb, eqb-true, eqb-false}
use Rattle.std.proofs.Math.ListN.{take, get_or-append, get_or-eq_default}
use Rattle.std.proofs.lemmas.List.{replicate-append-replicate, set-append_left}
use Rattle.std.proofs.Math.Seq.{set_out}
use Rattle.std.proofs.Math.Pow.{pow-lt}
use Rattle.text.specs.Choice.{pick, split}
use Rattle.compliance.specs.Highest.{at_least}

-- the d lowest digits of n
unfoldable pub digits : ℕ → ℕ → List ℕ
digits zero n = []
digits (suc d) n = n % 2 ∷ digits d (n / 2)

-- 64 flags for each word
unfoldable pub flags_of : List ℕ → List ℕ
flags_of [] = []
flags_of (w ∷ ws) = digits 64 w ++ flags_of ws

pub digits_long : (d n : ℕ) → length (digits d n) ≡ d
unfolding digits
digits_long zero n = refl
digits_long (suc d) n = ap suc (digits_long d (n / 2))

pub flags_long : (ws : List ℕ) → length (flags_of ws) ≡ length ws * 64
unfolding flags_of
flags_long [] = refl
flags_long (w ∷ ws) = omega (arith, length-append (digits 64 w) (flags_of ws), digits_long 64 w, flags_long ws)

-- the language's count of ones is the number of digits set
bit-counts : (n : ℕ) → pick (leb 1 (n % 2)) 1 0 ≡ n % 2
bit-counts n = split (leb 1 (n % 2))
    (λ e. rw e (omega (arith, leb-true 1 (n % 2) e)))
    (λ e. rw e (omega (arith, leb-false 1 (n % 2) e)))

ones-zero : ones 0 ≡ 0
unfolding ones
ones-zero = refl

pub ones-digits : (d n : ℕ) → n < 2 ^ d → ones n ≡ at_least 1 (digits d n)
unfolding digits at_least
ones-digits zero n h = let z : n ≡ 0 = omega (arith, h) in ap ones z ∙ ones-zero
ones-digits (suc d) n h =
    let k : n / 2 < 2 ^ d = omega (arith, h, pow-suc 2 d) in
    ones_step n ∙ ap (λ (x : ℕ). n % 2 + x) (ones-digits d (n / 2) k) ∙ ap (λ (x : ℕ). x + at_least 1 (digits d (n / 2))) (sym (bit-counts n))

pub at-least-append : (v : ℕ) (a b : List ℕ) → at_least v (a ++ b) ≡ at_least v a + at_least v b
unfolding at_least
at-least-append v [] b = omega arith
at-least-append v (x ∷ a) b = omega (arith, at-least-append v a b)

halves : (n k : ℕ) → n / 2 / 2 ^ k ≡ n / 2 ^ suc k
halves n k = shr-shr n 1 k ∙ (let z : 1 + k ≡ suc k = omega arith in ap (λ (x : ℕ). n / 2 ^ x) z)

-- one digit read
pub digits-at : (d n k : ℕ) → k < d → get_or (digits d n) k 0 ≡ n / 2 ^ k % 2
unfolding digits
digits-at zero n k h = let no : ⊥ = omega (arith, h) in absurd no
digits-at (suc d) n zero h = let z : n / 1 ≡ n = omega arith in ap (λ (x : ℕ). x % 2) (sym z)
digits-at (suc d) n (suc k) h = digits-at d (n / 2) k (omega (arith, h)) ∙ ap (λ (x : ℕ). x % 2) (halves n k)

-- and one set
pub digits-set : (d n k : ℕ) → n / 2 ^ k % 2 ≡ 0 → digits d (n + 2 ^ k) ≡ set (digits d n) k 1
unfolding digits
digits-set zero n k h = refl
digits-set (suc d) n zero h =
    let z : n / 1 ≡ n = omega arith in
    let e : n % 2 ≡ 0 = ap (λ (x : ℕ). x % 2) (sym z) ∙ h in
    let f : (n + 1) % 2 ≡ 1 = omega (arith, e) in
    let g : (n + 1) / 2 ≡ n / 2 = omega (arith, e) in
    rw (f, g)
digits-set (suc d) n (suc k) h =
    let p : 2 ^ suc k ≡ 2 ^ k * 2 = pow-suc 2 k in
    let f : (n + 2 ^ suc k) % 2 ≡ n % 2 = omega (arith, p) in
    let g : (n + 2 ^ suc k) / 2 ≡ n / 2 + 2 ^ k = omega (arith, p) in
    rw (f, g) (ap (λ (l : List ℕ). n % 2 ∷ l) (digits-set d (n / 2) k (ap (λ (x : ℕ). x % 2) (halves n k) ∙ h)))

-- a digit that is set already
pub digits-kept : (d n k : ℕ) → n / 2 ^ k % 2 ≡ 1 → digits d n ≡ set (digits d n) k 1
unfolding digits
digits-kept zero n k h = refl
digits-kept (suc d) n zero h =
    let z : n / 1 ≡ n = omega arith in
    let e : n % 2 ≡ 1 = ap (λ (x : ℕ). x % 2) (sym z) ∙ h in
    ap (λ (x : ℕ). x ∷ digits d (n / 2)) e
digits-kept (suc d) n (suc k) h = ap (λ (l : List ℕ). n % 2 ∷ l) (digits-kept d (n / 2) k (ap (λ (x : ℕ). x % 2) (halves n k) ∙ h))

-- a power of 2, shifted in a word
power-is : (k : ℕ) → k < 64 → (1 * 2 ^ k) % 2 ^ 64 ≡ 2 ^ k
power-is k h =
    let z : 1 * 2 ^ k ≡ 2 ^ k = omega arith in
    ap (λ (x : ℕ). x % 2 ^ 64) z ∙ mod-eq_of_lt (pow-lt h)

-- a digit set by `|`
pub digits-or : (n k : ℕ) → k < 64 → digits 64 (bit_or n (1 * 2 ^ k % 2 ^ 64)) ≡ set (digits 64 n) k 1
digits-or n k h =
    let p : 1 * 2 ^ k % 2 ^ 64 ≡ 2 ^ k = power-is k h in
    split (eqb (n / 2 ^ k % 2) 0)
    (λ e.
    let z : n / 2 ^ k % 2 ≡ 0 = eqb-true _ _ e in
    let a : bit_and n (2 ^ k) ≡ 0 = and_pow n k ∙ rw z (omega arith) in
    rw (p, or_disjoint n (2 ^ k) a) (digits-set 64 n k z))
    (λ e.
    let z : n / 2 ^ k % 2 ≡ 1 = omega (arith, eqb-false _ _ e) in
    let a : bit_and n (2 ^ k) ≡ 2 ^ k = and_pow n k ∙ rw z (omega arith) in
    let o : bit_or n (2 ^ k) ≡ n = omega (arith, or_add_and n (2 ^ k), a) in
    rw (p, o) (digits-kept 64 n k z))

-- the flag k of the word j
pub flag_at : (ws : List ℕ) (j k : ℕ) → j < length ws → k < 64 → get_or (flags_of ws) (j * 64 + k) 0 ≡ get_or ws j 0 / 2 ^ k % 2
unfolding flags_of
flag_at [] j k h l = let no : ⊥ = omega (arith, h) in absurd no
flag_at (w ∷ ws) zero k h l = (let z : 0 * 64 + k ≡ k = omega arith in ap (λ (x : ℕ). get_or (digits 64 w ++ flags_of ws) x 0) z) ∙ get_or-append (digits 64 w) (flags_of ws) 0 k (omega (arith, l, digits_long 64 w)) ∙ digits-at 64 w k l
flag_at (w ∷ ws) (suc j) k h l =
    let z : suc j * 64 + k ≡ length (digits 64 w) + (j * 64 + k) = omega (arith, digits_long 64 w) in
    ap (λ (x : ℕ). get_or (digits 64 w ++ flags_of ws) x 0) z ∙ get_or-append-add (digits 64 w) (flags_of ws) (j * 64 + k) 0 ∙ flag_at ws j k (omega (arith, h)) l

set-right : (a b : List ℕ) (i v : ℕ) → set (a ++ b) (length a + i) v ≡ a ++ set b i v
set-right [] b i v = let z : 0 + i ≡ i = omega arith in ap (λ (x : ℕ). set b x v) z
set-right (x ∷ a) b i v =
    let z : suc (length a) + i ≡ suc (length a + i) = omega arith in
    ap (λ (y : ℕ). set (x ∷ (a ++ b)) y v) z ∙ ap (λ (l : List ℕ). x ∷ l) (set-right a b i v)

-- a word changed in its digit k
pub flag-set : (ws : List ℕ) (j k v : ℕ) → j < length ws → k < 64 → digits 64 v ≡ set (digits 64 (get_or ws j 0)) k 1 → flags_of (set ws j v) ≡ set (flags_of ws) (j * 64 + k) 1
unfolding flags_of
flag-set [] j k v h l e = let no : ⊥ = omega (arith, h) in absurd no
flag-set (w ∷ ws) zero k v h l e =
    ap (λ (x : List ℕ). x ++ flags_of ws) e
    ∙ sym ((let z : 0 * 64 + k ≡ k = omega arith in ap (λ (x : ℕ). set (digits 64 w ++ flags_of ws) x 1) z) ∙ set-append_left (digits 64 w) (flags_of ws) k 1 (omega (arith, l, digits_long 64 w)))
flag-set (w ∷ ws) (suc j) k v h l e =
    let z : suc j * 64 + k ≡ length (digits 64 w) + (j * 64 + k) = omega (arith, digits_long 64 w) in
    ap (λ (x : List ℕ). digits 64 w ++ x) (flag-set ws j k v (omega (arith, h)) l e)
    ∙ sym (ap (λ (x : ℕ). set (digits 64 w ++ flags_of ws) x 1) z ∙ set-right (digits 64 w) (flags_of ws) (j * 64 + k) 1)

-- ---- the ways out of the code

-- `is_set`
module _ (ws : List ℕ) (i : ℕ) where
  whole : i ≡ i / 64 * 64 + i % 64
  whole = omega arith

  pub flag-past : length ws ≤ i / 64 → ltb (i / 64) (length ws) ≡ eqb (get_or (flags_of ws) i 0) 1
  flag-past h =
      let e : get_or (flags_of ws) i 0 ≡ 0 = get_or-eq_default (flags_of ws) 0 (omega (arith, h, flags_long ws)) in
      rw (le-ltb _ _ h, e)

  module _ (h : i / 64 < length ws) where
    pub flag_is : eqb (get_or ws (i / 64) 0 / 2 ^ (i % 64) % 2) 1 ≡ eqb (get_or (flags_of ws) i 0) 1
    flag_is =
        let e : get_or (flags_of ws) i 0 ≡ get_or ws (i / 64) 0 / 2 ^ (i % 64) % 2 =
        ap (λ (x : ℕ). get_or (flags_of ws) x 0) whole ∙ flag_at ws (i / 64) (i % 64) h (omega arith) in
        rw e

    -- `set_flag`
    pub flag-new : flags_of (set ws (i / 64) (bit_or (get_or ws (i / 64) 0) (1 * 2 ^ (i % 64) % 2 ^ 64))) ≡ set (flags_of ws) i 1
    flag-new =
        flag-set ws (i / 64) (i % 64) _ h (omega arith) (digits-or (get_or ws (i / 64) 0) (i % 64) (omega arith))
        ∙ ap (λ (x : ℕ). set (flags_of ws) x 1) (sym whole)

pub set_past : (ws : List ℕ) (i : ℕ) → length ws ≤ i / 64 → flags_of ws ≡ set (flags_of ws) i 1
set_past ws i h = sym (set_out (flags_of ws) i 1 (omega (arith, h, flags_long ws)))

-- `count`
flags-append : (a b : List ℕ) → flags_of (a ++ b) ≡ flags_of a ++ flags_of b
unfolding flags_of
flags-append [] b = refl
flags-append (w ∷ a) b = ap (λ (x : List ℕ). digits 64 w ++ x) (flags-append a b) ∙ sym (append_assoc (digits 64 w) (flags_of a) (flags_of b))

pub ones-are : (ws : List ℕ) → ((k : ℕ) → get_or ws k 0 < 2 ^ 64) → sum_by ones ws ≡ at_least 1 (flags_of ws)
unfolding flags_of at_least
ones-are [] h = omega arith
ones-are (w ∷ ws) h =
    omega (arith, sum_by-cons ones w ws, ones-digits 64 w (h 0), ones-are ws (λ k. h (suc k)), at-least-append 1 (digits 64 w) (flags_of ws))

-- ---- words for n flags: the last of them may have bits to spare

-- the words that n flags take
abbrev pub words_for : ℕ → ℕ
words_for n = (n + 63) / 64

-- the first n flags, and those to spare
unfoldable pub flags_in : ℕ → List ℕ → List ℕ
flags_in n words = take n (flags_of words)

unfoldable pub spare_in : ℕ → List ℕ → List ℕ
spare_in n words = drop n (flags_of words)

digits-blank : (d : ℕ) → digits d 0 ≡ replicate d 0
unfolding digits
digits-blank zero = refl
digits-blank (suc d) = let z : 0 / 2 ≡ 0 = omega arith in ap (λ (x : ℕ). 0 ∷ digits d x) z ∙ ap (λ (l : List ℕ). 0 ∷ l) (digits-blank d)

pub flags-blank : (m : ℕ) → flags_of (replicate m 0) ≡ replicate (m * 64) 0
unfolding flags_of
flags-blank zero = refl
flags-blank (suc m) =
    let z : 64 + m * 64 ≡ suc m * 64 = omega arith in
    ap (λ (l : List ℕ). l ++ flags_of (replicate m 0)) (digits-blank 64) ∙ ap (λ (l : List ℕ). replicate 64 0 ++ l) (flags-blank m) ∙ replicate-append-replicate 64 (m * 64) 0
    ∙ ap (λ (x : ℕ). replicate x 0) z

blank-at : (k i : ℕ) → get_or {A = ℕ} (replicate k 0) i 0 ≡ 0
blank-at zero i = refl
blank-at (suc k) zero = refl
blank-at (suc k) (suc i) = blank-at k i

padded-at : (l : List ℕ) (k i : ℕ) → get_or (l ++ replicate k 0) i 0 ≡ get_or l i 0
padded-at [] k i = blank-at k i
padded-at (x ∷ l) k zero = refl
padded-at (x ∷ l) k (suc i) = padded-at l k i

blank-count : (k : ℕ) → at_least 1 (replicate k 0) ≡ 0
unfolding at_least
blank-count zero = refl
blank-count (suc k) = omega (arith, blank-count k)

-- words whose spare bits are 0: any flag is one of the first n, and the ones in the words are those
module _ (n : ℕ) (words : List ℕ) (k : ℕ) (none : spare_in n words ≡ replicate k 0) where
  parted : flags_of words ≡ flags_in n words ++ replicate k 0
  unfolding flags_in spare_in
  parted = sym (take-append-drop n (flags_of words)) ∙ ap (λ (l : List ℕ). take n (flags_of words) ++ l) none

  pub parted-at : (i : ℕ) → get_or (flags_of words) i 0 ≡ get_or (flags_in n words) i 0
  parted-at i = ap (λ (l : List ℕ). get_or l i 0) parted ∙ padded-at (flags_in n words) k i

  pub parted-count : at_least 1 (flags_of words) ≡ at_least 1 (flags_in n words)
  parted-count =
      ap (at_least 1) parted ∙ at-least-append 1 (flags_in n words) (replicate k 0)
      ∙ (let z : at_least 1 (flags_in n words) + at_least 1 (replicate k 0) ≡ at_least 1 (flags_in n words) = omega (arith, blank-count k) in z)

-- words of zeros
pub take-same : {A : Type 0} (x : A) (n k : ℕ) → n ≤ k → take n (replicate k x) ≡ replicate n x
take-same x zero k h = refl
take-same x (suc n) zero h = absurd (omega arith)
take-same {A} x (suc n) (suc k) h = ap (λ (l : List A). x ∷ l) (take-same x n k (omega arith))

pub take-blank : (n k : ℕ) → n ≤ k → take n (replicate {A = ℕ} k 0) ≡ replicate n 0
take-blank n k h = take-same 0 n k h

pub drop-blank : (n k : ℕ) → drop n (replicate {A = ℕ} k 0) ≡ replicate (k - n) 0
drop-blank zero k = let z : k ≡ k - 0 = omega arith in ap (λ (x : ℕ). replicate x 0) z
drop-blank (suc n) zero = let z : 0 ≡ 0 - suc n = omega arith in ap (λ (x : ℕ). replicate x 0) z
drop-blank (suc n) (suc k) = let z : k - n ≡ suc k - suc n = omega arith in drop-blank n k ∙ ap (λ (x : ℕ). replicate x 0) z

pub blank-flags : (n m : ℕ) → n ≤ m * 64 → flags_in n (replicate m 0) ≡ replicate n 0
unfolding flags_in
blank-flags n m h = ap (take n) (flags-blank m) ∙ take-blank n (m * 64) h

pub blank-spare : (n m : ℕ) → spare_in n (replicate m 0) ≡ replicate (m * 64 - n) 0
unfolding spare_in
blank-spare n m = ap (drop n) (flags-blank m) ∙ drop-blank n (m * 64)
