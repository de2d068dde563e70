-- The matcher as the code has it. Assumes nothing.
use Rattle.std.specs.Prelude.{◌≡◌, refl, Bool, List, ℕ, zero, suc, ◌+◌, ◌-◌, ◌/◌, ◌%◌, ◌^◌, ◌<◌, ◌≤◌, eqb, ltb, leb, length, get_or, Option, Some, None}
use Rattle.std.proofs.Math.Path.{sym}
use Rattle.std.proofs.Common.{ap, ◌∙◌, arith, div-one, add-zero}
use Rattle.std.proofs.Math.Bool.{true, false}
use Rattle.std.specs.Int.Count.{count_trailing_zeros, under}
use Rattle.std.proofs.Math.Nat.{div-div-eq-div-mul, pow-succ'}
use borrow.Author.Tests.{lt-ltb, le-ltb, le-leb, lt-leb, eq-eqb, ne_eqb, leb-true, leb-false, eqb-true, eqb-false}
use Rattle.text.specs.Choice.{split, pick}
use Rattle.text.specs.Loop.{Step, next, done, loop, loop-next, loop-done}
use Rattle.pattern.specs.Working.Places.{join, row}
use Rattle.pattern.specs.Working.Scan.{accepts_at}
use Rattle.pattern.specs.Working.Parse.{Ran, ran, expr_at}
use Rattle.pattern.specs.declared.places.Places.{Places}
use Rattle.pattern.specs.declared.places.Part.{Part}
use Rattle.pattern.specs.declared.run.Swept.{Swept}
use Rattle.pattern.specs.declared.reader.Parsed.{Parsed}

abbrev pub swept : Places → ℕ → Swept
swept x h = record { places = x; hit = h }

unfoldable pub flag : ℕ → Bool → ℕ
flag h last = pick last 1 h

unfoldable pub visit : List ℕ → ℕ → Bool → Swept → Swept
visit t q last x = swept (join x.places (row t q)) (flag x.hit last)

unfoldable pub sweep_one : List ℕ → List ℕ → ℕ → ℕ → ℕ → ℕ → Swept → Swept
sweep_one p t x l q c a = pick (eqb (x % 2) 1) (pick (accepts_at p q c) (visit t q (eqb (l % 2) 1) a) a) a

abbrev pub sweep_turn : List ℕ → List ℕ → ℕ → ℕ → ℕ × ℕ × ℕ × Swept → Step (ℕ × ℕ × ℕ × Swept) Swept
sweep_turn p t z c s = pick (leb z s.2) (done s.3) (pick (eqb s.0 0) (done s.3)
    (next (s.0 / 2, s.1 / 2, s.2 + 1, sweep_one p t s.0 s.1 s.2 c s.3)))

unfoldable pub sweep : List ℕ → List ℕ → ℕ → ℕ → ℕ → ℕ → ℕ → Swept → Swept
sweep p t x l q z c a = loop (λ s. z - s.2) (λ s. s.3) (sweep_turn p t z c) (x, l, q, a)

-- the zeros below the lowest bit that is set, fewer than 64
unfoldable pub low_zeros : ℕ → ℕ
low_zeros x = pick (ltb (count_trailing_zeros 64 x) 64) (count_trailing_zeros 64 x) 0

unfoldable pub step_at : List ℕ → List ℕ → Places → Places → Places → ℕ → Swept
step_at p t at last first c =
    sweep p t at.d last.d 192 256 c (sweep p t at.c last.c 128 192 c (sweep p t at.b last.b 64 128 c (sweep p t at.a last.a 0 64 c (swept first 0))))

unfoldable pub chosen : Bool → Places → Places → Places
chosen e x y = pick e x y

abbrev pub run_turn : List ℕ → List ℕ → List ℕ → Places → Places → Places → ℕ × Places → Step (ℕ × Places) Bool
run_turn p s t fm lm le x = pick (leb (length s) x.0) (done false)
    (pick (eqb (step_at p t x.1 (chosen (eqb (x.0 + 1) (length s)) le lm) fm (get_or s x.0 0)).hit 1) (done true)
    (next (x.0 + 1, (step_at p t x.1 (chosen (eqb (x.0 + 1) (length s)) le lm) fm (get_or s x.0 0)).places)))

unfoldable pub run_from : List ℕ → List ℕ → List ℕ → Places → Places → Places → ℕ → Places → Bool
run_from p s t fm lm le i at = loop (λ x. length s - x.0) (λ x. false) (run_turn p s t fm lm le) (i, at)

unfoldable pub runs : List ℕ → List ℕ → List ℕ → Part → Bool
runs p s t f = pick (eqb (length s) 0) f.nb (pick f.ns true (pick f.ne true (run_from p s t f.fm f.lm f.le 0 f.fs)))

abbrev pub on_parsed : List ℕ → List ℕ → Ran → Option Bool
on_parsed p s (ran None t) = None
on_parsed p s (ran (Some x) t) = pick (eqb x.next (length p)) (Some (runs p s t x.part)) None

-- the answer, from what the parser leaves on a table t of zeros
unfoldable pub test_with : List ℕ → List ℕ → List ℕ → Option Bool
test_with t p s = pick (ltb 256 (length p)) None (on_parsed p s (expr_at 2000 p 0 t))

module _ (t : List ℕ) (q : ℕ) (last : Bool) (x : Swept) (y z : Places) (ye : y ≡ row t q) (ze : z ≡ join x.places y) where
  pub way-visit-last : last ≡ true → swept z 1 ≡ visit t q last x
  unfolding visit flag
  way-visit-last h = rw (ze, ye, h)

  pub way-visit-on : last ≡ false → swept z x.hit ≡ visit t q last x
  unfolding visit flag
  way-visit-on h = rw (ze, ye, h)

module _ (p t : List ℕ) (x l q c : ℕ) (a : Swept) where
  module _ (e : x % 2 ≡ 1) (b : Bool) (be : b ≡ accepts_at p q c) where
    pub way-one-visit : b ≡ true → (r : Swept) → r ≡ visit t q (eqb (l % 2) 1) a → r ≡ sweep_one p t x l q c a
    unfolding sweep_one
    way-one-visit h r re = simp (eq-eqb _ _ e, sym be, h) re

    pub way-one-not : b ≡ false → a ≡ sweep_one p t x l q c a
    unfolding sweep_one
    way-one-not h = simp (eq-eqb _ _ e, sym be, h)

  pub way-one-even : (x % 2 ≡ 1 → ⊥) → a ≡ sweep_one p t x l q c a
  unfolding sweep_one
  way-one-even n = simp (ne_eqb _ _ n)

  module _ (z : ℕ) (r : Swept) (inv : sweep p t x l q z c a ≡ r) where
    pub way-sweep-end : z ≤ q → a ≡ r
    unfolding sweep
    way-sweep-end h = sym (loop-done _ _ _ (x, l, q, a) a (simp (le-leb _ _ h))) ∙ inv

    module _ (h : q < z) where
      pub way-sweep-done : x ≡ 0 → a ≡ r
      unfolding sweep
      way-sweep-done e = sym (loop-done _ _ _ (x, l, q, a) a (simp (lt-leb _ _ h, eq-eqb _ _ e))) ∙ inv

      pub way-sweep-more : (x ≡ 0 → ⊥) → (b : Swept) → b ≡ sweep_one p t x l q c a → sweep p t (x / 2) (l / 2) (q + 1) z c b ≡ r
      unfolding sweep
      way-sweep-more n b e = sym (loop-next _ _ _ (x, l, q, a) (x / 2, l / 2, q + 1, b) (simp (lt-leb _ _ h, ne_eqb _ _ n, sym e)) (omega arith)) ∙ inv

sweep-out : (p t : List ℕ) (x l q c : ℕ) (a : Swept) (z : ℕ) → z ≤ q → sweep p t x l q z c a ≡ a
sweep-out p t x l q c a z h = sym (way-sweep-end p t x l q c a z _ refl h)

pub way-sweep-none : (p t : List ℕ) (x l q c : ℕ) (a : Swept) (z : ℕ) → x ≡ 0 → a ≡ sweep p t x l q z c a
way-sweep-none p t x l q c a z e = split (leb z q) (λ f. way-sweep-end p t x l q c a z _ refl (leb-true _ _ f)) (λ f. way-sweep-done p t x l q c a z _ refl (leb-false _ _ f) e)

one-even : (p t : List ℕ) (x l q c : ℕ) (a : Swept) → x % 2 ≡ 0 → sweep_one p t x l q c a ≡ a
unfolding sweep_one
one-even p t x l q c a e = rw e

-- one place, whatever the word is
sweep-turn : (p t : List ℕ) (x l q c : ℕ) (a : Swept) (z : ℕ) → q < z → sweep p t (x / 2) (l / 2) (q + 1) z c (sweep_one p t x l q c a) ≡ sweep p t x l q z c a
sweep-turn p t x l q c a z h = split (eqb x 0)
    (λ e. let y = eqb-true x 0 e in let y₂ : x % 2 ≡ 0 = omega arith in let y₃ : x / 2 ≡ 0 = omega arith in
    rw (one-even p t x l q c a y₂) (sym (way-sweep-none p t (x / 2) (l / 2) (q + 1) c a z y₃) ∙ way-sweep-none p t x l q c a z y))
    (λ e. way-sweep-more p t x l q c a z _ refl h (eqb-false x 0 e) (sweep_one p t x l q c a) refl)

halved : (p t : List ℕ) (x l q c : ℕ) (a : Swept) (z : ℕ) → x % 2 ≡ 0 → sweep p t (x / 2) (l / 2) (q + 1) z c a ≡ sweep p t x l q z c a
halved p t x l q c a z e = split (leb z q)
    (λ f. let h = leb-true z q f in sweep-out p t (x / 2) (l / 2) (q + 1) c a z (omega arith) ∙ sym (sweep-out p t x l q c a z h))
    (λ f. ap (λ (b : Swept). sweep p t (x / 2) (l / 2) (q + 1) z c b) (sym (one-even p t x l q c a e)) ∙ sweep-turn p t x l q c a z (leb-false _ _ f))

shr-suc : (x n : ℕ) → x / 2 ^ suc n ≡ x / 2 / 2 ^ n
shr-suc x n = ap (λ (y : ℕ). x / y) (pow-succ' 2 n) ∙ sym (div-div-eq-div-mul x 2 (2 ^ n))

-- past the zeros below the lowest bit
pub sweep-skip : (k : ℕ) (p t : List ℕ) (x l q c : ℕ) (a : Swept) (z : ℕ) → sweep p t (x / 2 ^ count_trailing_zeros k x) (l / 2 ^ count_trailing_zeros k x) (q + count_trailing_zeros k x) z c a ≡ sweep p t x l q z c a
unfolding count_trailing_zeros
sweep-skip zero p t x l q c a z = rw (div-one x, div-one l, add-zero q)
sweep-skip (suc k) p t x l q c a z = go (x % 2) refl
    (sweep-skip k p t (x / 2) (l / 2) (q + 1) c a z)
  where
    go : (r : ℕ) → x % 2 ≡ r
        → sweep p t (x / 2 / 2 ^ count_trailing_zeros k (x / 2)) (l / 2 / 2 ^ count_trailing_zeros k (x / 2)) (q + 1 + count_trailing_zeros k (x / 2)) z c a ≡ sweep p t (x / 2) (l / 2) (q + 1) z c a
        → sweep p t (x / 2 ^ under r (count_trailing_zeros k (x / 2))) (l / 2 ^ under r (count_trailing_zeros k (x / 2))) (q + under r (count_trailing_zeros k (x / 2))) z c a ≡ sweep p t x l q z c a
    go zero e ih = let n = count_trailing_zeros k (x / 2) in
        let y : q + suc n ≡ q + 1 + n = omega arith in rw (shr-suc x n, shr-suc l n, y) (ih ∙ halved p t x l q c a z e)
    go (suc r) e ih = rw (div-one x, div-one l, add-zero q)

pub sweep-low : (p t : List ℕ) (x l q c : ℕ) (a : Swept) (z n : ℕ) → n ≡ low_zeros x → sweep p t (x / 2 ^ n) (l / 2 ^ n) (q + n) z c a ≡ sweep p t x l q z c a
unfolding low_zeros
sweep-low p t x l q c a z n e = split (ltb (count_trailing_zeros 64 x) 64)
    (λ f. let y : n ≡ count_trailing_zeros 64 x = e ∙ rw f in rw y (sweep-skip 64 p t x l q c a z))
    (λ f. let y : n ≡ 0 = e ∙ rw f in rw (y, div-one x, div-one l, add-zero q))

module _ (p t : List ℕ) (x l q c : ℕ) (a : Swept) (z : ℕ) (r : Swept) (inv : sweep p t x l q z c a ≡ r) (n : ℕ) (ne : n ≡ low_zeros x) where
  pub way-sweep-past : q < z → z - q ≤ n → a ≡ r
  way-sweep-past h l' = let y : z ≤ q + n = omega arith in sym (sweep-out p t (x / 2 ^ n) (l / 2 ^ n) (q + n) c a z y) ∙ sweep-low p t x l q c a z n ne ∙ inv

  pub way-sweep-place : q < z → n < z - q → (b : Swept) → b ≡ sweep_one p t (x / 2 ^ n) (l / 2 ^ n) (q + n) c a → sweep p t (x / 2 ^ n / 2) (l / 2 ^ n / 2) (q + n + 1) z c b ≡ r
  way-sweep-place h l' b be = let y : q + n < z = omega arith in
      ap (λ (d : Swept). sweep p t (x / 2 ^ n / 2) (l / 2 ^ n / 2) (q + n + 1) z c d) be ∙ sweep-turn p t (x / 2 ^ n) (l / 2 ^ n) (q + n) c a z y ∙ sweep-low p t x l q c a z n ne ∙ inv

pub way_step : (p t : List ℕ) (at last first : Places) (c : ℕ) (x y z w : Swept) → x ≡ sweep p t at.a last.a 0 64 c (swept first 0) → y ≡ sweep p t at.b last.b 64 128 c x
    → z ≡ sweep p t at.c last.c 128 192 c y → w ≡ sweep p t at.d last.d 192 256 c z → w ≡ step_at p t at last first c
unfolding step_at
way_step p t at last first c x y z w xe ye ze we = rw (we, ze, ye, xe)

module _ (p s t : List ℕ) (fm lm le : Places) (i : ℕ) (at : Places) (r : Bool) (inv : run_from p s t fm lm le i at ≡ r) where
  pub way-run-end : length s ≤ i → false ≡ r
  unfolding run_from
  way-run-end h = sym (loop-done _ _ _ (i, at) false (simp (le-leb _ _ h))) ∙ inv

  module _ (h : i < length s) (x : Places) (xe : x ≡ chosen (eqb (i + 1) (length s)) le lm) (y : Swept) (ye : y ≡ step_at p t at x fm (get_or s i 0)) where
    pub way-run-hit : y.hit ≡ 1 → true ≡ r
    unfolding run_from
    way-run-hit e = sym (loop-done _ _ _ (i, at) true (simp (lt-leb _ _ h, sym xe, sym ye, eq-eqb _ _ e))) ∙ inv

    pub way-run-more : (y.hit ≡ 1 → ⊥) → run_from p s t fm lm le (i + 1) y.places ≡ r
    unfolding run_from
    way-run-more e = sym (loop-next _ _ _ (i, at) (i + 1, y.places) (simp (lt-leb _ _ h, sym xe, sym ye, ne_eqb _ _ e)) (omega arith)) ∙ inv

module _ (p s t : List ℕ) (f : Part) where
  pub way-runs-empty : length s ≡ 0 → f.nb ≡ runs p s t f
  unfolding runs
  way-runs-empty e = simp (eq-eqb _ _ e)

  module _ (n : length s ≡ 0 → ⊥) where
    pub way-runs-start : f.ns ≡ true → true ≡ runs p s t f
    unfolding runs
    way-runs-start e = simp (ne_eqb _ _ n, e)

    module _ (m : f.ns ≡ false) where
      pub way-runs-end : f.ne ≡ true → true ≡ runs p s t f
      unfolding runs
      way-runs-end e = simp (ne_eqb _ _ n, m, e)

      pub way-runs-from : f.ne ≡ false → (r : Bool) → r ≡ run_from p s t f.fm f.lm f.le 0 f.fs → r ≡ runs p s t f
      unfolding runs
      way-runs-from e r re = simp (ne_eqb _ _ n, m, e) re

module _ (t p s : List ℕ) where
  pub way-test-long : 256 < length p → None ≡ test_with t p s
  unfolding test_with
  way-test-long h = simp (lt-ltb _ _ h)

  module _ (h : length p ≤ 256) (r : Option Parsed) (u : List ℕ) (re : ran r u ≡ expr_at 2000 p 0 t) where
    pub way-test-bad : r ≡ None → None ≡ test_with t p s
    unfolding test_with
    way-test-bad e = simp (le-ltb _ _ h, sym re, e)

    module _ (x : Parsed) (rv : r ≡ Some x) where
      pub way-test-short : (x.next ≡ length p → ⊥) → None ≡ test_with t p s
      unfolding test_with
      way-test-short e = simp (le-ltb _ _ h, sym re, rv, ne_eqb _ _ e)

      pub way_test : x.next ≡ length p → (b : Bool) → b ≡ runs p s u x.part → Some b ≡ test_with t p s
      unfolding test_with
      way_test e b be = simp (le-ltb _ _ h, sym re, rv, eq-eqb _ _ e, sym be)
