-- A literal ends at the first quote behind a byte other than a backslash, or before it; so it gives no more bytes than stand before that quote. Assumes nothing.
use Rattle.std.specs.Prelude.{◌≡◌, refl, Bool, true, false, not, List, [], ℕ, zero, suc, ◌+◌, ◌-◌, ◌≤◌, ◌<◌, eqb, leb, ltb, length}
use Rattle.std.proofs.Common.{sym, ap, ◌∙◌, arith}
use Rattle.std.proofs.Math.ListN.{get_or}
use borrow.Author.Tests.{eqb-true, eqb-false, leb-true, leb-false, ltb-true, ltb-false}
use Rattle.text.specs.Choice.{pick, split, clash}
use Rattle.lexical.specs.Theorems.Bounds.{chosen}
use Rattle.lexical.specs.Unit.{GIVES, kind, width, unit_at}
use Rattle.lexical.specs.Theorems.UnitLaws.{Quoteless, unit-case, unit-moves}
use Rattle.lexical.specs.Literal.{units_at, given, decoded_at}
use Rattle.lexical.specs.Theorems.LiteralLaws.{units-more, units-last}
use Rattle.lexical.specs.Theorems.Decoded.{given-cons}
use Rattle.lexical.specs.Working.Plain.{plain, quote-units, plain-some}

module _ (s : List ℕ) (j : ℕ) (q : get_or s (j + 1) 0 ≡ 34) (n : get_or s j 0 ≡ 92 → ⊥) where
  -- such a quote stands in no unit
  missed : (i w : ℕ) → i ≤ j + 1 → Quoteless s i w → j + 1 < i + w → ⊥
  unfolding Quoteless
  missed i w h f u =
      split (eqb i (j + 1)) (λ e. f.0 (ap (λ (k : ℕ). get_or s k 0) (eqb-true _ _ e) ∙ q))
      (λ e. split (eqb i j)
      (λ d. n (ap (λ (k : ℕ). get_or s k 0) (sym (eqb-true i j d)) ∙ f.1 (omega (arith, u, eqb-true i j d))))
      (λ d.
      let k : i + (j + 1 - i) ≡ j + 1 = omega (arith, h) in
      f.2 (j + 1 - i) (omega (arith, h, eqb-false i (j + 1) e, eqb-false i j d)) (omega (arith, u, h)) (ap (λ (k : ℕ). get_or s k 0) k ∙ q)))

  before : (i w : ℕ) → i ≤ j + 1 → Quoteless s i w → i + w ≤ j + 1
  before i w h f = split (ltb (j + 1) (i + w)) (λ e. absurd (missed i w h f (ltb-true _ _ e))) (λ e. ltb-false _ _ e)

  unit-before : (i : ℕ) → i ≤ j + 1 → kind (unit_at s i) ≤ GIVES → i + width (unit_at s i) ≤ j + 1
  unit-before i h =
      unit-case s i (λ u. kind u ≤ GIVES → i + width u ≤ j + 1) (λ g. let no : ⊥ = omega (arith, g) in absurd no)
      (λ l e g. let no : ⊥ = omega (arith, g) in absurd no) (λ w l k f g. before i w h f) (λ w b l k z m f g. before i w h f)

  few : (m i : ℕ) → j + 1 - i ≤ m → i ≤ j + 1 → length (given (units_at s i)) ≤ j + 1 - i
  few zero i l h = let e : i ≡ j + 1 = omega (arith, l, h) in rw (e, quote-units s (j + 1) q) (omega arith)
  few (suc m) i l h =
      split (eqb i (j + 1)) (λ e. rw (eqb-true i (j + 1) e, quote-units s (j + 1) q) (omega arith))
      (λ e. split (leb (kind (unit_at s i)) GIVES)
      (λ g.
      let b : i + width (unit_at s i) ≤ j + 1 = unit-before i h (leb-true _ _ g) in
      let w : 1 ≤ width (unit_at s i) = (unit-moves s i (leb-true _ _ g)).0 in
      let f : length (given (units_at s (i + width (unit_at s i)))) ≤ j + 1 - (i + width (unit_at s i)) = few m (i + width (unit_at s i)) (omega (arith, l, b, w)) b in
      rw (units-more s i (leb-true _ _ g)) (omega (arith, f, b, w, given-cons (unit_at s i) (units_at s (i + width (unit_at s i))))))
      (λ g. rw (units-last s i (leb-false _ _ g)) (omega (arith, given-cons (unit_at s i) [], h, eqb-false i (j + 1) e))))

  pub decoded-before : (start : ℕ) → start ≤ j → length (decoded_at s start) ≤ j - start
  unfolding decoded_at
  decoded-before start h = omega (arith, few (j + 1 - (start + 1)) (start + 1) (omega arith) (omega (arith, h)))

-- does such a quote stand before `end`, and no more than `most` bytes from `start` to there?
unfoldable pub near : List ℕ → ℕ → ℕ → ℕ → Bool
near s start end most =
    pick (ltb (length s) end) false
    (pick (leb end start) false
    (pick (ltb most (end - start)) false
    (pick (ltb (end - start) 2) false
    (pick (eqb (get_or s (end - 1) 0) 34) (not (eqb (get_or s (end - 2) 0) 92)) false))))

near-behind : (s : List ℕ) (start end : ℕ) → 2 ≤ end - start → get_or s (end - 1) 0 ≡ 34 → (get_or s (end - 2) 0 ≡ 92 → ⊥) → length (decoded_at s start) ≤ end - start
near-behind s start end h q n =
    let e : end - 2 + 1 ≡ end - 1 = omega arith in
    let l : length (decoded_at s start) ≤ end - 2 - start = decoded-before s (end - 2) (ap (λ (k : ℕ). get_or s k 0) e ∙ q) n start (omega (arith, h)) in
    omega arith

pub near-short : (s : List ℕ) (start end most : ℕ) → near s start end most ≡ true → length (decoded_at s start) ≤ most
unfolding near
near-short s start end most =
    chosen Then (ltb (length s) end) false _ (λ e h. clash h refl)
    (λ e. chosen Then (leb end start) false _ (λ f h. clash h refl)
    (λ f. chosen Then (ltb most (end - start)) false _ (λ g h. clash h refl)
    (λ g. chosen Then (ltb (end - start) 2) false _ (λ k h. clash h refl)
    (λ k. chosen Then (eqb (get_or s (end - 1) 0) 34) _ false
    (λ q h. last (ltb-false most (end - start) g) (near-behind s start end (ltb-false (end - start) 2 k) (eqb-true _ _ q) (λ z. clash h (rw z refl))))
    (λ q h. clash h refl)))))
  where
    Then : Bool → Type 0
    Then t = t ≡ true → length (decoded_at s start) ≤ most

    last : end - start ≤ most → length (decoded_at s start) ≤ end - start → length (decoded_at s start) ≤ most
    last a b = omega (arith, a, b)

-- and is the first byte plain?
unfoldable pub sized : List ℕ → ℕ → ℕ → ℕ → Bool
sized s start end most = pick (near s start end most) (plain (get_or s (start + 1) 0)) false

pub sized-length : (s : List ℕ) (start end most : ℕ) → sized s start end most ≡ true → (1 ≤ length (decoded_at s start)) × (length (decoded_at s start) ≤ most)
unfolding sized
sized-length s start end most =
    chosen (λ (t : Bool). t ≡ true → (1 ≤ length (decoded_at s start)) × (length (decoded_at s start) ≤ most)) (near s start end most) _ false
    (λ e h. (plain-some s start h, near-short s start end most e)) (λ e h. clash h refl)
