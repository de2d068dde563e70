-- The units of a literal one after the other. Assumes nothing.
use Rattle.std.specs.Prelude.{◌≡◌, refl, ℕ, zero, suc, ◌+◌, ◌-◌, ◌≤◌, ◌<◌, eqb}
use Rattle.std.proofs.Common.{sym, ap, ◌∙◌, subst, arith, not-suc-le-zero, eqb-true, le-leb, leb-true}
use mathlib.Core.List.{List, [], ◌∷◌}
use Rattle.std.proofs.Math.ListN.{length}
use Rattle.std.proofs.lemmas.Bool.{lt-leb}
use Rattle.text.specs.Choice.{pick-if}
use Rattle.lexical.specs.declared.unit.Unit.{Unit}
use Rattle.lexical.specs.Unit.{GIVES, CLOSES, spoils, kind, width, unit_at}
use Rattle.lexical.specs.Theorems.UnitLaws.{unit-moves, unit-closing}
use Rattle.lexical.specs.Literal.{inside, units, units_at, closing, literal_end}
use Rattle.lexical.specs.Theorems.Bounds.{chosen}

-- more fuel than needed changes nothing
units-same : (n m : ℕ) (s : List ℕ) (i : ℕ) → length s - i < n → length s - i < m → units n s i ≡ units m s i
unfolding units
units-same zero m s i h k = absurd (not-suc-le-zero h)
units-same (suc n) zero s i h k = absurd (not-suc-le-zero k)
units-same (suc n) (suc m) s i h k =
    ap (λ (us : List Unit). unit_at s i ∷ us)
    (pick-if (inside (unit_at s i)) []
    (λ e.
    let p : (1 ≤ width (unit_at s i)) × (i + width (unit_at s i) ≤ length s) = unit-moves s i (leb-true _ _ e) in
    units-same n m s (i + width (unit_at s i)) (omega (arith, p.0, p.1)) (omega (arith, p.0, p.1))))

module _ (s : List ℕ) (i : ℕ) where
  pub units-more : kind (unit_at s i) ≤ GIVES → units_at s i ≡ unit_at s i ∷ units_at s (i + width (unit_at s i))
  unfolding units_at units
  units-more h =
      let p : (1 ≤ width (unit_at s i)) × (i + width (unit_at s i) ≤ length s) = unit-moves s i h in
      rw (le-leb _ _ h) (ap (λ (us : List Unit). unit_at s i ∷ us)
      (units-same (length s - i) (suc (length s - (i + width (unit_at s i)))) s (i + width (unit_at s i)) (omega (arith, p.0, p.1)) (omega arith)))

  pub units-last : GIVES < kind (unit_at s i) → units_at s i ≡ unit_at s i ∷ []
  unfolding units_at units
  units-last h = rw (lt-leb _ _ h)

-- behind the end there is one unit, which spoils
pub units-end : (s : List ℕ) (i : ℕ) → length s ≤ i → units_at s i ≡ spoils ∷ []
unfolding unit_at
units-end s i h =
    let e : spoils ≡ unit_at s i = simp (le-leb _ _ h) in
    let k : GIVES < kind (unit_at s i) = subst (λ (u : Unit). GIVES < kind u) e (omega arith) in
    units-last s i k ∙ ap (λ (u : Unit). u ∷ []) (sym e)

-- a literal ends within the text, behind where it starts
unfoldable pub Closed : ℕ → ℕ → ℕ → Type 0
Closed n i e = (e ≡ 0 → ⊥) → (i < e) × (e ≤ n)

pub closing-within : (n : ℕ) (s : List ℕ) (i : ℕ) → Closed (length s) i (closing i (units n s i))
unfolding units Closed
closing-within zero s i = λ z. absurd (z refl)
closing-within (suc n) s i =
    chosen (Closed (length s) i) (eqb (kind (unit_at s i)) CLOSES) (i + 1) _
    (λ e z. let l : i < length s = (unit-closing s i (eqb-true _ _ e)).0 in (omega arith, omega arith))
    (λ e. chosen (λ (us : List Unit). Closed (length s) i (closing (i + width (unit_at s i)) us)) (inside (unit_at s i)) _ []
    (λ f z.
    let p : (1 ≤ width (unit_at s i)) × (i + width (unit_at s i) ≤ length s) = unit-moves s i (leb-true _ _ f) in
    let q : (i + width (unit_at s i) < closing (i + width (unit_at s i)) (units n s (i + width (unit_at s i)))) × (closing (i + width (unit_at s i)) (units n s (i + width (unit_at s i))) ≤ length s)
    = closing-within n s (i + width (unit_at s i)) z in
    (omega (arith, q.0), q.1))
    (λ f z. absurd (z refl)))

pub end-within : (s : List ℕ) (i : ℕ) → (literal_end s i ≡ 0 → ⊥) → (i < literal_end s i) × (literal_end s i ≤ length s)
unfolding literal_end units_at Closed
end-within s i = closing-within (suc (length s - i)) s i
