-- Working laws: the ways out of the functions that give packed operands. Assumes nothing.
use Rattle.std.specs.Prelude.{◌≡◌, Bool, true, false, ℕ, ◌+◌, ◌-◌, ◌<◌, ◌≤◌, eqb}
use Rattle.std.proofs.Common.{ap, ◌∙◌, arith}
use borrow.Author.Tests.{lt-ltb, le-ltb, le-leb, lt-leb, ne_eqb, eqb-true}
use Rattle.text.specs.Choice.{split}
use Rattle.text.specs.Decimal.{integer as signed}
use Rattle.std.specs.declared.cmp.Ordering.{Ordering as Order}
use Rattle.expression.specs.Value.{operand}
use Rattle.expression.specs.Operands.{kind_of, size_of, pack}
use Rattle.expression.specs.Integers.{ranged, apart, plus, minus, compared}
use Rattle.expression.specs.Working.Numbered.{relates_by, arithmetic}
use Rattle.expression.specs.Working.Operating.{does-compare}
use Rattle.expression.specs.declared.value.Operand.{Operand}
use Rattle.expression.specs.declared.value.Operand.TheVariants.{Test}
use Rattle.expression.specs.declared.value.Packed.{Packed}

-- `pack_operand` and `told`
pub packed-is : (v : Operand) (k m : ℕ) → k ≡ kind_of v → m ≡ size_of v → ◌≡◌ {A = Packed} (record { kind = k; size = m }) (pack v)
packed-is v k m ke me = rw (ke, me)

pub told-yes : (t : Bool) → t ≡ true → ◌≡◌ {A = Packed} (record { kind = 4; size = 0 }) (pack (Test t))
unfolding kind_of size_of
told-yes t e = rw e

pub told-no : (t : Bool) → t ≡ false → ◌≡◌ {A = Packed} (record { kind = 3; size = 0 }) (pack (Test t))
unfolding kind_of size_of
told-no t e = rw e

-- `natural` and `below_zero`
module _ (m : ℕ) where
  pub natural-in : m < 2147483648 → ◌≡◌ {A = Packed} (record { kind = 1; size = m }) (pack (operand (ranged false m)))
  unfolding ranged operand kind_of size_of
  natural-in h =
      split (eqb m 0)
      (λ e. let z : m ≡ 0 = eqb-true m 0 e in rw z)
      (λ e. rw (e, le-ltb 2147483647 m (omega (arith, h))))

  pub natural-over : 2147483648 ≤ m → ◌≡◌ {A = Packed} (record { kind = 6; size = 0 }) (pack (operand (ranged false m)))
  unfolding ranged operand kind_of size_of
  natural-over h = rw (ne_eqb m 0 (λ z. omega (arith, h, z)), lt-ltb 2147483647 m (omega (arith, h)))

  pub below_none : m ≡ 0 → ◌≡◌ {A = Packed} (record { kind = 1; size = 0 }) (pack (operand (ranged true m)))
  unfolding ranged operand kind_of size_of
  below_none z = rw z

  module _ (some : m ≡ 0 → ⊥) where
    pub below_in : m ≤ 2147483648 → ◌≡◌ {A = Packed} (record { kind = 2; size = m }) (pack (operand (ranged true m)))
    unfolding ranged operand kind_of size_of
    below_in h = rw (ne_eqb m 0 some, le-ltb 2147483648 m h)

    pub below-over : 2147483648 < m → ◌≡◌ {A = Packed} (record { kind = 6; size = 0 }) (pack (operand (ranged true m)))
    unfolding ranged operand kind_of size_of
    below-over h = rw (ne_eqb m 0 some, lt-ltb 2147483648 m h)

-- `difference`
module _ (x y : ℕ) (q : Packed) where
  pub differs-up : y ≤ x → q ≡ pack (operand (ranged false (x - y))) → q ≡ pack (operand (apart false x y))
  unfolding apart
  differs-up h e = rw (le-leb y x h) e

  pub differs-down : x < y → q ≡ pack (operand (ranged true (y - x))) → q ≡ pack (operand (apart false x y))
  unfolding apart
  differs-down h e = rw (lt-leb y x h) e

-- `of_naturals`
module _ (op x y : ℕ) (q : Packed) where
  pub naturals-sum : op ≡ 17 → q ≡ pack (operand (ranged false (x + y))) → q ≡ pack (operand (arithmetic op (signed false x) (signed false y)))
  unfolding arithmetic plus
  naturals-sum h e = rw h e

  pub naturals-less : op ≡ 18 → q ≡ pack (operand (apart false x y)) → q ≡ pack (operand (arithmetic op (signed false x) (signed false y)))
  unfolding arithmetic minus plus
  naturals-less h e = rw h e

  pub naturals-other : (v : Operand) → v ≡ operand (arithmetic op (signed false x) (signed false y)) → q ≡ pack v → q ≡ pack (operand (arithmetic op (signed false x) (signed false y)))
  naturals-other v ve e = e ∙ ap pack ve

  pub naturals-order : 26 ≤ op → (o : Order) → o ≡ compared (signed false x) (signed false y) → (k : ℕ) → k ≡ op - 26 → (t : Bool) → t ≡ relates_by k o → q ≡ pack (Test t)
      → q ≡ pack (operand (arithmetic op (signed false x) (signed false y)))
  naturals-order h o oe k ke t te e =
      e ∙ ap pack (does-compare op (signed false x) (signed false y)
      (λ z. omega (arith, h, z)) (λ z. omega (arith, h, z)) (λ z. omega (arith, h, z)) (λ z. omega (arith, h, z)) (λ z. omega (arith, h, z)) (λ z. omega (arith, h, z))
      o oe k ke t te)
