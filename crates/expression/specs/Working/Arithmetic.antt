-- Working laws: the ways out of the operations on integers. Assumes nothing.
use Rattle.std.specs.Prelude.{◌≡◌, refl, Bool, true, false, not, eqb, ltb}
use Rattle.std.proofs.Common.{sym, ◌∙◌, mul-le-mul_left, mul-le-mul_right, mul-zero, zero-mul, mul-one, one-mul, Fits}
use Prim.Native.Nat.{ℕ, zero, suc, ◌+◌, ◌-◌, ◌*◌, ◌/◌, ◌%◌, ◌<◌, ◌≤◌, min}
use native.Mathlib.Omega.{arith}
use Rattle.std.specs.Int.{w64}
use borrow.Author.Tests.{lt-ltb, le-ltb, le-leb, lt-leb, eq-eqb, ne_eqb, eqb-true, eqb-false, ltb-true, ltb-false}
use Rattle.text.specs.Choice.{split}
use Rattle.text.specs.declared.Integer.{Integer}
use Rattle.expression.specs.Value.{operand}
use Rattle.text.specs.Decimal.{integer as signed}
use Rattle.std.specs.declared.cmp.Ordering.{Ordering as Order}
use Rattle.std.specs.Ordering.{nat_cmp}
use Rattle.std.specs.declared.cmp.Ordering.TheVariants.{Less, Equal, Greater}
use Rattle.expression.specs.Integers.{ranged, apart, plus, minus, times, over, remainder, differ, odd, raised_to, power, sign_of_power, negated, sizes, compared}
use Rattle.expression.specs.declared.value.Operand.{Operand}
use Rattle.expression.specs.declared.value.Operand.TheVariants.{Number, Fault}

-- the ways out of `in_range`
module _ (n : Bool) (m : ℕ) where
  pub range-zero : m ≡ 0 → Number false 0 ≡ operand (ranged n m)
  unfolding ranged operand
  range-zero h = simp (eq-eqb _ _ h)

  module _ (nz : m ≡ 0 → ⊥) where
    pub range-below : n ≡ true → 2147483648 < m → Fault ≡ operand (ranged n m)
    unfolding ranged operand
    range-below t h = simp (ne_eqb _ _ nz, t, lt-ltb _ _ h)

    pub range-negative : n ≡ true → m ≤ 2147483648 → Number true m ≡ operand (ranged n m)
    unfolding ranged operand
    range-negative t h = simp (ne_eqb _ _ nz, t, le-ltb _ _ h)

    pub range-above : n ≡ false → 2147483648 ≤ m → Fault ≡ operand (ranged n m)
    unfolding ranged operand
    range-above t h = let l : 2147483647 < m = omega arith in simp (ne_eqb _ _ nz, t, lt-ltb _ _ l)

    pub range-positive : n ≡ false → m < 2147483648 → Number false m ≡ operand (ranged n m)
    unfolding ranged operand
    range-positive t h = let l : m ≤ 2147483647 = omega arith in simp (ne_eqb _ _ nz, t, le-ltb _ _ l)

-- a size above the least integer's is out of range
pub range-out : (n : Bool) (m : ℕ) → 2147483648 < m → Fault ≡ operand (ranged n m)
unfolding ranged operand
range-out true m h = rw (ne_eqb m 0 (λ z. omega arith), lt-ltb 2147483648 m h)
range-out false m h = rw (ne_eqb m 0 (λ z. omega arith), lt-ltb 2147483647 m (omega arith))

-- a size held just above the range is out of it as well
held_same : (n : Bool) (m : ℕ) → operand (ranged n (min m 2147483649)) ≡ operand (ranged n m)
held_same n m =
    split (ltb 2147483648 m)
    (λ t. let h : 2147483648 < m = ltb-true _ _ t in sym (range-out n (min m 2147483649) (omega arith)) ∙ range-out n m h)
    (λ t. let h : m ≤ 2147483648 = ltb-false _ _ t in let e : min m 2147483649 ≡ m = omega arith in rw e)

-- the ways out of `together`
module _ (n : Bool) (x y : ℕ) where
  pub sum_left : 2147483648 < x → Fault ≡ operand (ranged n (x + y))
  sum_left h = range-out n (x + y) (omega arith)

  pub sum-right : 2147483648 < y → Fault ≡ operand (ranged n (x + y))
  sum-right h = range-out n (x + y) (omega arith)

-- the ways out of `less`
module _ (n : Bool) (x y : ℕ) (r : Operand) where
  pub less-in : y ≤ x → r ≡ operand (ranged n (x - y)) → r ≡ operand (apart n x y)
  unfolding apart
  less-in h e = e ∙ simp (le-leb _ _ h)

  pub less-turned : x < y → (o : Bool) → o ≡ not n → r ≡ operand (ranged o (y - x)) → r ≡ operand (apart n x y)
  unfolding apart
  less-turned h o oe e = e ∙ simp (oe, lt-leb _ _ h)

-- the ways out of `add`
module _ (a b : Integer) (r : Operand) where
  module _ (an : a.negative ≡ true) where
    pub add-negatives : b.negative ≡ true → r ≡ operand (ranged true (a.size + b.size)) → r ≡ operand (plus a b)
    unfolding plus
    add-negatives bn e = e ∙ simp (an, bn)

    pub add_left : b.negative ≡ false → r ≡ operand (apart true a.size b.size) → r ≡ operand (plus a b)
    unfolding plus
    add_left bn e = e ∙ simp (an, bn)

  module _ (ap' : a.negative ≡ false) where
    pub add_right : b.negative ≡ true → r ≡ operand (apart false a.size b.size) → r ≡ operand (plus a b)
    unfolding plus
    add_right bn e = e ∙ simp (ap', bn)

    pub add-plain : b.negative ≡ false → r ≡ operand (ranged false (a.size + b.size)) → r ≡ operand (plus a b)
    unfolding plus
    add-plain bn e = e ∙ simp (ap', bn)

-- products: 0 where a side is 0, else at least each side
grows : (x y : ℕ) → (y ≡ 0 → ⊥) → x ≤ x * y
grows x y nz = let one : 1 ≤ y = omega arith in omega (arith, mul-le-mul_left x one, mul-one x)

grows-right : (x y : ℕ) → (x ≡ 0 → ⊥) → y ≤ x * y
grows-right x y nz = let one : 1 ≤ x = omega arith in omega (arith, mul-le-mul_right y one, one-mul y)

pub product-fits : (x y : ℕ) → x ≤ 2147483648 → y ≤ 2147483648 → Fits w64 (x * y)
product-fits x y h k = let l : x * y ≤ 2147483648 * y = mul-le-mul_right y h in omega arith

-- the ways out of `multiply`
module _ (a b : Integer) (n : Bool) (ne : n ≡ differ a.negative b.negative) where
  pub times_none : (r : Operand) → a.size ≡ 0 → r ≡ operand (ranged n 0) → r ≡ operand (times a b)
  unfolding times
  times_none r z e = let q : a.size * b.size ≡ 0 = (rw z (zero-mul b.size)) in rw (q, ← ne) e

  module _ (az : a.size ≡ 0 → ⊥) where
    pub times-nothing : (r : Operand) → b.size ≡ 0 → r ≡ operand (ranged n 0) → r ≡ operand (times a b)
    unfolding times
    times-nothing r z e = let q : a.size * b.size ≡ 0 = (rw z (mul-zero a.size)) in rw (q, ← ne) e

    module _ (bz : b.size ≡ 0 → ⊥) where
      pub times-left : 2147483648 < a.size → Fault ≡ operand (times a b)
      unfolding times
      times-left h = range-out _ _ (omega (arith, grows a.size b.size bz))

      pub times-right : 2147483648 < b.size → Fault ≡ operand (times a b)
      unfolding times
      times-right h = range-out _ _ (omega (arith, grows-right a.size b.size az))

  pub times-in : (r : Operand) → r ≡ operand (ranged n (a.size * b.size)) → r ≡ operand (times a b)
  unfolding times
  times-in r e = rw (← ne) e

-- the ways out of `divide` and `rest`
module _ (a b : Integer) where
  pub over_none : b.size ≡ 0 → Fault ≡ operand (over a b)
  unfolding over operand
  over_none z = simp (eq-eqb _ _ z)

  pub rest-none : b.size ≡ 0 → Fault ≡ operand (remainder a b)
  unfolding remainder operand
  rest-none z = simp (eq-eqb _ _ z)

  module _ (nz : b.size ≡ 0 → ⊥) (r : Operand) where
    pub over-in : (n : Bool) → n ≡ differ a.negative b.negative → r ≡ operand (ranged n (a.size / b.size)) → r ≡ operand (over a b)
    unfolding over
    over-in n ne e = e ∙ simp (ne, ne_eqb _ _ nz)

    pub rest_in : r ≡ operand (ranged a.negative (a.size % b.size)) → r ≡ operand (remainder a b)
    unfolding remainder
    rest_in e = e ∙ simp (ne_eqb _ _ nz)

-- powers
raised-grows : (v x n : ℕ) → 1 ≤ x → v ≤ raised_to v x n
unfolding raised_to
raised-grows v x zero h = omega arith
raised-grows v x (suc n) h = omega (arith, raised-grows (v * x) x n h, mul-le-mul_left v h, mul-one v)

raised-none : (n : ℕ) → raised_to 0 0 n ≡ 0
unfolding raised_to
raised-none zero = refl
raised-none (suc n) = raised-none n

raised-one : (n : ℕ) → raised_to 1 1 n ≡ 1
unfolding raised_to
raised-one zero = refl
raised-one (suc n) = raised-one n

raised-small : (x n : ℕ) → (n ≡ 0 → ⊥) → x ≤ 1 → raised_to 1 x n ≡ x
unfolding raised_to
raised-small x zero nz h = absurd (nz refl)
raised-small x (suc n) nz h =
    split (eqb x 0)
    (λ t. let z : x ≡ 0 = eqb-true x 0 t in rw z (raised-none n))
    (λ t. let o : x ≡ 1 = one-is x (eqb-false x 0 t) h in rw o (raised-one n))
  where
    one-is : (x : ℕ) → (x ≡ 0 → ⊥) → x ≤ 1 → x ≡ 1
    one-is x z h = omega arith

raised-first : (x n : ℕ) → (n ≡ 0 → ⊥) → 1 ≤ x → x ≤ raised_to 1 x n
unfolding raised_to
raised-first x zero nz h = absurd (nz refl)
raised-first x (suc n) nz h = omega (arith, raised-grows (1 * x) x n h, one-mul x)

-- the ways out of `raise`
module _ (x n : ℕ) where
  pub raise-none : n ≡ 0 → 1 ≡ min (raised_to 1 x n) 2147483649
  unfolding raised_to
  raise-none z = rw z

  module _ (nz : n ≡ 0 → ⊥) where
    pub raise-small : x ≤ 1 → x ≡ min (raised_to 1 x n) 2147483649
    raise-small h = omega (arith, raised-small x n nz h)

    pub raise-large : 2147483648 < x → 2147483649 ≡ min (raised_to 1 x n) 2147483649
    raise-large h = omega (arith, raised-first x n nz (omega arith))

  module _ (v left : ℕ) (big : 1 < x) (inv : raised_to v x left ≡ raised_to 1 x n) where
    pub raise-more : 0 < left → raised_to (v * x) x (left - 1) ≡ raised_to 1 x n
    unfolding raised_to
    raise-more h = step left h inv
      where
        step : (left : ℕ) → 0 < left → raised_to v x left ≡ raised_to 1 x n → raised_to (v * x) x (left - 1) ≡ raised_to 1 x n
        step zero h inv = absurd (let no : ⊥ = omega arith in no)
        step (suc k) h inv = let e : suc k - 1 ≡ k = omega arith in rw e inv

    pub raise-over : 0 < left → 2147483648 < v * x → 2147483649 ≡ min (raised_to 1 x n) 2147483649
    raise-over h o = omega (arith, raise-more h, raised-grows (v * x) x (left - 1) (omega arith))

    pub raise-end : left ≤ 0 → v ≤ 2147483648 → v ≡ min (raised_to 1 x n) 2147483649
    unfolding raised_to
    raise-end h l = let z : left ≡ 0 = omega arith in let e : v ≡ raised_to 1 x n = (rw z at inv) in omega arith

-- the ways out of `raise_to`
module _ (a b : Integer) where
  pub power-none : b.size ≡ 0 → Number false 1 ≡ operand (power a b)
  unfolding power operand
  power-none z = simp (eq-eqb _ _ z)

  module _ (nz : b.size ≡ 0 → ⊥) where
    pub power-negative : b.negative ≡ true → Fault ≡ operand (power a b)
    unfolding power operand
    power-negative t = simp (ne_eqb _ _ nz, t)

    pub power_in : b.negative ≡ false → (n : Bool) → n ≡ sign_of_power a.negative b.size → (m : ℕ) → m ≡ min (raised_to 1 a.size b.size) 2147483649
        → (r : Operand) → r ≡ operand (ranged n m) → r ≡ operand (power a b)
    unfolding power
    power_in t n ne m me r e = e ∙ rw (me, held_same n (raised_to 1 a.size b.size), ne) (simp (ne_eqb _ _ nz, t))

-- the ways out of the small functions
pub differ-turned : (a b r : Bool) → a ≡ true → r ≡ not b → r ≡ differ a b
unfolding differ
differ-turned a b r t e = e ∙ simp t

pub differ_same : (a b : Bool) → a ≡ false → b ≡ differ a b
unfolding differ
differ_same a b t = simp t

pub negated-in : (a : Integer) (o : Bool) (r : Operand) → o ≡ not a.negative → r ≡ operand (ranged o a.size) → r ≡ operand (negated a)
unfolding negated
negated-in a o r oe e = rw oe at e

pub minus-in : (a b : Integer) (o : Bool) (r : Operand) → o ≡ not b.negative → r ≡ operand (plus a (signed o b.size)) → r ≡ operand (minus a b)
unfolding minus
minus-in a b o r oe e = rw oe at e

module _ (n : Bool) (k : ℕ) (o : Bool) (oe : o ≡ odd k) where
  pub sign-odd : o ≡ true → n ≡ sign_of_power n k
  unfolding sign_of_power
  sign-odd t = simp (sym oe, t)

  pub sign-even : o ≡ false → false ≡ sign_of_power n k
  unfolding sign_of_power
  sign-even t = simp (sym oe, t)

module _ (x y : ℕ) where
  pub sizes-less : x < y → Less ≡ sizes x y
  unfolding sizes
  sizes-less h = simp (lt-ltb _ _ h)

  module _ (h : y ≤ x) where
    pub sizes-greater : y < x → Greater ≡ sizes x y
    unfolding sizes
    sizes-greater k = simp (le-ltb _ _ h, lt-ltb _ _ k)

    pub sizes-equal : x ≤ y → Equal ≡ sizes x y
    unfolding sizes
    sizes-equal k = simp (le-ltb _ _ h, le-ltb _ _ k)

-- the library's order of two numbers
pub sizes_cmp : (x y : ℕ) → nat_cmp x y ≡ sizes x y
unfolding sizes
sizes_cmp x y =
    split (ltb x y) (λ h. rw h)
    (λ h. split (ltb y x)
    (λ k. let l : y < x = ltb-true y x k in
    let n : x ≡ y → ⊥ = λ e. omega arith in
    rw (h, k, ne_eqb x y n))
    (λ k. let l₁ : y ≤ x = ltb-false x y h in
    let l₂ : x ≤ y = ltb-false y x k in
    let q : x ≡ y = omega arith in
    rw (h, k, eq-eqb x y q)))

module _ (a b : Integer) where
  module _ (an : a.negative ≡ true) where
    pub compared-below : (r : Order) → b.negative ≡ true → r ≡ sizes b.size a.size → r ≡ compared a b
    unfolding compared
    compared-below r bn e = e ∙ simp (an, bn)

    pub compared-less : b.negative ≡ false → Less ≡ compared a b
    unfolding compared
    compared-less bn = simp (an, bn)

  module _ (an : a.negative ≡ false) where
    pub compared-greater : b.negative ≡ true → Greater ≡ compared a b
    unfolding compared
    compared-greater bn = simp (an, bn)

    pub compared-above : (r : Order) → b.negative ≡ false → r ≡ sizes a.size b.size → r ≡ compared a b
    unfolding compared
    compared-above r bn e = e ∙ simp (an, bn)
