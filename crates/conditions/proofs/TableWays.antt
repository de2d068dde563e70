-- The ways out of the functions of `table` that go by a called function. Assumes nothing.
use mathlib.Core.Path.{◌≡◌, sym}
use mathlib.Core.Bool.{Bool, true, false}
use Prim.Native.Nat.{ℕ, ◌+◌}
use lib.Dec.{ltb}
use borrow.Author.Tests.{eq-eqb, ne_eqb}
use Rattle.text.specs.Choice.{pick, split}
use Rattle.lexical.specs.Kind
use Rattle.conditions.specs.Table
use Rattle.conditions.specs.Working.Numbered

module _ (want k : ℕ) (a : Bool) (ae : a ≡ Table.begins_number k) where
  pub begins-number : a ≡ true → true ≡ Numbered.begins want k
  unfolding Numbered.begins
  begins-number h = simp (sym ae, h)

  module _ (an : a ≡ false) (f : Bool) (fe : f ≡ Table.begins_float k) where
    pub begins-float : f ≡ true → true ≡ Numbered.begins want k
    unfolding Numbered.begins
    begins-float h = simp (sym ae, an, sym fe, h)

    module _ (fn : f ≡ false) where
      pub begins-none : want ≡ Numbered.NUMBER → false ≡ Numbered.begins want k
      unfolding Numbered.begins
      begins-none h = simp (sym ae, an, sym fe, fn, eq-eqb _ _ h)

      module _ (w : want ≡ Numbered.NUMBER → ⊥) where
        pub begins-not : k ≡ Kind.NOT → true ≡ Numbered.begins want k
        unfolding Numbered.begins
        begins-not h = simp (sym ae, an, sym fe, fn, ne_eqb _ _ w, eq-eqb _ _ h)

        pub begins-string : (b : Bool) → (k ≡ Kind.NOT → ⊥) → b ≡ Table.begins_string k → b ≡ Numbered.begins want k
        unfolding Numbered.begins
        begins-string b h be = simp (sym ae, an, sym fe, fn, ne_eqb _ _ w, ne_eqb _ _ h) be

module _ (k : ℕ) (p : k ≡ Kind.POWER → ⊥) (t : k ≡ Kind.TIMES → ⊥) (d : k ≡ Kind.DIVIDE → ⊥) (r : k ≡ Kind.REMAINDER → ⊥) (u : k ≡ Kind.PLUS → ⊥)
    (m : k ≡ Kind.MINUS → ⊥) (c : ℕ) (ce : c ≡ Numbered.comparison k) where
  pub number-none : c ≡ Numbered.NONE → Numbered.NONE ≡ Numbered.number_operator k
  unfolding Numbered.number_operator
  number-none h = simp (ne_eqb _ _ p, ne_eqb _ _ t, ne_eqb _ _ d, ne_eqb _ _ r, ne_eqb _ _ u, ne_eqb _ _ m, sym ce, eq-eqb _ _ h)

  pub number-compared : (c ≡ Numbered.NONE → ⊥) → c + 7 ≡ Numbered.number_operator k
  unfolding Numbered.number_operator
  number-compared h = simp (ne_eqb _ _ p, ne_eqb _ _ t, ne_eqb _ _ d, ne_eqb _ _ r, ne_eqb _ _ u, ne_eqb _ _ m, sym ce, ne_eqb _ _ h)

module _ (sort k : ℕ) (n : sort ≡ Numbered.INTEGER → ⊥) (x : sort ≡ Numbered.TEXT → ⊥) (f : sort ≡ Numbered.FLOAT → ⊥) (o : ℕ) (oe : o ≡ Numbered.test_operator k) where
  pub operator-test : (o ≡ Numbered.NONE → ⊥) → o ≡ Numbered.operator sort k
  unfolding Numbered.operator
  operator-test h = simp (ne_eqb _ _ n, ne_eqb _ _ x, ne_eqb _ _ f, sym oe, ne_eqb _ _ h)

  module _ (z : o ≡ Numbered.NONE) where
    pub operator-none : sort ≡ Numbered.TEST → Numbered.NONE ≡ Numbered.operator sort k
    unfolding Numbered.operator
    operator-none h = simp (ne_eqb _ _ n, ne_eqb _ _ x, ne_eqb _ _ f, sym oe, eq-eqb _ _ z, eq-eqb _ _ h)

    pub operator-word : (r : ℕ) → (sort ≡ Numbered.TEST → ⊥) → r ≡ Numbered.text_operator k → r ≡ Numbered.operator sort k
    unfolding Numbered.operator
    operator-word r h re = simp (ne_eqb _ _ n, ne_eqb _ _ x, ne_eqb _ _ f, sym oe, eq-eqb _ _ z, ne_eqb _ _ h) re

module _ (op l : ℕ) (le : l ≡ Numbered.level_of op) where
  pub right-made : l + 1 ≡ Numbered.right_level op
  unfolding Numbered.right_level
  right-made = simp (sym le)

  pub loose-level : (level : ℕ) → (op ≡ Numbered.NONE → ⊥) → ltb l level ≡ pick (Numbered.binds level op) false true
  unfolding Numbered.binds
  loose-level level n = split (ltb l level) (λ e. simp (ne_eqb _ _ n, sym le, e)) (λ e. simp (ne_eqb _ _ n, sym le, e))

pub loose_none : (level op : ℕ) → op ≡ Numbered.NONE → true ≡ pick (Numbered.binds level op) false true
unfolding Numbered.binds
loose_none level op h = simp (eq-eqb _ _ h)
