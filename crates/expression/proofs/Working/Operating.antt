-- Working laws: the ways out of the operators. Assumes nothing.
use Rattle.std.specs.Prelude.{◌≡◌, Bool, true, false, List, ℕ}
use Rattle.std.proofs.Common.{sym, ◌∙◌}
use Rattle.std.proofs.Math.Bool.{not}
use borrow.Author.Tests.{eq-eqb, ne_eqb}
use Rattle.expression.specs.Value.{test, operand}
use Rattle.expression.specs.Operands.{value_of, is_test, holds_in, test_in}
use Rattle.expression.specs.Operations.{opposite}
use Rattle.expression.specs.Working.Numbered.{logical, of_tests}
use Rattle.expression.specs.declared.value.Operand.{Operand}
use Rattle.expression.specs.declared.value.Operand.TheVariants.{Test, Fault}
use Rattle.expression.specs.Working.Operating.{no_test, test-is, test_in_lem}

-- the ways out of `texts`, `integers`, `floats` and `tests`
module _ (op : ℕ) (x y : Operand) (a b : List ℕ) (t : Bool) where
  module _ (te : t ≡ is_test x) where
    pub tests-none : t ≡ false → Fault ≡ operand (of_tests op (value_of x a) (value_of y b))
    unfolding of_tests operand
    tests-none h = rw (no_test (λ s. logical op s (value_of y b)) x a (sym te ∙ h))

    module _ (yes : t ≡ true) (h : Bool) (he : h ≡ holds_in x) where
      tests-are : of_tests op (value_of x a) (value_of y b) ≡ logical op h (value_of y b)
      unfolding of_tests
      tests-are = rw (test-is x a (sym te ∙ yes), he)

      module _ (both : op ≡ 41) where
        pub both-more : h ≡ true → (r : Operand) → r ≡ test_in y → r ≡ operand (of_tests op (value_of x a) (value_of y b))
        unfolding logical
        both-more ht r e = rw tests-are (e ∙ test_in_lem y b ∙ simp (eq-eqb _ _ both, ht))

        pub both-done : h ≡ false → Test false ≡ operand (of_tests op (value_of x a) (value_of y b))
        unfolding logical operand
        both-done hf = rw tests-are (simp (eq-eqb _ _ both, hf))

      module _ (either : op ≡ 41 → ⊥) where
        pub either-done : h ≡ true → Test true ≡ operand (of_tests op (value_of x a) (value_of y b))
        unfolding logical operand
        either-done ht = rw tests-are (simp (ne_eqb _ _ either, ht))

        pub either-more : h ≡ false → (r : Operand) → r ≡ test_in y → r ≡ operand (of_tests op (value_of x a) (value_of y b))
        unfolding logical
        either-more hf r e = rw tests-are (e ∙ test_in_lem y b ∙ simp (ne_eqb _ _ either, hf))

-- the ways out of `convert`, `negate_operand` and `oppose`
module _ (x : Operand) (a : List ℕ) (t : Bool) where
  pub oppose-none : t ≡ is_test x → t ≡ false → Fault ≡ operand (opposite (value_of x a))
  unfolding opposite operand
  oppose-none te h = rw (no_test (λ t. test (not t)) x a (sym te ∙ h))
