-- Facts of the tables: what may stand, and how far an operator reaches. Assumes nothing.
use Rattle.std.specs.Prelude.{◌≡◌, true, ℕ, ◌<◌, eqb}
use Rattle.std.proofs.Math.Path.{refl}
use Rattle.std.proofs.Common.{arith}
use borrow.Author.Tests.{eqb-true}
use Rattle.text.specs.Choice.{clash}
use Rattle.lexical.specs.Kind
use Rattle.lexical.specs.Theorems.Bounds.{chosen}
use Rattle.syntax.specs.Operator.{Side, a-string, an-integer, a-float, a_test, strings, integers}
use Rattle.conditions.specs.Table.{PartSort, sorted, word, Infix, no-infix}
use Rattle.conditions.specs.Table

-- an operator is a token: where one binds, the kind is no fault's and not the end's
module _ (level k : ℕ) where
  abbrev Apart : Infix → Type 0
  Apart i = Table.binds level i ≡ true → Kind.BAD_LINE < k

  none-token : Apart no-infix
  unfolding Table.binds
  none-token n = clash n refl

  comparison-token : (side : Side) → Apart (Table.comparison side k)
  unfolding Table.comparison
  comparison-token side =
      chosen Apart (eqb k Kind.EQUAL) _ _ (λ e n. omega (arith, eqb-true k Kind.EQUAL e))
      (λ e. chosen Apart (eqb k Kind.UNEQUAL) _ _ (λ e n. omega (arith, eqb-true k Kind.UNEQUAL e))
      (λ e. chosen Apart (eqb k Kind.LESS) _ _ (λ e n. omega (arith, eqb-true k Kind.LESS e))
      (λ e. chosen Apart (eqb k Kind.GREATER) _ _ (λ e n. omega (arith, eqb-true k Kind.GREATER e))
      (λ e. chosen Apart (eqb k Kind.AT_MOST) _ _ (λ e n. omega (arith, eqb-true k Kind.AT_MOST e))
      (λ e. chosen Apart (eqb k Kind.AT_LEAST) _ _ (λ e n. omega (arith, eqb-true k Kind.AT_LEAST e)) (λ e. none-token))))))

  number-token : Apart (Table.number_operator k)
  unfolding Table.number_operator
  number-token =
      chosen Apart (eqb k Kind.POWER) _ _ (λ e n. omega (arith, eqb-true k Kind.POWER e))
      (λ e. chosen Apart (eqb k Kind.TIMES) _ _ (λ e n. omega (arith, eqb-true k Kind.TIMES e))
      (λ e. chosen Apart (eqb k Kind.DIVIDE) _ _ (λ e n. omega (arith, eqb-true k Kind.DIVIDE e))
      (λ e. chosen Apart (eqb k Kind.REMAINDER) _ _ (λ e n. omega (arith, eqb-true k Kind.REMAINDER e))
      (λ e. chosen Apart (eqb k Kind.PLUS) _ _ (λ e n. omega (arith, eqb-true k Kind.PLUS e))
      (λ e. chosen Apart (eqb k Kind.MINUS) _ _ (λ e n. omega (arith, eqb-true k Kind.MINUS e)) (λ e. comparison-token integers))))))

  float-token : Apart (Table.float_operator k)
  unfolding Table.float_operator Table.ordering
  float-token =
      chosen Apart (eqb k Kind.POWER) _ _ (λ e n. omega (arith, eqb-true k Kind.POWER e))
      (λ e. chosen Apart (eqb k Kind.TIMES) _ _ (λ e n. omega (arith, eqb-true k Kind.TIMES e))
      (λ e. chosen Apart (eqb k Kind.DIVIDE) _ _ (λ e n. omega (arith, eqb-true k Kind.DIVIDE e))
      (λ e. chosen Apart (eqb k Kind.PLUS) _ _ (λ e n. omega (arith, eqb-true k Kind.PLUS e))
      (λ e. chosen Apart (eqb k Kind.MINUS) _ _ (λ e n. omega (arith, eqb-true k Kind.MINUS e))
      (λ e. chosen Apart (eqb k Kind.LESS) _ _ (λ e n. omega (arith, eqb-true k Kind.LESS e))
      (λ e. chosen Apart (eqb k Kind.GREATER) _ _ (λ e n. omega (arith, eqb-true k Kind.GREATER e))
      (λ e. chosen Apart (eqb k Kind.AT_MOST) _ _ (λ e n. omega (arith, eqb-true k Kind.AT_MOST e))
      (λ e. chosen Apart (eqb k Kind.AT_LEAST) _ _ (λ e n. omega (arith, eqb-true k Kind.AT_LEAST e)) (λ e. none-token)))))))))

  text-token : Apart (Table.text_operator k)
  unfolding Table.text_operator
  text-token =
      chosen Apart (eqb k Kind.DOT) _ _ (λ e n. omega (arith, eqb-true k Kind.DOT e))
      (λ e. chosen Apart (eqb k Kind.MATCHES) _ _ (λ e n. omega (arith, eqb-true k Kind.MATCHES e)) (λ e. comparison-token strings))

  test-token : (other : Infix) → Apart other → Apart (Table.test_operator k other)
  unfolding Table.test_operator
  test-token other o =
      chosen Apart (eqb k Kind.AND) _ _ (λ g n. omega (arith, eqb-true k Kind.AND g))
      (λ g. chosen Apart (eqb k Kind.OR) _ _ (λ h n. omega (arith, eqb-true k Kind.OR h)) (λ h. o))

  pub operator-token : (sort : PartSort) → Apart (Table.operator sort k)
  unfolding Table.operator
  operator-token (sorted a-string) = text-token
  operator-token (sorted an-integer) = number-token
  operator-token (sorted a-float) = float-token
  operator-token (sorted a_test) = test-token no-infix none-token
  operator-token (word b) = test-token (Table.text_operator k) text-token
