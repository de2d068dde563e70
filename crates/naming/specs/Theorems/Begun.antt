-- A string expression's first token that is no bracket begins a string; where another stands no string is read. Assumes nothing.
use Rattle.std.specs.Prelude.{◌≡◌, refl, true, false, List, eqb, leb}
use Rattle.std.proofs.Math.Path.{ap}
use Rattle.std.proofs.Common.{◌∙◌, arith}
use Prim.Native.Nat.{ℕ, zero, suc, ◌+◌, ◌≤◌}
use borrow.Author.Tests.{eqb-true}
use Rattle.text.specs.Choice.{split}
use Rattle.limits.specs.Limits.{most_brackets}
use Rattle.lexical.specs.Kind
use Rattle.lexical.specs.Theorems.Bounds.{chosen}
use Rattle.lexical.specs.declared.token.Token.{Token}
use Rattle.syntax.specs.Expr.{Expr}
use Rattle.syntax.specs.Parsed.{Parsed, aside}
use Rattle.conditions.specs.Table.{PartSort, want-string, begins_string, no-prefix}
use Rattle.conditions.specs.Table as Table
use Rattle.conditions.specs.Word.{next_at}
use Rattle.conditions.specs.Parsed.{Part, on_part}
use Rattle.conditions.specs.Expression.{read_expression, read_operand, read_bracketed}
use Rattle.conditions.specs.Program.{DEPTH}
use Rattle.naming.specs.String.{plain_from, nest_of, source}

-- nothing is read
pub data Refused {A : Type 0} : Parsed A → Type 0 where
  refused : (r p : ℕ) → Refused (aside r p)

on-refused : {A : Type 0} {q : Parsed Part} (k : PartSort → Expr → Token → Parsed A) → Refused q → Refused (on_part q k)
on-refused k (refused r p) = refused r p

-- no prefix operator is a bracket
open_plain : Table.prefix_operator Kind.OPEN ≡ no-prefix
unfolding Table.prefix_operator
open_plain = refl

open-allowed : Table.allows want-string Kind.OPEN ≡ true
unfolding Table.allows
open-allowed = refl

other-barred : (k : ℕ) → eqb k Kind.OPEN ≡ false → begins_string k ≡ false → Table.allows want-string k ≡ false
unfolding Table.allows
other-barred k o b = rw (o, b)

module _ (s : List ℕ) where
  -- a token that is neither a bracket nor begins a string
  operand-barred : (d row nest : ℕ) (t : Token) → eqb t.kind Kind.OPEN ≡ false → begins_string t.kind ≡ false
      → Refused (read_operand d s want-string row nest t)
  unfolding read_expression
  operand-barred zero row nest t o b = refused _ _
  operand-barred (suc d) row nest t o b = rw (other-barred t.kind o b) (refused _ _)

  -- a bracket too many
  bracket-barred : (d : ℕ) (t : Token) → Refused (read_bracketed d s want-string most_brackets t)
  unfolding read_expression
  bracket-barred zero t = refused _ _
  bracket-barred (suc d) t = refused _ _

  operand-open : (d row nest : ℕ) (t : Token) → eqb t.kind Kind.OPEN ≡ true → Refused (read_bracketed d s want-string nest t)
      → Refused (read_operand (suc d) s want-string row nest t)
  unfolding read_expression
  operand-open d row nest t o h =
      let z : t.kind ≡ Kind.OPEN = eqb-true t.kind Kind.OPEN o in
      rw (ap (Table.allows want-string) z ∙ open-allowed, ap Table.prefix_operator z ∙ open_plain, o) h

  mutual
    unfolding read_expression plain_from Table.inside_level

    expression-barred : (d left row nest : ℕ) (t : Token) → nest + left ≡ most_brackets → begins_string (plain_from left s t).kind ≡ false
        → Refused (read_expression d s 3 want-string row nest t)
    expression-barred zero left row nest t e b = refused _ _
    expression-barred (suc d) left row nest t e b = on-refused _ (begun-barred d left row nest t e b)

    begun-barred : (d left row nest : ℕ) (t : Token) → nest + left ≡ most_brackets → begins_string (plain_from left s t).kind ≡ false
        → Refused (read_operand d s want-string row nest t)
    begun-barred zero left row nest t e b = refused _ _
    begun-barred (suc d) zero row nest t e b =
        split (eqb t.kind Kind.OPEN)
        (λ o. let z : nest ≡ most_brackets = omega (arith, e) in operand-open d row nest t o (rw z (bracket-barred d t)))
        (λ o. operand-barred (suc d) row nest t o b)
    begun-barred (suc d) (suc left) row nest t e b =
        split (eqb t.kind Kind.OPEN)
        (λ o. operand-open d row nest t o (opened-barred d left nest t e (rw o at b)))
        (λ o. operand-barred (suc d) row nest t o (rw o at b))

    opened-barred : (d left nest : ℕ) (t : Token) → nest + suc left ≡ most_brackets → begins_string (plain_from left s (next_at s t.end)).kind ≡ false
        → Refused (read_bracketed d s want-string nest t)
    opened-barred zero left nest t e b = refused _ _
    opened-barred (suc d) left nest t e b =
        chosen Refused (leb 16 nest) _ _ (λ f. refused _ _)
        (λ f. on-refused _ (expression-barred d left 0 (nest + 1) (next_at s t.end) (omega (arith, e)) b))

  -- no string is read where none begins
  pub source-barred : (left : ℕ) (t : Token) → left ≤ most_brackets → begins_string (plain_from left s t).kind ≡ false → Refused (source s left t)
  unfolding source
  source-barred left t h b = on-refused _ (expression-barred DEPTH left 0 (nest_of left) t (omega (arith, h)) b)
