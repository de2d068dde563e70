-- What the numbers of the machine's operations give: those of expressions, and those that bring a clause to a rank. Assumes nothing.
use Rattle.std.specs.Prelude.{List, ℕ, max, eqb, leb}
use Rattle.text.specs.Choice.{pick}
use Rattle.syntax.specs.Op.{CONVERT, NEGATE, OPPOSITE, TO_FLOAT, FLOAT_NEGATE, EITHER, VALUED, NESTED}
use Rattle.expression.specs.Value.{Value, rank, operand}
use Rattle.expression.specs.Operands.{rank_in}
use Rattle.expression.specs.Operations.{converted, negative, opposite, to_float, float_negative}
use Rattle.expression.specs.Conditions.{rank_of, gate, top}
use Rattle.expression.specs.Working.Numbered.{binary_by}

-- an operation on one value: an expression's, or a clause that is a test
unfoldable pub applied : List (List ℕ) → ℕ → Value → Value
applied vals op v =
    pick (eqb op CONVERT) (converted v)
    (pick (eqb op NEGATE) (negative v)
    (pick (eqb op OPPOSITE) (opposite v)
    (pick (eqb op TO_FLOAT) (to_float v)
    (pick (eqb op FLOAT_NEGATE) (float_negative v) (rank (gate v (top vals)))))))

-- an operation on two values: an expression's, or a clause with a string or with a program
unfoldable pub combined : List (List ℕ) → ℕ → Value → Value → Value
combined vals op v w =
    pick (leb op EITHER) (binary_by op v w)
    (pick (eqb op VALUED) (rank (gate v (rank_of vals w)))
    (pick (eqb op NESTED) (rank (gate v (rank_in (operand w)))) (rank (max (rank_in (operand v)) (rank_in (operand w))))))
