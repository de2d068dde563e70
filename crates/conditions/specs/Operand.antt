-- Operands of one token, and what an operator makes of its operands. Assumes nothing.
use Rattle.std.specs.Prelude.{Bool, List, ℕ, ◌-◌, eqb, leb, ltb, length}
use Rattle.text.specs.Choice.{pick}
use Rattle.lexical.specs.Kind
use Rattle.lexical.specs.Literal.{decoded_at}
use Rattle.lexical.specs.Number as Number
use Rattle.lexical.specs.declared.token.Token.{Token}
use Rattle.syntax.specs.Operator.{Sort, a-string, an-integer, a-float, a_test}
use Rattle.syntax.specs.Expr.{Expr, literal, name, number, truth, decimal}
use Rattle.syntax.specs.Code.{name_at, number_from, decimal_at}
use Rattle.conditions.specs.Table.{PartSort, sorted, word, Want, fits}
use Rattle.conditions.specs.Word.{next_at, word_sort}
use Rattle.syntax.specs.Parsed.{Parsed, ok, aside, unexpected}
use Rattle.conditions.specs.Parsed.{Part, part}
use Rattle.limits.specs.Limits.{most_float, most_literal}

-- reason 7: "literal 2,048 decoded bytes"
unfoldable pub read_literal : List ℕ → Token → Parsed Part
read_literal s t =
    pick (ltb most_literal (length (decoded_at s t.start))) (aside 7 t.start) (ok (part (sorted a-string) (literal (decoded_at s t.start))) (next_at s t.end))

-- a name, or a bare word where a test may stand too
unfoldable pub read_name : List ℕ → Want → Token → Parsed Part
read_name s want t = ok (part (word_sort s want t.start t.end) (name (name_at s t.start))) (next_at s t.end)

-- reason 5: "integer literal above 2147483647"
unfoldable pub read_digits : List ℕ → Token → Parsed Part
read_digits s t =
    pick (leb Number.LIMIT (Number.number_at s t.start t.end)) (aside 5 t.start)
    (ok (part (sorted an-integer) (number (number_from s t.start))) (next_at s t.end))

-- reason 7: "Literals [..] of at most 18 digits", which is 19 bytes with the point
unfoldable pub read_float : List ℕ → Token → Parsed Part
read_float s t = pick (ltb most_float (t.end - t.start)) (aside 7 t.start) (ok (part (sorted a-float) (decimal (decimal_at s t.start))) (next_at s t.end))

unfoldable pub read_leaf : List ℕ → Want → Token → Parsed Part
read_leaf s want t =
    pick (eqb t.kind Kind.LITERAL) (read_literal s t)
    (pick (eqb t.kind Kind.NAME) (read_name s want t)
    (pick (eqb t.kind Kind.DIGITS) (read_digits s t) (read_float s t)))

-- a bare word becomes the test or the string that is wanted
abbrev pub word_tree : Sort → Bool → Expr → Expr
word_tree a-string b e = e
word_tree an-integer b e = truth b
word_tree a-float b e = truth b
word_tree a_test b e = truth b

unfoldable pub settled_tree : Sort → PartSort → Expr → Expr
settled_tree wanted (sorted x) e = e
settled_tree wanted (word b) e = word_tree wanted b e

-- an operator takes its last operand, if that is of its sort
unfoldable pub applied : (Expr → Expr) → Sort → Sort → PartSort → Expr → Token → Parsed Part
applied f takes gives sort e t = pick (fits takes sort) (ok (part (sorted gives) (f (settled_tree takes sort e))) t) (unexpected t)
