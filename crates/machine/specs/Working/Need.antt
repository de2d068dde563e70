-- How much room Conditions need to run: operands at once, and bytes of strings. Assumes nothing.
use Rattle.std.specs.Prelude.{ℕ, ◌+◌, max}
use Rattle.syntax.specs.Operator.{Sort, a-string, an-integer, a-float, a_test, unary_gives, binary_gives}
use Rattle.syntax.specs.Expr.{Expr, literal, name, number, truth, decimal, unary, binary, Program, none, also, Clause, plain, valued, nested}
use Rattle.limits.specs.Limits.{most_string}

-- operands that are on the stack at once
unfoldable pub need : Expr → ℕ
need (literal b) = 1
need (name n) = 1
need (number n) = 1
need (truth t) = 1
need (decimal b) = 1
need (unary op e) = need e
need (binary op e f) = max (need e) (1 + need f)

unfoldable mutual
  pub program_need : Program → ℕ
  program_need none = 1
  program_need (also p q) = max (program_need p) (1 + clause_need q)

  pub clause_need : Clause → ℕ
  clause_need (plain e) = need e
  clause_need (valued e f) = max (need e) (1 + need f)
  clause_need (nested e p) = max (need e) (1 + program_need p)

-- the bytes that a value may have: "string over 4,096 bytes" is a fault
abbrev pub span_of : Sort → ℕ
span_of a-string = most_string
span_of an-integer = 0
span_of a-float = 0
span_of a_test = 0

-- those of an expression's value
unfoldable pub span : Expr → ℕ
span (literal b) = most_string
span (name n) = most_string
span (number n) = 0
span (truth t) = 0
span (decimal b) = 0
span (unary op e) = span_of (unary_gives op)
span (binary op e f) = span_of (binary_gives op)

-- the bytes that lie on the string stack at once
unfoldable pub room : Expr → ℕ
room (literal b) = most_string
room (name n) = most_string
room (number n) = 0
room (truth t) = 0
room (decimal b) = 0
room (unary op e) = max (room e) (span_of (unary_gives op))
room (binary op e f) = max (room e) (span e + room f)

unfoldable mutual
  pub program_room : Program → ℕ
  program_room none = 0
  program_room (also p q) = max (program_room p) (clause_room q)

  pub clause_room : Clause → ℕ
  clause_room (plain e) = room e
  clause_room (valued e f) = max (room e) (span e + room f)
  clause_room (nested e p) = max (room e) (span e + program_room p)
