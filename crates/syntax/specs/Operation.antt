-- The operations of compiled code, and the number of each. Assumes nothing.
use Rattle.std.specs.Prelude.{Bool, true, false, ℕ}
use Rattle.syntax.specs.Op
use Rattle.syntax.specs.Operator.{Unary, Binary, Side, Relation, Ordering}
use Rattle.syntax.specs.Operator as Operator

-- what an entry says: an operand of one token, an operator, a program's begin or a clause's end; and what the machine does behind a clause
pub data Operation : Type 0 where
  literal : Operation
  name : Operation
  number : Operation
  truth : Bool → Operation
  decimal : Operation
  unary : Unary → Operation
  binary : Binary → Operation
  begin : Operation
  plain : Operation
  valued : Operation
  nested : Operation
  raise : Operation

abbrev pub unary_number : Unary → ℕ
unary_number Operator.lookup = Op.LOOKUP
unary_number Operator.convert = Op.CONVERT
unary_number Operator.negate = Op.NEGATE
unary_number Operator.opposite = Op.OPPOSITE
unary_number Operator.to-float = Op.TO_FLOAT
unary_number Operator.float-negate = Op.FLOAT_NEGATE

abbrev pub comparison_number : Side → Relation → ℕ
comparison_number Operator.strings Operator.equal = Op.TEXT_EQUAL
comparison_number Operator.strings Operator.unequal = Op.TEXT_UNEQUAL
comparison_number Operator.strings Operator.less = Op.TEXT_LESS
comparison_number Operator.strings Operator.greater = Op.TEXT_GREATER
comparison_number Operator.strings Operator.at_most = Op.TEXT_AT_MOST
comparison_number Operator.strings Operator.at_least = Op.TEXT_AT_LEAST
comparison_number Operator.integers Operator.equal = Op.EQUAL
comparison_number Operator.integers Operator.unequal = Op.UNEQUAL
comparison_number Operator.integers Operator.less = Op.LESS
comparison_number Operator.integers Operator.greater = Op.GREATER
comparison_number Operator.integers Operator.at_most = Op.AT_MOST
comparison_number Operator.integers Operator.at_least = Op.AT_LEAST

abbrev pub order_number : Ordering → ℕ
order_number Operator.float-less = Op.FLOAT_LESS
order_number Operator.float-greater = Op.FLOAT_GREATER
order_number Operator.float_at_most = Op.FLOAT_AT_MOST
order_number Operator.float-at-least = Op.FLOAT_AT_LEAST

abbrev pub binary_number : Binary → ℕ
binary_number Operator.join = Op.JOIN
binary_number Operator.power = Op.POWER
binary_number Operator.times = Op.TIMES
binary_number Operator.over = Op.OVER
binary_number Operator.remainder = Op.REMAINDER
binary_number Operator.plus = Op.PLUS
binary_number Operator.minus = Op.MINUS
binary_number (Operator.comparison side relation) = comparison_number side relation
binary_number Operator.matches = Op.MATCHES
binary_number Operator.float-power = Op.FLOAT_POWER
binary_number Operator.float-times = Op.FLOAT_TIMES
binary_number Operator.float-over = Op.FLOAT_OVER
binary_number Operator.float-plus = Op.FLOAT_PLUS
binary_number Operator.float-minus = Op.FLOAT_MINUS
binary_number (Operator.float-order order) = order_number order
binary_number Operator.both = Op.BOTH
binary_number Operator.either = Op.EITHER

-- the number that stands for an operation
abbrev pub number_of : Operation → ℕ
number_of literal = Op.LITERAL
number_of name = Op.NAME
number_of number = Op.NUMBER
number_of (truth true) = Op.TRUE
number_of (truth false) = Op.FALSE
number_of decimal = Op.DECIMAL
number_of (unary op) = unary_number op
number_of (binary op) = binary_number op
number_of begin = Op.BEGIN
number_of plain = Op.PLAIN
number_of valued = Op.VALUED
number_of nested = Op.NESTED
number_of raise = Op.RAISE
