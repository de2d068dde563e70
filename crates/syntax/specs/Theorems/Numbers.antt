-- The numbers of the operations differ and fit an entry. Assumes nothing.
use Rattle.std.specs.Prelude.{◌≡◌, refl, true, false, List, [], ◌∷◌, ◌<◌, ◌≤◌, get_or}
use Rattle.std.proofs.Common.{arith}
use Rattle.syntax.specs.Op
use Rattle.syntax.specs.Operator.{Unary, Binary, Side, Relation, Ordering, lookup, convert, negate, opposite, to-float, float-negate, join, power, times, over, remainder, plus, minus, comparison, matches, float-power, float-times, float-over, float-plus, float-minus, float-order, both, either, strings, integers, equal, unequal, less, greater, at_most, at_least, float-less, float-greater, float_at_most, float-at-least}
use Rattle.syntax.specs.Operation.{Operation, literal, name, number, truth, decimal, unary, binary, begin, plain, valued, nested, raise, unary_number, comparison_number, order_number, binary_number, number_of}

-- the operations in the order of their numbers
pub operations : List Operation
operations =
    literal ∷ name ∷ number ∷ truth true ∷ truth false ∷ decimal
    ∷ unary lookup ∷ unary convert ∷ unary negate ∷ unary opposite ∷ unary to-float ∷ unary float-negate
    ∷ binary join ∷ binary power ∷ binary times ∷ binary over ∷ binary remainder ∷ binary plus ∷ binary minus
    ∷ binary (comparison strings equal) ∷ binary (comparison strings unequal) ∷ binary (comparison strings less)
    ∷ binary (comparison strings greater) ∷ binary (comparison strings at_most) ∷ binary (comparison strings at_least) ∷ binary matches
    ∷ binary (comparison integers equal) ∷ binary (comparison integers unequal) ∷ binary (comparison integers less)
    ∷ binary (comparison integers greater) ∷ binary (comparison integers at_most) ∷ binary (comparison integers at_least)
    ∷ binary float-power ∷ binary float-times ∷ binary float-over ∷ binary float-plus ∷ binary float-minus
    ∷ binary (float-order float-less) ∷ binary (float-order float-greater) ∷ binary (float-order float_at_most) ∷ binary (float-order float-at-least)
    ∷ binary both ∷ binary either
    ∷ begin ∷ plain ∷ valued ∷ nested ∷ raise ∷ []

pub listed : (o : Operation) → get_or operations (number_of o) literal ≡ o
unfolding operations
listed literal = refl
listed name = refl
listed number = refl
listed (truth true) = refl
listed (truth false) = refl
listed decimal = refl
listed (unary lookup) = refl
listed (unary convert) = refl
listed (unary negate) = refl
listed (unary opposite) = refl
listed (unary to-float) = refl
listed (unary float-negate) = refl
listed (binary join) = refl
listed (binary power) = refl
listed (binary times) = refl
listed (binary over) = refl
listed (binary remainder) = refl
listed (binary plus) = refl
listed (binary minus) = refl
listed (binary (comparison strings equal)) = refl
listed (binary (comparison strings unequal)) = refl
listed (binary (comparison strings less)) = refl
listed (binary (comparison strings greater)) = refl
listed (binary (comparison strings at_most)) = refl
listed (binary (comparison strings at_least)) = refl
listed (binary matches) = refl
listed (binary (comparison integers equal)) = refl
listed (binary (comparison integers unequal)) = refl
listed (binary (comparison integers less)) = refl
listed (binary (comparison integers greater)) = refl
listed (binary (comparison integers at_most)) = refl
listed (binary (comparison integers at_least)) = refl
listed (binary float-power) = refl
listed (binary float-times) = refl
listed (binary float-over) = refl
listed (binary float-plus) = refl
listed (binary float-minus) = refl
listed (binary (float-order float-less)) = refl
listed (binary (float-order float-greater)) = refl
listed (binary (float-order float_at_most)) = refl
listed (binary (float-order float-at-least)) = refl
listed (binary both) = refl
listed (binary either) = refl
listed begin = refl
listed plain = refl
listed valued = refl
listed nested = refl
listed raise = refl

-- where the operators' numbers lie: the machine tells an operator by its number
pub unary-between : (op : Unary) → (Op.LOOKUP ≤ unary_number op) × (unary_number op ≤ Op.FLOAT_NEGATE)
unary-between lookup = (omega arith, omega arith)
unary-between convert = (omega arith, omega arith)
unary-between negate = (omega arith, omega arith)
unary-between opposite = (omega arith, omega arith)
unary-between to-float = (omega arith, omega arith)
unary-between float-negate = (omega arith, omega arith)

pub comparison-between : (side : Side) (r : Relation) → (Op.TEXT_EQUAL ≤ comparison_number side r) × (comparison_number side r ≤ Op.AT_LEAST)
comparison-between strings equal = (omega arith, omega arith)
comparison-between strings unequal = (omega arith, omega arith)
comparison-between strings less = (omega arith, omega arith)
comparison-between strings greater = (omega arith, omega arith)
comparison-between strings at_most = (omega arith, omega arith)
comparison-between strings at_least = (omega arith, omega arith)
comparison-between integers equal = (omega arith, omega arith)
comparison-between integers unequal = (omega arith, omega arith)
comparison-between integers less = (omega arith, omega arith)
comparison-between integers greater = (omega arith, omega arith)
comparison-between integers at_most = (omega arith, omega arith)
comparison-between integers at_least = (omega arith, omega arith)

pub order-between : (o : Ordering) → (Op.FLOAT_LESS ≤ order_number o) × (order_number o ≤ Op.FLOAT_AT_LEAST)
order-between float-less = (omega arith, omega arith)
order-between float-greater = (omega arith, omega arith)
order-between float_at_most = (omega arith, omega arith)
order-between float-at-least = (omega arith, omega arith)

pub binary-between : (op : Binary) → (Op.JOIN ≤ binary_number op) × (binary_number op ≤ Op.EITHER)
binary-between join = (omega arith, omega arith)
binary-between power = (omega arith, omega arith)
binary-between times = (omega arith, omega arith)
binary-between over = (omega arith, omega arith)
binary-between remainder = (omega arith, omega arith)
binary-between plus = (omega arith, omega arith)
binary-between minus = (omega arith, omega arith)
binary-between (comparison side r) = (omega (arith, (comparison-between side r).0), omega (arith, (comparison-between side r).1))
binary-between matches = (omega arith, omega arith)
binary-between float-power = (omega arith, omega arith)
binary-between float-times = (omega arith, omega arith)
binary-between float-over = (omega arith, omega arith)
binary-between float-plus = (omega arith, omega arith)
binary-between float-minus = (omega arith, omega arith)
binary-between (float-order o) = (omega (arith, (order-between o).0), omega (arith, (order-between o).1))
binary-between both = (omega arith, omega arith)
binary-between either = (omega arith, omega arith)

-- an entry has room for numbers below 64
pub number_fits : (o : Operation) → number_of o < 64
number_fits literal = omega arith
number_fits name = omega arith
number_fits number = omega arith
number_fits (truth true) = omega arith
number_fits (truth false) = omega arith
number_fits decimal = omega arith
number_fits (unary op) = omega (arith, (unary-between op).1)
number_fits (binary op) = omega (arith, (binary-between op).1)
number_fits begin = omega arith
number_fits plain = omega arith
number_fits valued = omega arith
number_fits nested = omega arith
number_fits raise = omega arith
