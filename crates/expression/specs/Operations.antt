-- What the operators give. Assumes nothing.
use Rattle.std.specs.Prelude.{Bool, true, false, not, List, ◌++◌, ℕ, ltb, length, Float, Some, None}
use Rattle.std.specs.Float.Ieee.{lt, le}
use Rattle.text.specs.Choice.{pick}
use Rattle.text.specs.Order.{order}
use Rattle.text.specs.Decimal.{decimal}
use Rattle.text.specs.declared.Integer.{Integer}
use Rattle.std.specs.declared.cmp.Ordering.{Ordering as Order}
use Rattle.std.specs.declared.cmp.Ordering.TheVariants.{Less, Equal, Greater}
use Rattle.pattern.specs.Test.{test_of}
use Rattle.pattern.specs.Verdict.{Answer}
use Rattle.float.specs.Written.{float_of}
use Rattle.float.specs.Operations.{Computed}
use Rattle.float.specs.Operations as Floats
use Rattle.syntax.specs.Operator.{Unary, Binary, Relation, Ordering}
use Rattle.syntax.specs.Operator as Operator
use Rattle.expression.specs.Value.{Value, text, integer, test, float, fault, on_text, on_integer, on_test, on_float}
use Rattle.expression.specs.Integers.{plus, minus, times, over, remainder, power, negated, compared}
use Rattle.limits.specs.Limits.{most_string}

-- "string over 4,096 bytes" is a fault
unfoldable pub held : List ℕ → Value
held b = pick (ltb most_string (length b)) fault (text b)

-- a comparison, by how its sides stand to each other
abbrev pub is_less : Order → Bool
is_less Less = true
is_less Equal = false
is_less Greater = false

abbrev pub is_equal : Order → Bool
is_equal Less = false
is_equal Equal = true
is_equal Greater = false

abbrev pub is_greater : Order → Bool
is_greater Less = false
is_greater Equal = false
is_greater Greater = true

unfoldable pub relates : Relation → Order → Bool
relates Operator.equal o = is_equal o
relates Operator.unequal o = not (is_equal o)
relates Operator.less o = is_less o
relates Operator.greater o = is_greater o
relates Operator.at_most o = not (is_greater o)
relates Operator.at_least o = not (is_less o)

-- "A match anywhere in the string is a yes"; what is no pattern is "an error in the test"
abbrev pub answered : Answer → Value
answered (Some t) = test t
answered None = fault

-- the string a, the pattern b
unfoldable pub matched : List ℕ → List ℕ → Value
matched a b = answered (test_of b a)

-- "An infinite or not-a-number result is an error"
abbrev pub valued : Computed → Value
valued (Some x) = float x
valued None = fault

-- comparisons of floats
unfoldable pub ordered : Ordering → Float → Float → Bool
ordered Operator.float-less a b = lt a b
ordered Operator.float-greater a b = lt b a
ordered Operator.float_at_most a b = le a b
ordered Operator.float-at-least a b = le b a

-- two strings, two integers, two floats
unfoldable pub on_texts : (List ℕ → List ℕ → Value) → Value → Value → Value
on_texts f v w = on_text (λ a. on_text (λ b. f a b) w) v

unfoldable pub on_integers : (Integer → Integer → Value) → Value → Value → Value
on_integers f v w = on_integer (λ a. on_integer (λ b. f a b) w) v

unfoldable pub on_floats : (Float → Float → Value) → Value → Value → Value
on_floats f v w = on_float (λ a. on_float (λ b. f a b) w) v

-- strings compare "by byte; a proper prefix is less"; "&& and || go left to right and stop once decided"
unfoldable pub binary_of : Binary → Value → Value → Value
binary_of Operator.join v w = on_texts (λ a b. held (a ++ b)) v w
binary_of Operator.power v w = on_integers power v w
binary_of Operator.times v w = on_integers times v w
binary_of Operator.over v w = on_integers over v w
binary_of Operator.remainder v w = on_integers remainder v w
binary_of Operator.plus v w = on_integers plus v w
binary_of Operator.minus v w = on_integers minus v w
binary_of (Operator.comparison Operator.strings r) v w = on_texts (λ a b. test (relates r (order a b))) v w
binary_of (Operator.comparison Operator.integers r) v w = on_integers (λ a b. test (relates r (compared a b))) v w
binary_of Operator.matches v w = on_texts matched v w
binary_of Operator.float-power v w = on_floats (λ a b. valued (Floats.power a b)) v w
binary_of Operator.float-times v w = on_floats (λ a b. valued (Floats.times a b)) v w
binary_of Operator.float-over v w = on_floats (λ a b. valued (Floats.over a b)) v w
binary_of Operator.float-plus v w = on_floats (λ a b. valued (Floats.plus a b)) v w
binary_of Operator.float-minus v w = on_floats (λ a b. valued (Floats.minus a b)) v w
binary_of (Operator.float-order o) v w = on_floats (λ a b. test (ordered o a b)) v w
binary_of Operator.both v w = on_test (λ t. pick t (on_test test w) (test false)) v
binary_of Operator.either v w = on_test (λ t. pick t (test true) (on_test test w)) v

-- "@", unary "-", "!"
unfoldable pub converted : Value → Value
converted v = on_text (λ a. integer (decimal a)) v

unfoldable pub negative : Value → Value
negative v = on_integer negated v

unfoldable pub opposite : Value → Value
opposite v = on_test (λ t. test (not t)) v

-- "&", unary "-" of floats
unfoldable pub to_float : Value → Value
to_float v = on_text (λ a. float (float_of a)) v

unfoldable pub float_negative : Value → Value
float_negative v = on_float (λ a. valued (Floats.negated a)) v

-- "$" looks its string up
unfoldable pub unary_of : (List ℕ → List ℕ) → Unary → Value → Value
unary_of look Operator.lookup v = on_text (λ a. held (look a)) v
unary_of look Operator.convert v = converted v
unary_of look Operator.negate v = negative v
unary_of look Operator.opposite v = opposite v
unary_of look Operator.to-float v = to_float v
unary_of look Operator.float-negate v = float_negative v
