-- What the operators' numbers give, as the code tells them apart. Assumes nothing.
use Rattle.std.specs.Prelude.{Bool, true, false, not, List, ◌++◌, ℕ, ◌-◌, eqb, leb, Float}
use Rattle.std.specs.Float.Ieee.{lt, le}
use Rattle.text.specs.Choice.{pick}
use Rattle.text.specs.Order.{order}
use Rattle.text.specs.declared.Integer.{Integer}
use Rattle.std.specs.declared.cmp.Ordering.{Ordering as Order}
use Rattle.syntax.specs.Op.{JOIN, POWER, TIMES, OVER, REMAINDER, PLUS, MINUS, TEXT_EQUAL, MATCHES, EQUAL, AT_LEAST, FLOAT_POWER, FLOAT_TIMES, FLOAT_OVER, FLOAT_PLUS, FLOAT_MINUS, FLOAT_LESS, FLOAT_GREATER, FLOAT_AT_MOST, FLOAT_AT_LEAST, BOTH, EITHER}
use Rattle.float.specs.Operations as Floats
use Rattle.expression.specs.Value.{Value, test, fault, on_text, on_integer, on_test, on_float}
use Rattle.expression.specs.Integers.{plus, minus, times, over, remainder, power, compared}
use Rattle.expression.specs.Operations.{held, matched, valued, is_less, is_equal, is_greater}

-- the comparisons are numbered alike for strings and for integers: == != < > <= >=
unfoldable pub relates_by : ℕ → Order → Bool
relates_by k o =
    pick (eqb k 0) (is_equal o)
    (pick (eqb k 1) (not (is_equal o))
    (pick (eqb k 2) (is_less o)
    (pick (eqb k 3) (is_greater o)
    (pick (eqb k 4) (not (is_greater o)) (not (is_less o))))))

-- two integers; a comparison is any but the operators that give an integer
unfoldable pub arithmetic : ℕ → Integer → Integer → Value
arithmetic op a b =
    pick (eqb op POWER) (power a b)
    (pick (eqb op TIMES) (times a b)
    (pick (eqb op OVER) (over a b)
    (pick (eqb op REMAINDER) (remainder a b)
    (pick (eqb op PLUS) (plus a b)
    (pick (eqb op MINUS) (minus a b) (test (relates_by (op - EQUAL) (compared a b))))))))

-- two strings: ".", "~=" or a comparison, "by byte; a proper prefix is less"
unfoldable pub textual : ℕ → List ℕ → List ℕ → Value
textual op a b = pick (eqb op JOIN) (held (a ++ b)) (pick (eqb op MATCHES) (matched a b) (test (relates_by (op - TEXT_EQUAL) (order a b))))

-- two floats
unfoldable pub ordered_by : ℕ → Float → Float → Bool
ordered_by op a b = pick (eqb op FLOAT_LESS) (lt a b) (pick (eqb op FLOAT_GREATER) (lt b a) (pick (eqb op FLOAT_AT_MOST) (le a b) (le b a)))

unfoldable pub floating : ℕ → Float → Float → Value
floating op a b =
    pick (eqb op FLOAT_POWER) (valued (Floats.power a b))
    (pick (eqb op FLOAT_TIMES) (valued (Floats.times a b))
    (pick (eqb op FLOAT_OVER) (valued (Floats.over a b))
    (pick (eqb op FLOAT_PLUS) (valued (Floats.plus a b))
    (pick (eqb op FLOAT_MINUS) (valued (Floats.minus a b)) (test (ordered_by op a b))))))

-- "&& and || go left to right and stop once decided"
unfoldable pub logical : ℕ → Bool → Value → Value
logical op t w = pick (eqb op BOTH) (pick t (on_test test w) (test false)) (pick t (test true) (on_test test w))

-- operators on strings, on integers, on floats and on tests
unfoldable pub of_texts : ℕ → Value → Value → Value
of_texts op v w = on_text (λ a. on_text (λ b. textual op a b) w) v

unfoldable pub of_integers : ℕ → Value → Value → Value
of_integers op v w = on_integer (λ a. on_integer (λ b. arithmetic op a b) w) v

unfoldable pub of_floats : ℕ → Value → Value → Value
of_floats op v w = on_float (λ a. on_float (λ b. floating op a b) w) v

unfoldable pub of_tests : ℕ → Value → Value → Value
of_tests op v w = on_test (λ t. logical op t w) v

unfoldable pub is_textual : ℕ → Bool
is_textual op = pick (eqb op JOIN) true (pick (leb op MINUS) false (leb op MATCHES))

unfoldable pub binary_by : ℕ → Value → Value → Value
binary_by op v w =
    pick (is_textual op) (of_texts op v w)
    (pick (leb op AT_LEAST) (of_integers op v w)
    (pick (leb op FLOAT_AT_LEAST) (of_floats op v w)
    (pick (leb op EITHER) (of_tests op v w) fault)))
