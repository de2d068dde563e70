-- What an operator's number gives is what the operator gives. Assumes nothing.
use Rattle.std.specs.Prelude.{◌≡◌, refl, false, List, ℕ}
use Rattle.text.specs.Choice.{clash}
use Rattle.syntax.specs.Operator.{Unary, Binary, is_lookup, lookup, convert, negate, opposite, to-float, float-negate, join, power, times, over, remainder, plus, minus, comparison, matches, float-power, float-times, float-over, float-plus, float-minus, float-order, both, either, strings, integers, equal, unequal, less, greater, at_most, at_least, float-less, float-greater, float_at_most, float-at-least}
use Rattle.syntax.specs.Operation.{unary_number, binary_number}
use Rattle.expression.specs.Value.{Value}
use Rattle.expression.specs.Operations.{relates, ordered, on_texts, on_integers, on_floats, unary_of, binary_of}
use Rattle.expression.specs.Working.Numbered.{relates_by, arithmetic, textual, logical, ordered_by, floating, of_texts, of_integers, of_floats, of_tests, is_textual, binary_by}
use Rattle.expression.specs.Working.Clauses.{applied}

-- the machine looks "$" up by itself
pub unary-number : (vals : List (List ℕ)) (look : List ℕ → List ℕ) (op : Unary) (v : Value) → is_lookup op ≡ false → applied vals (unary_number op) v ≡ unary_of look op v
unfolding applied unary_of
unary-number vals look lookup v h = clash refl h
unary-number vals look convert v h = refl
unary-number vals look negate v h = refl
unary-number vals look opposite v h = refl
unary-number vals look to-float v h = refl
unary-number vals look float-negate v h = refl

pub binary-number : (op : Binary) (v w : Value) → binary_by (binary_number op) v w ≡ binary_of op v w
unfolding binary_by binary_of on_texts on_integers on_floats relates relates_by ordered ordered_by arithmetic textual logical floating of_texts of_integers of_floats of_tests is_textual
binary-number join v w = refl
binary-number power v w = refl
binary-number times v w = refl
binary-number over v w = refl
binary-number remainder v w = refl
binary-number plus v w = refl
binary-number minus v w = refl
binary-number (comparison strings equal) v w = refl
binary-number (comparison strings unequal) v w = refl
binary-number (comparison strings less) v w = refl
binary-number (comparison strings greater) v w = refl
binary-number (comparison strings at_most) v w = refl
binary-number (comparison strings at_least) v w = refl
binary-number (comparison integers equal) v w = refl
binary-number (comparison integers unequal) v w = refl
binary-number (comparison integers less) v w = refl
binary-number (comparison integers greater) v w = refl
binary-number (comparison integers at_most) v w = refl
binary-number (comparison integers at_least) v w = refl
binary-number matches v w = refl
binary-number float-power v w = refl
binary-number float-times v w = refl
binary-number float-over v w = refl
binary-number float-plus v w = refl
binary-number float-minus v w = refl
binary-number (float-order float-less) v w = refl
binary-number (float-order float-greater) v w = refl
binary-number (float-order float_at_most) v w = refl
binary-number (float-order float-at-least) v w = refl
binary-number both v w = refl
binary-number either v w = refl
