-- Worked examples of how operators group, which antt computes. Assumes nothing.
use Rattle.std.specs.Prelude.{◌≡◌, refl, true, false, List, [], ◌∷◌, ℕ}
use Rattle.text.specs.Scan.{past}
use Rattle.text.specs.Digits.{digits_at, value, value_from}
use Rattle.text.specs.Class.{in_class, is_digit, is_word, is_letter}
use Rattle.text.specs.Loop.{loop, turns}
use Rattle.lexical.specs.Kind
use Rattle.lexical.specs.Class.{class_of}
use Rattle.lexical.specs.Run.{has_class, in_run}
use Rattle.lexical.specs.Number as Number
use Rattle.lexical.specs.Operator.{equal_pair, pair_of, mark_kind, is_of, operator_kind}
use Rattle.lexical.specs.Word.{lower, stands, spells}
use Rattle.lexical.specs.Token.{token, width_of, operator_at, operator_token, float_end, number_token, token_from}
use Rattle.lexical.specs.Line.{visible, in_line, token_at}
use Rattle.syntax.specs.Operator as Operator
use Rattle.syntax.specs.Expr.{name, number, truth, decimal, unary, binary}
use Rattle.syntax.specs.Code.{name_at, number_from, decimal_at}
use Rattle.conditions.specs.Table
use Rattle.conditions.specs.Word.{next_at, word_sort}
use Rattle.syntax.specs.Parsed.{ok, aside}
use Rattle.conditions.specs.Parsed.{part}
use Rattle.conditions.specs.Operand.{read_leaf, read_name, read_digits, read_float, settled_tree, applied}
use Rattle.conditions.specs.Expression.{read_expression}

-- `-2^3^2==4;` is ((-2)^3)^2 == 4
abbrev powers : List ℕ
powers = 32 ∷ 45 ∷ 50 ∷ 94 ∷ 51 ∷ 94 ∷ 50 ∷ 61 ∷ 61 ∷ 52 ∷ 59 ∷ []

powers-group : read_expression 20 powers 0 Table.want-any 0 0 (next_at powers 1)
    ≡ ok (part (Table.sorted Operator.a_test) (binary (Operator.comparison Operator.integers Operator.equal) (binary Operator.power (binary Operator.power (unary Operator.negate (number 2)) (number 3)) (number 2)) (number 4))) (token Kind.SEMICOLON 10 11)
unfolding read_expression read_leaf read_digits settled_tree applied loop turns token_at in_line visible token_from number_token float_end operator_token operator_at operator_kind equal_pair pair_of mark_kind is_of width_of class_of has_class in_run past Number.number_at number_from digits_at value value_from in_class is_digit Table.allows Table.begins_string Table.begins_number Table.begins_float Table.prefix_operator Table.operand_level Table.operand_want Table.fits Table.operator Table.number_operator Table.text_operator Table.test_operator Table.comparison Table.binds Table.level_of Table.right_level Table.right_want
powers-group = refl

-- `!1==2-3-4*5&&true||false;` is ((!(1 == (2 - 3) - (4 * 5))) && true) || false
abbrev tests : List ℕ
tests = 32 ∷ 33 ∷ 49 ∷ 61 ∷ 61 ∷ 50 ∷ 45 ∷ 51 ∷ 45 ∷ 52 ∷ 42 ∷ 53 ∷ 38 ∷ 38 ∷ 116 ∷ 114 ∷ 117 ∷ 101 ∷ 124 ∷ 124 ∷ 102 ∷ 97 ∷ 108 ∷ 115 ∷ 101 ∷ 59 ∷ []

tests-group : read_expression 30 tests 0 Table.want-any 0 0 (next_at tests 1)
    ≡ ok (part (Table.sorted Operator.a_test) (binary Operator.either
    (binary Operator.both (unary Operator.opposite (binary (Operator.comparison Operator.integers Operator.equal) (number 1) (binary Operator.minus (binary Operator.minus (number 2) (number 3)) (binary Operator.times (number 4) (number 5))))) (truth true))
    (truth false))) (token Kind.SEMICOLON 25 26)
unfolding read_expression read_leaf read_name read_digits word_sort spells stands lower settled_tree applied loop turns token_at in_line visible token_from number_token float_end operator_token operator_at operator_kind equal_pair pair_of mark_kind is_of width_of class_of has_class in_run past Number.number_at number_from digits_at value value_from in_class is_digit Table.allows Table.begins_string Table.begins_number Table.begins_float Table.prefix_operator Table.operand_level Table.operand_want Table.fits Table.operator Table.number_operator Table.text_operator Table.test_operator Table.comparison Table.binds Table.level_of Table.right_level Table.right_want
tests-group = refl

-- `-(1.5)<-&x+4.0;`: each unary "-" is that of floats
abbrev floats : List ℕ
floats = 32 ∷ 45 ∷ 40 ∷ 49 ∷ 46 ∷ 53 ∷ 41 ∷ 60 ∷ 45 ∷ 38 ∷ 120 ∷ 43 ∷ 52 ∷ 46 ∷ 48 ∷ 59 ∷ []

floats-group : read_expression 30 floats 0 Table.want-any 0 0 (next_at floats 1)
    ≡ ok (part (Table.sorted Operator.a_test) (binary (Operator.float-order Operator.float-less) (unary Operator.float-negate (decimal (49 ∷ 46 ∷ 53 ∷ [])))
    (binary Operator.float-plus (unary Operator.float-negate (unary Operator.to-float (name (120 ∷ [])))) (decimal (52 ∷ 46 ∷ 48 ∷ []))))) (token Kind.SEMICOLON 15 16)
unfolding read_expression read_leaf read_name read_float word_sort settled_tree applied loop turns token_at in_line visible token_from number_token float_end operator_token operator_at operator_kind equal_pair pair_of mark_kind is_of width_of class_of has_class in_run past name_at decimal_at in_class is_digit is_word is_letter Table.allows Table.begins_string Table.begins_number Table.begins_float Table.prefix_operator Table.operand_level Table.operand_want Table.fits Table.operator Table.float_operator Table.ordering Table.text_operator Table.test_operator Table.comparison Table.binds Table.level_of Table.right_level Table.right_want Table.inside_level
floats-group = refl

-- "Equality tests of floats are refused": `1.5==2` is read as a float, and "==" stands behind it
abbrev equals : List ℕ
equals = 32 ∷ 49 ∷ 46 ∷ 53 ∷ 61 ∷ 61 ∷ 50 ∷ 59 ∷ []

equals-stop : read_expression 20 equals 0 Table.want-any 0 0 (next_at equals 1) ≡ ok (part (Table.sorted Operator.a-float) (decimal (49 ∷ 46 ∷ 53 ∷ []))) (token Kind.EQUAL 4 6)
unfolding read_expression read_leaf read_float loop turns token_at in_line visible token_from number_token float_end operator_token operator_at operator_kind equal_pair pair_of mark_kind is_of width_of class_of has_class in_run past decimal_at in_class is_digit Table.allows Table.begins_string Table.begins_number Table.begins_float Table.prefix_operator Table.operator Table.float_operator Table.ordering Table.binds
equals-stop = refl

-- "at most 18 digits": `1.000000000000000000` has nineteen
abbrev long : List ℕ
long = 49 ∷ 46 ∷ 48 ∷ 48 ∷ 48 ∷ 48 ∷ 48 ∷ 48 ∷ 48 ∷ 48 ∷ 48 ∷ 48 ∷ 48 ∷ 48 ∷ 48 ∷ 48 ∷ 48 ∷ 48 ∷ 48 ∷ 48 ∷ 59 ∷ []

long-refused : read_expression 20 (32 ∷ long) 0 Table.want-any 0 0 (next_at (32 ∷ long) 1) ≡ aside 7 1
unfolding read_expression read_leaf read_float loop turns token_at in_line visible token_from number_token float_end operator_token operator_at operator_kind equal_pair pair_of mark_kind is_of width_of class_of has_class in_run past in_class is_digit Table.allows Table.begins_string Table.begins_number Table.begins_float Table.prefix_operator
long-refused = refl
