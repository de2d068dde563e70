-- Worked examples of lines and tokens. Assumes nothing.
use Rattle.std.specs.Prelude.{◌≡◌, refl, [], ◌∷◌}
use Rattle.text.specs.Loop.{turns, loop}
use Rattle.text.specs.Scan.{past}
use Rattle.lexical.specs.Kind.{opened, mode_after}
use Rattle.lexical.specs.Class.{class_of}
use Rattle.lexical.specs.Run.{has_class, in_run}
use Rattle.lexical.specs.Word.{lower, stands}
use Rattle.lexical.specs.Label.{label_kind}
use Rattle.lexical.specs.Operator.{equal_pair, pair_of, mark_kind, is_of, operator_kind}
use Rattle.lexical.specs.Unit.{octal, control, coded, octal_unit, escape_unit, barred, unit_at}
use Rattle.lexical.specs.Literal.{units, units_at, literal_end}
use Rattle.lexical.specs.Token.{token, width_of, operator_at, operator_token, literal_token, float_end, number_token, token_from}
use Rattle.lexical.specs.Line.{rest_of_line, visible, in_line, blank_to, indented, line_at, lines_from, token_at}
use Rattle.lexical.specs.Tokens.{tokens_to, tokens_from, tokens}

-- "\0" begins a line: reason 3
pub nul-line : tokens (0 ∷ []) ≡ token 3 0 0 ∷ []
unfolding tokens tokens_from tokens_to mode_after opened token_at lines_from loop turns line_at blank_to indented in_line visible rest_of_line label_kind stands lower token_from width_of operator_token operator_at operator_kind is_of pair_of equal_pair mark_kind literal_token float_end number_token literal_end units_at units unit_at past in_run has_class class_of barred escape_unit control octal octal_unit coded
nul-line = refl

-- "Blank lines (only spaces and tabs)"
pub blank-line : tokens (65 ∷ 117 ∷ 116 ∷ 104 ∷ 111 ∷ 114 ∷ 105 ∷ 122 ∷ 101 ∷ 114 ∷ 58 ∷ 32 ∷ 34 ∷ 97 ∷ 34 ∷ 10 ∷ 32 ∷ []) ≡ token 6 0 11 ∷ token 11 12 15 ∷ token 3 16 16 ∷ []
unfolding tokens tokens_from tokens_to mode_after opened token_at lines_from loop turns line_at blank_to indented in_line visible rest_of_line label_kind stands lower token_from width_of operator_token operator_at operator_kind is_of pair_of equal_pair mark_kind literal_token float_end number_token literal_end units_at units unit_at past in_run has_class class_of barred escape_unit control octal octal_unit coded
blank-line = refl

-- "A newline that ends the text starts no further line."
pub last-newline : tokens (65 ∷ 117 ∷ 116 ∷ 104 ∷ 111 ∷ 114 ∷ 105 ∷ 122 ∷ 101 ∷ 114 ∷ 58 ∷ 32 ∷ 34 ∷ 97 ∷ 34 ∷ 10 ∷ []) ≡ token 6 0 11 ∷ token 11 12 15 ∷ token 0 16 16 ∷ []
unfolding tokens tokens_from tokens_to mode_after opened token_at lines_from loop turns line_at blank_to indented in_line visible rest_of_line label_kind stands lower token_from width_of operator_token operator_at operator_kind is_of pair_of equal_pair mark_kind literal_token float_end number_token literal_end units_at units unit_at past in_run has_class class_of barred escape_unit control octal octal_unit coded
last-newline = refl

-- "|" is no token
pub bar : tokens (108 ∷ 105 ∷ 99 ∷ 101 ∷ 110 ∷ 115 ∷ 101 ∷ 101 ∷ 115 ∷ 58 ∷ 124 ∷ []) ≡ token 7 0 10 ∷ token 1 10 10 ∷ []
unfolding tokens tokens_from tokens_to mode_after opened token_at lines_from loop turns line_at blank_to indented in_line visible rest_of_line label_kind stands lower token_from width_of operator_token operator_at operator_kind is_of pair_of equal_pair mark_kind literal_token float_end number_token literal_end units_at units unit_at past in_run has_class class_of barred escape_unit control octal octal_unit coded
bar = refl

-- "a NUL in a comment: that byte"
pub hidden-nul : tokens (35 ∷ 0 ∷ []) ≡ token 1 1 1 ∷ []
unfolding tokens tokens_from tokens_to mode_after opened token_at lines_from loop turns line_at blank_to indented in_line visible rest_of_line label_kind stands lower token_from width_of operator_token operator_at operator_kind is_of pair_of equal_pair mark_kind literal_token float_end number_token literal_end units_at units unit_at past in_run has_class class_of barred escape_unit control octal octal_unit coded
hidden-nul = refl

-- "in Licensees "-of""
pub of : tokens (76 ∷ 105 ∷ 99 ∷ 101 ∷ 110 ∷ 115 ∷ 101 ∷ 101 ∷ 115 ∷ 58 ∷ 50 ∷ 45 ∷ 111 ∷ 102 ∷ 40 ∷ []) ≡ token 7 0 10 ∷ token 13 10 11 ∷ token 15 11 14 ∷ token 24 14 15 ∷ token 0 15 15 ∷ []
unfolding tokens tokens_from tokens_to mode_after opened token_at lines_from loop turns line_at blank_to indented in_line visible rest_of_line label_kind stands lower token_from width_of operator_token operator_at operator_kind is_of pair_of equal_pair mark_kind literal_token float_end number_token literal_end units_at units unit_at past in_run has_class class_of barred escape_unit control octal octal_unit coded
of = refl

-- Comment has no tokens; "longest reading"
pub longest : tokens (67 ∷ 111 ∷ 109 ∷ 109 ∷ 101 ∷ 110 ∷ 116 ∷ 58 ∷ 34 ∷ 10 ∷ 32 ∷ 120 ∷ 10 ∷ 67 ∷ 111 ∷ 110 ∷ 100 ∷ 105 ∷ 116 ∷ 105 ∷ 111 ∷ 110 ∷ 115 ∷ 58 ∷ 45 ∷ 45 ∷ 62 ∷ 49 ∷ 46 ∷ 53 ∷ 46 ∷ []) ≡ token 9 0 8 ∷ token 8 13 24 ∷ token 39 24 25 ∷ token 16 25 27 ∷ token 14 27 30 ∷ token 34 30 31 ∷ token 0 31 31 ∷ []
unfolding tokens tokens_from tokens_to mode_after opened token_at lines_from loop turns line_at blank_to indented in_line visible rest_of_line label_kind stands lower token_from width_of operator_token operator_at operator_kind is_of pair_of equal_pair mark_kind literal_token float_end number_token literal_end units_at units unit_at past in_run has_class class_of barred escape_unit control octal octal_unit coded
longest = refl
