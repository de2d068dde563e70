-- The lexer gives no kind beyond its own: TRUTH is none of them. Assumes nothing.
use Rattle.std.proofs.Common.{subst, arith}
use Rattle.std.specs.Prelude.{Bool, List, ℕ, ◌+◌, ◌-◌, ◌<◌, eqb, leb, ltb, length, get_or}
use Rattle.text.specs.Choice.{pick}
use Rattle.text.specs.Loop.{Step, next, done, loop-ind}
use Rattle.text.specs.Scan.{past}
use Rattle.lexical.specs.Kind
use Rattle.lexical.specs.Theorems.Bounds.{chosen}
use Rattle.lexical.specs.Class.{or, within, mark_of, class_of, BAR, TILDE, LETTER, DIGIT, QUOTE, BLANK, NEWLINE, HASH}
use Rattle.lexical.specs.Run.{in_run, BLANKS, FREE, NUMERALS}
use Rattle.lexical.specs.Label.{label_kind, word_keynote_version, word_local_constants, word_authorizer, word_licensees, word_conditions, word_comment, word_signature}
use Rattle.lexical.specs.Word.{stands}
use Rattle.lexical.specs.Literal.{literal_end}
use Rattle.lexical.specs.Operator.{equal_pair, pair_of, mark_kind, is_of, operator_kind}
use Rattle.lexical.specs.Token.{end_of, operator_at, operator_token, literal_token, float_end, number_token, token_from}
use Rattle.lexical.specs.Line.{rest_of_line, visible, in_line, blank_to, indented, line_at, line_turn, lines_from, token_at}
use Rattle.lexical.specs.declared.token.Token.{Token}
use Rattle.syntax.specs.Stood.{stood-at}
use Rattle.naming.specs.Theorems.Says.{stood-sound}
use Rattle.conditions.specs.Word.{next_at}
use Rattle.conditions.specs.Working.Pace.{next-sound}
use Rattle.grammar.specs.Conditions.{TRUTH}
use Rattle.grammar.specs.Working.Reading.{Real, real-token}

either : (b : Bool) (x y : ℕ) → x < TRUTH → y < TRUTH → pick b x y < TRUTH
either b x y h k = chosen (λ (n : ℕ). n < TRUTH) b x y (λ e. h) (λ e. k)

mark-class : (b : ℕ) → mark_of b < TRUTH
mark-class b =
    either (eqb b 40) _ _ (omega arith) (either (eqb b 41) _ _ (omega arith) (either (eqb b 123) _ _ (omega arith) (either (eqb b 125) _ _ (omega arith)
    (either (eqb b 44) _ _ (omega arith) (either (eqb b 59) _ _ (omega arith) (either (eqb b 61) _ _ (omega arith) (either (eqb b 33) _ _ (omega arith)
    (either (eqb b 60) _ _ (omega arith) (either (eqb b 62) _ _ (omega arith) (either (eqb b 46) _ _ (omega arith) (either (eqb b 36) _ _ (omega arith)
    (either (eqb b 64) _ _ (omega arith) (either (eqb b 38) _ _ (omega arith) (either (eqb b 43) _ _ (omega arith) (either (eqb b 45) _ _ (omega arith)
    (either (eqb b 42) _ _ (omega arith) (either (eqb b 47) _ _ (omega arith) (either (eqb b 37) _ _ (omega arith) (either (eqb b 94) _ _ (omega arith) (omega arith))))))))))))))))))))

class-known : (b : ℕ) → class_of b < TRUTH
unfolding class_of
class-known b =
    either (or (eqb b 32) (eqb b 9)) _ _ (omega arith) (either (eqb b 10) _ _ (omega arith) (either (or (within 97 122 b) (or (within 65 90 b) (eqb b 95))) _ _ (omega arith) (either (within 48 57 b) _ _ (omega arith)
    (either (eqb b 34) _ _ (omega arith) (either (eqb b 35) _ _ (omega arith) (either (eqb b 0) _ _ (omega arith) (either (eqb b 124) _ _ (omega arith)
    (either (eqb b 126) _ _ (omega arith) (mark-class b)))))))))

equal-known : (c : ℕ) → equal_pair c < TRUTH
unfolding equal_pair
equal-known c =
    either (eqb c Kind.ASSIGN) _ _ (omega arith) (either (eqb c Kind.NOT) _ _ (omega arith) (either (eqb c Kind.LESS) _ _ (omega arith) (either (eqb c Kind.GREATER) _ _ (omega arith)
    (either (eqb c TILDE) _ _ (omega arith) (omega arith)))))

pair-known : (c b : ℕ) → pair_of c b < TRUTH
unfolding pair_of
pair-known c b =
    either (eqb b 61) _ _ (equal-known c)
    (either (eqb b 62) _ _ (either (eqb c Kind.MINUS) _ _ (omega arith) (omega arith))
    (either (eqb b 38) _ _ (either (eqb c Kind.AMPERSAND) _ _ (omega arith) (omega arith))
    (either (eqb b 124) _ _ (either (eqb c BAR) _ _ (omega arith) (omega arith)) (omega arith))))

mark-known : (c : ℕ) → c < TRUTH → mark_kind c < TRUTH
unfolding mark_kind
mark-known c h = either (ltb c Kind.OPEN) _ _ (omega arith) h

operator-known : (mode c b d : ℕ) → c < TRUTH → operator_kind mode c b d < TRUTH
unfolding operator_kind
operator-known mode c b d h = either (is_of mode c b d) _ _ (omega arith) (either (eqb (pair_of c b) Kind.ILLEGAL) _ _ (mark-known c h) (pair-known c b))

label-known : (s : List ℕ) (i : ℕ) → label_kind s i < TRUTH
unfolding label_kind
label-known s i =
    either (stands s i word_keynote_version) _ _ (omega arith) (either (stands s i word_local_constants) _ _ (omega arith) (either (stands s i word_authorizer) _ _ (omega arith) (either (stands s i word_licensees) _ _ (omega arith)
    (either (stands s i word_conditions) _ _ (omega arith) (either (stands s i word_comment) _ _ (omega arith) (either (stands s i word_signature) _ _ (omega arith) (omega arith)))))))

-- the tokens, as the lexer finds them
abbrev Known : Token → Type 0
Known t = t.kind < TRUTH

from-known : (s : List ℕ) (mode i : ℕ) → Known (token_from s mode i)
unfolding token_from number_token literal_token operator_token operator_at
from-known s mode i =
    chosen Known (eqb (class_of (get_or s i 0)) LETTER) _ _ (λ e. omega arith)
    (λ e. chosen Known (eqb (class_of (get_or s i 0)) DIGIT) _ _
    (λ f. chosen Known (eqb (float_end s (past (in_run NUMERALS) s i)) (past (in_run NUMERALS) s i)) _ _ (λ g. omega arith) (λ g. omega arith))
    (λ f. chosen Known (eqb (class_of (get_or s i 0)) QUOTE) _ _ (λ g. chosen Known (eqb (literal_end s (i + 1)) 0) _ _ (λ h. omega arith) (λ h. omega arith)) (λ g. operator-known mode (class_of (get_or s i 0)) (get_or s (i + 1) 0) (get_or s (i + 2) 0) (class-known (get_or s i 0)))))

rest-known : (s : List ℕ) (i : ℕ) → Known (rest_of_line s i)
unfolding rest_of_line
rest-known s i =
    chosen Known (leb (length s) (past (in_run FREE) s i)) _ _ (λ e. omega arith) (λ e. chosen Known (eqb (get_or s (past (in_run FREE) s i) 0) 0) _ _ (λ f. omega arith) (λ f. omega arith))

visible-known : (s : List ℕ) (mode i : ℕ) → Known (visible s mode i)
unfolding visible
visible-known s mode i =
    chosen Known (leb (length s) i) _ _ (λ e. omega arith)
    (λ e. chosen Known (eqb (class_of (get_or s i 0)) NEWLINE) _ _ (λ f. omega arith)
    (λ f. chosen Known (eqb (class_of (get_or s i 0)) HASH) _ _ (λ g. rest-known s i) (λ g. from-known s mode i)))

in-line-known : (s : List ℕ) (mode i : ℕ) → Known (in_line s mode i)
unfolding in_line
in-line-known s mode i = chosen Known (eqb mode Kind.IN_COMMENT) _ _ (λ e. rest-known s i) (λ e. visible-known s mode (past (in_run BLANKS) s i))

indented-known : (s : List ℕ) (mode i e : ℕ) → Known (indented s mode i e)
unfolding indented
indented-known s mode i e =
    chosen Known (eqb mode Kind.BEFORE) _ _ (λ f. chosen Known (eqb (class_of (get_or s e 0)) HASH) _ _ (λ g. rest-known s e) (λ g. omega arith)) (λ f. in-line-known s mode i)

line_known : (s : List ℕ) (mode i : ℕ) → Known (line_at s mode i)
unfolding line_at
line_known s mode i =
    chosen Known (leb (length s) i) _ _ (λ e. omega arith)
    (λ e. chosen Known (blank_to s (past (in_run BLANKS) s i)) _ _ (λ f. omega arith)
    (λ f. chosen Known (eqb (class_of (get_or s i 0)) HASH) _ _ (λ g. rest-known s i)
    (λ g. chosen Known (eqb (class_of (get_or s i 0)) BLANK) _ _ (λ h. indented-known s mode i (past (in_run BLANKS) s i)) (λ h. label-known s i))))

data Turns : Step ℕ Token → Type 0 where
  turns-on : (j : ℕ) → Turns (next j)
  turns-out : (t : Token) → Known t → Turns (done t)

line-turn : (s : List ℕ) (mode i : ℕ) → Turns (line_turn s mode i)
line-turn s mode i =
    chosen Turns (leb (length s) i) _ _ (λ e. turns-out (end_of s) (omega arith))
    (λ e. chosen Turns (eqb (line_at s mode i).kind Kind.NEXT) _ _ (λ f. turns-on (line_at s mode i).end) (λ f. turns-out (line_at s mode i) (line_known s mode i)))

turned-out : (t : Token) → Turns (done t) → Known t
turned-out t (turns-out _ h) = h

lines-known : (s : List ℕ) (mode i : ℕ) → Known (lines_from s mode i)
unfolding lines_from
lines-known s mode i =
    loop-ind (λ j. length s - j) (λ j. end_of s) (line_turn s mode) (λ j t. Known t) (λ j. omega arith) (λ j t e. turned-out t (subst Turns e (line-turn s mode j))) (λ j k t e l h. h) i

token-known : (s : List ℕ) (mode at : ℕ) → Known (token_at s mode at)
unfolding token_at
token-known s mode at =
    chosen Known (eqb at 0) _ _ (λ e. lines-known s mode 0)
    (λ e. chosen Known (eqb (in_line s mode at).kind Kind.NEXT) _ _ (λ f. lines-known s mode (in_line s mode at).end) (λ f. in-line-known s mode at))

-- in a field of any mode
pub token-real : (s : List ℕ) (mode at : ℕ) → Real s (token_at s mode at)
token-real s mode at =
    real-token (stood-sound s (token_at s mode at) (stood-at s mode at)) (λ z. let k : (token_at s mode at).kind < TRUTH = token-known s mode at in let bad : ⊥ = omega (arith, k, z) in bad)

pub next-real : (s : List ℕ) (at : ℕ) → Real s (next_at s at)
next-real s at = real-token (next-sound s at) (λ z. let k : (next_at s at).kind < TRUTH = token-known s Kind.IN_FIELD at in let bad : ⊥ = omega (arith, k, z) in bad)
