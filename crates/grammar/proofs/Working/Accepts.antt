-- The automaton goes through every sentence of Conditions. Assumes nothing.
use Rattle.std.specs.Prelude.{◌≡◌, refl, true, List, [], ◌∷◌, ◌++◌, ℕ, suc}
use Rattle.std.proofs.Common.{sym, ap, ◌∙◌, append_assoc}
use Rattle.lexical.specs.Kind
use Rattle.conditions.specs.Table.{want-integer, want-float}
use Rattle.grammar.specs.Fields.{field}
use Rattle.grammar.specs.Conditions.{Class, operand, power, product, conjunction, whole, Str, str-literal, str-name, str-lookup, str-bracket, str-one, str-join, Int, int-literal, int-minus, int-convert, int-bracket, int-one, int-power, int_up, int-product, int-term, int-sum, Float, float-literal, float-minus, float_convert, float-bracket, float_one, float-power, float_up, float-product, float-term, float-sum, Comparison, of-integers, of-floats, of-strings, matching, Tests, test-truth, test-comparison, test-not, test-bracket, test-one, test-and, test-ands, test-or, Clauses, no-clause, clause, tested, valued, nested, Conditions}
use Rattle.grammar.specs.Viable.{Viable}
use Rattle.grammar.specs.Working.Automaton.{run, not-viable, not-longer}
use Rattle.grammar.specs.Working.States.{TEXT, NUMBER, TRUE, FLOATING, Spot, in-clause, in-bracket, Frame, tests, right, value, State, p-dead, p-over, p-begin, p-arrow, p-block, p-any, p-text, p-number, p-have, strict, step}
use Rattle.grammar.specs.Working.Accepts.{Gone, Held, Leads, Wants, Words, ampersand-text, any-float, any-integer, any-sort, arrow-run, as-text, at-text, behind-arrow, behind-mark, behind-semicolon, block-ends, brace-closes, brace-opens, clause-test, digits-have, ends-over, first_part, float-compare, float-have, float-wanted, gone, h-float, h-number, h-text, h-word, held-close, in-brackets, in-front, integer-wanted, junction-and, junction-or, literal-any, lookup-any, loosened, minus-again, name-any, not-any, number-compare, open-inside, open_any, over-dead, power-float, power-number, product-number, step-dead, step-over, sum-float, sum_number, text-run, through-part, times-float, truth-any, two, two-tests, value-ends, w-text, words-close, words-compare, words-dot, words-match, words-on}

pub int-run : (c : Class) (ks : List ℕ) → Int c ks → (q : State) (F : Frame) → Wants NUMBER q F → run step q ks ≡ p-have NUMBER F
int-run _ _ int-literal q F w = digits-have q F w
int-run _ _ (int-minus ks i) q F w = behind-mark NUMBER q F ks Kind.MINUS (minus-again NUMBER q F w) (λ r v. int-run operand ks i r F v)
int-run _ _ (int-convert ks s) q F w = first_part q (p-text NUMBER F) ks Kind.AT (at-text q F w) ∙ text-run operand ks s NUMBER F any-sort
int-run _ _ (int-bracket ks i) q F w = in-brackets NUMBER q F ks (open-inside NUMBER q F w) (λ r G v. int-run whole ks i r G v)
int-run _ _ (int-one ks i) q F w = int-run operand ks i q F w
int-run _ _ (int-power ks ls i j) q F w =
    two q (p-have NUMBER F) (p-number want-integer F) ks ls Kind.POWER (int-run power ks i q F w) (power-number F) (int-run operand ls j (p-number want-integer F) F (integer-wanted F))
int-run _ _ (int_up ks i) q F w = int-run power ks i q F w
int-run _ _ (int-product o ks ls p i j) q F w =
    two q (p-have NUMBER F) (p-number want-integer F) ks ls o (int-run product ks i q F w) (product-number F o p) (int-run power ls j (p-number want-integer F) F (integer-wanted F))
int-run _ _ (int-term ks i) q F w = int-run product ks i q F w
int-run _ _ (int-sum o ks ls p i j) q F w =
    two q (p-have NUMBER F) (p-number want-integer F) ks ls o (int-run whole ks i q F w) (sum_number F o p) (int-run product ls j (p-number want-integer F) F (integer-wanted F))

pub float-run : (c : Class) (ks : List ℕ) → Float c ks → (q : State) (F : Frame) → Wants FLOATING q F → run step q ks ≡ p-have FLOATING F
float-run _ _ float-literal q F w = float-have q F w
float-run _ _ (float-minus ks i) q F w = behind-mark FLOATING q F ks Kind.MINUS (minus-again FLOATING q F w) (λ r v. float-run operand ks i r F v)
float-run _ _ (float_convert ks s) q F w = first_part q (p-text FLOATING F) ks Kind.AMPERSAND (ampersand-text q F w) ∙ text-run operand ks s FLOATING F any-sort
float-run _ _ (float-bracket ks i) q F w = in-brackets FLOATING q F ks (open-inside FLOATING q F w) (λ r G v. float-run whole ks i r G v)
float-run _ _ (float_one ks i) q F w = float-run operand ks i q F w
float-run _ _ (float-power ks ls i j) q F w =
    two q (p-have FLOATING F) (p-number want-float F) ks ls Kind.POWER (float-run power ks i q F w) (power-float F) (float-run operand ls j (p-number want-float F) F (float-wanted F))
float-run _ _ (float_up ks i) q F w = float-run power ks i q F w
float-run _ _ (float-product o ks ls p i j) q F w =
    two q (p-have FLOATING F) (p-number want-float F) ks ls o (float-run product ks i q F w) (times-float F o p) (float-run power ls j (p-number want-float F) F (float-wanted F))
float-run _ _ (float-term ks i) q F w = float-run product ks i q F w
float-run _ _ (float-sum o ks ls p i j) q F w =
    two q (p-have FLOATING F) (p-number want-float F) ks ls o (float-run whole ks i q F w) (sum-float F o p) (float-run product ls j (p-number want-float F) F (float-wanted F))

string-any : (c : Class) (ks : List ℕ) → Str c ks → (S : Spot) → Gone (Words S) (p-any S) ks
string-any _ _ str-literal S = gone TEXT (tests S) w-text (literal-any S)
string-any _ _ (str-name k n) S = name-any S k n
string-any _ _ (str-lookup ks s) S =
    gone TEXT (tests S) w-text (first_part (p-any S) (p-text TEXT (tests S)) ks Kind.DOLLAR (lookup-any S) ∙ text-run operand ks s TEXT (tests S) any-sort)
string-any _ _ (str-bracket ks s) S =
    in-front (Words S) (p-any S) (p-any (in-bracket true S)) (ks ++ Kind.CLOSE ∷ []) Kind.OPEN (open_any S)
    (words-close S (p-any (in-bracket true S)) ks (string-any whole ks s (in-bracket true S)))
string-any _ _ (str-one ks s) S = string-any operand ks s S
string-any _ _ (str-join ks ls s u) S =
    gone TEXT (tests S) w-text
    (words-on S (p-any S) (p-text TEXT (tests S)) ks ls Kind.DOT (words-dot S) (string-any whole ks s S) ∙ text-run operand ls u TEXT (tests S) any-sort)

comparison-run : (ks : List ℕ) → Comparison ks → (S : Spot) → Gone (Held S) (p-any S) ks
comparison-run _ (of-integers o ks ls c i j) S =
    gone NUMBER (right (strict S)) h-number
    (through-part (p-any S) (p-have NUMBER (tests S)) (p-number want-integer (right (strict S))) ks ls o (int-run whole ks i (p-any S) (tests S) (any-integer S)) (number-compare S o c)
    ∙ int-run whole ls j (p-number want-integer (right (strict S))) (right (strict S)) (integer-wanted (right (strict S))))
comparison-run _ (of-floats o ks ls c i j) S =
    gone FLOATING (right (strict S)) h-float
    (through-part (p-any S) (p-have FLOATING (tests S)) (p-number want-float (right (strict S))) ks ls o (float-run whole ks i (p-any S) (tests S) (any-float S)) (float-compare S o c)
    ∙ float-run whole ls j (p-number want-float (right (strict S))) (right (strict S)) (float-wanted (right (strict S))))
comparison-run _ (of-strings o ks ls c i j) S =
    gone TEXT (right (strict S)) h-text
    (words-on S (p-any S) (p-text TEXT (right (strict S))) ks ls o (words-compare S o c) (string-any whole ks i S) ∙ text-run whole ls j TEXT (right (strict S)) (as-text refl))
comparison-run _ (matching ks ls i j) S =
    gone TEXT (right (strict S)) h-text
    (words-on S (p-any S) (p-text TEXT (right (strict S))) ks ls Kind.MATCHES (words-match S) (string-any whole ks i S) ∙ text-run whole ls j TEXT (right (strict S)) (as-text refl))

test-run : (c : Class) (ks : List ℕ) → Tests c ks → (S : Spot) → Gone (Held S) (p-any S) ks
test-run _ _ test-truth S = gone TRUE (tests S) h-word (truth-any S)
test-run _ _ (test-comparison ks c) S = comparison-run ks c S
test-run _ _ (test-not ks u) S = loosened S (p-any S) (Kind.NOT ∷ ks) (in-front (Held (strict S)) (p-any S) (p-any (strict S)) ks Kind.NOT (not-any S) (test-run operand ks u (strict S)))
test-run _ _ (test-bracket ks u) S =
    in-front (Held S) (p-any S) (p-any (in-bracket true S)) (ks ++ Kind.CLOSE ∷ []) Kind.OPEN (open_any S) (held-close S (p-any (in-bracket true S)) ks (test-run whole ks u (in-bracket true S)))
test-run _ _ (test-one ks u) S = test-run operand ks u S
test-run _ _ (test-and ks ls u v) S = two-tests S (p-any S) ks ls Kind.AND junction-and (test-run conjunction ks u S) (test-run operand ls v (strict S))
test-run _ _ (test-ands ks u) S = test-run conjunction ks u S
test-run _ _ (test-or ks ls u v) S = two-tests S (p-any S) ks ls Kind.OR junction-or (test-run whole ks u S) (test-run conjunction ls v (strict S))

clauses-run : (c : Class) (ks : List ℕ) → Clauses c ks → (d : ℕ) → Leads c d ks
clauses-run _ _ no-clause d = refl
clauses-run _ _ (clause ks ls c p) d = clauses-run operand ks c d ls ∙ clauses-run whole ls p d
clauses-run _ _ (tested ks u) d = λ ls. clause-test d Kind.SEMICOLON (p-begin d) ks ls behind-semicolon (test-run whole ks u (in-clause d))
clauses-run _ _ (valued ks ms u v) d =
    λ ls. ap (run step (p-begin d)) (append_assoc ks (Kind.ARROW ∷ ms) (Kind.SEMICOLON ∷ ls))
    ∙ clause-test d Kind.ARROW (p-arrow d) ks (ms ++ Kind.SEMICOLON ∷ ls) behind-arrow (test-run whole ks u (in-clause d))
    ∙ through-part (p-arrow d) (p-have TEXT (value d)) (p-begin d) ms ls Kind.SEMICOLON (arrow-run d ms TEXT (value d) (text-run whole ms v TEXT (value d) (as-text refl))) (value-ends d)
clauses-run _ _ (nested ks ms u p) d =
    λ ls. ap (run step (p-begin d)) (append_assoc ks (Kind.ARROW ∷ Kind.OPEN_BRACE ∷ (ms ++ Kind.CLOSE_BRACE ∷ [])) (Kind.SEMICOLON ∷ ls))
    ∙ clause-test d Kind.ARROW (p-arrow d) ks (Kind.OPEN_BRACE ∷ ((ms ++ Kind.CLOSE_BRACE ∷ []) ++ Kind.SEMICOLON ∷ ls)) behind-arrow (test-run whole ks u (in-clause d))
    ∙ first_part (p-arrow d) (p-begin (suc d)) ((ms ++ Kind.CLOSE_BRACE ∷ []) ++ Kind.SEMICOLON ∷ ls) Kind.OPEN_BRACE (brace-opens d)
    ∙ through-part (p-begin (suc d)) (p-block d) (p-begin d) (ms ++ Kind.CLOSE_BRACE ∷ []) ls Kind.SEMICOLON
    (through-part (p-begin (suc d)) (p-begin (suc d)) (p-block d) ms [] Kind.CLOSE_BRACE (clauses-run whole ms p (suc d)) (brace-closes d)) (block-ends d)

field-over : (ks : List ℕ) → Conditions ks → run step (p-begin 0) ks ≡ p-over
field-over _ (field ks e g en) = through-part (p-begin 0) (p-begin 0) p-over ks [] e (clauses-run whole ks g 0) (ends-over e en)

-- what the automaton rejects begins no sentence
pub conditions-dead : (ks : List ℕ) → run step (p-begin 0) ks ≡ p-dead → Viable Conditions ks → ⊥
conditions-dead = not-viable step p-dead step-dead Conditions (p-begin 0) (λ ks g z. over-dead (sym (field-over ks g) ∙ z))

pub conditions-over : (ks : List ℕ) (k : ℕ) (more : List ℕ) → Conditions ks → Conditions (ks ++ k ∷ more) → ⊥
conditions-over = not-longer step p-dead step-dead Conditions (p-begin 0) p-over field-over step-over over-dead
