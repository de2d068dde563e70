-- The automaton goes through every sentence of Conditions. Assumes nothing.
use Rattle.std.specs.Prelude.{◌≡◌, refl, true, List, [], ◌∷◌, ◌++◌, ℕ, suc, ◌⊎◌}
use Rattle.std.proofs.Common.{sym, ap, ◌∙◌, subst, arith, ne_eqb, inl, inr}
use Rattle.text.specs.Choice.{split}
use Rattle.lexical.specs.Kind
use Rattle.conditions.specs.Table.{PartSort, want-any, want-string, want-number, want-integer, want-float}
use Rattle.conditions.specs.Table
use Rattle.grammar.specs.Fields.{Ends, end-of-text, next-version, next-constants, next-authorizer, next-licensees, next-conditions, next-comment, next-signature}
use Rattle.grammar.specs.Conditions.{Class, operand, power, product, conjunction, whole, TRUTH, Name, any_name, truth-name, Str, str-literal, str-name, str-lookup, str-bracket, str-one, str-join, Product, times, divide, remainder, Sum, plus, minus, FloatTimes, float-times, float-divide, Order, less, greater, at_most, at_least, Compare, order, equal, unequal}
use Rattle.grammar.specs.Working.Automaton.{run, run-append, run-dead}
use Rattle.grammar.specs.Working.States.{TEXT, NUMBER, TEST, TRUE, FLOATING, Spot, in-clause, in-bracket, Frame, tests, right, value, texts, numbers, State, p-dead, p-over, p-begin, p-arrow, p-block, p-any, p-text, p-number, p-have, strict, flat, step}

pub step-dead : (k : ℕ) → step p-dead k ≡ p-dead
unfolding step
step-dead k = refl

-- on behind a part that was gone through
pub through-part : (q p r : State) (ks ls : List ℕ) (k : ℕ) → run step q ks ≡ p → step p k ≡ r → run step q (ks ++ k ∷ ls) ≡ run step r ls
through-part q p r ks ls k e f =
    run-append step q ks (k ∷ ls) ∙ ap (λ (x : State). run step (step x k) ls) e ∙ ap (λ (x : State). run step x ls) f

pub first_part : (q r : State) (ks : List ℕ) (k : ℕ) → step q k ≡ r → run step q (k ∷ ks) ≡ run step r ks
first_part q r ks k f = ap (λ (x : State). run step x ks) f

-- strings where a string is wanted
pub name-text : (r : PartSort) (F : Frame) (k : ℕ) → Name k → step (p-text r F) k ≡ p-have r F
unfolding step Table.allows Table.begins_string
name-text r F _ any_name = refl
name-text r F _ truth-name = refl

pub literal-text : (r : PartSort) (F : Frame) → step (p-text r F) Kind.LITERAL ≡ p-have r F
unfolding step Table.allows Table.begins_string
literal-text r F = refl

pub lookup-text : (r : PartSort) (F : Frame) → step (p-text r F) Kind.DOLLAR ≡ p-text r F
unfolding step Table.allows Table.begins_string
lookup-text r F = refl

pub open-text : (r : PartSort) (F : Frame) → step (p-text r F) Kind.OPEN ≡ p-text TEXT (texts r F)
unfolding step Table.allows
open-text r F = refl

pub close-text : (r : PartSort) (F : Frame) → step (p-have TEXT (texts r F)) Kind.CLOSE ≡ p-have r F
unfolding step Table.operator Table.text_operator Table.comparison Table.binds
close-text r F = refl

pub dot-text : (F : Frame) → step (p-have TEXT F) Kind.DOT ≡ p-text TEXT F
unfolding step Table.operator Table.text_operator Table.comparison Table.binds Table.level_of
dot-text F = refl

-- the sort of what a class of strings is: in a class above, any
pub data Shown (F : Frame) (r : PartSort) : Class → Type 0 where
  any-sort : Shown F r operand
  as-text : r ≡ TEXT → Shown F r whole

pub text-run : (c : Class) (ks : List ℕ) → Str c ks → (r : PartSort) (F : Frame) → Shown F r c → run step (p-text r F) ks ≡ p-have r F
text-run _ _ str-literal r F h = literal-text r F
text-run _ _ (str-name k n) r F h = name-text r F k n
text-run _ _ (str-lookup ks s) r F h = first_part (p-text r F) (p-text r F) ks Kind.DOLLAR (lookup-text r F) ∙ text-run operand ks s r F any-sort
text-run _ _ (str-bracket ks s) r F h =
    first_part (p-text r F) (p-text TEXT (texts r F)) (ks ++ Kind.CLOSE ∷ []) Kind.OPEN (open-text r F)
    ∙ through-part (p-text TEXT (texts r F)) (p-have TEXT (texts r F)) (p-have r F) ks [] Kind.CLOSE (text-run whole ks s TEXT (texts r F) (as-text refl)) (close-text r F)
text-run _ _ (str-one ks s) r F h = text-run operand ks s r F any-sort
text-run _ _ (str-join ks ls s u) r F (as-text e) =
    subst (λ (x : PartSort). run step (p-text x F) (ks ++ Kind.DOT ∷ ls) ≡ p-have x F) (sym e)
    (through-part (p-text TEXT F) (p-have TEXT F) (p-text TEXT F) ks ls Kind.DOT (text-run whole ks s TEXT F (as-text refl)) (dot-text F)
    ∙ text-run operand ls u TEXT F any-sort)

-- numbers: where one is wanted, and what stands around it
pub data Wants : PartSort → State → Frame → Type 0 where
  integer-wanted : (F : Frame) → Wants NUMBER (p-number want-integer F) F
  float-wanted : (F : Frame) → Wants FLOATING (p-number want-float F) F
  first-integer : (F : Frame) → Wants NUMBER (p-number want-number F) F
  first-float : (F : Frame) → Wants FLOATING (p-number want-number F) F
  any-integer : (S : Spot) → Wants NUMBER (p-any S) (tests S)
  any-float : (S : Spot) → Wants FLOATING (p-any S) (tests S)

-- behind a mark before or around an operand a number is wanted again
pub data Again (sort : PartSort) (q : State) (F : Frame) (k : ℕ) : Type 0 where
  again : (r : State) → step q k ≡ r → Wants sort r F → Again sort q F k

pub data Inside (sort : PartSort) (q : State) (F : Frame) : Type 0 where
  inside : (r : State) (G : Frame) → step q Kind.OPEN ≡ r → Wants sort r G → step (p-have sort G) Kind.CLOSE ≡ p-have sort F → Inside sort q F

pub minus-again : (sort : PartSort) (q : State) (F : Frame) → Wants sort q F → Again sort q F Kind.MINUS
unfolding step Table.allows Table.begins_number Table.begins_string Table.begins_float
minus-again _ _ F (integer-wanted _) = again (p-number want-integer F) refl (integer-wanted F)
minus-again _ _ F (float-wanted _) = again (p-number want-float F) refl (float-wanted F)
minus-again _ _ F (first-integer _) = again (p-number want-number F) refl (first-integer F)
minus-again _ _ F (first-float _) = again (p-number want-number F) refl (first-float F)
minus-again _ _ _ (any-integer S) = again (p-number want-number (tests S)) refl (first-integer (tests S))
minus-again _ _ _ (any-float S) = again (p-number want-number (tests S)) refl (first-float (tests S))

pub open-inside : (sort : PartSort) (q : State) (F : Frame) → Wants sort q F → Inside sort q F
unfolding step Table.allows Table.operator Table.number_operator Table.float_operator Table.ordering Table.comparison Table.binds
open-inside _ _ F (integer-wanted _) = inside (p-number want-integer (numbers F)) (numbers F) refl (integer-wanted (numbers F)) refl
open-inside _ _ F (float-wanted _) = inside (p-number want-float (numbers F)) (numbers F) refl (float-wanted (numbers F)) refl
open-inside _ _ F (first-integer _) = inside (p-number want-number (numbers F)) (numbers F) refl (first-integer (numbers F)) refl
open-inside _ _ F (first-float _) = inside (p-number want-number (numbers F)) (numbers F) refl (first-float (numbers F)) refl
open-inside _ _ _ (any-integer S) = inside (p-any (in-bracket true S)) (tests (in-bracket true S)) refl (any-integer (in-bracket true S)) refl
open-inside _ _ _ (any-float S) = inside (p-any (in-bracket true S)) (tests (in-bracket true S)) refl (any-float (in-bracket true S)) refl

-- a number in brackets, one behind "-", one behind a conversion, and two with an operator between them
pub in-brackets : (sort : PartSort) (q : State) (F : Frame) (ks : List ℕ) → Inside sort q F → ((r : State) (G : Frame) → Wants sort r G → run step r ks ≡ p-have sort G)
    → run step q (Kind.OPEN ∷ ks ++ Kind.CLOSE ∷ []) ≡ p-have sort F
in-brackets sort q F ks (inside r G e w c) h =
    first_part q r (ks ++ Kind.CLOSE ∷ []) Kind.OPEN e ∙ through-part r (p-have sort G) (p-have sort F) ks [] Kind.CLOSE (h r G w) c

pub behind-mark : (sort : PartSort) (q : State) (F : Frame) (ks : List ℕ) (k : ℕ) → Again sort q F k → ((r : State) → Wants sort r F → run step r ks ≡ p-have sort F) → run step q (k ∷ ks) ≡ p-have sort F
behind-mark sort q F ks k (again r e w) h = first_part q r ks k e ∙ h r w

pub two : (q p r : State) (ks ls : List ℕ) (k : ℕ) → run step q ks ≡ p → step p k ≡ r → run step r ls ≡ p → run step q (ks ++ k ∷ ls) ≡ p
two q p r ks ls k e f g = through-part q p r ks ls k e f ∙ g

pub digits-have : (q : State) (F : Frame) → Wants NUMBER q F → step q Kind.DIGITS ≡ p-have NUMBER F
unfolding step Table.allows Table.begins_number Table.begins_string Table.begins_float
digits-have _ F (integer-wanted _) = refl
digits-have _ F (first-integer _) = refl
digits-have _ _ (any-integer S) = refl

pub at-text : (q : State) (F : Frame) → Wants NUMBER q F → step q Kind.AT ≡ p-text NUMBER F
unfolding step Table.allows Table.begins_number Table.begins_string Table.begins_float
at-text _ F (integer-wanted _) = refl
at-text _ F (first-integer _) = refl
at-text _ _ (any-integer S) = refl

pub float-have : (q : State) (F : Frame) → Wants FLOATING q F → step q Kind.FLOAT ≡ p-have FLOATING F
unfolding step Table.allows Table.begins_number Table.begins_string Table.begins_float
float-have _ F (float-wanted _) = refl
float-have _ F (first-float _) = refl
float-have _ _ (any-float S) = refl

pub ampersand-text : (q : State) (F : Frame) → Wants FLOATING q F → step q Kind.AMPERSAND ≡ p-text FLOATING F
unfolding step Table.allows Table.begins_number Table.begins_string Table.begins_float
ampersand-text _ F (float-wanted _) = refl
ampersand-text _ F (first-float _) = refl
ampersand-text _ _ (any-float S) = refl

-- an operator behind a number
pub power-number : (F : Frame) → step (p-have NUMBER F) Kind.POWER ≡ p-number want-integer F
unfolding step Table.operator Table.number_operator Table.float_operator Table.ordering Table.binds Table.level_of
power-number F = refl

pub product-number : (F : Frame) (o : ℕ) → Product o → step (p-have NUMBER F) o ≡ p-number want-integer F
unfolding step Table.operator Table.number_operator Table.float_operator Table.ordering Table.binds Table.level_of
product-number F _ times = refl
product-number F _ divide = refl
product-number F _ remainder = refl

pub sum_number : (F : Frame) (o : ℕ) → Sum o → step (p-have NUMBER F) o ≡ p-number want-integer F
unfolding step Table.operator Table.number_operator Table.float_operator Table.ordering Table.binds Table.level_of
sum_number F _ plus = refl
sum_number F _ minus = refl

pub power-float : (F : Frame) → step (p-have FLOATING F) Kind.POWER ≡ p-number want-float F
unfolding step Table.operator Table.number_operator Table.float_operator Table.ordering Table.binds Table.level_of
power-float F = refl

pub times-float : (F : Frame) (o : ℕ) → FloatTimes o → step (p-have FLOATING F) o ≡ p-number want-float F
unfolding step Table.operator Table.number_operator Table.float_operator Table.ordering Table.binds Table.level_of
times-float F _ float-times = refl
times-float F _ float-divide = refl

pub sum-float : (F : Frame) (o : ℕ) → Sum o → step (p-have FLOATING F) o ≡ p-number want-float F
unfolding step Table.operator Table.number_operator Table.float_operator Table.ordering Table.binds Table.level_of
sum-float F _ plus = refl
sum-float F _ minus = refl

-- what was gone through, and of which sort in which frame it is
pub data Gone (P : PartSort → Frame → Type 0) (q : State) (ks : List ℕ) : Type 0 where
  gone : (sort : PartSort) (F : Frame) → P sort F → run step q ks ≡ p-have sort F → Gone P q ks

-- strings where a test may stand
pub data Words (S : Spot) : PartSort → Frame → Type 0 where
  w-text : Words S TEXT (tests S)
  w-word : Words S TRUE (tests S)

pub name-any : (S : Spot) (k : ℕ) → Name k → Gone (Words S) (p-any S) (k ∷ [])
unfolding step Table.allows Table.begins_string Table.begins_number Table.begins_float
name-any S _ any_name = gone TEXT (tests S) w-text refl
name-any S _ truth-name = gone TRUE (tests S) w-word refl

pub literal-any : (S : Spot) → step (p-any S) Kind.LITERAL ≡ p-have TEXT (tests S)
unfolding step Table.allows Table.begins_string Table.begins_number Table.begins_float
literal-any S = refl

pub lookup-any : (S : Spot) → step (p-any S) Kind.DOLLAR ≡ p-text TEXT (tests S)
unfolding step Table.allows Table.begins_string Table.begins_number Table.begins_float
lookup-any S = refl

pub open_any : (S : Spot) → step (p-any S) Kind.OPEN ≡ p-any (in-bracket true S)
unfolding step Table.allows
open_any S = refl

pub not-any : (S : Spot) → step (p-any S) Kind.NOT ≡ p-any (strict S)
unfolding step Table.allows Table.begins_string Table.begins_number Table.begins_float
not-any S = refl

pub words-close : (S : Spot) (q : State) (ks : List ℕ) → Gone (Words (in-bracket true S)) q ks → Gone (Words S) q (ks ++ Kind.CLOSE ∷ [])
unfolding step Table.operator Table.text_operator Table.test_operator Table.comparison Table.binds
words-close S q ks (gone _ _ w-text e) = gone TEXT (tests S) w-text (through-part q _ _ ks [] Kind.CLOSE e refl)
words-close S q ks (gone _ _ w-word e) = gone TRUE (tests S) w-word (through-part q _ _ ks [] Kind.CLOSE e refl)

pub words-dot : (S : Spot) (sort : PartSort) (F : Frame) → Words S sort F → step (p-have sort F) Kind.DOT ≡ p-text TEXT (tests S)
unfolding step Table.operator Table.text_operator Table.test_operator Table.comparison Table.binds Table.level_of
words-dot S _ _ w-text = refl
words-dot S _ _ w-word = refl

pub words-on : (S : Spot) (q r : State) (ks ls : List ℕ) (k : ℕ) → ((sort : PartSort) (F : Frame) → Words S sort F → step (p-have sort F) k ≡ r) → Gone (Words S) q ks
    → run step q (ks ++ k ∷ ls) ≡ run step r ls
words-on S q r ks ls k h (gone sort F w e) = through-part q (p-have sort F) r ks ls k e (h sort F w)

pub in-front : (P : PartSort → Frame → Type 0) (q r : State) (ks : List ℕ) (k : ℕ) → step q k ≡ r → Gone P r ks → Gone P q (k ∷ ks)
in-front P q r ks k f (gone sort F w e) = gone sort F w (first_part q r ks k f ∙ e)

-- tests: a test, the right side of a comparison, or a bare word
pub data Held (S : Spot) : PartSort → Frame → Type 0 where
  h-test : Held S TEST (tests (strict S))
  h-text : Held S TEXT (right (strict S))
  h-number : Held S NUMBER (right (strict S))
  h-float : Held S FLOATING (right (strict S))
  h-word : Held S TRUE (tests S)
  h-strict : Held S TRUE (tests (strict S))

pub words-compare : (S : Spot) (o : ℕ) → Compare o → (sort : PartSort) (F : Frame) → Words S sort F → step (p-have sort F) o ≡ p-text TEXT (right (strict S))
unfolding step Table.operator Table.text_operator Table.test_operator Table.comparison Table.binds Table.level_of
words-compare S _ (order _ less) _ _ w-text = refl
words-compare S _ (order _ less) _ _ w-word = refl
words-compare S _ (order _ greater) _ _ w-text = refl
words-compare S _ (order _ greater) _ _ w-word = refl
words-compare S _ (order _ at_most) _ _ w-text = refl
words-compare S _ (order _ at_most) _ _ w-word = refl
words-compare S _ (order _ at_least) _ _ w-text = refl
words-compare S _ (order _ at_least) _ _ w-word = refl
words-compare S _ equal _ _ w-text = refl
words-compare S _ equal _ _ w-word = refl
words-compare S _ unequal _ _ w-text = refl
words-compare S _ unequal _ _ w-word = refl

pub words-match : (S : Spot) (sort : PartSort) (F : Frame) → Words S sort F → step (p-have sort F) Kind.MATCHES ≡ p-text TEXT (right (strict S))
unfolding step Table.operator Table.text_operator Table.test_operator Table.comparison Table.binds Table.level_of
words-match S _ _ w-text = refl
words-match S _ _ w-word = refl

pub number-compare : (S : Spot) (o : ℕ) → Compare o → step (p-have NUMBER (tests S)) o ≡ p-number want-integer (right (strict S))
unfolding step Table.operator Table.number_operator Table.float_operator Table.ordering Table.comparison Table.binds Table.level_of
number-compare S _ (order _ less) = refl
number-compare S _ (order _ greater) = refl
number-compare S _ (order _ at_most) = refl
number-compare S _ (order _ at_least) = refl
number-compare S _ equal = refl
number-compare S _ unequal = refl

pub float-compare : (S : Spot) (o : ℕ) → Order o → step (p-have FLOATING (tests S)) o ≡ p-number want-float (right (strict S))
unfolding step Table.operator Table.number_operator Table.float_operator Table.ordering Table.comparison Table.binds Table.level_of
float-compare S _ less = refl
float-compare S _ greater = refl
float-compare S _ at_most = refl
float-compare S _ at_least = refl

pub truth-any : (S : Spot) → step (p-any S) TRUTH ≡ p-have TRUE (tests S)
unfolding step Table.allows Table.begins_string Table.begins_number Table.begins_float
truth-any S = refl

pub strict-strict : (S : Spot) → strict (strict S) ≡ strict S
strict-strict (in-clause d) = refl
strict-strict (in-bracket b S) = refl

-- a test where nothing else may stand is a test
loosen : (S : Spot) (sort : PartSort) (F : Frame) → Held (strict S) sort F → Held S sort F
loosen (in-clause d) sort F h = h
loosen (in-bracket b S) _ _ h-test = h-test
loosen (in-bracket b S) _ _ h-text = h-text
loosen (in-bracket b S) _ _ h-number = h-number
loosen (in-bracket b S) _ _ h-float = h-float
loosen (in-bracket b S) _ _ h-word = h-strict
loosen (in-bracket b S) _ _ h-strict = h-strict

pub loosened : (S : Spot) (q : State) (ks : List ℕ) → Gone (Held (strict S)) q ks → Gone (Held S) q ks
loosened S q ks (gone sort F h e) = gone sort F (loosen S sort F h) e

-- "&&" and "||"
pub data Junction : ℕ → Type 0 where
  junction-and : Junction Kind.AND
  junction-or : Junction Kind.OR

pub held-junction : (S : Spot) (k : ℕ) → Junction k → (sort : PartSort) (F : Frame) → Held S sort F → step (p-have sort F) k ≡ p-any (strict S)
unfolding step Table.operator Table.number_operator Table.float_operator Table.ordering Table.text_operator Table.test_operator Table.comparison Table.binds Table.level_of
held-junction S _ junction-and _ _ h-test = ap p-any (strict-strict S)
held-junction S _ junction-and _ _ h-text = ap p-any (strict-strict S)
held-junction S _ junction-and _ _ h-number = ap p-any (strict-strict S)
held-junction S _ junction-and _ _ h-float = ap p-any (strict-strict S)
held-junction S _ junction-and _ _ h-word = refl
held-junction S _ junction-and _ _ h-strict = ap p-any (strict-strict S)
held-junction S _ junction-or _ _ h-test = ap p-any (strict-strict S)
held-junction S _ junction-or _ _ h-text = ap p-any (strict-strict S)
held-junction S _ junction-or _ _ h-number = ap p-any (strict-strict S)
held-junction S _ junction-or _ _ h-float = ap p-any (strict-strict S)
held-junction S _ junction-or _ _ h-word = refl
held-junction S _ junction-or _ _ h-strict = ap p-any (strict-strict S)

-- a closing bracket
pub held-close : (S : Spot) (q : State) (ks : List ℕ) → Gone (Held (in-bracket true S)) q ks → Gone (Held S) q (ks ++ Kind.CLOSE ∷ [])
unfolding step Table.operator Table.number_operator Table.float_operator Table.ordering Table.text_operator Table.test_operator Table.comparison Table.binds Table.level_of
held-close S q ks (gone _ _ h-test e) = gone TEST (tests (strict S)) h-test (through-part q _ _ ks [] Kind.CLOSE e refl)
held-close S q ks (gone _ _ h-text e) = gone TEST (tests (strict S)) h-test (through-part q _ _ ks [] Kind.CLOSE e refl)
held-close S q ks (gone _ _ h-number e) = gone TEST (tests (strict S)) h-test (through-part q _ _ ks [] Kind.CLOSE e refl)
held-close S q ks (gone _ _ h-float e) = gone TEST (tests (strict S)) h-test (through-part q _ _ ks [] Kind.CLOSE e refl)
held-close S q ks (gone _ _ h-word e) = gone TRUE (tests S) h-word (through-part q _ _ ks [] Kind.CLOSE e refl)
held-close S q ks (gone _ _ h-strict e) = gone TEST (tests (strict S)) h-test (through-part q _ _ ks [] Kind.CLOSE e refl)

-- two tests with "&&" or "||" between them
pub two-tests : (S : Spot) (q : State) (ks ls : List ℕ) (k : ℕ) → Junction k → Gone (Held S) q ks → Gone (Held (strict S)) (p-any (strict S)) ls → Gone (Held S) q (ks ++ k ∷ ls)
two-tests S q ks ls k j (gone sort F h e) (gone sort' G g f) =
    gone sort' G (loosen S sort' G g) (through-part q (p-have sort F) (p-any (strict S)) ks ls k e (held-junction S k j sort F h) ∙ f)

-- the mark behind a clause's test
pub data Behind (d : ℕ) : ℕ → State → Type 0 where
  behind-arrow : Behind d Kind.ARROW (p-arrow d)
  behind-semicolon : Behind d Kind.SEMICOLON (p-begin d)

pub held-end : (d k : ℕ) (p : State) → Behind d k p → (sort : PartSort) (F : Frame) → Held (in-clause d) sort F → step (p-have sort F) k ≡ p
unfolding step Table.operator Table.number_operator Table.float_operator Table.ordering Table.text_operator Table.test_operator Table.comparison Table.binds Table.level_of
held-end d _ _ behind-arrow _ _ h-test = refl
held-end d _ _ behind-arrow _ _ h-text = refl
held-end d _ _ behind-arrow _ _ h-number = refl
held-end d _ _ behind-arrow _ _ h-float = refl
held-end d _ _ behind-arrow _ _ h-word = refl
held-end d _ _ behind-arrow _ _ h-strict = refl
held-end d _ _ behind-semicolon _ _ h-test = refl
held-end d _ _ behind-semicolon _ _ h-text = refl
held-end d _ _ behind-semicolon _ _ h-number = refl
held-end d _ _ behind-semicolon _ _ h-float = refl
held-end d _ _ behind-semicolon _ _ h-word = refl
held-end d _ _ behind-semicolon _ _ h-strict = refl

-- a test where a clause may begin, and a value behind "->"
not_dead : (sort : PartSort) (F : Frame) → p-have sort F ≡ p-dead → ⊥
not_dead sort F z = let v : ◌≡◌ {A = ℕ} 0 1 = cc in omega (arith, v)

module _ (q q' : State) (agree : (k : ℕ) → (step q' k ≡ step q k) ⊎ (step q k ≡ p-dead)) where
  resume-first : (k : ℕ) (ks : List ℕ) (sort : PartSort) (F : Frame) → (step q' k ≡ step q k) ⊎ (step q k ≡ p-dead) → run step q (k ∷ ks) ≡ p-have sort F → run step q' (k ∷ ks) ≡ p-have sort F
  resume-first k ks sort F (inl e) h = ap (λ (x : State). run step x ks) e ∙ h
  resume-first k ks sort F (inr e) h =
      absurd (not_dead sort F (sym h ∙ ap (λ (x : State). run step x ks) e ∙ run-dead step p-dead step-dead ks))

  pub resume : ((sort : PartSort) (F : Frame) → q ≡ p-have sort F → ⊥) → (ks : List ℕ) (sort : PartSort) (F : Frame) → run step q ks ≡ p-have sort F → run step q' ks ≡ p-have sort F
  resume apart [] sort F h = absurd (apart sort F h)
  resume apart (k ∷ ks) sort F h = resume-first k ks sort F (agree k) h

pub begin-agrees : (d k : ℕ) → (step (p-begin d) k ≡ step (p-any (in-clause d)) k) ⊎ (step (p-any (in-clause d)) k ≡ p-dead)
unfolding step
begin-agrees d k = split (Table.allows want-any (flat k)) (λ e. inl (rw e refl)) (λ e. inr (rw e refl))

pub arrow-agrees : (d k : ℕ) → (step (p-arrow d) k ≡ step (p-text TEXT (value d)) k) ⊎ (step (p-text TEXT (value d)) k ≡ p-dead)
unfolding step
arrow-agrees d k = split (Table.allows want-string (flat k)) (λ e. inl (rw e refl)) (λ e. inr (rw e refl))

pub begin-run : (d : ℕ) (ks : List ℕ) (sort : PartSort) (F : Frame) → run step (p-any (in-clause d)) ks ≡ p-have sort F → run step (p-begin d) ks ≡ p-have sort F
begin-run d = resume (p-any (in-clause d)) (p-begin d) (begin-agrees d) (λ sort F z. let v : ◌≡◌ {A = ℕ} 0 1 = cc in omega (arith, v))

pub arrow-run : (d : ℕ) (ks : List ℕ) (sort : PartSort) (F : Frame) → run step (p-text TEXT (value d)) ks ≡ p-have sort F → run step (p-arrow d) ks ≡ p-have sort F
arrow-run d = resume (p-text TEXT (value d)) (p-arrow d) (arrow-agrees d) (λ sort F z. let v : ◌≡◌ {A = ℕ} 0 1 = cc in omega (arith, v))

-- a test of a clause and the mark behind it
pub clause-test : (d k : ℕ) (p : State) (ks ls : List ℕ) → Behind d k p → Gone (Held (in-clause d)) (p-any (in-clause d)) ks → run step (p-begin d) (ks ++ k ∷ ls) ≡ run step p ls
clause-test d k p ks ls b (gone sort F h e) = through-part (p-begin d) (p-have sort F) p ks ls k (begin-run d ks sort F e) (held-end d k p b sort F h)

pub value-ends : (d : ℕ) → step (p-have TEXT (value d)) Kind.SEMICOLON ≡ p-begin d
unfolding step Table.operator Table.text_operator Table.comparison Table.binds
value-ends d = refl

pub brace-opens : (d : ℕ) → step (p-arrow d) Kind.OPEN_BRACE ≡ p-begin (suc d)
unfolding step Table.allows Table.begins_string
brace-opens d = refl

pub brace-closes : (d : ℕ) → step (p-begin (suc d)) Kind.CLOSE_BRACE ≡ p-block d
unfolding step Table.allows Table.begins_string Table.begins_number Table.begins_float Table.stops Kind.ending
brace-closes d = rw (ne_eqb (suc d) 0 (λ z. let bad : ⊥ = omega (arith, z) in bad)) refl

pub block-ends : (d : ℕ) → step (p-block d) Kind.SEMICOLON ≡ p-begin d
unfolding step
block-ends d = refl

-- a clause leads from where it may begin to where its ";" leads there again, a program leads there itself
abbrev pub Leads : Class → ℕ → List ℕ → Type 0
Leads operand d ks = (ls : List ℕ) → run step (p-begin d) (ks ++ Kind.SEMICOLON ∷ ls) ≡ run step (p-begin d) ls
Leads power d ks = run step (p-begin d) ks ≡ p-begin d
Leads product d ks = run step (p-begin d) ks ≡ p-begin d
Leads conjunction d ks = run step (p-begin d) ks ≡ p-begin d
Leads whole d ks = run step (p-begin d) ks ≡ p-begin d

pub ends-over : (k : ℕ) → Ends k → step (p-begin 0) k ≡ p-over
unfolding step Table.allows Table.begins_string Table.begins_number Table.begins_float Table.stops Kind.ending
ends-over _ end-of-text = refl
ends-over _ next-version = refl
ends-over _ next-constants = refl
ends-over _ next-authorizer = refl
ends-over _ next-licensees = refl
ends-over _ next-conditions = refl
ends-over _ next-comment = refl
ends-over _ next-signature = refl

pub over-dead : p-over ≡ p-dead → ⊥
over-dead z = let v : ◌≡◌ {A = ℕ} 0 1 = cc in omega (arith, v)

pub step-over : (k : ℕ) → step p-over k ≡ p-dead
unfolding step
step-over k = refl
