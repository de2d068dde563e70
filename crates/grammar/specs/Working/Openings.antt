-- The automaton and the trees where an operand begins: a prefix operator, a bracket, one token. Assumes nothing.
use Rattle.std.specs.Prelude.{◌≡◌, Bool, true, false, List, ◌∷◌, ℕ, ◌≤◌, eqb}
use Rattle.std.proofs.Math.Path.{refl}
use Rattle.std.proofs.Common.{sym, ap, ◌∙◌, subst, arith, eqb-true, ne_eqb}
use Rattle.text.specs.Choice.{split, clash}
use Rattle.lexical.specs.Kind
use Rattle.lexical.specs.Theorems.Bounds.{chosen}
use Rattle.lexical.specs.Word.{word_true, word_false}
use Rattle.lexical.specs.declared.token.Token.{Token}
use Rattle.syntax.specs.Operator.{Unary, Sort, a-string, an-integer, a-float, a_test, unary_takes, unary_gives}
use Rattle.syntax.specs.Operator as Operator
use Rattle.syntax.specs.Expr.{Expr, unary}
use Rattle.conditions.specs.Table.{PartSort, sorted, word, Want, want-any, want-string, want-number, want-integer, want-float}
use Rattle.conditions.specs.Table
use Rattle.conditions.specs.Word.{word_sort}
use Rattle.grammar.specs.Conditions.{TRUTH}
use Rattle.grammar.specs.Spelled.{spelled, kind_in}
use Rattle.grammar.specs.Trees.{lookup-tree, negate-tree, convert-tree, float-negate-tree, to-float-tree, not-tree}
use Rattle.grammar.specs.Theorems.Shadow.{kind-name, kind-true, kind-false}
use Rattle.grammar.specs.Working.States.{TEXT, NUMBER, FLOATING, Spot, in-bracket, Frame, tests, texts, numbers, State, p-dead, p-any, p-text, p-number, p-have, flat, step}
use Rattle.grammar.specs.Working.Accepts.{open-text, close-text, name-text, truth-any, open_any}
use Rattle.grammar.specs.Working.Joints.{Fits, binds-less, kind-same}
use Rattle.grammar.specs.Working.Told.{aim, Goal, goal-test, goal-text, goal-number, goal-decimal, goal-integer, goal-float, Told, told_text, told-number, told-float, told-test, Suits, suits-any, suits-text, suits-number, suits-decimal, suits-integer, suits-float}
use Rattle.grammar.specs.Working.Onward.{word_same, Starts, start-any, start-text, start_operand, start-number, start-integer, start-float, after, Asked, asked-any, asked-text, asked-number, asked-integer, asked-float, number-after, float-after}

-- where `want` is wanted, the mark k writes the prefix operator op, behind which `wanted` is read at `level`; of one of sort o it makes one of sort r
pub data Before : ℕ → Unary → Want → ℕ → Want → Sort → Sort → Type 0 where
  minus-any : Before Kind.MINUS Operator.negate want-any 6 want-number an-integer an-integer
  minus-any-float : Before Kind.MINUS Operator.negate want-any 6 want-number a-float a-float
  minus_number : Before Kind.MINUS Operator.negate want-number 6 want-number an-integer an-integer
  minus-number-float : Before Kind.MINUS Operator.negate want-number 6 want-number a-float a-float
  minus-integer : Before Kind.MINUS Operator.negate want-integer 6 want-integer an-integer an-integer
  minus-float : Before Kind.MINUS Operator.negate want-float 6 want-float a-float a-float
  at-any : Before Kind.AT Operator.convert want-any 6 want-string a-string an-integer
  at-number : Before Kind.AT Operator.convert want-number 6 want-string a-string an-integer
  at-integer : Before Kind.AT Operator.convert want-integer 6 want-string a-string an-integer
  ampersand-any : Before Kind.AMPERSAND Operator.to-float want-any 6 want-string a-string a-float
  ampersand-number : Before Kind.AMPERSAND Operator.to-float want-number 6 want-string a-string a-float
  ampersand-float : Before Kind.AMPERSAND Operator.to-float want-float 6 want-string a-string a-float
  dollar-any : Before Kind.DOLLAR Operator.lookup want-any 6 want-string a-string a-string
  dollar-text : Before Kind.DOLLAR Operator.lookup want-string 6 want-string a-string a-string
  not_test : Before Kind.NOT Operator.opposite want-any 2 want-any a_test a_test

-- the operator of one of sort o, and what it takes and gives
abbrev pub as_taken : Unary → Sort → Unary
as_taken op o = Table.prefix_of op (sorted o)

pub before-takes : (k : ℕ) (op : Unary) (want : Want) (level : ℕ) (wanted : Want) (o r : Sort) → Before k op want level wanted o r → (unary_takes (as_taken op o) ≡ o) × (unary_gives (as_taken op o) ≡ r)
before-takes _ _ _ _ _ _ _ minus-any = (refl, refl)
before-takes _ _ _ _ _ _ _ minus-any-float = (refl, refl)
before-takes _ _ _ _ _ _ _ minus_number = (refl, refl)
before-takes _ _ _ _ _ _ _ minus-number-float = (refl, refl)
before-takes _ _ _ _ _ _ _ minus-integer = (refl, refl)
before-takes _ _ _ _ _ _ _ minus-float = (refl, refl)
before-takes _ _ _ _ _ _ _ at-any = (refl, refl)
before-takes _ _ _ _ _ _ _ at-number = (refl, refl)
before-takes _ _ _ _ _ _ _ at-integer = (refl, refl)
before-takes _ _ _ _ _ _ _ ampersand-any = (refl, refl)
before-takes _ _ _ _ _ _ _ ampersand-number = (refl, refl)
before-takes _ _ _ _ _ _ _ ampersand-float = (refl, refl)
before-takes _ _ _ _ _ _ _ dollar-any = (refl, refl)
before-takes _ _ _ _ _ _ _ dollar-text = (refl, refl)
before-takes _ _ _ _ _ _ _ not_test = (refl, refl)

pub before-suits : (k : ℕ) (op : Unary) (want : Want) (level : ℕ) (wanted : Want) (o r : Sort) → Before k op want level wanted o r → Suits want (sorted r)
before-suits _ _ _ _ _ _ _ minus-any = suits-any _
before-suits _ _ _ _ _ _ _ minus-any-float = suits-any _
before-suits _ _ _ _ _ _ _ minus_number = suits-number
before-suits _ _ _ _ _ _ _ minus-number-float = suits-decimal
before-suits _ _ _ _ _ _ _ minus-integer = suits-integer
before-suits _ _ _ _ _ _ _ minus-float = suits-float
before-suits _ _ _ _ _ _ _ at-any = suits-any _
before-suits _ _ _ _ _ _ _ at-number = suits-number
before-suits _ _ _ _ _ _ _ at-integer = suits-integer
before-suits _ _ _ _ _ _ _ ampersand-any = suits-any _
before-suits _ _ _ _ _ _ _ ampersand-number = suits-decimal
before-suits _ _ _ _ _ _ _ ampersand-float = suits-float
before-suits _ _ _ _ _ _ _ dollar-any = suits-any _
before-suits _ _ _ _ _ _ _ dollar-text = suits-text
before-suits _ _ _ _ _ _ _ not_test = suits-any _

-- the tree
pub before-told : (s : List ℕ) (k : ℕ) (op : Unary) (want : Want) (level : ℕ) (wanted : Want) (o r : Sort) (t : Token) (us : List Token) (f : Expr) → Before k op want level wanted o r → t.kind ≡ k
    → Told s (sorted o) level us f → Told s (sorted r) 7 (t ∷ us) (unary (as_taken op o) f)
before-told s _ _ _ _ _ _ _ t _ _ minus-any z (told-number _ us f d) = told-number 7 _ _ (negate-tree t us f z d)
before-told s _ _ _ _ _ _ _ t _ _ minus-any-float z (told-float _ us f d) = told-float 7 _ _ (float-negate-tree t us f z d)
before-told s _ _ _ _ _ _ _ t _ _ minus_number z (told-number _ us f d) = told-number 7 _ _ (negate-tree t us f z d)
before-told s _ _ _ _ _ _ _ t _ _ minus-number-float z (told-float _ us f d) = told-float 7 _ _ (float-negate-tree t us f z d)
before-told s _ _ _ _ _ _ _ t _ _ minus-integer z (told-number _ us f d) = told-number 7 _ _ (negate-tree t us f z d)
before-told s _ _ _ _ _ _ _ t _ _ minus-float z (told-float _ us f d) = told-float 7 _ _ (float-negate-tree t us f z d)
before-told s _ _ _ _ _ _ _ t _ _ at-any z (told_text _ us f d) = told-number 7 _ _ (convert-tree t us f z d)
before-told s _ _ _ _ _ _ _ t _ _ at-number z (told_text _ us f d) = told-number 7 _ _ (convert-tree t us f z d)
before-told s _ _ _ _ _ _ _ t _ _ at-integer z (told_text _ us f d) = told-number 7 _ _ (convert-tree t us f z d)
before-told s _ _ _ _ _ _ _ t _ _ ampersand-any z (told_text _ us f d) = told-float 7 _ _ (to-float-tree t us f z d)
before-told s _ _ _ _ _ _ _ t _ _ ampersand-number z (told_text _ us f d) = told-float 7 _ _ (to-float-tree t us f z d)
before-told s _ _ _ _ _ _ _ t _ _ ampersand-float z (told_text _ us f d) = told-float 7 _ _ (to-float-tree t us f z d)
before-told s _ _ _ _ _ _ _ t _ _ dollar-any z (told_text _ us f d) = told_text 7 _ _ (lookup-tree t us f z d)
before-told s _ _ _ _ _ _ _ t _ _ dollar-text z (told_text _ us f d) = told_text 7 _ _ (lookup-tree t us f z d)
before-told s _ _ _ _ _ _ _ t _ _ not_test z (told-test _ us f d) = told-test 7 _ _ (not-tree t us f z d)

-- where the mark leads
pub number-led : (F G : Frame) (x : PartSort) (j : ℕ) → F ≡ G → Fits an-integer x → step (after (p-number want-number F) x) j ≡ step (p-have NUMBER G) j
number-led F G x j e g = ap (λ (p : State). step p j) (number-after F x g ∙ ap (p-have NUMBER) e)

pub float-led : (F G : Frame) (x : PartSort) (j : ℕ) → F ≡ G → Fits a-float x → step (after (p-number want-number F) x) j ≡ step (p-have FLOATING G) j
float-led F G x j e g = ap (λ (p : State). step p j) (float-after F x g ∙ ap (p-have FLOATING) e)

-- what a prefix operator makes of an operand goes by what must come of the operand
pub as-aimed : (op : Unary) (want : Want) (sort : PartSort) → Suits (Table.operand_want op want) sort → Table.prefix_of op sort ≡ as_taken op (aim (Table.operand_want op want) sort)
unfolding Table.operand_want
as-aimed Operator.lookup want sort u = refl
as-aimed Operator.convert want sort u = refl
as-aimed Operator.negate want sort u = aimed (Table.numeric want) sort (numeric-any want) u
  where
    numeric-any : (want : Want) → Table.numeric want ≡ want-any → ⊥
    numeric-any want-any e = clash (ap Table.is_any e) refl
    numeric-any want-string e = clash (ap Table.is_any e) refl
    numeric-any want-number e = clash (ap Table.is_any e) refl
    numeric-any want-integer e = clash (ap Table.is_any e) refl
    numeric-any want-float e = clash (ap Table.is_any e) refl

    aimed : (w : Want) (sort : PartSort) → (w ≡ want-any → ⊥) → Suits w sort → Table.minus_of sort ≡ Table.minus_of (sorted (aim w sort))
    aimed _ _ n (suits-any sort) = absurd (n refl)
    aimed _ _ n suits-text = refl
    aimed _ _ n suits-number = refl
    aimed _ _ n suits-decimal = refl
    aimed _ _ n suits-integer = refl
    aimed _ _ n suits-float = refl
as-aimed Operator.opposite want sort u = refl
as-aimed Operator.to-float want sort u = refl
as-aimed Operator.float-negate want sort u = refl

-- a token that may stand as an operand: a prefix operator, or none
pub data Prefixing (want : Want) (k : ℕ) : Table.Prefix → Type 0 where
  prefixes : (op : Unary) (level : ℕ) (wanted : Want) → Table.operand_level op ≡ level → Table.operand_want op want ≡ wanted → eqb k Kind.NAME ≡ false → Asked level wanted
      → ((g : Sort) → Goal wanted g → Before k op want level wanted g (unary_gives (as_taken op g))) → Prefixing want k (Table.before op)
  no-prefix : Prefixing want k Table.no-prefix

minus-prefix : (want : Want) → Table.allows want Kind.MINUS ≡ true → Prefixing want Kind.MINUS (Table.before Operator.negate)
unfolding Table.allows Table.begins_string Table.operand_level Table.operand_want
minus-prefix want-any h = prefixes Operator.negate 6 want-number refl refl refl (asked-number (omega arith) (omega arith)) takes
  where
    takes : (g : Sort) → Goal want-number g → Before Kind.MINUS Operator.negate want-any 6 want-number g (unary_gives (as_taken Operator.negate g))
    takes _ goal-number = minus-any
    takes _ goal-decimal = minus-any-float
minus-prefix want-string h = clash h refl
minus-prefix want-number h = prefixes Operator.negate 6 want-number refl refl refl (asked-number (omega arith) (omega arith)) takes
  where
    takes : (g : Sort) → Goal want-number g → Before Kind.MINUS Operator.negate want-number 6 want-number g (unary_gives (as_taken Operator.negate g))
    takes _ goal-number = minus_number
    takes _ goal-decimal = minus-number-float
minus-prefix want-integer h = prefixes Operator.negate 6 want-integer refl refl refl (asked-integer (omega arith) (omega arith)) takes
  where
    takes : (g : Sort) → Goal want-integer g → Before Kind.MINUS Operator.negate want-integer 6 want-integer g (unary_gives (as_taken Operator.negate g))
    takes _ goal-integer = minus-integer
minus-prefix want-float h = prefixes Operator.negate 6 want-float refl refl refl (asked-float (omega arith) (omega arith)) takes
  where
    takes : (g : Sort) → Goal want-float g → Before Kind.MINUS Operator.negate want-float 6 want-float g (unary_gives (as_taken Operator.negate g))
    takes _ goal-float = minus-float

-- an operator that takes a string
of-text : (k : ℕ) (op : Unary) (want : Want) (r : Sort) → Before k op want 6 want-string a-string r → unary_gives (as_taken op a-string) ≡ r
    → (g : Sort) → Goal want-string g → Before k op want 6 want-string g (unary_gives (as_taken op g))
of-text k op want r b e _ goal-text = rw e b

at-prefix : (want : Want) → Table.allows want Kind.AT ≡ true → Prefixing want Kind.AT (Table.before Operator.convert)
unfolding Table.allows Table.begins_string Table.begins_float Table.operand_level Table.operand_want
at-prefix want-any h = prefixes Operator.convert 6 want-string refl refl refl (asked-text (omega arith) (omega arith)) (of-text _ _ _ _ at-any refl)
at-prefix want-string h = clash h refl
at-prefix want-number h = prefixes Operator.convert 6 want-string refl refl refl (asked-text (omega arith) (omega arith)) (of-text _ _ _ _ at-number refl)
at-prefix want-integer h = prefixes Operator.convert 6 want-string refl refl refl (asked-text (omega arith) (omega arith)) (of-text _ _ _ _ at-integer refl)
at-prefix want-float h = clash h refl

dollar-prefix : (want : Want) → Table.allows want Kind.DOLLAR ≡ true → Prefixing want Kind.DOLLAR (Table.before Operator.lookup)
unfolding Table.allows Table.begins_number Table.begins_float Table.operand_level Table.operand_want
dollar-prefix want-any h = prefixes Operator.lookup 6 want-string refl refl refl (asked-text (omega arith) (omega arith)) (of-text _ _ _ _ dollar-any refl)
dollar-prefix want-string h = prefixes Operator.lookup 6 want-string refl refl refl (asked-text (omega arith) (omega arith)) (of-text _ _ _ _ dollar-text refl)
dollar-prefix want-number h = clash h refl
dollar-prefix want-integer h = clash h refl
dollar-prefix want-float h = clash h refl

ampersand-prefix : (want : Want) → Table.allows want Kind.AMPERSAND ≡ true → Prefixing want Kind.AMPERSAND (Table.before Operator.to-float)
unfolding Table.allows Table.begins_string Table.begins_number Table.operand_level Table.operand_want
ampersand-prefix want-any h = prefixes Operator.to-float 6 want-string refl refl refl (asked-text (omega arith) (omega arith)) (of-text _ _ _ _ ampersand-any refl)
ampersand-prefix want-string h = clash h refl
ampersand-prefix want-number h = prefixes Operator.to-float 6 want-string refl refl refl (asked-text (omega arith) (omega arith)) (of-text _ _ _ _ ampersand-number refl)
ampersand-prefix want-integer h = clash h refl
ampersand-prefix want-float h = prefixes Operator.to-float 6 want-string refl refl refl (asked-text (omega arith) (omega arith)) (of-text _ _ _ _ ampersand-float refl)

not-prefix : (want : Want) → Table.allows want Kind.NOT ≡ true → Prefixing want Kind.NOT (Table.before Operator.opposite)
unfolding Table.allows Table.begins_string Table.begins_number Table.begins_float Table.operand_level Table.operand_want
not-prefix want-any h = prefixes Operator.opposite 2 want-any refl refl refl (asked-any (omega arith)) takes
  where
    takes : (g : Sort) → Goal want-any g → Before Kind.NOT Operator.opposite want-any 2 want-any g (unary_gives (as_taken Operator.opposite g))
    takes _ goal-test = not_test
not-prefix want-string h = clash h refl
not-prefix want-number h = clash h refl
not-prefix want-integer h = clash h refl
not-prefix want-float h = clash h refl

pub prefixing : (want : Want) (k : ℕ) → Table.allows want k ≡ true → Prefixing want k (Table.prefix_operator k)
unfolding Table.prefix_operator
prefixing want k h =
    chosen (Prefixing want k) (eqb k Kind.MINUS) _ _ (λ e. rw (eqb-true k _ e) (minus-prefix want (allowed_at Kind.MINUS e)))
    (λ e. chosen (Prefixing want k) (eqb k Kind.AT) _ _ (λ e. rw (eqb-true k _ e) (at-prefix want (allowed_at Kind.AT e)))
    (λ e. chosen (Prefixing want k) (eqb k Kind.DOLLAR) _ _ (λ e. rw (eqb-true k _ e) (dollar-prefix want (allowed_at Kind.DOLLAR e)))
    (λ e. chosen (Prefixing want k) (eqb k Kind.NOT) _ _ (λ e. rw (eqb-true k _ e) (not-prefix want (allowed_at Kind.NOT e)))
    (λ e. chosen (Prefixing want k) (eqb k Kind.AMPERSAND) _ _ (λ e. rw (eqb-true k _ e) (ampersand-prefix want (allowed_at Kind.AMPERSAND e))) (λ e. no-prefix)))))
  where
    allowed_at : (x : ℕ) → eqb k x ≡ true → Table.allows want x ≡ true
    allowed_at x e = subst (λ (y : ℕ). Table.allows want y ≡ true) (eqb-true k _ e) h

-- brackets
pub data Enclosed (q : State) (want : Want) : Type 0 where
  enclosed : (q' : State) → step q Kind.OPEN ≡ q' → Starts (Table.inside_level want) want q' → ((sort : PartSort) → Suits want sort → step (after q' sort) Kind.CLOSE ≡ after q sort)
      → ((sort : PartSort) (k : ℕ) → Suits want sort → Table.binds (Table.inside_level want) (Table.operator sort k) ≡ false → eqb k Kind.CLOSE ≡ false → step (after q' sort) k ≡ p-dead)
      → Enclosed q want

close-any : (S : Spot) (sort : PartSort) → Suits want-any sort → step (after (p-any (in-bracket true S)) sort) Kind.CLOSE ≡ after (p-any S) sort
unfolding step Table.operator Table.number_operator Table.float_operator Table.ordering Table.text_operator Table.test_operator Table.comparison Table.binds
close-any S _ (suits-any (sorted a_test)) = refl
close-any S _ (suits-any (sorted a-string)) = refl
close-any S _ (suits-any (sorted an-integer)) = refl
close-any S _ (suits-any (sorted a-float)) = refl
close-any S _ (suits-any (word b)) = refl

-- no operator and no closing bracket
wrong-close : (S : Spot) (lone : Bool) (sort : PartSort) (k : ℕ) → Table.binds 0 (Table.operator sort k) ≡ false → eqb k Kind.CLOSE ≡ false
    → step (p-have sort (tests (in-bracket lone S))) k ≡ p-dead
unfolding step
wrong-close S lone sort k b c = rw (binds-less 0 3 (Table.operator sort k) b (omega arith), binds-less 0 2 (Table.operator sort k) b (omega arith), b, c) refl

dead-any : (S : Spot) (sort : PartSort) (k : ℕ) → Suits want-any sort → Table.binds 0 (Table.operator sort k) ≡ false → eqb k Kind.CLOSE ≡ false
    → step (after (p-any (in-bracket true S)) sort) k ≡ p-dead
dead-any S _ k (suits-any (sorted a_test)) b c = wrong-close S false (sorted a_test) k b c
dead-any S _ k (suits-any (sorted a-string)) b c = wrong-close S true (sorted a-string) k b c
dead-any S _ k (suits-any (sorted an-integer)) b c = wrong-close S true (sorted an-integer) k b c
dead-any S _ k (suits-any (sorted a-float)) b c = wrong-close S true (sorted a-float) k b c
dead-any S _ k (suits-any (word w)) b c = wrong-close S true (word true) k (ap (Table.binds 0) (sym (word_same w k)) ∙ b) c

text-close : (r : PartSort) (F : Frame) (k : ℕ) → Table.binds 3 (Table.operator (sorted a-string) k) ≡ false → eqb k Kind.CLOSE ≡ false → step (p-have TEXT (texts r F)) k ≡ p-dead
unfolding step
text-close r F k b c = rw (b, c) refl

number-close : (F : Frame) (k : ℕ) → Table.binds 3 (Table.operator (sorted an-integer) k) ≡ false → eqb k Kind.CLOSE ≡ false → step (p-have NUMBER (numbers F)) k ≡ p-dead
unfolding step
number-close F k b c = rw (b, c) refl

float-close : (F : Frame) (k : ℕ) → Table.binds 3 (Table.operator (sorted a-float) k) ≡ false → eqb k Kind.CLOSE ≡ false → step (p-have FLOATING (numbers F)) k ≡ p-dead
unfolding step
float-close F k b c = rw (b, c) refl

text-enclosed : (r : PartSort) (F : Frame) → Enclosed (p-text r F) want-string
unfolding Table.inside_level
text-enclosed r F = enclosed (p-text TEXT (texts r F)) (open-text r F) (start-text (texts r F)) closes stays
  where
    closes : (sort : PartSort) → Suits want-string sort → step (p-have TEXT (texts r F)) Kind.CLOSE ≡ p-have r F
    closes sort u = close-text r F

    stays : (sort : PartSort) (k : ℕ) → Suits want-string sort → Table.binds 3 (Table.operator sort k) ≡ false → eqb k Kind.CLOSE ≡ false → step (p-have TEXT (texts r F)) k ≡ p-dead
    stays _ k suits-text b c = text-close r F k b c

open-number : (w : Want) (F : Frame) → step (p-number w F) Kind.OPEN ≡ p-number w (numbers F)
unfolding step Table.allows
open-number w F = refl

-- a number in brackets is of its sort
pub data Numeric : PartSort → Type 0 where
  as-integer : Numeric (sorted an-integer)
  as-float : Numeric (sorted a-float)

close-number : (w v : Want) (F : Frame) (sort : PartSort) → Numeric sort → step (after (p-number w (numbers F)) sort) Kind.CLOSE ≡ after (p-number v F) sort
unfolding step Table.operator Table.number_operator Table.float_operator Table.ordering Table.comparison Table.binds
close-number w v F _ as-integer = refl
close-number w v F _ as-float = refl

wrong-number : (w : Want) (F : Frame) (sort : PartSort) (k : ℕ) → Numeric sort → Table.binds 3 (Table.operator sort k) ≡ false → eqb k Kind.CLOSE ≡ false → step (after (p-number w (numbers F)) sort) k ≡ p-dead
wrong-number w F _ k as-integer b c = number-close F k b c
wrong-number w F _ k as-float b c = float-close F k b c

number-suits : (sort : PartSort) → Suits want-number sort → Numeric sort
number-suits _ suits-number = as-integer
number-suits _ suits-decimal = as-float

integer-suits : (sort : PartSort) → Suits want-integer sort → Numeric sort
integer-suits _ suits-integer = as-integer

float-suits : (sort : PartSort) → Suits want-float sort → Numeric sort
float-suits _ suits-float = as-float

number-enclosed : (w : Want) (F : Frame) → Table.is_any w ≡ false → ((G : Frame) → Starts 3 w (p-number w G)) → ((sort : PartSort) → Suits w sort → Numeric sort) → Enclosed (p-number w F) w
unfolding Table.inside_level
number-enclosed w F n st h =
    enclosed (p-number w (numbers F)) (open-number w F) (rw n (st (numbers F))) (λ sort u. close-number w w F sort (h sort u)) (rw n (λ sort k u b c. wrong-number w F sort k (h sort u) b c))

pub encloses : (want : Want) (q : State) → Starts 7 want q → Enclosed q want
unfolding Table.inside_level
encloses _ _ (start-any S) = enclosed (p-any (in-bracket true S)) (open_any S) (start-any (in-bracket true S)) (close-any S) (dead-any S)
encloses _ _ (start-text F) = text-enclosed TEXT F
encloses _ _ (start_operand r F i) = text-enclosed r F
encloses _ _ (start-number F) = number-enclosed want-number F refl start-number number-suits
encloses _ _ (start-integer F) = number-enclosed want-integer F refl start-integer integer-suits
encloses _ _ (start-float F) = number-enclosed want-float F refl start-float float-suits

-- one token
pub literal-leaf : (want : Want) (q : State) → Starts 7 want q → Table.allows want Kind.LITERAL ≡ true → step q Kind.LITERAL ≡ after q (sorted a-string)
unfolding step Table.allows Table.begins_string Table.begins_number Table.begins_float
literal-leaf _ _ (start-any S) h = refl
literal-leaf _ _ (start-text F) h = refl
literal-leaf _ _ (start_operand r F i) h = refl
literal-leaf _ _ (start-number F) h = clash h refl
literal-leaf _ _ (start-integer F) h = clash h refl
literal-leaf _ _ (start-float F) h = clash h refl

pub literal-suits : (want : Want) → Table.allows want Kind.LITERAL ≡ true → Suits want (sorted a-string)
unfolding Table.allows Table.begins_string Table.begins_number Table.begins_float
literal-suits want-any h = suits-any _
literal-suits want-string h = suits-text
literal-suits want-number h = clash h refl
literal-suits want-integer h = clash h refl
literal-suits want-float h = clash h refl

pub digits-leaf : (want : Want) (q : State) → Starts 7 want q → Table.allows want Kind.DIGITS ≡ true → step q Kind.DIGITS ≡ after q (sorted an-integer)
unfolding step Table.allows Table.begins_string Table.begins_number Table.begins_float
digits-leaf _ _ (start-any S) h = refl
digits-leaf _ _ (start-text F) h = clash h refl
digits-leaf _ _ (start_operand r F i) h = clash h refl
digits-leaf _ _ (start-number F) h = refl
digits-leaf _ _ (start-integer F) h = refl
digits-leaf _ _ (start-float F) h = clash h refl

pub digits-suits : (want : Want) → Table.allows want Kind.DIGITS ≡ true → Suits want (sorted an-integer)
unfolding Table.allows Table.begins_string Table.begins_number Table.begins_float
digits-suits want-any h = suits-any _
digits-suits want-string h = clash h refl
digits-suits want-number h = suits-number
digits-suits want-integer h = suits-integer
digits-suits want-float h = clash h refl

pub float-leaf : (want : Want) (q : State) → Starts 7 want q → Table.allows want Kind.FLOAT ≡ true → step q Kind.FLOAT ≡ after q (sorted a-float)
unfolding step Table.allows Table.begins_string Table.begins_number Table.begins_float
float-leaf _ _ (start-any S) h = refl
float-leaf _ _ (start-text F) h = clash h refl
float-leaf _ _ (start_operand r F i) h = clash h refl
float-leaf _ _ (start-number F) h = refl
float-leaf _ _ (start-integer F) h = clash h refl
float-leaf _ _ (start-float F) h = refl

pub float_fits : (want : Want) → Table.allows want Kind.FLOAT ≡ true → Suits want (sorted a-float)
unfolding Table.allows Table.begins_string Table.begins_number Table.begins_float
float_fits want-any h = suits-any _
float_fits want-string h = clash h refl
float_fits want-number h = suits-decimal
float_fits want-integer h = clash h refl
float_fits want-float h = suits-float

-- what may stand as an operand and is no bracket, no prefix operator and none of these is a float's literal
pub last_leaf : (want : Want) (k : ℕ) → Table.allows want k ≡ true → Table.prefix_operator k ≡ Table.no-prefix → eqb k Kind.OPEN ≡ false → eqb k Kind.LITERAL ≡ false → eqb k Kind.NAME ≡ false
    → eqb k Kind.DIGITS ≡ false → eqb k Kind.FLOAT ≡ true
unfolding Table.allows Table.begins_string Table.begins_number Table.begins_float Table.prefix_operator
last_leaf want k h n o l m d =
    split (eqb k Kind.FLOAT) (λ e. e)
    (λ e. split (eqb k Kind.MINUS) (λ f. absurd (prefix-none Operator.negate (sym (rw f at n))))
    (λ f. split (eqb k Kind.AT) (λ g. absurd (prefix-none Operator.convert (sym (rw (f, g) at n))))
    (λ g. split (eqb k Kind.DOLLAR) (λ i. absurd (prefix-none Operator.lookup (sym (rw (f, g, i) at n))))
    (λ i. split (eqb k Kind.NOT) (λ j. absurd (prefix-none Operator.opposite (sym (rw (f, g, i, j) at n))))
    (λ j. split (eqb k Kind.AMPERSAND) (λ z. absurd (prefix-none Operator.to-float (sym (rw (f, g, i, j, z) at n))))
    (λ z. clash h (nothing want e f g i j z)))))))
  where
    prefix-none : (op : Unary) → Table.no-prefix ≡ Table.before op → ⊥
    prefix-none op e = let v : ◌≡◌ {A = ℕ} 0 1 = cc in omega (arith, v)

    nothing : (want : Want) → eqb k Kind.FLOAT ≡ false → eqb k Kind.MINUS ≡ false → eqb k Kind.AT ≡ false → eqb k Kind.DOLLAR ≡ false → eqb k Kind.NOT ≡ false → eqb k Kind.AMPERSAND ≡ false
        → Table.allows want k ≡ false
    nothing want-any e f g i j z = rw (o, l, m, d, e, f, g, i, j, z) refl
    nothing want-string e f g i j z = rw (o, l, m, i) refl
    nothing want-number e f g i j z = rw (o, d, e, f, g, z) refl
    nothing want-integer e f g i j z = rw (o, d, f, g) refl
    nothing want-float e f g i j z = rw (o, e, f, z) refl

-- a name, or a bare word
pub data Worded (s : List ℕ) (want : Want) (t : Token) : PartSort → Type 0 where
  plain_word : ((q : State) → Starts 7 want q → step q (kind_in s t) ≡ after q (sorted a-string)) → Suits want (sorted a-string) → Worded s want t (sorted a-string)
  true-word : spelled s t word_true ≡ true → ((q : State) → Starts 7 want q → step q (kind_in s t) ≡ after q (word true)) → Suits want (word true) → Worded s want t (word true)
  false-word : spelled s t word_false ≡ true → ((q : State) → Starts 7 want q → step q (kind_in s t) ≡ after q (word false)) → Suits want (word false) → Worded s want t (word false)

module _ (s : List ℕ) (t : Token) where
  word-any : (k : ℕ) (sort : PartSort) → kind_in s t ≡ k → ((S : Spot) → step (p-any S) k ≡ after (p-any S) sort) → (q : State) → Starts 7 want-any q → step q (kind_in s t) ≡ after q sort
  word-any k sort e h _ (start-any S) = ap (λ (x : ℕ). step (p-any S) x) e ∙ h S

  name-any : (S : Spot) → step (p-any S) Kind.NAME ≡ after (p-any S) (sorted a-string)
  unfolding step Table.allows Table.begins_string Table.begins_number Table.begins_float
  name-any S = refl

  word-text : t.kind ≡ Kind.NAME → (q : State) → Starts 7 want-string q → step q (kind_in s t) ≡ after q (sorted a-string)
  word-text z _ (start-text F) = name-text TEXT F (kind_in s t) (kind-name s t z)
  word-text z _ (start_operand r F i) = name-text r F (kind_in s t) (kind-name s t z)

  kind-plain : t.kind ≡ Kind.NAME → spelled s t word_true ≡ false → spelled s t word_false ≡ false → kind_in s t ≡ Kind.NAME
  unfolding kind_in
  kind-plain z a b = rw (z, a, b) refl

  pub worded : (want : Want) → Table.allows want Kind.NAME ≡ true → t.kind ≡ Kind.NAME → Worded s want t (word_sort s want t.start t.end)
  unfolding word_sort Table.allows Table.begins_string Table.begins_number Table.begins_float
  worded want-any h z =
      chosen (Worded s want-any t) (spelled s t word_true) _ _ (λ e. true-word e (word-any TRUTH (word true) (kind-true s t z e) truth-any) (suits-any _))
      (λ e. chosen (Worded s want-any t) (spelled s t word_false) _ _ (λ f. false-word f (word-any TRUTH (word false) (kind-false s t z f) truth-any) (suits-any _))
      (λ f. plain_word (word-any Kind.NAME (sorted a-string) (kind-plain z e f) name-any) (suits-any _)))
  worded want-string h z = plain_word (word-text z) suits-text
  worded want-number h z = clash h refl
  worded want-integer h z = clash h refl
  worded want-float h z = clash h refl

  flat-kind : (t.kind ≡ TRUTH → ⊥) → flat (kind_in s t) ≡ t.kind
  flat-kind h = kind-same s t flat refl ∙ (rw (ne_eqb t.kind TRUTH h) refl)

  -- a token that is not allowed leads nowhere
  pub not-allowed : (want : Want) (q : State) → Starts 7 want q → (t.kind ≡ TRUTH → ⊥) → Table.allows want t.kind ≡ false → step q (kind_in s t) ≡ p-dead
  unfolding step
  not-allowed _ _ (start-any S) n h = rw (flat-kind n, h) refl
  not-allowed _ _ (start-text F) n h = rw (flat-kind n, h) refl
  not-allowed _ _ (start_operand r F i) n h = rw (flat-kind n, h) refl
  not-allowed _ _ (start-number F) n h = rw (flat-kind n, h) refl
  not-allowed _ _ (start-integer F) n h = rw (flat-kind n, h) refl
  not-allowed _ _ (start-float F) n h = rw (flat-kind n, h) refl

pub asked-most : (level : ℕ) (want : Want) → Asked level want → level ≤ 7
asked-most level _ (asked-any h) = omega (arith, h)
asked-most level _ (asked-text h i) = omega (arith, i)
asked-most level _ (asked-number h i) = omega (arith, i)
asked-most level _ (asked-integer h i) = omega (arith, i)
asked-most level _ (asked-float h i) = omega (arith, i)

pub inside-asked : (want : Want) → Asked (Table.inside_level want) want
unfolding Table.inside_level
inside-asked want-any = asked-any (omega arith)
inside-asked want-string = asked-text (omega arith) (omega arith)
inside-asked want-number = asked-number (omega arith) (omega arith)
inside-asked want-integer = asked-integer (omega arith) (omega arith)
inside-asked want-float = asked-float (omega arith) (omega arith)

pub asked_low : (level : ℕ) (want : Want) (m : ℕ) → Asked level want → m ≤ level → m ≤ 7
asked_low level want m a h = omega (arith, asked-most level want a, h)
