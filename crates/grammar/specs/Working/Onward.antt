-- The automaton along the reader: where it stands behind what was read, and where a mark leads it. Assumes nothing.
use Rattle.std.specs.Prelude.{◌≡◌, refl, Bool, true, false, ℕ, ◌+◌, ◌≤◌, ◌<◌, eqb}
use Rattle.std.proofs.Common.{sym, ap, ◌∙◌, arith, eqb-true, leb-false}
use Rattle.text.specs.Choice.{split}
use Rattle.lexical.specs.Kind
use Rattle.lexical.specs.Theorems.Bounds.{chosen}
use Rattle.syntax.specs.Operator.{Binary, Sort, a-string, an-integer, a-float, a_test}
use Rattle.conditions.specs.Table.{PartSort, sorted, word, Want, want-any, want-string, want-number, want-integer, want-float}
use Rattle.conditions.specs.Table
use Rattle.grammar.specs.Working.States.{TEXT, NUMBER, FLOATING, TEST, TRUE, Spot, in-clause, in-bracket, Frame, tests, right, State, p-dead, p-over, p-begin, p-arrow, p-block, p-any, p-text, p-number, p-have, p-names, p-princ, p-people, p-count, p-of, strict, step, end_at}
use Rattle.grammar.specs.Working.Accepts.{Words, w-text, w-word, Held, h-test, h-word}
use Rattle.grammar.specs.Working.Joints.{Fits, fit-test, fit-text, fit-number, fit-float, fit_word, fit-name, Unfit, unfit-text, unfit-number, unfit-float, Joint, j-power, j-product, j-sum, j-float-power, j-float-product, j-float-sum, j-orders, j-join, j-numbers, j-texts, j-match, j-and, j-or, Tabled, tabled, joint-tabled, TestFit, test_fits, test-unfit, test-fit, Operated, no-operator, joins, binds-less}
use Rattle.grammar.specs.Working.Told.{aim, Suits, suits-any, suits-text, suits-number, suits-decimal, suits-integer, suits-float}

-- the places where a reader of a level begins; one operand may stand for a string of any sort
pub data Starts (level : ℕ) : Want → State → Type 0 where
  start-any : (S : Spot) → Starts level want-any (p-any S)
  start-text : (F : Frame) → Starts level want-string (p-text TEXT F)
  start_operand : (r : PartSort) (F : Frame) → 5 < level → Starts level want-string (p-text r F)
  start-number : (F : Frame) → Starts level want-number (p-number want-number F)
  start-integer : (F : Frame) → Starts level want-integer (p-number want-integer F)
  start-float : (F : Frame) → Starts level want-float (p-number want-float F)

pub starts-up : (level m : ℕ) (want : Want) (q : State) → level ≤ m → Starts level want q → Starts m want q
starts-up level m _ _ h (start-any S) = start-any S
starts-up level m _ _ h (start-text F) = start-text F
starts-up level m _ _ h (start_operand r F i) = start_operand r F (omega (arith, h, i))
starts-up level m _ _ h (start-number F) = start-number F
starts-up level m _ _ h (start-integer F) = start-integer F
starts-up level m _ _ h (start-float F) = start-float F

-- where what was read from there leads
abbrev pub after_any : Spot → PartSort → State
after_any S (sorted a-string) = p-have TEXT (tests S)
after_any S (sorted an-integer) = p-have NUMBER (tests S)
after_any S (sorted a-float) = p-have FLOATING (tests S)
after_any S (sorted a_test) = p-have TEST (tests (strict S))
after_any S (word b) = p-have TRUE (tests S)

abbrev pub after_number : Frame → PartSort → State
after_number F (sorted a-string) = p-have NUMBER F
after_number F (sorted an-integer) = p-have NUMBER F
after_number F (sorted a-float) = p-have FLOATING F
after_number F (sorted a_test) = p-have NUMBER F
after_number F (word b) = p-have NUMBER F

abbrev pub after : State → PartSort → State
after p-dead sort = p-dead
after p-over sort = p-dead
after (p-begin d) sort = p-dead
after (p-arrow d) sort = p-dead
after (p-block d) sort = p-dead
after (p-any S) sort = after_any S sort
after (p-text r F) sort = p-have r F
after (p-number w F) sort = after_number F sort
after (p-have sort' F) sort = p-dead
after p-names sort = p-dead
after (p-princ u n) sort = p-dead
after (p-people n) sort = p-dead
after (p-count n) sort = p-dead
after (p-of n) sort = p-dead

-- at what levels a reader is asked for what
pub data Asked (level : ℕ) : Want → Type 0 where
  asked-any : level ≤ 2 → Asked level want-any
  asked-text : 2 < level → level ≤ 6 → Asked level want-string
  asked-number : 2 < level → level ≤ 6 → Asked level want-number
  asked-integer : 2 < level → level ≤ 6 → Asked level want-integer
  asked-float : 2 < level → level ≤ 6 → Asked level want-float

-- behind a string or a test at a place of tests
pub any-text : (S : Spot) (k : ℕ) (p : State) → ((sort : PartSort) (F : Frame) → Words S sort F → step (p-have sort F) k ≡ p) → (sort : PartSort) → Fits a-string sort → step (after (p-any S) sort) k ≡ p
any-text S k p h _ fit-text = h TEXT (tests S) w-text
any-text S k p h _ (fit-name b) = h TRUE (tests S) w-word

pub any-test : (S : Spot) (k : ℕ) (p : State) → ((sort : PartSort) (F : Frame) → Held S sort F → step (p-have sort F) k ≡ p) → (sort : PartSort) → Fits a_test sort → step (after (p-any S) sort) k ≡ p
any-test S k p h _ fit-test = h TEST (tests (strict S)) h-test
any-test S k p h _ (fit_word b) = h TRUE (tests S) h-word

-- the levels of the operators behind a test, and behind what is none
pub test_low : (k : ℕ) → Table.binds 2 (Table.operator (sorted a_test) k) ≡ false
unfolding Table.operator Table.test_operator Table.binds Table.level_of
test_low k = split (eqb k Kind.AND) (λ e. rw e) (λ e. split (eqb k Kind.OR) (λ f. rw (e, f)) (λ f. rw (e, f)))

pub test-none : (k : ℕ) → Table.binds 3 (Table.operator (sorted a_test) k) ≡ false
test-none k = binds-less 2 3 (Table.operator (sorted a_test) k) (test_low k) (omega arith)

level-two : (op : Binary) → 2 ≤ Table.level_of op → Table.binds 2 (Table.between op) ≡ false → Table.binds 0 (Table.between op) ≡ false
unfolding Table.binds
level-two op h b = absurd (let bad : ⊥ = omega (arith, h, leb-false 2 (Table.level_of op) b) in bad)

pub none-low : Table.binds 0 Table.no-infix ≡ false
unfolding Table.binds
none-low = refl

tabled-level : (op : Binary) (l : ℕ) (o r : Sort) → Tabled op l o r → Table.level_of op ≡ l
tabled-level op l o r (tabled a b c) = a

pub unfit-low : (sort : PartSort) (k : ℕ) (i : Table.Infix) → Unfit sort → Operated sort k i → Table.binds 2 i ≡ false → Table.binds 0 i ≡ false
unfit-low sort k _ u no-operator b = none-low
unfit-low _ k _ unfit-text (joins op l o r j-join fit-text) b = level-two op (omega (arith, tabled-level op l o r (joint-tabled k op l o r j-join))) b
unfit-low _ k _ unfit-text (joins op l o r (j-texts _ x c) fit-text) b = level-two op (omega (arith, tabled-level op l o r (joint-tabled k op l o r (j-texts k x c)))) b
unfit-low _ k _ unfit-text (joins op l o r j-match fit-text) b = level-two op (omega (arith, tabled-level op l o r (joint-tabled k op l o r j-match))) b
unfit-low _ k _ unfit-number (joins op l o r j-power fit-number) b = level-two op (omega (arith, tabled-level op l o r (joint-tabled k op l o r j-power))) b
unfit-low _ k _ unfit-number (joins op l o r (j-product _ _ c) fit-number) b = level-two op (omega (arith, tabled-level op l o r (joint-tabled k op l o r (j-product k op c)))) b
unfit-low _ k _ unfit-number (joins op l o r (j-sum _ _ c) fit-number) b = level-two op (omega (arith, tabled-level op l o r (joint-tabled k op l o r (j-sum k op c)))) b
unfit-low _ k _ unfit-number (joins op l o r (j-numbers _ x c) fit-number) b = level-two op (omega (arith, tabled-level op l o r (joint-tabled k op l o r (j-numbers k x c)))) b
unfit-low _ k _ unfit-float (joins op l o r j-float-power fit-float) b = level-two op (omega (arith, tabled-level op l o r (joint-tabled k op l o r j-float-power))) b
unfit-low _ k _ unfit-float (joins op l o r (j-float-product _ _ c) fit-float) b = level-two op (omega (arith, tabled-level op l o r (joint-tabled k op l o r (j-float-product k op c)))) b
unfit-low _ k _ unfit-float (joins op l o r (j-float-sum _ _ c) fit-float) b = level-two op (omega (arith, tabled-level op l o r (joint-tabled k op l o r (j-float-sum k op c)))) b
unfit-low _ k _ unfit-float (joins op l o r (j-orders _ x c) fit-float) b = level-two op (omega (arith, tabled-level op l o r (joint-tabled k op l o r (j-orders k x c)))) b
unfit-low _ _ _ unfit-text (joins _ _ _ _ j-power x16) b = elim x16 [ ]
unfit-low _ k _ unfit-text (joins op _ _ _ (j-product _ _ c) x22) b = elim x22 [ ]
unfit-low _ k _ unfit-text (joins op _ _ _ (j-sum _ _ c) x23) b = elim x23 [ ]
unfit-low _ _ _ unfit-text (joins _ _ _ _ j-float-power x19) b = elim x19 [ ]
unfit-low _ k _ unfit-text (joins op _ _ _ (j-float-product _ _ c) x25) b = elim x25 [ ]
unfit-low _ k _ unfit-text (joins op _ _ _ (j-float-sum _ _ c) x26) b = elim x26 [ ]
unfit-low _ k _ unfit-text (joins _ _ _ _ (j-orders _ x c) x29) b = elim x29 [ ]
unfit-low _ k _ unfit-text (joins _ _ _ _ (j-numbers _ x c) x30) b = elim x30 [ ]
unfit-low _ _ _ unfit-text (joins _ _ _ _ j-and x24) b = elim x24 [ ]
unfit-low _ _ _ unfit-text (joins _ _ _ _ j-or x25) b = elim x25 [ ]
unfit-low _ _ _ unfit-number (joins _ _ _ _ j-float-power x17) b = elim x17 [ ]
unfit-low _ k _ unfit-number (joins op _ _ _ (j-float-product _ _ c) x23) b = elim x23 [ ]
unfit-low _ k _ unfit-number (joins op _ _ _ (j-float-sum _ _ c) x24) b = elim x24 [ ]
unfit-low _ k _ unfit-number (joins _ _ _ _ (j-orders _ x c) x27) b = elim x27 [ ]
unfit-low _ _ _ unfit-number (joins _ _ _ _ j-join x21) b = elim x21 [ ]
unfit-low _ k _ unfit-number (joins _ _ _ _ (j-texts _ x c) x29) b = elim x29 [ ]
unfit-low _ _ _ unfit-number (joins _ _ _ _ j-match x23) b = elim x23 [ ]
unfit-low _ _ _ unfit-number (joins _ _ _ _ j-and x24) b = elim x24 [ ]
unfit-low _ _ _ unfit-number (joins _ _ _ _ j-or x25) b = elim x25 [ ]
unfit-low _ _ _ unfit-float (joins _ _ _ _ j-power x18) b = elim x18 [ ]
unfit-low _ k _ unfit-float (joins op _ _ _ (j-product _ _ c) x24) b = elim x24 [ ]
unfit-low _ k _ unfit-float (joins op _ _ _ (j-sum _ _ c) x25) b = elim x25 [ ]
unfit-low _ _ _ unfit-float (joins _ _ _ _ j-join x21) b = elim x21 [ ]
unfit-low _ k _ unfit-float (joins _ _ _ _ (j-numbers _ x c) x29) b = elim x29 [ ]
unfit-low _ k _ unfit-float (joins _ _ _ _ (j-texts _ x c) x30) b = elim x30 [ ]
unfit-low _ _ _ unfit-float (joins _ _ _ _ j-match x24) b = elim x24 [ ]
unfit-low _ _ _ unfit-float (joins _ _ _ _ j-and x25) b = elim x25 [ ]
unfit-low _ _ _ unfit-float (joins _ _ _ _ j-or x26) b = elim x26 [ ]

-- the right side of a comparison, where its operators end, is a test
pub right-text : (S : Spot) (k : ℕ) → Table.binds 3 (Table.operator (sorted a-string) k) ≡ false → step (p-have TEXT (right S)) k ≡ step (p-have TEST (tests S)) k
unfolding step
right-text S k b = rw (b, test-none k, test_low k)

pub right-number : (S : Spot) (k : ℕ) → Table.binds 3 (Table.operator (sorted an-integer) k) ≡ false → step (p-have NUMBER (right S)) k ≡ step (p-have TEST (tests S)) k
unfolding step
right-number S k b = rw (b, test-none k, test_low k)

pub right-float : (S : Spot) (k : ℕ) → Table.binds 3 (Table.operator (sorted a-float) k) ≡ false → step (p-have FLOATING (right S)) k ≡ step (p-have TEST (tests S)) k
unfolding step
right-float S k b = rw (b, test-none k, test_low k)

pub word-ends : (S : Spot) (k : ℕ) → end_at TRUE (strict S) k ≡ end_at TEST (strict S) k
word-ends (in-clause d) k = refl
word-ends (in-bracket b S) k = refl

pub word_same : (b : Bool) (k : ℕ) → Table.operator (word b) k ≡ Table.operator (word true) k
unfolding Table.operator
word_same b k = refl

pub unfit-ends : (S : Spot) (sort : PartSort) (k : ℕ) → Unfit sort → end_at sort (strict S) k ≡ p-dead
unfit-ends (in-clause d) _ k unfit-text = refl
unfit-ends (in-clause d) _ k unfit-number = refl
unfit-ends (in-clause d) _ k unfit-float = refl
unfit-ends (in-bracket b S) _ k unfit-float = chosen (λ (q : State). q ≡ p-dead) (eqb k Kind.CLOSE) p-dead p-dead (λ e. refl) (λ e. refl)
unfit-ends (in-bracket b S) _ k unfit-text = chosen (λ (q : State). q ≡ p-dead) (eqb k Kind.CLOSE) p-dead p-dead (λ e. refl) (λ e. refl)
unfit-ends (in-bracket b S) _ k unfit-number = chosen (λ (q : State). q ≡ p-dead) (eqb k Kind.CLOSE) p-dead p-dead (λ e. refl) (λ e. refl)

-- p, behind a mark, is where an operand is wanted; behind that what the mark makes is read
pub data Onward (q : State) (level : ℕ) (want : Want) (o r : Sort) (p : State) : Type 0 where
  onward : (q' : State) → p ≡ q' → Starts level want q'
      → ((sort : PartSort) (k : ℕ) → Fits o sort → Table.binds level (Table.operator sort k) ≡ false → step (after q' sort) k ≡ step (after q (sorted r)) k)
      → ((sort : PartSort) (k : ℕ) → o ≡ a_test → Unfit sort → Table.binds level (Table.operator sort k) ≡ false → step (after q' sort) k ≡ p-dead)
      → Onward q level want o r p

-- of a string or a number, nothing but that is read
pub typed : (q : State) (level : ℕ) (want : Want) (o r : Sort) (p q' : State) → p ≡ q' → Starts level want q' → (o ≡ a_test → ⊥)
    → ((sort : PartSort) (k : ℕ) → Fits o sort → Table.binds level (Table.operator sort k) ≡ false → step (after q' sort) k ≡ step (after q (sorted r)) k) → Onward q level want o r p
typed q level want o r p q' e st apart h = onward q' e st h (λ sort k z u b. absurd (apart z))

pub text-fit : (sort : PartSort) (k level : ℕ) → Fits a-string sort → Table.binds level (Table.operator sort k) ≡ false → Table.binds level (Table.operator (sorted a-string) k) ≡ false
unfolding Table.operator Table.test_operator Table.text_operator Table.comparison Table.binds
text-fit _ k level fit-text b = b
text-fit _ k level (fit-name c) b = split (eqb k Kind.AND) (λ e. rw (eqb-true k _ e) refl) (λ e. split (eqb k Kind.OR) (λ f. rw (eqb-true k _ f) refl) (λ f. rw (e, f) at b))

pub number-fit : (sort : PartSort) (k level : ℕ) → Fits an-integer sort → Table.binds level (Table.operator sort k) ≡ false → Table.binds level (Table.operator (sorted an-integer) k) ≡ false
number-fit _ k level fit-number b = b

pub float-fit : (sort : PartSort) (k level : ℕ) → Fits a-float sort → Table.binds level (Table.operator sort k) ≡ false → Table.binds level (Table.operator (sorted a-float) k) ≡ false
float-fit _ k level fit-float b = b

pub float_test : a-float ≡ a_test → ⊥
float_test z = let v : ◌≡◌ {A = ℕ} 0 1 = cc in omega (arith, v)

pub number-test : an-integer ≡ a_test → ⊥
number-test z = let v : ◌≡◌ {A = ℕ} 0 1 = cc in omega (arith, v)

pub text-test : a-string ≡ a_test → ⊥
text-test z = let v : ◌≡◌ {A = ℕ} 0 1 = cc in omega (arith, v)

-- behind a number, and behind a float
pub number-after : (F : Frame) (sort : PartSort) → Fits an-integer sort → after_number F sort ≡ p-have NUMBER F
number-after F _ fit-number = refl

pub float-after : (F : Frame) (sort : PartSort) → Fits a-float sort → after_number F sort ≡ p-have FLOATING F
float-after F _ fit-float = refl

-- an operator between integers
pub arithmetic : (q : State) (F : Frame) (level k : ℕ) → after q (sorted an-integer) ≡ p-have NUMBER F → step (p-have NUMBER F) k ≡ p-number want-integer F
    → Onward q level want-integer an-integer an-integer (step (after q (sorted an-integer)) k)
arithmetic q F level k e f =
    typed q level want-integer an-integer an-integer (step (after q (sorted an-integer)) k) (p-number want-integer F) (ap (λ (p : State). step p k) e ∙ f) (start-integer F) number-test
    (λ sort j h b. ap (λ (p : State). step p j) (number-after F sort h ∙ sym e))

-- and between floats
pub computing : (q : State) (F : Frame) (level k : ℕ) → after q (sorted a-float) ≡ p-have FLOATING F → step (p-have FLOATING F) k ≡ p-number want-float F
    → Onward q level want-float a-float a-float (step (after q (sorted a-float)) k)
computing q F level k e f =
    typed q level want-float a-float a-float (step (after q (sorted a-float)) k) (p-number want-float F) (ap (λ (p : State). step p k) e ∙ f) (start-float F) float_test
    (λ sort j h b. ap (λ (p : State). step p j) (float-after F sort h ∙ sym e))

-- and what is read then suits what was wanted
pub joint-suits : (level : ℕ) (want : Want) (sort : PartSort) (k : ℕ) (op : Binary) (l : ℕ) (o r : Sort) → Asked level want → Suits want sort → Joint k op l o r → Fits o sort → level ≤ l → Suits want (sorted r)
joint-suits level _ _ _ _ _ _ _ a (suits-any sort) j-power f h = suits-any _
joint-suits level _ _ _ _ _ _ _ a (suits-any sort) (j-product k op c) f h = suits-any _
joint-suits level _ _ _ _ _ _ _ a (suits-any sort) (j-sum k op c) f h = suits-any _
joint-suits level _ _ _ _ _ _ _ a (suits-any sort) j-float-power f h = suits-any _
joint-suits level _ _ _ _ _ _ _ a (suits-any sort) (j-float-product k op c) f h = suits-any _
joint-suits level _ _ _ _ _ _ _ a (suits-any sort) (j-float-sum k op c) f h = suits-any _
joint-suits level _ _ _ _ _ _ _ a (suits-any sort) (j-orders k y c) f h = suits-any _
joint-suits level _ _ _ _ _ _ _ a (suits-any sort) j-join f h = suits-any _
joint-suits level _ _ _ _ _ _ _ a (suits-any sort) (j-numbers k y c) f h = suits-any _
joint-suits level _ _ _ _ _ _ _ a (suits-any sort) (j-texts k y c) f h = suits-any _
joint-suits level _ _ _ _ _ _ _ a (suits-any sort) j-match f h = suits-any _
joint-suits level _ _ _ _ _ _ _ a (suits-any sort) j-and f h = suits-any _
joint-suits level _ _ _ _ _ _ _ a (suits-any sort) j-or f h = suits-any _
joint-suits level _ _ _ _ _ _ _ a suits-text j-join fit-text h = suits-text
joint-suits level _ _ _ _ _ _ _ (asked-text i g) suits-text (j-texts k y c) fit-text h = absurd (let bad : ⊥ = omega (arith, i, h) in bad)
joint-suits level _ _ _ _ _ _ _ (asked-text i g) suits-text j-match fit-text h = absurd (let bad : ⊥ = omega (arith, i, h) in bad)
joint-suits level _ _ _ _ _ _ _ a suits-number j-power fit-number h = suits-number
joint-suits level _ _ _ _ _ _ _ a suits-number (j-product k op c) fit-number h = suits-number
joint-suits level _ _ _ _ _ _ _ a suits-number (j-sum k op c) fit-number h = suits-number
joint-suits level _ _ _ _ _ _ _ (asked-number i g) suits-number (j-numbers k y c) fit-number h = absurd (let bad : ⊥ = omega (arith, i, h) in bad)
joint-suits level _ _ _ _ _ _ _ a suits-integer j-power fit-number h = suits-integer
joint-suits level _ _ _ _ _ _ _ a suits-integer (j-product k op c) fit-number h = suits-integer
joint-suits level _ _ _ _ _ _ _ a suits-integer (j-sum k op c) fit-number h = suits-integer
joint-suits level _ _ _ _ _ _ _ (asked-integer i g) suits-integer (j-numbers k y c) fit-number h = absurd (let bad : ⊥ = omega (arith, i, h) in bad)
joint-suits level _ _ _ _ _ _ _ a suits-decimal j-float-power fit-float h = suits-decimal
joint-suits level _ _ _ _ _ _ _ a suits-decimal (j-float-product k op c) fit-float h = suits-decimal
joint-suits level _ _ _ _ _ _ _ a suits-decimal (j-float-sum k op c) fit-float h = suits-decimal
joint-suits level _ _ _ _ _ _ _ (asked-number i g) suits-decimal (j-orders k y c) fit-float h = absurd (let bad : ⊥ = omega (arith, i, h) in bad)
joint-suits level _ _ _ _ _ _ _ a suits-float j-float-power fit-float h = suits-float
joint-suits level _ _ _ _ _ _ _ a suits-float (j-float-product k op c) fit-float h = suits-float
joint-suits level _ _ _ _ _ _ _ a suits-float (j-float-sum k op c) fit-float h = suits-float
joint-suits level _ _ _ _ _ _ _ (asked-float i g) suits-float (j-orders k y c) fit-float h = absurd (let bad : ⊥ = omega (arith, i, h) in bad)
joint-suits level _ _ _ _ _ _ _ a suits-text j-power f h = elim f [ ]
joint-suits level _ _ k op _ _ _ a suits-text (j-product _ _ c) f h = elim f [ ]
joint-suits level _ _ k op _ _ _ a suits-text (j-sum _ _ c) f h = elim f [ ]
joint-suits level _ _ _ _ _ _ _ a suits-text j-float-power f h = elim f [ ]
joint-suits level _ _ k op _ _ _ a suits-text (j-float-product _ _ c) f h = elim f [ ]
joint-suits level _ _ k op _ _ _ a suits-text (j-float-sum _ _ c) f h = elim f [ ]
joint-suits level _ _ k _ _ _ _ a suits-text (j-orders _ y c) f h = elim f [ ]
joint-suits level _ _ k _ _ _ _ a suits-text (j-numbers _ y c) f h = elim f [ ]
joint-suits level _ _ _ _ _ _ _ a suits-text j-and f h = elim f [ ]
joint-suits level _ _ _ _ _ _ _ a suits-text j-or f h = elim f [ ]
joint-suits level _ _ _ _ _ _ _ a suits-number j-float-power f h = elim f [ ]
joint-suits level _ _ k op _ _ _ a suits-number (j-float-product _ _ c) f h = elim f [ ]
joint-suits level _ _ k op _ _ _ a suits-number (j-float-sum _ _ c) f h = elim f [ ]
joint-suits level _ _ k _ _ _ _ a suits-number (j-orders _ y c) f h = elim f [ ]
joint-suits level _ _ _ _ _ _ _ a suits-number j-join f h = elim f [ ]
joint-suits level _ _ k _ _ _ _ a suits-number (j-texts _ y c) f h = elim f [ ]
joint-suits level _ _ _ _ _ _ _ a suits-number j-match f h = elim f [ ]
joint-suits level _ _ _ _ _ _ _ a suits-number j-and f h = elim f [ ]
joint-suits level _ _ _ _ _ _ _ a suits-number j-or f h = elim f [ ]
joint-suits level _ _ _ _ _ _ _ a suits-decimal j-power f h = elim f [ ]
joint-suits level _ _ k op _ _ _ a suits-decimal (j-product _ _ c) f h = elim f [ ]
joint-suits level _ _ k op _ _ _ a suits-decimal (j-sum _ _ c) f h = elim f [ ]
joint-suits level _ _ _ _ _ _ _ a suits-decimal j-join f h = elim f [ ]
joint-suits level _ _ k _ _ _ _ a suits-decimal (j-numbers _ y c) f h = elim f [ ]
joint-suits level _ _ k _ _ _ _ a suits-decimal (j-texts _ y c) f h = elim f [ ]
joint-suits level _ _ _ _ _ _ _ a suits-decimal j-match f h = elim f [ ]
joint-suits level _ _ _ _ _ _ _ a suits-decimal j-and f h = elim f [ ]
joint-suits level _ _ _ _ _ _ _ a suits-decimal j-or f h = elim f [ ]
joint-suits level _ _ _ _ _ _ _ a suits-integer j-float-power f h = elim f [ ]
joint-suits level _ _ k op _ _ _ a suits-integer (j-float-product _ _ c) f h = elim f [ ]
joint-suits level _ _ k op _ _ _ a suits-integer (j-float-sum _ _ c) f h = elim f [ ]
joint-suits level _ _ k _ _ _ _ a suits-integer (j-orders _ y c) f h = elim f [ ]
joint-suits level _ _ _ _ _ _ _ a suits-integer j-join f h = elim f [ ]
joint-suits level _ _ k _ _ _ _ a suits-integer (j-texts _ y c) f h = elim f [ ]
joint-suits level _ _ _ _ _ _ _ a suits-integer j-match f h = elim f [ ]
joint-suits level _ _ _ _ _ _ _ a suits-integer j-and f h = elim f [ ]
joint-suits level _ _ _ _ _ _ _ a suits-integer j-or f h = elim f [ ]
joint-suits level _ _ _ _ _ _ _ a suits-float j-power f h = elim f [ ]
joint-suits level _ _ k op _ _ _ a suits-float (j-product _ _ c) f h = elim f [ ]
joint-suits level _ _ k op _ _ _ a suits-float (j-sum _ _ c) f h = elim f [ ]
joint-suits level _ _ _ _ _ _ _ a suits-float j-join f h = elim f [ ]
joint-suits level _ _ k _ _ _ _ a suits-float (j-numbers _ y c) f h = elim f [ ]
joint-suits level _ _ k _ _ _ _ a suits-float (j-texts _ y c) f h = elim f [ ]
joint-suits level _ _ _ _ _ _ _ a suits-float j-match f h = elim f [ ]
joint-suits level _ _ _ _ _ _ _ a suits-float j-and f h = elim f [ ]
joint-suits level _ _ _ _ _ _ _ a suits-float j-or f h = elim f [ ]

test-ends : (m : ℕ) (sort : PartSort) (k : ℕ) → Fits a_test sort → Table.binds m (Table.operator sort k) ≡ false → Table.binds m (Table.operator (sorted a_test) k) ≡ false
unfolding Table.operator Table.test_operator Table.binds
test-ends m _ k fit-test b = b
test-ends m _ k (fit_word c) b = split (eqb k Kind.AND) (λ e. rw e (rw e at b)) (λ e. split (eqb k Kind.OR) (λ f. rw (e, f) (rw (e, f) at b)) (λ f. rw (e, f) refl))

-- what follows the right operand and is no operator there is none behind the whole
pub joint-ends : (k : ℕ) (op : Binary) (l : ℕ) (o r : Sort) → Joint k op l o r → (sort : PartSort) (j : ℕ) → Fits o sort → Table.binds (l + 1) (Table.operator sort j) ≡ false
    → Table.binds (l + 1) (Table.operator (sorted r) j) ≡ false
joint-ends _ _ _ _ _ j-power sort j f b = number-fit sort j 6 f b
joint-ends _ _ _ _ _ (j-product k op c) sort j f b = number-fit sort j 5 f b
joint-ends _ _ _ _ _ (j-sum k op c) sort j f b = number-fit sort j 4 f b
joint-ends _ _ _ _ _ j-float-power sort j f b = float-fit sort j 6 f b
joint-ends _ _ _ _ _ (j-float-product k op c) sort j f b = float-fit sort j 5 f b
joint-ends _ _ _ _ _ (j-float-sum k op c) sort j f b = float-fit sort j 4 f b
joint-ends _ _ _ _ _ (j-orders k y c) sort j f b = test-none j
joint-ends _ _ _ _ _ j-join sort j f b = text-fit sort j 4 f b
joint-ends _ _ _ _ _ (j-numbers k y c) sort j f b = test-none j
joint-ends _ _ _ _ _ (j-texts k y c) sort j f b = test-none j
joint-ends _ _ _ _ _ j-match sort j f b = test-none j
joint-ends _ _ _ _ _ j-and sort j f b = test_low j
joint-ends _ _ _ _ _ j-or sort j f b = test-ends 1 sort j f b

pub joint-asked : (k : ℕ) (op : Binary) (l : ℕ) (o r : Sort) → Joint k op l o r → Asked (l + 1) (Table.want_of o)
joint-asked _ _ _ _ _ j-power = asked-integer (omega arith) (omega arith)
joint-asked _ _ _ _ _ (j-product k op c) = asked-integer (omega arith) (omega arith)
joint-asked _ _ _ _ _ (j-sum k op c) = asked-integer (omega arith) (omega arith)
joint-asked _ _ _ _ _ j-float-power = asked-float (omega arith) (omega arith)
joint-asked _ _ _ _ _ (j-float-product k op c) = asked-float (omega arith) (omega arith)
joint-asked _ _ _ _ _ (j-float-sum k op c) = asked-float (omega arith) (omega arith)
joint-asked _ _ _ _ _ (j-orders k y c) = asked-float (omega arith) (omega arith)
joint-asked _ _ _ _ _ j-join = asked-text (omega arith) (omega arith)
joint-asked _ _ _ _ _ (j-numbers k y c) = asked-integer (omega arith) (omega arith)
joint-asked _ _ _ _ _ (j-texts k y c) = asked-text (omega arith) (omega arith)
joint-asked _ _ _ _ _ j-match = asked-text (omega arith) (omega arith)
joint-asked _ _ _ _ _ j-and = asked-any (omega arith)
joint-asked _ _ _ _ _ j-or = asked-any (omega arith)

-- what was read where it was wanted fits, or is no test where one was wanted
pub data RightFit (o : Sort) (sort : PartSort) : Bool → Type 0 where
  right-fits : Fits o sort → RightFit o sort true
  right-unfit : o ≡ a_test → Unfit sort → RightFit o sort false

from-test : (sort : PartSort) (b : Bool) → TestFit sort b → RightFit a_test sort b
from-test sort _ (test_fits f) = right-fits f
from-test sort _ (test-unfit u) = right-unfit refl u

pub right-fit : (want : Want) (sort : PartSort) → Suits want sort → RightFit (aim want sort) sort (Table.fits (aim want sort) sort)
unfolding Table.fits
right-fit _ _ (suits-any sort) = from-test sort (Table.fits a_test sort) (test-fit sort)
right-fit _ _ suits-text = right-fits fit-text
right-fit _ _ suits-number = right-fits fit-number
right-fit _ _ suits-decimal = right-fits fit-float
right-fit _ _ suits-integer = right-fits fit-number
right-fit _ _ suits-float = right-fits fit-float
