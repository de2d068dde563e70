-- The automaton along the reader: where it stands behind what was read, and where a mark leads it. Assumes nothing.
use Rattle.std.specs.Prelude.{◌≡◌, refl, true, false, ℕ, ◌+◌, ◌≤◌, eqb}
use Rattle.std.proofs.Common.{sym, ap, ◌∙◌, arith}
use Rattle.text.specs.Choice.{split}
use Rattle.lexical.specs.Kind
use Rattle.syntax.specs.Operator.{Binary, Sort, a-string, an-integer, a-float, a_test}
use Rattle.conditions.specs.Table.{PartSort, sorted, word, Want, want-any, want-string, want-number, want-integer, want-float}
use Rattle.conditions.specs.Table
use Rattle.grammar.specs.Theorems.Shadow.{product-shadow, sum-shadow, float-product-shadow, float-sum-shadow, order-shadow, compare-shadow}
use Rattle.grammar.specs.Working.States.{TEXT, TEST, TRUE, Spot, tests, right, State, p-dead, p-any, p-text, p-number, p-have, strict, step}
use Rattle.grammar.specs.Working.Accepts.{Junction, junction-and, junction-or, strict-strict, power-number, product-number, sum_number, power-float, times-float, sum-float, dot-text, words-dot, number-compare, float-compare, words-compare, words-match, held-junction}
use Rattle.grammar.specs.Working.Joints.{Fits, fit-test, fit-text, fit-number, fit-float, fit_word, Unfit, unfit-text, unfit-number, unfit-float, Joint, j-power, j-product, j-sum, j-float-power, j-float-product, j-float-sum, j-orders, j-join, j-numbers, j-texts, j-match, j-and, j-or, Operated, binds-less}
use Rattle.grammar.proofs.Working.Joints.{operated}
use Rattle.grammar.specs.Working.Told.{Suits, suits-text, suits-number, suits-decimal, suits-integer, suits-float}
use Rattle.grammar.specs.Working.Onward.{Asked, Onward, Starts, after, any-test, any-text, arithmetic, asked-float, asked-integer, asked-number, asked-text, computing, float-after, float-fit, float_test, none-low, number-after, number-fit, number-test, onward, right-float, right-number, right-text, start-any, start-float, start-integer, start-number, start-text, start_operand, test-none, test_low, text-fit, text-test, typed, unfit-ends, unfit-low, word-ends, word_same}

-- a bare word that no operator of strings follows is a test
word-operator : (k : ℕ) → Table.binds 2 (Table.operator (word true) k) ≡ false → Table.binds 0 (Table.operator (word true) k) ≡ Table.binds 0 (Table.operator (sorted a_test) k)
unfolding Table.operator Table.test_operator
word-operator k b =
    split (eqb k Kind.AND) (λ e. rw e)
    (λ e. split (eqb k Kind.OR) (λ f. rw (e, f))
    (λ f.
    let o : Operated (sorted a-string) k (Table.text_operator k) = operated (sorted a-string) k in
    let z : Table.binds 0 (Table.text_operator k) ≡ false = unfit-low (sorted a-string) k (Table.text_operator k) unfit-text o (rw (e, f) at b) in
    rw (e, f) (z ∙ sym (none-low))))

word-strict : (S : Spot) (k : ℕ) → Table.binds 2 (Table.operator (word true) k) ≡ false → step (p-have TRUE (tests (strict S))) k ≡ step (p-have TEST (tests (strict S))) k
unfolding step
word-strict S k b =
    rw (binds-less 2 3 (Table.operator (word true) k) b (omega arith), b, word-operator k b, test-none k, test_low k, word-ends S k)

pub strict-test : (S : Spot) (m : ℕ) → m ≤ 2 → (sort : PartSort) (k : ℕ) → Fits a_test sort → Table.binds m (Table.operator sort k) ≡ false
    → step (after (p-any (strict S)) sort) k ≡ step (after (p-any S) (sorted a_test)) k
strict-test S m h _ k fit-test b = ap (λ (x : Spot). step (p-have TEST (tests x)) k) (strict-strict S)
strict-test S m h _ k (fit_word c) b = word-strict S k (binds-less m 2 (Table.operator (word true) k) (ap (Table.binds m) (sym (word_same c k)) ∙ b) h)

-- where only a test may stand, a string or a number that no operator follows leads nowhere
pub strict-dead : (S : Spot) (m : ℕ) → m ≤ 2 → (sort : PartSort) (k : ℕ) → Unfit sort → Table.binds m (Table.operator sort k) ≡ false → step (after (p-any (strict S)) sort) k ≡ p-dead
unfolding step
strict-dead S m h _ k unfit-text b =
    let c : Table.binds 2 (Table.operator (sorted a-string) k) ≡ false = binds-less m 2 (Table.operator (sorted a-string) k) b h in
    rw (binds-less 2 3 (Table.operator (sorted a-string) k) c (omega arith), c, unfit-low (sorted a-string) k (Table.operator (sorted a-string) k) unfit-text (operated (sorted a-string) k) c, unfit-ends S (sorted a-string) k unfit-text)
strict-dead S m h _ k unfit-number b =
    let c : Table.binds 2 (Table.operator (sorted an-integer) k) ≡ false = binds-less m 2 (Table.operator (sorted an-integer) k) b h in
    rw (binds-less 2 3 (Table.operator (sorted an-integer) k) c (omega arith), c, unfit-low (sorted an-integer) k (Table.operator (sorted an-integer) k) unfit-number (operated (sorted an-integer) k) c, unfit-ends S (sorted an-integer) k unfit-number)
strict-dead S m h _ k unfit-float b =
    let c : Table.binds 2 (Table.operator (sorted a-float) k) ≡ false = binds-less m 2 (Table.operator (sorted a-float) k) b h in
    rw (binds-less 2 3 (Table.operator (sorted a-float) k) c (omega arith), c, unfit-low (sorted a-float) k (Table.operator (sorted a-float) k) unfit-float (operated (sorted a-float) k) c, unfit-ends S (sorted a-float) k unfit-float)

junction : (S : Spot) (m k : ℕ) → m ≤ 2 → Junction k → (sort : PartSort) → Fits a_test sort → Onward (p-any S) m want-any a_test a_test (step (after (p-any S) sort) k)
junction S m k h j sort f =
    onward (p-any (strict S)) (any-test S k (p-any (strict S)) (held-junction S k j) sort f) (start-any (strict S)) (strict-test S m h) (λ sort k z u b. strict-dead S m h sort k u b)

-- where an operator leads behind what was read
pub joint-onward : (level : ℕ) (want : Want) (sort : PartSort) (k : ℕ) (op : Binary) (l : ℕ) (o r : Sort) (q : State) → Asked level want → Starts level want q → Suits want sort → Joint k op l o r → Fits o sort → level ≤ l
    → Onward q (l + 1) (Table.want_of o) o r (step (after q sort) k)
joint-onward level _ _ _ _ _ _ _ _ a (start-any S) u j-power fit-number h = arithmetic (p-any S) (tests S) 6 Kind.POWER refl (power-number (tests S))
joint-onward level _ _ _ _ _ _ _ _ a (start-any S) u (j-product k op c) fit-number h = arithmetic (p-any S) (tests S) 5 k refl (product-number (tests S) k (product-shadow k op c).0)
joint-onward level _ _ _ _ _ _ _ _ a (start-any S) u (j-sum k op c) fit-number h = arithmetic (p-any S) (tests S) 4 k refl (sum_number (tests S) k (sum-shadow k op c).0)
joint-onward level _ _ _ _ _ _ _ _ a (start-any S) u j-float-power fit-float h = computing (p-any S) (tests S) 6 Kind.POWER refl (power-float (tests S))
joint-onward level _ _ _ _ _ _ _ _ a (start-any S) u (j-float-product k op c) fit-float h = computing (p-any S) (tests S) 5 k refl (times-float (tests S) k (float-product-shadow k op c).0)
joint-onward level _ _ _ _ _ _ _ _ a (start-any S) u (j-float-sum k op c) fit-float h = computing (p-any S) (tests S) 4 k refl (sum-float (tests S) k (float-sum-shadow k op c).0)
joint-onward level _ _ _ _ _ _ _ _ a (start-any S) u (j-orders k y c) fit-float h =
    typed (p-any S) 3 want-float a-float a_test _ (p-number want-float (right (strict S))) (float-compare S k (order-shadow k y c).0) (start-float (right (strict S))) float_test
    (λ x j g b. ap (λ (p : State). step p j) (float-after (right (strict S)) x g) ∙ right-float (strict S) j (float-fit x j 3 g b))
joint-onward level _ sort _ _ _ _ _ _ a (start-any S) u j-join f h =
    typed (p-any S) 4 want-string a-string a-string _ (p-text TEXT (tests S)) (any-text S Kind.DOT _ (words-dot S) sort f) (start-text (tests S)) text-test (λ x j g b. refl)
joint-onward level _ _ _ _ _ _ _ _ a (start-any S) u (j-numbers k y c) fit-number h =
    typed (p-any S) 3 want-integer an-integer a_test _ (p-number want-integer (right (strict S))) (number-compare S k (compare-shadow k y c).0) (start-integer (right (strict S))) number-test
    (λ x j g b. ap (λ (p : State). step p j) (number-after (right (strict S)) x g) ∙ right-number (strict S) j (number-fit x j 3 g b))
joint-onward level _ sort _ _ _ _ _ _ a (start-any S) u (j-texts k y c) f h =
    typed (p-any S) 3 want-string a-string a_test _ (p-text TEXT (right (strict S))) (any-text S k _ (words-compare S k (compare-shadow k y c).0) sort f) (start-text (right (strict S))) text-test
    (λ x j g b. right-text (strict S) j (text-fit x j 3 g b))
joint-onward level _ sort _ _ _ _ _ _ a (start-any S) u j-match f h =
    typed (p-any S) 3 want-string a-string a_test _ (p-text TEXT (right (strict S))) (any-text S Kind.MATCHES _ (words-match S) sort f) (start-text (right (strict S))) text-test
    (λ x j g b. right-text (strict S) j (text-fit x j 3 g b))
joint-onward level _ sort _ _ _ _ _ _ a (start-any S) u j-and f h = junction S 2 Kind.AND (omega arith) junction-and sort f
joint-onward level _ sort _ _ _ _ _ _ a (start-any S) u j-or f h = junction S 1 Kind.OR (omega arith) junction-or sort f
joint-onward level _ _ _ _ _ _ _ _ a (start-text F) suits-text j-join fit-text h =
    typed (p-text TEXT F) 4 want-string a-string a-string _ (p-text TEXT F) (dot-text F) (start-text F) text-test (λ x j g b. refl)
joint-onward level _ _ _ _ _ _ _ _ (asked-text i g) (start-text F) suits-text (j-texts k y c) fit-text h = absurd (let bad : ⊥ = omega (arith, i, h) in bad)
joint-onward level _ _ _ _ _ _ _ _ (asked-text i g) (start-text F) suits-text j-match fit-text h = absurd (let bad : ⊥ = omega (arith, i, h) in bad)
joint-onward level _ _ _ _ _ _ _ _ a (start_operand x F i) suits-text j-join fit-text h = absurd (let bad : ⊥ = omega (arith, i, h) in bad)
joint-onward level _ _ _ _ _ _ _ _ a (start_operand x F i) suits-text (j-texts k y c) fit-text h = absurd (let bad : ⊥ = omega (arith, i, h) in bad)
joint-onward level _ _ _ _ _ _ _ _ a (start_operand x F i) suits-text j-match fit-text h = absurd (let bad : ⊥ = omega (arith, i, h) in bad)
joint-onward level _ _ _ _ _ _ _ _ a (start-number F) suits-number j-power fit-number h = arithmetic (p-number want-number F) F 6 Kind.POWER refl (power-number F)
joint-onward level _ _ _ _ _ _ _ _ a (start-number F) suits-number (j-product k op c) fit-number h = arithmetic (p-number want-number F) F 5 k refl (product-number F k (product-shadow k op c).0)
joint-onward level _ _ _ _ _ _ _ _ a (start-number F) suits-number (j-sum k op c) fit-number h = arithmetic (p-number want-number F) F 4 k refl (sum_number F k (sum-shadow k op c).0)
joint-onward level _ _ _ _ _ _ _ _ (asked-number i g) (start-number F) suits-number (j-numbers k y c) fit-number h = absurd (let bad : ⊥ = omega (arith, i, h) in bad)
joint-onward level _ _ _ _ _ _ _ _ a (start-integer F) suits-integer j-power fit-number h = arithmetic (p-number want-integer F) F 6 Kind.POWER refl (power-number F)
joint-onward level _ _ _ _ _ _ _ _ a (start-integer F) suits-integer (j-product k op c) fit-number h = arithmetic (p-number want-integer F) F 5 k refl (product-number F k (product-shadow k op c).0)
joint-onward level _ _ _ _ _ _ _ _ a (start-integer F) suits-integer (j-sum k op c) fit-number h = arithmetic (p-number want-integer F) F 4 k refl (sum_number F k (sum-shadow k op c).0)
joint-onward level _ _ _ _ _ _ _ _ (asked-integer i g) (start-integer F) suits-integer (j-numbers k y c) fit-number h = absurd (let bad : ⊥ = omega (arith, i, h) in bad)
joint-onward level _ _ _ _ _ _ _ _ a (start-number F) suits-decimal j-float-power fit-float h = computing (p-number want-number F) F 6 Kind.POWER refl (power-float F)
joint-onward level _ _ _ _ _ _ _ _ a (start-number F) suits-decimal (j-float-product k op c) fit-float h = computing (p-number want-number F) F 5 k refl (times-float F k (float-product-shadow k op c).0)
joint-onward level _ _ _ _ _ _ _ _ a (start-number F) suits-decimal (j-float-sum k op c) fit-float h = computing (p-number want-number F) F 4 k refl (sum-float F k (float-sum-shadow k op c).0)
joint-onward level _ _ _ _ _ _ _ _ (asked-number i g) (start-number F) suits-decimal (j-orders k y c) fit-float h = absurd (let bad : ⊥ = omega (arith, i, h) in bad)
joint-onward level _ _ _ _ _ _ _ _ a (start-float F) suits-float j-float-power fit-float h = computing (p-number want-float F) F 6 Kind.POWER refl (power-float F)
joint-onward level _ _ _ _ _ _ _ _ a (start-float F) suits-float (j-float-product k op c) fit-float h = computing (p-number want-float F) F 5 k refl (times-float F k (float-product-shadow k op c).0)
joint-onward level _ _ _ _ _ _ _ _ a (start-float F) suits-float (j-float-sum k op c) fit-float h = computing (p-number want-float F) F 4 k refl (sum-float F k (float-sum-shadow k op c).0)
joint-onward level _ _ _ _ _ _ _ _ (asked-float i g) (start-float F) suits-float (j-orders k y c) fit-float h = absurd (let bad : ⊥ = omega (arith, i, h) in bad)
joint-onward level _ _ _ _ _ _ _ _ a (start-text F) suits-text j-power f h = elim f [ ]
joint-onward level _ _ k op _ _ _ _ a (start-text F) suits-text (j-product _ _ c) f h = elim f [ ]
joint-onward level _ _ k op _ _ _ _ a (start-text F) suits-text (j-sum _ _ c) f h = elim f [ ]
joint-onward level _ _ _ _ _ _ _ _ a (start-text F) suits-text j-float-power f h = elim f [ ]
joint-onward level _ _ k op _ _ _ _ a (start-text F) suits-text (j-float-product _ _ c) f h = elim f [ ]
joint-onward level _ _ k op _ _ _ _ a (start-text F) suits-text (j-float-sum _ _ c) f h = elim f [ ]
joint-onward level _ _ k _ _ _ _ _ a (start-text F) suits-text (j-orders _ y c) f h = elim f [ ]
joint-onward level _ _ k _ _ _ _ _ a (start-text F) suits-text (j-numbers _ y c) f h = elim f [ ]
joint-onward level _ _ _ _ _ _ _ _ a (start-text F) suits-text j-and f h = elim f [ ]
joint-onward level _ _ _ _ _ _ _ _ a (start-text F) suits-text j-or f h = elim f [ ]
joint-onward level _ _ _ _ _ _ _ _ a (start_operand x F i) suits-text j-power f h = elim f [ ]
joint-onward level _ _ k op _ _ _ _ a (start_operand x F i) suits-text (j-product _ _ c) f h = elim f [ ]
joint-onward level _ _ k op _ _ _ _ a (start_operand x F i) suits-text (j-sum _ _ c) f h = elim f [ ]
joint-onward level _ _ _ _ _ _ _ _ a (start_operand x F i) suits-text j-float-power f h = elim f [ ]
joint-onward level _ _ k op _ _ _ _ a (start_operand x F i) suits-text (j-float-product _ _ c) f h = elim f [ ]
joint-onward level _ _ k op _ _ _ _ a (start_operand x F i) suits-text (j-float-sum _ _ c) f h = elim f [ ]
joint-onward level _ _ k _ _ _ _ _ a (start_operand x F i) suits-text (j-orders _ y c) f h = elim f [ ]
joint-onward level _ _ k _ _ _ _ _ a (start_operand x F i) suits-text (j-numbers _ y c) f h = elim f [ ]
joint-onward level _ _ _ _ _ _ _ _ a (start_operand x F i) suits-text j-and f h = elim f [ ]
joint-onward level _ _ _ _ _ _ _ _ a (start_operand x F i) suits-text j-or f h = elim f [ ]
joint-onward level _ _ _ _ _ _ _ _ a (start-number F) suits-number j-float-power f h = elim f [ ]
joint-onward level _ _ k op _ _ _ _ a (start-number F) suits-number (j-float-product _ _ c) f h = elim f [ ]
joint-onward level _ _ k op _ _ _ _ a (start-number F) suits-number (j-float-sum _ _ c) f h = elim f [ ]
joint-onward level _ _ k _ _ _ _ _ a (start-number F) suits-number (j-orders _ y c) f h = elim f [ ]
joint-onward level _ _ _ _ _ _ _ _ a (start-number F) suits-number j-join f h = elim f [ ]
joint-onward level _ _ k _ _ _ _ _ a (start-number F) suits-number (j-texts _ y c) f h = elim f [ ]
joint-onward level _ _ _ _ _ _ _ _ a (start-number F) suits-number j-match f h = elim f [ ]
joint-onward level _ _ _ _ _ _ _ _ a (start-number F) suits-number j-and f h = elim f [ ]
joint-onward level _ _ _ _ _ _ _ _ a (start-number F) suits-number j-or f h = elim f [ ]
joint-onward level _ _ _ _ _ _ _ _ a (start-number F) suits-decimal j-power f h = elim f [ ]
joint-onward level _ _ k op _ _ _ _ a (start-number F) suits-decimal (j-product _ _ c) f h = elim f [ ]
joint-onward level _ _ k op _ _ _ _ a (start-number F) suits-decimal (j-sum _ _ c) f h = elim f [ ]
joint-onward level _ _ _ _ _ _ _ _ a (start-number F) suits-decimal j-join f h = elim f [ ]
joint-onward level _ _ k _ _ _ _ _ a (start-number F) suits-decimal (j-numbers _ y c) f h = elim f [ ]
joint-onward level _ _ k _ _ _ _ _ a (start-number F) suits-decimal (j-texts _ y c) f h = elim f [ ]
joint-onward level _ _ _ _ _ _ _ _ a (start-number F) suits-decimal j-match f h = elim f [ ]
joint-onward level _ _ _ _ _ _ _ _ a (start-number F) suits-decimal j-and f h = elim f [ ]
joint-onward level _ _ _ _ _ _ _ _ a (start-number F) suits-decimal j-or f h = elim f [ ]
joint-onward level _ _ _ _ _ _ _ _ a (start-integer F) suits-integer j-float-power f h = elim f [ ]
joint-onward level _ _ k op _ _ _ _ a (start-integer F) suits-integer (j-float-product _ _ c) f h = elim f [ ]
joint-onward level _ _ k op _ _ _ _ a (start-integer F) suits-integer (j-float-sum _ _ c) f h = elim f [ ]
joint-onward level _ _ k _ _ _ _ _ a (start-integer F) suits-integer (j-orders _ y c) f h = elim f [ ]
joint-onward level _ _ _ _ _ _ _ _ a (start-integer F) suits-integer j-join f h = elim f [ ]
joint-onward level _ _ k _ _ _ _ _ a (start-integer F) suits-integer (j-texts _ y c) f h = elim f [ ]
joint-onward level _ _ _ _ _ _ _ _ a (start-integer F) suits-integer j-match f h = elim f [ ]
joint-onward level _ _ _ _ _ _ _ _ a (start-integer F) suits-integer j-and f h = elim f [ ]
joint-onward level _ _ _ _ _ _ _ _ a (start-integer F) suits-integer j-or f h = elim f [ ]
joint-onward level _ _ _ _ _ _ _ _ a (start-float F) suits-float j-power f h = elim f [ ]
joint-onward level _ _ k op _ _ _ _ a (start-float F) suits-float (j-product _ _ c) f h = elim f [ ]
joint-onward level _ _ k op _ _ _ _ a (start-float F) suits-float (j-sum _ _ c) f h = elim f [ ]
joint-onward level _ _ _ _ _ _ _ _ a (start-float F) suits-float j-join f h = elim f [ ]
joint-onward level _ _ k _ _ _ _ _ a (start-float F) suits-float (j-numbers _ y c) f h = elim f [ ]
joint-onward level _ _ k _ _ _ _ _ a (start-float F) suits-float (j-texts _ y c) f h = elim f [ ]
joint-onward level _ _ _ _ _ _ _ _ a (start-float F) suits-float j-match f h = elim f [ ]
joint-onward level _ _ _ _ _ _ _ _ a (start-float F) suits-float j-and f h = elim f [ ]
joint-onward level _ _ _ _ _ _ _ _ a (start-float F) suits-float j-or f h = elim f [ ]
