-- What the trees say of is in the grammar: the tokens of a tree have the kinds of a sentence. Assumes nothing.
use Rattle.std.specs.Prelude.{◌≡◌, refl, true, false, List, [], ◌∷◌, ◌++◌, ℕ, eqb}
use Rattle.std.proofs.Common.{sym, ◌∙◌, subst, append_assoc, arith}
use Rattle.text.specs.Choice.{pick, split}
use Rattle.lexical.specs.Kind
use Rattle.lexical.specs.Theorems.Bounds.{chosen}
use Rattle.lexical.specs.Word.{word_true, word_false}
use Rattle.lexical.specs.declared.token.Token.{Token}
use Rattle.grammar.specs.Conditions.{Class, operand, whole, TRUTH, Name, any_name, truth-name, Product, times, divide, remainder, Sum, plus, minus, FloatTimes, float-times, float-divide, Order, less, greater, at_most, at_least, Compare, order, equal, unequal, Clauses, no-clause, clause, tested, valued, nested}
use Rattle.grammar.specs.Spelled.{spelled, kind_in}
use Rattle.syntax.specs.Operator.{Binary, Relation, Ordering}
use Rattle.grammar.specs.Trees.{ProductOp, times-op, divide-op, remainder-op, SumOp, plus-op, minus-op, CompareOp, equal-op, unequal-op, less-op, greater-op, at-most-op, at-least-op, FloatProductOp, float-times-op, float-divide-op, FloatSumOp, float-plus-op, float-minus-op, OrderOp, float-less-op, float-greater-op, float-at-most-op, float-at-least-op, Says, a_program, a-clause}

-- any token but a name is of the lexer's kind
pub kind-other : (s : List ℕ) (t : Token) → eqb t.kind Kind.NAME ≡ false → kind_in s t ≡ t.kind
unfolding kind_in
kind-other s t h = rw h

pub kind-mark : (s : List ℕ) (t : Token) (k : ℕ) → t.kind ≡ k → eqb k Kind.NAME ≡ false → kind_in s t ≡ k
kind-mark s t k e h = let g : eqb t.kind Kind.NAME ≡ false = rw e h in kind-other s t g ∙ e

pub kind-name : (s : List ℕ) (t : Token) → t.kind ≡ Kind.NAME → Name (kind_in s t)
unfolding kind_in
kind-name s t e = rw e (chosen Name (pick (spelled s t word_true) true (spelled s t word_false)) TRUTH Kind.NAME (λ f. truth-name) (λ f. any_name))

pub kind-true : (s : List ℕ) (t : Token) → t.kind ≡ Kind.NAME → spelled s t word_true ≡ true → kind_in s t ≡ TRUTH
unfolding kind_in
kind-true s t e f = rw (e, f)

pub kind-false : (s : List ℕ) (t : Token) → t.kind ≡ Kind.NAME → spelled s t word_false ≡ true → kind_in s t ≡ TRUTH
unfolding kind_in
kind-false s t e f = rw e (split (spelled s t word_true) (λ g. rw g) (λ g. rw (g, f)))

pub product-shadow : (k : ℕ) (o : Binary) → ProductOp k o → Product k × (eqb k Kind.NAME ≡ false)
product-shadow _ _ times-op = (times, refl)
product-shadow _ _ divide-op = (divide, refl)
product-shadow _ _ remainder-op = (remainder, refl)

pub sum-shadow : (k : ℕ) (o : Binary) → SumOp k o → Sum k × (eqb k Kind.NAME ≡ false)
sum-shadow _ _ plus-op = (plus, refl)
sum-shadow _ _ minus-op = (minus, refl)

pub float-product-shadow : (k : ℕ) (o : Binary) → FloatProductOp k o → FloatTimes k × (eqb k Kind.NAME ≡ false)
float-product-shadow _ _ float-times-op = (float-times, refl)
float-product-shadow _ _ float-divide-op = (float-divide, refl)

pub float-sum-shadow : (k : ℕ) (o : Binary) → FloatSumOp k o → Sum k × (eqb k Kind.NAME ≡ false)
float-sum-shadow _ _ float-plus-op = (plus, refl)
float-sum-shadow _ _ float-minus-op = (minus, refl)

pub order-shadow : (k : ℕ) (o : Ordering) → OrderOp k o → Order k × (eqb k Kind.NAME ≡ false)
order-shadow _ _ float-less-op = (less, refl)
order-shadow _ _ float-greater-op = (greater, refl)
order-shadow _ _ float-at-most-op = (at_most, refl)
order-shadow _ _ float-at-least-op = (at_least, refl)

pub compare-shadow : (k : ℕ) (o : Relation) → CompareOp k o → Compare k × (eqb k Kind.NAME ≡ false)
compare-shadow _ _ equal-op = (equal, refl)
compare-shadow _ _ unequal-op = (unequal, refl)
compare-shadow _ _ less-op = (order Kind.LESS less, refl)
compare-shadow _ _ greater-op = (order Kind.GREATER greater, refl)
compare-shadow _ _ at-most-op = (order Kind.AT_MOST at_most, refl)
compare-shadow _ _ at-least-op = (order Kind.AT_LEAST at_least, refl)

-- a clause behind a program
pub clause-last : (c : Class) (ks ls : List ℕ) → c ≡ whole → Clauses c ks → Clauses operand ls → Clauses whole (ks ++ (ls ++ Kind.SEMICOLON ∷ []))
clause-last _ _ ls z no-clause d = clause ls [] d no-clause
clause-last _ _ ls z (clause ks ms g h) d =
    subst (Clauses whole) (sym (append_assoc ks (Kind.SEMICOLON ∷ ms) (ls ++ Kind.SEMICOLON ∷ []))) (clause ks (ms ++ (ls ++ Kind.SEMICOLON ∷ [])) g (clause-last whole ms ls refl h d))
clause-last _ _ ls z (tested ks g) d = let v : ◌≡◌ {A = ℕ} 0 1 = cc in absurd (let bad : ⊥ = omega (arith, v) in bad)
clause-last _ _ ls z (valued ks ms g h) d = let v : ◌≡◌ {A = ℕ} 0 1 = cc in absurd (let bad : ⊥ = omega (arith, v) in bad)
clause-last _ _ ls z (nested ks ms g h) d = let v : ◌≡◌ {A = ℕ} 0 1 = cc in absurd (let bad : ⊥ = omega (arith, v) in bad)

-- the class of a program, and of a clause
abbrev pub spoken : Says → Class
spoken (a_program p) = whole
spoken (a-clause c) = operand
