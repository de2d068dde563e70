-- A machine with a stack of operators that makes the tree of a Conditions field from its tokens: by it a field has one tree. Assumes nothing.
use Rattle.std.specs.Prelude.{◌≡◌, ℕ, ◌+◌, ◌-◌, ◌≤◌, ltb}
use Rattle.std.proofs.Math.Path.{refl, ap}
use Rattle.std.proofs.Common.{sym, ◌∙◌, subst, arith}
use Rattle.std.proofs.Math.Bool.{true, false}
use mathlib.Core.List.{List, [], ◌∷◌, ◌++◌, append_assoc}
use Rattle.std.proofs.Math.Dec.{eqb}
use Rattle.text.specs.Choice.{pick, split, clash}
use Rattle.lexical.specs.Kind
use Rattle.lexical.specs.Theorems.Bounds.{chosen}
use Rattle.lexical.specs.Literal.{decoded_at}
use Rattle.lexical.specs.Word.{spells, word_true, word_false}
use Rattle.lexical.specs.declared.token.Token.{Token}
use Rattle.syntax.specs.Operator.{Unary, Binary, Relation, Ordering, Sort, a-string, an-integer, a-float, a_test, unary_takes, unary_gives}
use Rattle.syntax.specs.Operator
use Rattle.syntax.specs.Code.{name_at, number_from, decimal_at}
use Rattle.syntax.specs.Expr.{Expr, literal, name, number, truth, decimal, unary, binary, Program, none, also, Clause, plain, valued, nested}
use Rattle.conditions.specs.Table.{PartSort, sorted, word, want-any}
use Rattle.conditions.specs.Table
use Rattle.conditions.specs.Word.{word_sort}
use Rattle.conditions.specs.Operand.{settled_tree}
use borrow.Author.Tests.{eqb-true, ne_eqb}
use Rattle.grammar.specs.Conditions.{Class, operand, power, product, conjunction, whole}
use Rattle.grammar.specs.Spelled.{spelled}
use Rattle.grammar.specs.Trees.{StrTree, literal-tree, name-tree, lookup-tree, text-bracket, text-one, join-tree, times-op, divide-op, remainder-op, plus-op, minus-op, IntTree, number-tree, negate-tree, convert-tree, number-bracket, number-one, power-tree, number_up, product-tree, number-term, sum-tree, float-times-op, float-divide-op, float-plus-op, float-minus-op, FloatTree, decimal-tree, float-negate-tree, to-float-tree, decimal-bracket, decimal-one, float-power-tree, decimal-up, float-product-tree, decimal-term, float-sum-tree, OrderOp, float-less-op, float-greater-op, float-at-most-op, float-at-least-op, CompareOp, equal-op, unequal-op, less-op, greater-op, at-most-op, at-least-op, TestTree, true-tree, false-tree, compare-numbers, compare-floats, compare-texts, match-tree, not-tree, test-bracket-tree, test-once, and-tree, test-up, or-tree, Says, a_program, a-clause, ProgramTree, no-clauses, one_more, plain-tree, valued-tree, nested-tree}
use Rattle.grammar.specs.Working.Joints.{Joint, j-power, j-product, j-sum, j-float-power, j-float-product, j-float-sum, j-orders, j-join, j-numbers, j-texts, j-match, j-and, j-or, Tabled, tabled, joint-tabled}
use Rattle.grammar.specs.Working.Automaton.{run, run-append}
use Rattle.grammar.specs.Working.Marks.{at-kind}
use Rattle.grammar.specs.Working.Pending.{pending, opening, reduce, reduce-same, Stops, stops_end, stops-open, stops-low, stops-up, stops-is, reduce-own}
use Rattle.grammar.specs.Working.ProgramStack.{Blocks, Context, Machine, Value, Waiting, applied, arrowed, before, block, clause_ended, close_block, closed_in, context, ended, joined, level_of, no_block, open_block, operated, prefixed, role-test, role-value, y-closed, y-have, y-lost, y-want}

module _ (s : List ℕ) where
  -- the machine behind one more token
  unfoldable shift : Machine → Token → Machine
  shift (y-want C P) t =
      pick (eqb t.kind Kind.OPEN) (y-want C (opening ∷ P))
      (pick (eqb t.kind Kind.LITERAL) (y-have C (sorted a-string, literal (decoded_at s t.start)) P)
      (pick (eqb t.kind Kind.NAME) (y-have C (word_sort s want-any t.start t.end, name (name_at s t.start)) P)
      (pick (eqb t.kind Kind.DIGITS) (y-have C (sorted an-integer, number (number_from s t.start)) P)
      (pick (eqb t.kind Kind.FLOAT) (y-have C (sorted a-float, decimal (decimal_at s t.start)) P)
      (pick (eqb t.kind Kind.OPEN_BRACE) (open_block C)
      (pick (eqb t.kind Kind.CLOSE_BRACE) (close_block C)
      (before C P t.kind)))))))
  shift (y-have C v P) t =
      pick (eqb t.kind Kind.CLOSE) (closed_in C (reduce 0 v P))
      (pick (eqb t.kind Kind.ARROW) (arrowed C (reduce 0 v P))
      (pick (eqb t.kind Kind.SEMICOLON) (ended C (reduce 0 v P))
      (operated C t.kind (reduce (level_of t.kind) v P))))
  shift (y-closed C c) t = clause_ended C c
  shift y-lost t = y-lost

  abbrev runs : Machine → List Token → Machine
  runs q ts = run shift q ts

  -- a value that says a tree of a sort: itself, or a bare word
  data Means : Sort → Expr → Value → Type 0 where
    means-test : (e : Expr) → Means a_test e (sorted a_test, e)
    means-text : (e : Expr) → Means a-string e (sorted a-string, e)
    means-number : (e : Expr) → Means an-integer e (sorted an-integer, e)
    means-float : (e : Expr) → Means a-float e (sorted a-float, e)
    means-true-name : (e : Expr) → Means a-string e (word true, e)
    means-false-name : (e : Expr) → Means a-string e (word false, e)
    means-true : (e : Expr) → Means a_test (truth true) (word true, e)
    means-false : (e : Expr) → Means a_test (truth false) (word false, e)

  means-settled : (o : Sort) (e : Expr) (v : Value) → Means o e v → settled_tree o v.0 v.1 ≡ e
  unfolding settled_tree
  means-settled _ _ _ (means-test e) = refl
  means-settled _ _ _ (means-text e) = refl
  means-settled _ _ _ (means-number e) = refl
  means-settled _ _ _ (means-float e) = refl
  means-settled _ _ _ (means-true-name e) = refl
  means-settled _ _ _ (means-false-name e) = refl
  means-settled _ _ _ (means-true e) = refl
  means-settled _ _ _ (means-false e) = refl

  -- where tokens of a sort that say e lead from P on, up to what operators of level l and tighter make of it
  data Sim (l : ℕ) (C : Context) (o : Sort) (e : Expr) (P : Waiting) : Machine → Type 0 where
    sim : (v₁ : Value) (P₁ : Waiting) (v : Value) → Means o e v → reduce l v₁ P₁ ≡ reduce l v P → Sim l C o e P (y-have C v₁ P₁)

  sim-down : (l m : ℕ) (C : Context) (o : Sort) (e : Expr) (P : Waiting) (q : Machine) → l ≤ m → Sim m C o e P q → Sim l C o e P q
  sim-down l m C o e P _ h (sim v₁ P₁ v x g) = sim v₁ P₁ v x (reduce-same l m v₁ v P₁ P h g)

  sim-at : (l : ℕ) (C : Context) (o : Sort) (e : Expr) (P : Waiting) (q r : Machine) → q ≡ r → Sim l C o e P r → Sim l C o e P q
  sim-at l C o e P q r z x = subst (Sim l C o e P) (sym z) x

  -- the marks
  data Acting (k : ℕ) (op : Binary) (l : ℕ) (o r : Sort) : Type 0 where
    operator-is : eqb k Kind.CLOSE ≡ false → eqb k Kind.ARROW ≡ false → eqb k Kind.SEMICOLON ≡ false → level_of k ≡ l
        → ((e : Expr) (v : Value) → Means o e v → Table.operator v.0 k ≡ Table.between op) → Acting k op l o r

  compare-text : (k : ℕ) (x : Relation) → CompareOp k x → (e : Expr) (v : Value) → Means a-string e v → Table.operator v.0 k ≡ Table.between (Operator.comparison Operator.strings x)
  unfolding Table.operator Table.text_operator Table.test_operator Table.comparison
  compare-text _ _ equal-op _ _ (means-text e) = refl
  compare-text _ _ equal-op _ _ (means-true-name e) = refl
  compare-text _ _ equal-op _ _ (means-false-name e) = refl
  compare-text _ _ unequal-op _ _ (means-text e) = refl
  compare-text _ _ unequal-op _ _ (means-true-name e) = refl
  compare-text _ _ unequal-op _ _ (means-false-name e) = refl
  compare-text _ _ less-op _ _ (means-text e) = refl
  compare-text _ _ less-op _ _ (means-true-name e) = refl
  compare-text _ _ less-op _ _ (means-false-name e) = refl
  compare-text _ _ greater-op _ _ (means-text e) = refl
  compare-text _ _ greater-op _ _ (means-true-name e) = refl
  compare-text _ _ greater-op _ _ (means-false-name e) = refl
  compare-text _ _ at-most-op _ _ (means-text e) = refl
  compare-text _ _ at-most-op _ _ (means-true-name e) = refl
  compare-text _ _ at-most-op _ _ (means-false-name e) = refl
  compare-text _ _ at-least-op _ _ (means-text e) = refl
  compare-text _ _ at-least-op _ _ (means-true-name e) = refl
  compare-text _ _ at-least-op _ _ (means-false-name e) = refl

  from-number : (k : ℕ) (op : Binary) → Table.operator (sorted an-integer) k ≡ Table.between op → (e : Expr) (v : Value) → Means an-integer e v → Table.operator v.0 k ≡ Table.between op
  from-number k op h _ _ (means-number e) = h

  from_float : (k : ℕ) (op : Binary) → Table.operator (sorted a-float) k ≡ Table.between op → (e : Expr) (v : Value) → Means a-float e v → Table.operator v.0 k ≡ Table.between op
  from_float k op h _ _ (means-float e) = h

  from-test : (k : ℕ) (op : Binary) → Table.operator (sorted a_test) k ≡ Table.between op → Table.operator (word true) k ≡ Table.between op → Table.operator (word false) k ≡ Table.between op → (e : Expr) (v : Value) → Means a_test e v → Table.operator v.0 k ≡ Table.between op
  from-test k op a b c _ _ (means-test e) = a
  from-test k op a b c _ _ (means-true e) = b
  from-test k op a b c _ _ (means-false e) = c

  from-text : (k : ℕ) (op : Binary) → Table.operator (sorted a-string) k ≡ Table.between op → Table.operator (word true) k ≡ Table.between op → Table.operator (word false) k ≡ Table.between op → (e : Expr) (v : Value) → Means a-string e v → Table.operator v.0 k ≡ Table.between op
  from-text k op a b c _ _ (means-text e) = a
  from-text k op a b c _ _ (means-true-name e) = b
  from-text k op a b c _ _ (means-false-name e) = c

  numbers-compared : (k : ℕ) (x : Relation) → CompareOp k x → Acting k (Operator.comparison Operator.integers x) 2 an-integer a_test
  unfolding Table.operator Table.number_operator Table.comparison level_of
  numbers-compared _ _ equal-op = operator-is refl refl refl refl (from-number Kind.EQUAL (Operator.comparison Operator.integers Operator.equal) refl)
  numbers-compared _ _ unequal-op = operator-is refl refl refl refl (from-number Kind.UNEQUAL (Operator.comparison Operator.integers Operator.unequal) refl)
  numbers-compared _ _ less-op = operator-is refl refl refl refl (from-number Kind.LESS (Operator.comparison Operator.integers Operator.less) refl)
  numbers-compared _ _ greater-op = operator-is refl refl refl refl (from-number Kind.GREATER (Operator.comparison Operator.integers Operator.greater) refl)
  numbers-compared _ _ at-most-op = operator-is refl refl refl refl (from-number Kind.AT_MOST (Operator.comparison Operator.integers Operator.at_most) refl)
  numbers-compared _ _ at-least-op = operator-is refl refl refl refl (from-number Kind.AT_LEAST (Operator.comparison Operator.integers Operator.at_least) refl)

  texts-compared : (k : ℕ) (x : Relation) → CompareOp k x → Acting k (Operator.comparison Operator.integers x) 2 an-integer a_test → Acting k (Operator.comparison Operator.strings x) 2 a-string a_test
  texts-compared k x c (operator-is a b z l h) = operator-is a b z l (compare-text k x c)

  floats_compared : (k : ℕ) (x : Ordering) → OrderOp k x → Acting k (Operator.float-order x) 2 a-float a_test
  unfolding Table.operator Table.float_operator Table.ordering level_of
  floats_compared _ _ float-less-op = operator-is refl refl refl refl (from_float Kind.LESS (Operator.float-order Operator.float-less) refl)
  floats_compared _ _ float-greater-op = operator-is refl refl refl refl (from_float Kind.GREATER (Operator.float-order Operator.float-greater) refl)
  floats_compared _ _ float-at-most-op = operator-is refl refl refl refl (from_float Kind.AT_MOST (Operator.float-order Operator.float_at_most) refl)
  floats_compared _ _ float-at-least-op = operator-is refl refl refl refl (from_float Kind.AT_LEAST (Operator.float-order Operator.float-at-least) refl)

  joint-operator : (k : ℕ) (op : Binary) (l : ℕ) (o r : Sort) → Joint k op l o r → Acting k op l o r
  unfolding Table.operator Table.number_operator Table.float_operator Table.ordering Table.text_operator Table.test_operator Table.comparison level_of
  joint-operator _ _ _ _ _ j-power = operator-is refl refl refl refl (from-number Kind.POWER Operator.power refl)
  joint-operator _ _ _ _ _ (j-product _ _ times-op) = operator-is refl refl refl refl (from-number Kind.TIMES Operator.times refl)
  joint-operator _ _ _ _ _ (j-product _ _ divide-op) = operator-is refl refl refl refl (from-number Kind.DIVIDE Operator.over refl)
  joint-operator _ _ _ _ _ (j-product _ _ remainder-op) = operator-is refl refl refl refl (from-number Kind.REMAINDER Operator.remainder refl)
  joint-operator _ _ _ _ _ (j-sum _ _ plus-op) = operator-is refl refl refl refl (from-number Kind.PLUS Operator.plus refl)
  joint-operator _ _ _ _ _ (j-sum _ _ minus-op) = operator-is refl refl refl refl (from-number Kind.MINUS Operator.minus refl)
  joint-operator _ _ _ _ _ j-float-power = operator-is refl refl refl refl (from_float Kind.POWER Operator.float-power refl)
  joint-operator _ _ _ _ _ (j-float-product _ _ float-times-op) = operator-is refl refl refl refl (from_float Kind.TIMES Operator.float-times refl)
  joint-operator _ _ _ _ _ (j-float-product _ _ float-divide-op) = operator-is refl refl refl refl (from_float Kind.DIVIDE Operator.float-over refl)
  joint-operator _ _ _ _ _ (j-float-sum _ _ float-plus-op) = operator-is refl refl refl refl (from_float Kind.PLUS Operator.float-plus refl)
  joint-operator _ _ _ _ _ (j-float-sum _ _ float-minus-op) = operator-is refl refl refl refl (from_float Kind.MINUS Operator.float-minus refl)
  joint-operator _ _ _ _ _ (j-orders k x c) = floats_compared k x c
  joint-operator _ _ _ _ _ j-join = operator-is refl refl refl refl (from-text Kind.DOT Operator.join refl refl refl)
  joint-operator _ _ _ _ _ (j-numbers k x c) = numbers-compared k x c
  joint-operator _ _ _ _ _ (j-texts k x c) = texts-compared k x c (numbers-compared k x c)
  joint-operator _ _ _ _ _ j-match = operator-is refl refl refl refl (from-text Kind.MATCHES Operator.matches refl refl refl)
  joint-operator _ _ _ _ _ j-and = operator-is refl refl refl refl (from-test Kind.AND Operator.both refl refl refl)
  joint-operator _ _ _ _ _ j-or = operator-is refl refl refl refl (from-test Kind.OR Operator.either refl refl refl)

  have-operator : (C : Context) (v₁ : Value) (P₁ : Waiting) (t : Token) → eqb t.kind Kind.CLOSE ≡ false → eqb t.kind Kind.ARROW ≡ false → eqb t.kind Kind.SEMICOLON ≡ false
      → shift (y-have C v₁ P₁) t ≡ operated C t.kind (reduce (level_of t.kind) v₁ P₁)
  unfolding shift
  have-operator C v₁ P₁ t a b c = rw (a, b, c) refl

  -- two operands and the operator between them
  two : (k : ℕ) (op : Binary) (l : ℕ) (o r : Sort) (C : Context) (P : Waiting) (e f : Expr) (t : Token) (us : List Token) (m : ℕ) (q : Machine) → Joint k op l o r → Means r (binary op e f) (sorted r, binary op e f) → t.kind ≡ k
      → Stops l P → l ≤ m → Sim l C o e P q → ((Q : Waiting) → Stops (l + 1) Q → Sim m C o f Q (runs (y-want C Q) us)) → Sim l C r (binary op e f) P (runs q (t ∷ us))
  two k op l o r C P e f t us m _ j w z st h (sim v₁ P₁ v x g) right = on-operator (joint-operator k op l o r j) (joint-tabled k op l o r j)
    where
      on-operator : Acting k op l o r → Tabled op l o r → Sim l C r (binary op e f) P (runs (y-have C v₁ P₁) (t ∷ us))
      on-operator (operator-is a b c lev acts) (tabled el eo er) = sim-at l C r (binary op e f) P (runs (y-have C v₁ P₁) (t ∷ us)) (runs (y-want C Q) us) (ap (λ (y : Machine). runs y us) led) (reduced (runs (y-want C Q) us) (right Q (stops-low l (joined op v) P (omega arith))))
        where
          Q : Waiting
          Q = pending l (joined op v) ∷ P

          at : (x : ℕ) → eqb k x ≡ false → eqb t.kind x ≡ false
          at x n = subst (λ (y : ℕ). eqb y x ≡ false) (sym z) n

          led : shift (y-have C v₁ P₁) t ≡ y-want C Q
          led =
              have-operator C v₁ P₁ t (at Kind.CLOSE a) (at Kind.ARROW b) (at Kind.SEMICOLON c) ∙ ap (λ (y : ℕ). operated C y (reduce (level_of y) v₁ P₁)) z
              ∙ ap (λ (y : ℕ). Table.on_infix (Table.operator (reduce y v₁ P₁).0.0 k) y-lost (λ op. y-want C (pending y (joined op (reduce y v₁ P₁).0) ∷ (reduce y v₁ P₁).1))) lev
              ∙ ap (λ (y : Value × Waiting). Table.on_infix (Table.operator y.0.0 k) y-lost (λ op. y-want C (pending l (joined op y.0) ∷ y.1))) (g ∙ stops-is l v P st)
              ∙ ap (λ (y : Table.Infix). Table.on_infix y y-lost (λ op. y-want C (pending l (joined op v) ∷ P))) (acts e v x)

          made : (w : Value) → Means o f w → joined op v w ≡ (sorted r, binary op e f)
          made w y = rw (eo, er) (ap (λ (a : Expr). (sorted r, binary op a (settled_tree o w.0 w.1))) (means-settled o e v x) ∙ ap (λ (a : Expr). (sorted r, binary op e a)) (means-settled o f w y))

          reduced : (q : Machine) → Sim m C o f Q q → Sim l C r (binary op e f) P q
          reduced _ (sim w₁ Q₁ u y i) = sim w₁ Q₁ (sorted r, binary op e f) w (reduce-same l m w₁ u Q₁ Q h i ∙ reduce-own l (joined op v) u P ∙ ap (λ (a : Value). reduce l a P) (made u y))

  module _ (C : Context) (P : Waiting) (t : Token) where
    want-open : t.kind ≡ Kind.OPEN → shift (y-want C P) t ≡ y-want C (opening ∷ P)
    unfolding shift
    want-open z = rw (at-kind t Kind.OPEN Kind.OPEN true z refl) refl

    want-literal : t.kind ≡ Kind.LITERAL → shift (y-want C P) t ≡ y-have C (sorted a-string, literal (decoded_at s t.start)) P
    unfolding shift
    want-literal z = rw (at-kind t Kind.LITERAL Kind.OPEN false z refl, at-kind t Kind.LITERAL Kind.LITERAL true z refl) refl

    want-name : t.kind ≡ Kind.NAME → shift (y-want C P) t ≡ y-have C (word_sort s want-any t.start t.end, name (name_at s t.start)) P
    unfolding shift
    want-name z = rw (at-kind t Kind.NAME Kind.OPEN false z refl, at-kind t Kind.NAME Kind.LITERAL false z refl, at-kind t Kind.NAME Kind.NAME true z refl) refl

    want-digits : t.kind ≡ Kind.DIGITS → shift (y-want C P) t ≡ y-have C (sorted an-integer, number (number_from s t.start)) P
    unfolding shift
    want-digits z =
        rw (at-kind t Kind.DIGITS Kind.OPEN false z refl, at-kind t Kind.DIGITS Kind.LITERAL false z refl, at-kind t Kind.DIGITS Kind.NAME false z refl, at-kind t Kind.DIGITS Kind.DIGITS true z refl) refl

    want-float : t.kind ≡ Kind.FLOAT → shift (y-want C P) t ≡ y-have C (sorted a-float, decimal (decimal_at s t.start)) P
    unfolding shift
    want-float z =
        rw (at-kind t Kind.FLOAT Kind.OPEN false z refl, at-kind t Kind.FLOAT Kind.LITERAL false z refl, at-kind t Kind.FLOAT Kind.NAME false z refl, at-kind t Kind.FLOAT Kind.DIGITS false z refl, at-kind t Kind.FLOAT Kind.FLOAT true z refl)
        refl

    -- no operand begins with the mark and none is one
    module _ (k : ℕ) (z : t.kind ≡ k) (a : eqb k Kind.OPEN ≡ false) (b : eqb k Kind.LITERAL ≡ false) (c : eqb k Kind.NAME ≡ false) (d : eqb k Kind.DIGITS ≡ false) (e : eqb k Kind.FLOAT ≡ false) where
      want-mark : shift (y-want C P) t
          ≡ pick (eqb k Kind.OPEN_BRACE) (open_block C)
          (pick (eqb k Kind.CLOSE_BRACE) (close_block C) (before C P k))
      unfolding shift
      want-mark =
          rw (at-kind t k Kind.OPEN false z a, at-kind t k Kind.LITERAL false z b, at-kind t k Kind.NAME false z c, at-kind t k Kind.DIGITS false z d, at-kind t k Kind.FLOAT false z e)
          (ap (λ (x : ℕ). pick (eqb x Kind.OPEN_BRACE) (open_block C) (pick (eqb x Kind.CLOSE_BRACE) (close_block C) (before C P x))) z)

  -- a prefix operator of level m, that is op₁ of what follows it
  module _ (C : Context) (P : Waiting) (t : Token) (us : List Token) (m : ℕ) (op op₁ : Unary) (o r : Sort) (f : Expr) (resolved : (v : Value) → Means o f v → Table.prefix_of op v.0 ≡ op₁)
      (takes : unary_takes op₁ ≡ o) (gives : unary_gives op₁ ≡ r) (w : Means r (unary op₁ f) (sorted r, unary op₁ f)) (led : shift (y-want C P) t ≡ y-want C (pending m (prefixed op) ∷ P)) where
    made : (v : Value) → Means o f v → prefixed op v ≡ (sorted r, unary op₁ f)
    made v y = ap (λ (x : Unary). applied x v) (resolved v y) ∙ (rw (takes, gives) (ap (λ (a : Expr). (sorted r, unary op₁ a)) (means-settled o f v y)))

    behind : (q : Machine) → Sim m C o f (pending m (prefixed op) ∷ P) q → Sim m C r (unary op₁ f) P q
    behind _ (sim w₁ Q₁ v y i) = sim w₁ Q₁ (sorted r, unary op₁ f) w (i ∙ reduce-own m (prefixed op) v P ∙ ap (λ (a : Value). reduce m a P) (made v y))

    one : Sim m C o f (pending m (prefixed op) ∷ P) (runs (y-want C (pending m (prefixed op) ∷ P)) us) → Sim m C r (unary op₁ f) P (runs (y-want C P) (t ∷ us))
    one h = sim-at m C r (unary op₁ f) P (runs (y-want C P) (t ∷ us)) (runs (y-want C (pending m (prefixed op) ∷ P)) us) (ap (λ (y : Machine). runs y us) led) (behind (runs (y-want C (pending m (prefixed op) ∷ P)) us) h)

  minus_number : (f : Expr) (v : Value) → Means an-integer f v → Table.minus_of v.0 ≡ Operator.negate
  minus_number _ _ (means-number e) = refl

  minus-float : (f : Expr) (v : Value) → Means a-float f v → Table.minus_of v.0 ≡ Operator.float-negate
  minus-float _ _ (means-float e) = refl

  -- brackets
  have-close : (C : Context) (v₁ : Value) (P₁ : Waiting) (u : Token) → u.kind ≡ Kind.CLOSE → shift (y-have C v₁ P₁) u ≡ closed_in C (reduce 0 v₁ P₁)
  unfolding shift
  have-close C v₁ P₁ u z = rw (at-kind u Kind.CLOSE Kind.CLOSE true z refl) refl

  closes : (l : ℕ) (o : Sort) (C : Context) (P : Waiting) (e : Expr) (u : Token) (q : Machine) → u.kind ≡ Kind.CLOSE → Sim l C o e (opening ∷ P) q → Sim 6 C o e P (shift q u)
  closes l o C P e u _ z (sim v₁ P₁ v x g) =
      sim-at 6 C o e P (shift (y-have C v₁ P₁) u) (y-have C v P) (have-close C v₁ P₁ u z ∙ ap (closed_in C) (reduce-same 0 l v₁ v P₁ (opening ∷ P) (omega arith) g)) (sim v P v x refl)

  bracketed : (l : ℕ) (o : Sort) (C : Context) (P : Waiting) (e : Expr) (t u : Token) (ts : List Token) → t.kind ≡ Kind.OPEN → u.kind ≡ Kind.CLOSE
      → Sim l C o e (opening ∷ P) (runs (y-want C (opening ∷ P)) ts) → Sim 6 C o e P (runs (y-want C P) (t ∷ ts ++ u ∷ []))
  bracketed l o C P e t u ts y z h =
      sim-at 6 C o e P (runs (y-want C P) (t ∷ ts ++ u ∷ [])) (shift (runs (y-want C (opening ∷ P)) ts) u)
      (ap (λ (x : Machine). runs x (ts ++ u ∷ [])) (want-open C P t y) ∙ run-append shift (y-want C (opening ∷ P)) ts (u ∷ [])) (closes l o C P e u (runs (y-want C (opening ∷ P)) ts) z h)

  name-means : (t : Token) (e : Expr) → Means a-string e (word_sort s want-any t.start t.end, e)
  unfolding word_sort
  name-means t e =
      chosen (λ (x : PartSort). Means a-string e (x, e)) (spelled s t word_true) _ _ (λ h. means-true-name e)
      (λ h. chosen (λ (x : PartSort). Means a-string e (x, e)) (spelled s t word_false) _ _ (λ i. means-false-name e) (λ i. means-text e))

  true-means : (t : Token) (e : Expr) → spelled s t word_true ≡ true → Means a_test (truth true) (word_sort s want-any t.start t.end, e)
  unfolding word_sort
  true-means t e h = rw h (means-true e)

  -- a word of five letters is none of four
  apart : (t : Token) → spelled s t word_false ≡ true → spelled s t word_true ≡ false
  unfolding spells
  apart t h =
      split (ltb t.end t.start) (λ e. rw e refl)
      (λ e. split (eqb (t.end - t.start) 5) (λ f. let n : eqb (t.end - t.start) 4 ≡ false = ne_eqb (t.end - t.start) 4 (λ z. let bad : ⊥ = omega (arith, z, eqb-true (t.end - t.start) 5 f) in bad) in rw (e, n) refl)
      (λ f. clash h (rw (e, f) refl)))

  false-means : (t : Token) (e : Expr) → spelled s t word_false ≡ true → Means a_test (truth false) (word_sort s want-any t.start t.end, e)
  unfolding word_sort
  false-means t e h = rw (apart t h, h) (means-false e)

  -- strings
  abbrev text_level : Class → ℕ
  text_level operand = 6
  text_level power = 3
  text_level product = 3
  text_level conjunction = 3
  text_level whole = 3

  data TextRoom (P : Waiting) : Class → Type 0 where
    text-any : TextRoom P operand
    text-room : Stops 3 P → TextRoom P whole

  leaf : (C : Context) (o : Sort) (e : Expr) (P : Waiting) (t : Token) (v : Value) → shift (y-want C P) t ≡ y-have C v P → Means o e v → Sim 6 C o e P (runs (y-want C P) (t ∷ []))
  leaf C o e P t v z x = sim-at 6 C o e P (shift (y-want C P) t) (y-have C v P) z (sim v P v x refl)

  str-sim : (c : Class) (ts : List Token) (e : Expr) → StrTree s c ts e → (C : Context) (P : Waiting) → TextRoom P c → Sim (text_level c) C a-string e P (runs (y-want C P) ts)
  unfolding Table.prefix_operator
  str-sim _ _ _ (literal-tree t z) C P h = leaf C a-string _ P t _ (want-literal C P t z) (means-text _)
  str-sim _ _ _ (name-tree t z) C P h = leaf C a-string _ P t _ (want-name C P t z) (name-means t _)
  str-sim _ _ _ (lookup-tree t ts e z d) C P h =
      one C P t ts 6 Operator.lookup Operator.lookup a-string a-string e (λ v x. refl) refl refl (means-text _) (want-mark C P t Kind.DOLLAR z refl refl refl refl refl) (str-sim operand ts e d C (pending 6 (prefixed Operator.lookup) ∷ P) text-any)
  str-sim _ _ _ (text-bracket t u ts e y z d) C P h = bracketed 3 a-string C P e t u ts y z (str-sim whole ts e d C (opening ∷ P) (text-room (stops-open P)))
  str-sim _ _ _ (text-one ts e d) C P h = sim-down 3 6 C a-string e P (runs (y-want C P) ts) (omega arith) (str-sim operand ts e d C P text-any)
  str-sim _ _ _ (join-tree t ts us e f z d g) C P (text-room st) =
      sim-at 3 C a-string _ P _ _ (run-append shift (y-want C P) ts (t ∷ us))
      (two Kind.DOT Operator.join 3 a-string a-string C P e f t us 6 (runs (y-want C P) ts) j-join (means-text _) z st (omega arith) (str-sim whole ts e d C P (text-room st))
      (λ Q sq. str-sim operand us f g C Q text-any))

  -- integers
  abbrev number_level : Class → ℕ
  number_level operand = 6
  number_level power = 5
  number_level product = 4
  number_level conjunction = 3
  number_level whole = 3

  data NumberRoom (P : Waiting) : Class → Type 0 where
    number-any : NumberRoom P operand
    power-room : Stops 5 P → NumberRoom P power
    product-room : Stops 4 P → NumberRoom P product
    sum_room : Stops 3 P → NumberRoom P whole

  int-sim : (c : Class) (ts : List Token) (e : Expr) → IntTree s c ts e → (C : Context) (P : Waiting) → NumberRoom P c → Sim (number_level c) C an-integer e P (runs (y-want C P) ts)
  unfolding Table.prefix_operator
  int-sim _ _ _ (number-tree t z) C P h = leaf C an-integer _ P t _ (want-digits C P t z) (means-number _)
  int-sim _ _ _ (negate-tree t ts e z d) C P h =
      one C P t ts 6 Operator.negate Operator.negate an-integer an-integer e (minus_number e) refl refl (means-number _) (want-mark C P t Kind.MINUS z refl refl refl refl refl) (int-sim operand ts e d C (pending 6 (prefixed Operator.negate) ∷ P) number-any)
  int-sim _ _ _ (convert-tree t ts e z d) C P h =
      one C P t ts 6 Operator.convert Operator.convert a-string an-integer e (λ v x. refl) refl refl (means-number _) (want-mark C P t Kind.AT z refl refl refl refl refl) (str-sim operand ts e d C (pending 6 (prefixed Operator.convert) ∷ P) text-any)
  int-sim _ _ _ (number-bracket t u ts e y z d) C P h = bracketed 3 an-integer C P e t u ts y z (int-sim whole ts e d C (opening ∷ P) (sum_room (stops-open P)))
  int-sim _ _ _ (number-one ts e d) C P h = sim-down 5 6 C an-integer e P (runs (y-want C P) ts) (omega arith) (int-sim operand ts e d C P number-any)
  int-sim _ _ _ (power-tree t ts us e f z d g) C P (power-room st) =
      sim-at 5 C an-integer _ P _ _ (run-append shift (y-want C P) ts (t ∷ us))
      (two Kind.POWER Operator.power 5 an-integer an-integer C P e f t us 6 (runs (y-want C P) ts) j-power (means-number _) z st (omega arith) (int-sim power ts e d C P (power-room st))
      (λ Q sq. int-sim operand us f g C Q number-any))
  int-sim _ _ _ (number_up ts e d) C P (product-room st) =
      sim-down 4 5 C an-integer e P (runs (y-want C P) ts) (omega arith) (int-sim power ts e d C P (power-room (stops-up 4 5 P (omega arith) st)))
  int-sim _ _ _ (product-tree t ts us e f o k d g) C P (product-room st) =
      sim-at 4 C an-integer _ P _ _ (run-append shift (y-want C P) ts (t ∷ us))
      (two t.kind o 4 an-integer an-integer C P e f t us 5 (runs (y-want C P) ts) (j-product t.kind o k) (means-number _) refl st (omega arith) (int-sim product ts e d C P (product-room st))
      (λ Q sq. int-sim power us f g C Q (power-room sq)))
  int-sim _ _ _ (number-term ts e d) C P (sum_room st) =
      sim-down 3 4 C an-integer e P (runs (y-want C P) ts) (omega arith) (int-sim product ts e d C P (product-room (stops-up 3 4 P (omega arith) st)))
  int-sim _ _ _ (sum-tree t ts us e f o k d g) C P (sum_room st) =
      sim-at 3 C an-integer _ P _ _ (run-append shift (y-want C P) ts (t ∷ us))
      (two t.kind o 3 an-integer an-integer C P e f t us 4 (runs (y-want C P) ts) (j-sum t.kind o k) (means-number _) refl st (omega arith) (int-sim whole ts e d C P (sum_room st))
      (λ Q sq. int-sim product us f g C Q (product-room sq)))

  -- floats
  float-sim : (c : Class) (ts : List Token) (e : Expr) → FloatTree s c ts e → (C : Context) (P : Waiting) → NumberRoom P c → Sim (number_level c) C a-float e P (runs (y-want C P) ts)
  unfolding Table.prefix_operator
  float-sim _ _ _ (decimal-tree t z) C P h = leaf C a-float _ P t _ (want-float C P t z) (means-float _)
  float-sim _ _ _ (float-negate-tree t ts e z d) C P h =
      one C P t ts 6 Operator.negate Operator.float-negate a-float a-float e (minus-float e) refl refl (means-float _) (want-mark C P t Kind.MINUS z refl refl refl refl refl) (float-sim operand ts e d C (pending 6 (prefixed Operator.negate) ∷ P) number-any)
  float-sim _ _ _ (to-float-tree t ts e z d) C P h =
      one C P t ts 6 Operator.to-float Operator.to-float a-string a-float e (λ v x. refl) refl refl (means-float _) (want-mark C P t Kind.AMPERSAND z refl refl refl refl refl) (str-sim operand ts e d C (pending 6 (prefixed Operator.to-float) ∷ P) text-any)
  float-sim _ _ _ (decimal-bracket t u ts e y z d) C P h = bracketed 3 a-float C P e t u ts y z (float-sim whole ts e d C (opening ∷ P) (sum_room (stops-open P)))
  float-sim _ _ _ (decimal-one ts e d) C P h = sim-down 5 6 C a-float e P (runs (y-want C P) ts) (omega arith) (float-sim operand ts e d C P number-any)
  float-sim _ _ _ (float-power-tree t ts us e f z d g) C P (power-room st) =
      sim-at 5 C a-float _ P _ _ (run-append shift (y-want C P) ts (t ∷ us))
      (two Kind.POWER Operator.float-power 5 a-float a-float C P e f t us 6 (runs (y-want C P) ts) j-float-power (means-float _) z st (omega arith) (float-sim power ts e d C P (power-room st))
      (λ Q sq. float-sim operand us f g C Q number-any))
  float-sim _ _ _ (decimal-up ts e d) C P (product-room st) =
      sim-down 4 5 C a-float e P (runs (y-want C P) ts) (omega arith) (float-sim power ts e d C P (power-room (stops-up 4 5 P (omega arith) st)))
  float-sim _ _ _ (float-product-tree t ts us e f o k d g) C P (product-room st) =
      sim-at 4 C a-float _ P _ _ (run-append shift (y-want C P) ts (t ∷ us))
      (two t.kind o 4 a-float a-float C P e f t us 5 (runs (y-want C P) ts) (j-float-product t.kind o k) (means-float _) refl st (omega arith) (float-sim product ts e d C P (product-room st))
      (λ Q sq. float-sim power us f g C Q (power-room sq)))
  float-sim _ _ _ (decimal-term ts e d) C P (sum_room st) =
      sim-down 3 4 C a-float e P (runs (y-want C P) ts) (omega arith) (float-sim product ts e d C P (product-room (stops-up 3 4 P (omega arith) st)))
  float-sim _ _ _ (float-sum-tree t ts us e f o k d g) C P (sum_room st) =
      sim-at 3 C a-float _ P _ _ (run-append shift (y-want C P) ts (t ∷ us))
      (two t.kind o 3 a-float a-float C P e f t us 4 (runs (y-want C P) ts) (j-float-sum t.kind o k) (means-float _) refl st (omega arith) (float-sim whole ts e d C P (sum_room st))
      (λ Q sq. float-sim product us f g C Q (product-room sq)))

  -- tests: "!" waits at the level of "&&"
  abbrev test_level : Class → ℕ
  test_level operand = 1
  test_level power = 0
  test_level product = 0
  test_level conjunction = 1
  test_level whole = 0

  data TestRoom (P : Waiting) : Class → Type 0 where
    test-room : Stops 2 P → TestRoom P operand
    and-room : Stops 1 P → TestRoom P conjunction
    or-room : Stops 0 P → TestRoom P whole

  test-sim : (c : Class) (ts : List Token) (e : Expr) → TestTree s c ts e → (C : Context) (P : Waiting) → TestRoom P c → Sim (test_level c) C a_test e P (runs (y-want C P) ts)
  unfolding Table.prefix_operator
  test-sim _ _ _ (true-tree t z w) C P h = sim-down 1 6 C a_test _ P _ (omega arith) (leaf C a_test _ P t _ (want-name C P t z) (true-means t _ w))
  test-sim _ _ _ (false-tree t z w) C P h = sim-down 1 6 C a_test _ P _ (omega arith) (leaf C a_test _ P t _ (want-name C P t z) (false-means t _ w))
  test-sim _ _ _ (compare-numbers t ts us e f o k d g) C P (test-room st) =
      sim-at 1 C a_test _ P _ _ (run-append shift (y-want C P) ts (t ∷ us))
      (sim-down 1 2 C a_test _ P _ (omega arith)
      (two t.kind (Operator.comparison Operator.integers o) 2 an-integer a_test C P e f t us 3 (runs (y-want C P) ts) (j-numbers t.kind o k) (means-test _) refl st (omega arith)
      (sim-down 2 3 C an-integer e P _ (omega arith) (int-sim whole ts e d C P (sum_room (stops-up 2 3 P (omega arith) st)))) (λ Q sq. int-sim whole us f g C Q (sum_room sq))))
  test-sim _ _ _ (compare-floats t ts us e f o k d g) C P (test-room st) =
      sim-at 1 C a_test _ P _ _ (run-append shift (y-want C P) ts (t ∷ us))
      (sim-down 1 2 C a_test _ P _ (omega arith)
      (two t.kind (Operator.float-order o) 2 a-float a_test C P e f t us 3 (runs (y-want C P) ts) (j-orders t.kind o k) (means-test _) refl st (omega arith)
      (sim-down 2 3 C a-float e P _ (omega arith) (float-sim whole ts e d C P (sum_room (stops-up 2 3 P (omega arith) st)))) (λ Q sq. float-sim whole us f g C Q (sum_room sq))))
  test-sim _ _ _ (compare-texts t ts us e f o k d g) C P (test-room st) =
      sim-at 1 C a_test _ P _ _ (run-append shift (y-want C P) ts (t ∷ us))
      (sim-down 1 2 C a_test _ P _ (omega arith)
      (two t.kind (Operator.comparison Operator.strings o) 2 a-string a_test C P e f t us 3 (runs (y-want C P) ts) (j-texts t.kind o k) (means-test _) refl st (omega arith)
      (sim-down 2 3 C a-string e P _ (omega arith) (str-sim whole ts e d C P (text-room (stops-up 2 3 P (omega arith) st)))) (λ Q sq. str-sim whole us f g C Q (text-room sq))))
  test-sim _ _ _ (match-tree t ts us e f k d g) C P (test-room st) =
      sim-at 1 C a_test _ P _ _ (run-append shift (y-want C P) ts (t ∷ us))
      (sim-down 1 2 C a_test _ P _ (omega arith)
      (two Kind.MATCHES Operator.matches 2 a-string a_test C P e f t us 3 (runs (y-want C P) ts) j-match (means-test _) k st (omega arith)
      (sim-down 2 3 C a-string e P _ (omega arith) (str-sim whole ts e d C P (text-room (stops-up 2 3 P (omega arith) st)))) (λ Q sq. str-sim whole us f g C Q (text-room sq))))
  test-sim _ _ _ (not-tree t ts e z d) C P h =
      one C P t ts 1 Operator.opposite Operator.opposite a_test a_test e (λ v x. refl) refl refl (means-test _) (want-mark C P t Kind.NOT z refl refl refl refl refl)
      (test-sim operand ts e d C (pending 1 (prefixed Operator.opposite) ∷ P) (test-room (stops-low 1 (prefixed Operator.opposite) P (omega arith))))
  test-sim _ _ _ (test-bracket-tree t u ts e y z d) C P h =
      sim-down 1 6 C a_test e P _ (omega arith) (bracketed 0 a_test C P e t u ts y z (test-sim whole ts e d C (opening ∷ P) (or-room (stops-open P))))
  test-sim _ _ _ (test-once ts e d) C P (and-room st) = test-sim operand ts e d C P (test-room (stops-up 1 2 P (omega arith) st))
  test-sim _ _ _ (and-tree t ts us e f z d g) C P (and-room st) =
      sim-at 1 C a_test _ P _ _ (run-append shift (y-want C P) ts (t ∷ us))
      (two Kind.AND Operator.both 1 a_test a_test C P e f t us 1 (runs (y-want C P) ts) j-and (means-test _) z st (omega arith) (test-sim conjunction ts e d C P (and-room st))
      (λ Q sq. test-sim operand us f g C Q (test-room sq)))
  test-sim _ _ _ (test-up ts e d) C P (or-room st) =
      sim-down 0 1 C a_test e P (runs (y-want C P) ts) (omega arith) (test-sim conjunction ts e d C P (and-room (stops-up 0 1 P (omega arith) st)))
  test-sim _ _ _ (or-tree t ts us e f z d g) C P (or-room st) =
      sim-at 0 C a_test _ P _ _ (run-append shift (y-want C P) ts (t ∷ us))
      (two Kind.OR Operator.either 0 a_test a_test C P e f t us 1 (runs (y-want C P) ts) j-or (means-test _) z st (omega arith) (test-sim whole ts e d C P (or-room st))
      (λ Q sq. test-sim conjunction us f g C Q (and-room sq)))

  -- clauses
  have-arrow : (p : Program) (B : Blocks) (e : Expr) (t : Token) (q : Machine) → t.kind ≡ Kind.ARROW → Sim 0 (context role-test p B) a_test e [] q → shift q t ≡ y-want (context (role-value e) p B) []
  unfolding shift
  have-arrow p B e t _ z (sim v₁ P₁ v x g) =
      rw (at-kind t Kind.ARROW Kind.CLOSE false z refl, at-kind t Kind.ARROW Kind.ARROW true z refl)
      (ap (arrowed (context role-test p B)) g ∙ ap (λ (a : Expr). y-want (context (role-value a) p B) []) (means-settled a_test e v x))

  have-plain : (p : Program) (B : Blocks) (e : Expr) (t : Token) (q : Machine) → t.kind ≡ Kind.SEMICOLON → Sim 0 (context role-test p B) a_test e [] q
      → shift q t ≡ y-want (context role-test (also p (plain e)) B) []
  unfolding shift
  have-plain p B e t _ z (sim v₁ P₁ v x g) =
      rw (at-kind t Kind.SEMICOLON Kind.CLOSE false z refl, at-kind t Kind.SEMICOLON Kind.ARROW false z refl, at-kind t Kind.SEMICOLON Kind.SEMICOLON true z refl)
      (ap (ended (context role-test p B)) g ∙ ap (λ (a : Expr). y-want (context role-test (also p (plain a)) B) []) (means-settled a_test e v x))

  have-valued : (p : Program) (B : Blocks) (e f : Expr) (t : Token) (q : Machine) → t.kind ≡ Kind.SEMICOLON → Sim 3 (context (role-value e) p B) a-string f [] q
      → shift q t ≡ y-want (context role-test (also p (valued e f)) B) []
  unfolding shift
  have-valued p B e f t _ z (sim v₁ P₁ v x g) =
      rw (at-kind t Kind.SEMICOLON Kind.CLOSE false z refl, at-kind t Kind.SEMICOLON Kind.ARROW false z refl, at-kind t Kind.SEMICOLON Kind.SEMICOLON true z refl)
      (ap (ended (context (role-value e) p B)) (reduce-same 0 3 v₁ v P₁ [] (omega arith) g) ∙ ap (λ (a : Expr). y-want (context role-test (also p (valued e a)) B) []) (means-settled a-string f v x))

  closed-ends : (C : Context) (c : Clause) (t : Token) → shift (y-closed C c) t ≡ clause_ended C c
  unfolding shift
  closed-ends C c t = refl

  -- a test and the mark behind it
  tested : (p : Program) (B : Blocks) (ts us : List Token) (e : Expr) (t : Token) (r : Machine) → TestTree s whole ts e → ((q : Machine) → Sim 0 (context role-test p B) a_test e [] q → shift q t ≡ r)
      → runs (y-want (context role-test p B) []) (ts ++ t ∷ us) ≡ runs r us
  tested p B ts us e t r d h =
      run-append shift (y-want (context role-test p B) []) ts (t ∷ us)
      ∙ ap (λ (x : Machine). runs x us) (h (runs (y-want (context role-test p B) []) ts) (test-sim whole ts e d (context role-test p B) [] (or-room stops_end)))

  -- where a program leads, and a clause with its ";"
  abbrev Leads : List Token → Says → Type 0
  Leads ts (a_program p) = (B : Blocks) → runs (y-want (context role-test none B) []) ts ≡ y-want (context role-test p B) []
  Leads ts (a-clause c) = (p : Program) (B : Blocks) (t : Token) → t.kind ≡ Kind.SEMICOLON → runs (y-want (context role-test p B) []) (ts ++ t ∷ []) ≡ y-want (context role-test (also p c) B) []

  program-sim : (ts : List Token) (x : Says) → ProgramTree s ts x → Leads ts x
  program-sim _ _ no-clauses = λ B. refl
  program-sim _ _ (one_more t ts us p c z d g) =
      λ B. run-append shift (y-want (context role-test none B) []) ts (us ++ t ∷ []) ∙ ap (λ (y : Machine). runs y (us ++ t ∷ [])) (program-sim ts (a_program p) d B) ∙ program-sim us (a-clause c) g p B t z
  program-sim _ _ (plain-tree ts e d) = λ p B t z. tested p B ts [] e t (y-want (context role-test (also p (plain e)) B) []) d (λ q h. have-plain p B e t q z h)
  program-sim _ _ (valued-tree a ts us e f y d g) =
      λ p B t z. ap (runs (y-want (context role-test p B) [])) (append_assoc ts (a ∷ us) (t ∷ []))
      ∙ tested p B ts (us ++ t ∷ []) e a (y-want (context (role-value e) p B) []) d (λ q h. have-arrow p B e a q y h)
      ∙ run-append shift (y-want (context (role-value e) p B) []) us (t ∷ [])
      ∙ have-valued p B e f t (runs (y-want (context (role-value e) p B) []) us) z (str-sim whole us f g (context (role-value e) p B) [] (text-room stops_end))
  program-sim _ _ (nested-tree a u v ts us e p₁ x y w d g) =
      λ p B t z. ap (runs (y-want (context role-test p B) [])) (append_assoc ts (a ∷ u ∷ (us ++ v ∷ [])) (t ∷ []))
      ∙ tested p B ts (u ∷ ((us ++ v ∷ []) ++ t ∷ [])) e a (y-want (context (role-value e) p B) []) d (λ q h. have-arrow p B e a q x h)
      ∙ ap (λ (q : Machine). runs q ((us ++ v ∷ []) ++ t ∷ [])) (want-mark (context (role-value e) p B) [] u Kind.OPEN_BRACE y refl refl refl refl refl)
      ∙ run-append shift (y-want (context role-test none (block p e B)) []) (us ++ v ∷ []) (t ∷ [])
      ∙ ap (λ (q : Machine). shift q t)
      (run-append shift (y-want (context role-test none (block p e B)) []) us (v ∷ []) ∙ ap (λ (q : Machine). shift q v) (program-sim us (a_program p₁) g (block p e B))
      ∙ want-mark (context role-test p₁ (block p e B)) [] v Kind.CLOSE_BRACE w refl refl refl refl refl)
      ∙ closed-ends (context role-test p B) (nested e p₁) t

  program_of : Machine → Program
  program_of (y-want (context r p B) P) = p
  program_of (y-have (context r p B) v P) = p
  program_of (y-closed (context r p B) c) = p
  program_of y-lost = none

  pub one-program : (ts : List Token) (p p' : Program) → ProgramTree s ts (a_program p) → ProgramTree s ts (a_program p') → p ≡ p'
  unfolding program_of
  one-program ts p p' d d' = ap program_of (sym (program-sim ts (a_program p) d no_block) ∙ program-sim ts (a_program p') d' no_block)
