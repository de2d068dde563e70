-- What a Conditions field's tokens say: the trees of crate syntax, production by production, over the tokens of a text. A class's operators have the
-- class itself on the left and the class above on the right, so a tree groups as the classes do. Assumes nothing.
use Rattle.std.specs.Prelude.{◌≡◌, true, false, List, [], ◌∷◌, ◌++◌, ℕ}
use Rattle.lexical.specs.Kind
use Rattle.lexical.specs.Literal.{decoded_at}
use Rattle.lexical.specs.Word.{word_true, word_false}
use Rattle.lexical.specs.declared.token.Token.{Token}
use Rattle.syntax.specs.Operator.{Binary, Relation, Ordering}
use Rattle.syntax.specs.Operator as Operator
use Rattle.syntax.specs.Code.{name_at, number_from, decimal_at}
use Rattle.syntax.specs.Expr.{Expr, literal, name, number, truth, decimal, unary, binary, Program, none, also, Clause, plain, valued, nested}
use Rattle.grammar.specs.Conditions.{Class, operand, power, product, conjunction, whole}
use Rattle.grammar.specs.Spelled.{spelled}

-- "Strings: literals, names, "." and "$""; brackets around them
pub data StrTree (s : List ℕ) : Class → List Token → Expr → Type 0 where
  literal-tree : (t : Token) → t.kind ≡ Kind.LITERAL → StrTree s operand (t ∷ []) (literal (decoded_at s t.start))
  name-tree : (t : Token) → t.kind ≡ Kind.NAME → StrTree s operand (t ∷ []) (name (name_at s t.start))
  lookup-tree : (t : Token) (ts : List Token) (e : Expr) → t.kind ≡ Kind.DOLLAR → StrTree s operand ts e → StrTree s operand (t ∷ ts) (unary Operator.lookup e)
  text-bracket : (t u : Token) (ts : List Token) (e : Expr) → t.kind ≡ Kind.OPEN → u.kind ≡ Kind.CLOSE → StrTree s whole ts e → StrTree s operand (t ∷ ts ++ u ∷ []) e
  text-one : (ts : List Token) (e : Expr) → StrTree s operand ts e → StrTree s whole ts e
  join-tree : (t : Token) (ts us : List Token) (e f : Expr) → t.kind ≡ Kind.DOT → StrTree s whole ts e → StrTree s operand us f → StrTree s whole (ts ++ t ∷ us) (binary Operator.join e f)

-- the operator that a mark writes between integers: "* / %"
pub data ProductOp : ℕ → Binary → Type 0 where
  times-op : ProductOp Kind.TIMES Operator.times
  divide-op : ProductOp Kind.DIVIDE Operator.over
  remainder-op : ProductOp Kind.REMAINDER Operator.remainder

-- "+ -"
pub data SumOp : ℕ → Binary → Type 0 where
  plus-op : SumOp Kind.PLUS Operator.plus
  minus-op : SumOp Kind.MINUS Operator.minus

-- "Integers: unary -, then ^, then * / %, then + -, left to right in a class; @ and $ bind as unary -"
pub data IntTree (s : List ℕ) : Class → List Token → Expr → Type 0 where
  number-tree : (t : Token) → t.kind ≡ Kind.DIGITS → IntTree s operand (t ∷ []) (number (number_from s t.start))
  negate-tree : (t : Token) (ts : List Token) (e : Expr) → t.kind ≡ Kind.MINUS → IntTree s operand ts e → IntTree s operand (t ∷ ts) (unary Operator.negate e)
  convert-tree : (t : Token) (ts : List Token) (e : Expr) → t.kind ≡ Kind.AT → StrTree s operand ts e → IntTree s operand (t ∷ ts) (unary Operator.convert e)
  number-bracket : (t u : Token) (ts : List Token) (e : Expr) → t.kind ≡ Kind.OPEN → u.kind ≡ Kind.CLOSE → IntTree s whole ts e → IntTree s operand (t ∷ ts ++ u ∷ []) e
  number-one : (ts : List Token) (e : Expr) → IntTree s operand ts e → IntTree s power ts e
  power-tree : (t : Token) (ts us : List Token) (e f : Expr) → t.kind ≡ Kind.POWER → IntTree s power ts e → IntTree s operand us f
      → IntTree s power (ts ++ t ∷ us) (binary Operator.power e f)
  number_up : (ts : List Token) (e : Expr) → IntTree s power ts e → IntTree s product ts e
  product-tree : (t : Token) (ts us : List Token) (e f : Expr) (o : Binary) → ProductOp t.kind o → IntTree s product ts e → IntTree s power us f
      → IntTree s product (ts ++ t ∷ us) (binary o e f)
  number-term : (ts : List Token) (e : Expr) → IntTree s product ts e → IntTree s whole ts e
  sum-tree : (t : Token) (ts us : List Token) (e f : Expr) (o : Binary) → SumOp t.kind o → IntTree s whole ts e → IntTree s product us f
      → IntTree s whole (ts ++ t ∷ us) (binary o e f)

-- the operator that a mark writes between floats: "* /"
pub data FloatProductOp : ℕ → Binary → Type 0 where
  float-times-op : FloatProductOp Kind.TIMES Operator.float-times
  float-divide-op : FloatProductOp Kind.DIVIDE Operator.float-over

-- "+ -"
pub data FloatSumOp : ℕ → Binary → Type 0 where
  float-plus-op : FloatSumOp Kind.PLUS Operator.float-plus
  float-minus-op : FloatSumOp Kind.MINUS Operator.float-minus

-- floats, as integers; ""&" binds as "@""
pub data FloatTree (s : List ℕ) : Class → List Token → Expr → Type 0 where
  decimal-tree : (t : Token) → t.kind ≡ Kind.FLOAT → FloatTree s operand (t ∷ []) (decimal (decimal_at s t.start))
  float-negate-tree : (t : Token) (ts : List Token) (e : Expr) → t.kind ≡ Kind.MINUS → FloatTree s operand ts e → FloatTree s operand (t ∷ ts) (unary Operator.float-negate e)
  to-float-tree : (t : Token) (ts : List Token) (e : Expr) → t.kind ≡ Kind.AMPERSAND → StrTree s operand ts e → FloatTree s operand (t ∷ ts) (unary Operator.to-float e)
  decimal-bracket : (t u : Token) (ts : List Token) (e : Expr) → t.kind ≡ Kind.OPEN → u.kind ≡ Kind.CLOSE → FloatTree s whole ts e → FloatTree s operand (t ∷ ts ++ u ∷ []) e
  decimal-one : (ts : List Token) (e : Expr) → FloatTree s operand ts e → FloatTree s power ts e
  float-power-tree : (t : Token) (ts us : List Token) (e f : Expr) → t.kind ≡ Kind.POWER → FloatTree s power ts e → FloatTree s operand us f
      → FloatTree s power (ts ++ t ∷ us) (binary Operator.float-power e f)
  decimal-up : (ts : List Token) (e : Expr) → FloatTree s power ts e → FloatTree s product ts e
  float-product-tree : (t : Token) (ts us : List Token) (e f : Expr) (o : Binary) → FloatProductOp t.kind o → FloatTree s product ts e → FloatTree s power us f
      → FloatTree s product (ts ++ t ∷ us) (binary o e f)
  decimal-term : (ts : List Token) (e : Expr) → FloatTree s product ts e → FloatTree s whole ts e
  float-sum-tree : (t : Token) (ts us : List Token) (e f : Expr) (o : Binary) → FloatSumOp t.kind o → FloatTree s whole ts e → FloatTree s product us f
      → FloatTree s whole (ts ++ t ∷ us) (binary o e f)

-- the order of floats that a mark writes: "Equality tests of floats are refused"
pub data OrderOp : ℕ → Ordering → Type 0 where
  float-less-op : OrderOp Kind.LESS Operator.float-less
  float-greater-op : OrderOp Kind.GREATER Operator.float-greater
  float-at-most-op : OrderOp Kind.AT_MOST Operator.float_at_most
  float-at-least-op : OrderOp Kind.AT_LEAST Operator.float-at-least

-- the relation that a mark writes
pub data CompareOp : ℕ → Relation → Type 0 where
  equal-op : CompareOp Kind.EQUAL Operator.equal
  unequal-op : CompareOp Kind.UNEQUAL Operator.unequal
  less-op : CompareOp Kind.LESS Operator.less
  greater-op : CompareOp Kind.GREATER Operator.greater
  at-most-op : CompareOp Kind.AT_MOST Operator.at_most
  at-least-op : CompareOp Kind.AT_LEAST Operator.at_least

-- "Tests: ! above && above || (house), a comparison inside; true, false"; "Both sides of a comparison have one type"
pub data TestTree (s : List ℕ) : Class → List Token → Expr → Type 0 where
  true-tree : (t : Token) → t.kind ≡ Kind.NAME → spelled s t word_true ≡ true → TestTree s operand (t ∷ []) (truth true)
  false-tree : (t : Token) → t.kind ≡ Kind.NAME → spelled s t word_false ≡ true → TestTree s operand (t ∷ []) (truth false)
  compare-numbers : (t : Token) (ts us : List Token) (e f : Expr) (o : Relation) → CompareOp t.kind o → IntTree s whole ts e → IntTree s whole us f
      → TestTree s operand (ts ++ t ∷ us) (binary (Operator.comparison Operator.integers o) e f)
  compare-floats : (t : Token) (ts us : List Token) (e f : Expr) (o : Ordering) → OrderOp t.kind o → FloatTree s whole ts e → FloatTree s whole us f
      → TestTree s operand (ts ++ t ∷ us) (binary (Operator.float-order o) e f)
  compare-texts : (t : Token) (ts us : List Token) (e f : Expr) (o : Relation) → CompareOp t.kind o → StrTree s whole ts e → StrTree s whole us f
      → TestTree s operand (ts ++ t ∷ us) (binary (Operator.comparison Operator.strings o) e f)
  match-tree : (t : Token) (ts us : List Token) (e f : Expr) → t.kind ≡ Kind.MATCHES → StrTree s whole ts e → StrTree s whole us f
      → TestTree s operand (ts ++ t ∷ us) (binary Operator.matches e f)
  not-tree : (t : Token) (ts : List Token) (e : Expr) → t.kind ≡ Kind.NOT → TestTree s operand ts e → TestTree s operand (t ∷ ts) (unary Operator.opposite e)
  test-bracket-tree : (t u : Token) (ts : List Token) (e : Expr) → t.kind ≡ Kind.OPEN → u.kind ≡ Kind.CLOSE → TestTree s whole ts e
      → TestTree s operand (t ∷ ts ++ u ∷ []) e
  test-once : (ts : List Token) (e : Expr) → TestTree s operand ts e → TestTree s conjunction ts e
  and-tree : (t : Token) (ts us : List Token) (e f : Expr) → t.kind ≡ Kind.AND → TestTree s conjunction ts e → TestTree s operand us f
      → TestTree s conjunction (ts ++ t ∷ us) (binary Operator.both e f)
  test-up : (ts : List Token) (e : Expr) → TestTree s conjunction ts e → TestTree s whole ts e
  or-tree : (t : Token) (ts us : List Token) (e f : Expr) → t.kind ≡ Kind.OR → TestTree s whole ts e → TestTree s conjunction us f
      → TestTree s whole (ts ++ t ∷ us) (binary Operator.either e f)

-- a program, or a clause of one
pub data Says : Type 0 where
  a_program : Program → Says
  a-clause : Clause → Says

-- "clauses ended by ";", each a test, test -> string expression, or test -> { clauses }"
pub data ProgramTree (s : List ℕ) : List Token → Says → Type 0 where
  no-clauses : ProgramTree s [] (a_program none)
  one_more : (t : Token) (ts us : List Token) (p : Program) (c : Clause) → t.kind ≡ Kind.SEMICOLON → ProgramTree s ts (a_program p) → ProgramTree s us (a-clause c)
      → ProgramTree s (ts ++ (us ++ t ∷ [])) (a_program (also p c))
  plain-tree : (ts : List Token) (e : Expr) → TestTree s whole ts e → ProgramTree s ts (a-clause (plain e))
  valued-tree : (t : Token) (ts us : List Token) (e f : Expr) → t.kind ≡ Kind.ARROW → TestTree s whole ts e → StrTree s whole us f
      → ProgramTree s (ts ++ t ∷ us) (a-clause (valued e f))
  nested-tree : (t u v : Token) (ts us : List Token) (e : Expr) (p : Program) → t.kind ≡ Kind.ARROW → u.kind ≡ Kind.OPEN_BRACE → v.kind ≡ Kind.CLOSE_BRACE
      → TestTree s whole ts e → ProgramTree s us (a_program p) → ProgramTree s (ts ++ t ∷ u ∷ (us ++ v ∷ [])) (a-clause (nested e p))
