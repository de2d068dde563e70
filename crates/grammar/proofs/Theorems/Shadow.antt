-- What the trees say of is in the grammar: the tokens of a tree have the kinds of a sentence. Assumes nothing.
use Rattle.std.specs.Prelude.{◌≡◌, refl, false, List, [], ◌∷◌, ◌++◌, ℕ, eqb}
use Rattle.std.proofs.Common.{sym, subst}
use Rattle.lexical.specs.Kind
use Rattle.lexical.specs.declared.token.Token.{Token}
use Rattle.syntax.specs.Expr.{Expr}
use Rattle.grammar.specs.Conditions.{Class, operand, power, product, conjunction, whole, Str, str-literal, str-name, str-lookup, str-bracket, str-one, str-join, Int, int-literal, int-minus, int-convert, int-bracket, int-one, int-power, int_up, int-product, int-term, int-sum, Float, float-literal, float-minus, float_convert, float-bracket, float_one, float-power, float_up, float-product, float-term, float-sum, of-integers, of-floats, of-strings, matching, Tests, test-truth, test-comparison, test-not, test-bracket, test-one, test-and, test-ands, test-or, Clauses, no-clause, tested, valued, nested}
use Rattle.grammar.specs.Spelled.{kind_in, kinds_in}
use Rattle.grammar.specs.Working.Marks.{kinds-append, around, before}
use Rattle.grammar.specs.Trees.{StrTree, literal-tree, name-tree, lookup-tree, text-bracket, text-one, join-tree, IntTree, number-tree, negate-tree, convert-tree, number-bracket, number-one, power-tree, number_up, product-tree, number-term, sum-tree, FloatTree, decimal-tree, float-negate-tree, to-float-tree, decimal-bracket, decimal-one, float-power-tree, decimal-up, float-product-tree, decimal-term, float-sum-tree, TestTree, true-tree, false-tree, compare-numbers, compare-floats, compare-texts, match-tree, not-tree, test-bracket-tree, test-once, and-tree, test-up, or-tree, Says, a_program, a-clause, ProgramTree, no-clauses, one_more, plain-tree, valued-tree, nested-tree}
use Rattle.grammar.specs.Theorems.Shadow.{clause-last, compare-shadow, float-product-shadow, float-sum-shadow, kind-false, kind-mark, kind-name, kind-other, kind-true, order-shadow, product-shadow, spoken, sum-shadow}

module _ (s : List ℕ) where
  pub bracketed : (G : List ℕ → Type 0) (t u : Token) (ts : List Token) → t.kind ≡ Kind.OPEN → u.kind ≡ Kind.CLOSE → G (Kind.OPEN ∷ kinds_in s ts ++ Kind.CLOSE ∷ [])
      → G (kinds_in s (t ∷ ts ++ u ∷ []))
  bracketed G t u ts e f g =
      before (kind_in s) G t (ts ++ u ∷ []) Kind.OPEN (kind-mark s t Kind.OPEN e refl) (around (kind_in s) (λ (l : List ℕ). G (Kind.OPEN ∷ l)) u ts [] Kind.CLOSE (kind-mark s u Kind.CLOSE f refl) g)

  marked : (G : List ℕ → Type 0) (t : Token) (ts : List Token) (k : ℕ) → t.kind ≡ k → eqb k Kind.NAME ≡ false → G (k ∷ kinds_in s ts) → G (kinds_in s (t ∷ ts))
  marked G t ts k e h g = before (kind_in s) G t ts k (kind-mark s t k e h) g

  pub str-shadow : (c : Class) (ts : List Token) (e : Expr) → StrTree s c ts e → Str c (kinds_in s ts)
  str-shadow _ _ _ (literal-tree t k) = marked (Str operand) t [] Kind.LITERAL k refl str-literal
  str-shadow _ _ _ (name-tree t k) = str-name (kind_in s t) (kind-name s t k)
  str-shadow _ _ _ (lookup-tree t ts e k d) = marked (Str operand) t ts Kind.DOLLAR k refl (str-lookup _ (str-shadow operand ts e d))
  str-shadow _ _ _ (text-bracket t u ts e k l d) = bracketed (Str operand) t u ts k l (str-bracket _ (str-shadow whole ts e d))
  str-shadow _ _ _ (text-one ts e d) = str-one _ (str-shadow operand ts e d)
  str-shadow _ _ _ (join-tree t ts us e f k d g) = around (kind_in s) (Str whole) t ts us Kind.DOT (kind-mark s t Kind.DOT k refl) (str-join _ _ (str-shadow whole ts e d) (str-shadow operand us f g))

  pub int-shadow : (c : Class) (ts : List Token) (e : Expr) → IntTree s c ts e → Int c (kinds_in s ts)
  int-shadow _ _ _ (number-tree t k) = marked (Int operand) t [] Kind.DIGITS k refl int-literal
  int-shadow _ _ _ (negate-tree t ts e k d) = marked (Int operand) t ts Kind.MINUS k refl (int-minus _ (int-shadow operand ts e d))
  int-shadow _ _ _ (convert-tree t ts e k d) = marked (Int operand) t ts Kind.AT k refl (int-convert _ (str-shadow operand ts e d))
  int-shadow _ _ _ (number-bracket t u ts e k l d) = bracketed (Int operand) t u ts k l (int-bracket _ (int-shadow whole ts e d))
  int-shadow _ _ _ (number-one ts e d) = int-one _ (int-shadow operand ts e d)
  int-shadow _ _ _ (power-tree t ts us e f k d g) = around (kind_in s) (Int power) t ts us Kind.POWER (kind-mark s t Kind.POWER k refl) (int-power _ _ (int-shadow power ts e d) (int-shadow operand us f g))
  int-shadow _ _ _ (number_up ts e d) = int_up _ (int-shadow power ts e d)
  int-shadow _ _ _ (product-tree t ts us e f o k d g) =
      around (kind_in s) (Int product) t ts us t.kind (kind-other s t (product-shadow _ o k).1) (int-product _ _ _ (product-shadow _ o k).0 (int-shadow product ts e d) (int-shadow power us f g))
  int-shadow _ _ _ (number-term ts e d) = int-term _ (int-shadow product ts e d)
  int-shadow _ _ _ (sum-tree t ts us e f o k d g) =
      around (kind_in s) (Int whole) t ts us t.kind (kind-other s t (sum-shadow _ o k).1) (int-sum _ _ _ (sum-shadow _ o k).0 (int-shadow whole ts e d) (int-shadow product us f g))

  pub float-shadow : (c : Class) (ts : List Token) (e : Expr) → FloatTree s c ts e → Float c (kinds_in s ts)
  float-shadow _ _ _ (decimal-tree t k) = marked (Float operand) t [] Kind.FLOAT k refl float-literal
  float-shadow _ _ _ (float-negate-tree t ts e k d) = marked (Float operand) t ts Kind.MINUS k refl (float-minus _ (float-shadow operand ts e d))
  float-shadow _ _ _ (to-float-tree t ts e k d) = marked (Float operand) t ts Kind.AMPERSAND k refl (float_convert _ (str-shadow operand ts e d))
  float-shadow _ _ _ (decimal-bracket t u ts e k l d) = bracketed (Float operand) t u ts k l (float-bracket _ (float-shadow whole ts e d))
  float-shadow _ _ _ (decimal-one ts e d) = float_one _ (float-shadow operand ts e d)
  float-shadow _ _ _ (float-power-tree t ts us e f k d g) = around (kind_in s) (Float power) t ts us Kind.POWER (kind-mark s t Kind.POWER k refl) (float-power _ _ (float-shadow power ts e d) (float-shadow operand us f g))
  float-shadow _ _ _ (decimal-up ts e d) = float_up _ (float-shadow power ts e d)
  float-shadow _ _ _ (float-product-tree t ts us e f o k d g) =
      around (kind_in s) (Float product) t ts us t.kind (kind-other s t (float-product-shadow _ o k).1) (float-product _ _ _ (float-product-shadow _ o k).0 (float-shadow product ts e d) (float-shadow power us f g))
  float-shadow _ _ _ (decimal-term ts e d) = float-term _ (float-shadow product ts e d)
  float-shadow _ _ _ (float-sum-tree t ts us e f o k d g) =
      around (kind_in s) (Float whole) t ts us t.kind (kind-other s t (float-sum-shadow _ o k).1) (float-sum _ _ _ (float-sum-shadow _ o k).0 (float-shadow whole ts e d) (float-shadow product us f g))

  pub test-shadow : (c : Class) (ts : List Token) (e : Expr) → TestTree s c ts e → Tests c (kinds_in s ts)
  test-shadow _ _ _ (true-tree t k w) = subst (λ (x : ℕ). Tests operand (x ∷ [])) (sym (kind-true s t k w)) test-truth
  test-shadow _ _ _ (false-tree t k w) = subst (λ (x : ℕ). Tests operand (x ∷ [])) (sym (kind-false s t k w)) test-truth
  test-shadow _ _ _ (compare-numbers t ts us e f o k d g) =
      around (kind_in s) (Tests operand) t ts us t.kind (kind-other s t (compare-shadow _ o k).1)
      (test-comparison _ (of-integers _ _ _ (compare-shadow _ o k).0 (int-shadow whole ts e d) (int-shadow whole us f g)))
  test-shadow _ _ _ (compare-floats t ts us e f o k d g) =
      around (kind_in s) (Tests operand) t ts us t.kind (kind-other s t (order-shadow _ o k).1)
      (test-comparison _ (of-floats _ _ _ (order-shadow _ o k).0 (float-shadow whole ts e d) (float-shadow whole us f g)))
  test-shadow _ _ _ (compare-texts t ts us e f o k d g) =
      around (kind_in s) (Tests operand) t ts us t.kind (kind-other s t (compare-shadow _ o k).1)
      (test-comparison _ (of-strings _ _ _ (compare-shadow _ o k).0 (str-shadow whole ts e d) (str-shadow whole us f g)))
  test-shadow _ _ _ (match-tree t ts us e f k d g) =
      around (kind_in s) (Tests operand) t ts us Kind.MATCHES (kind-mark s t Kind.MATCHES k refl)
      (test-comparison _ (matching _ _ (str-shadow whole ts e d) (str-shadow whole us f g)))
  test-shadow _ _ _ (not-tree t ts e k d) = marked (Tests operand) t ts Kind.NOT k refl (test-not _ (test-shadow operand ts e d))
  test-shadow _ _ _ (test-bracket-tree t u ts e k l d) = bracketed (Tests operand) t u ts k l (test-bracket _ (test-shadow whole ts e d))
  test-shadow _ _ _ (test-once ts e d) = test-one _ (test-shadow operand ts e d)
  test-shadow _ _ _ (and-tree t ts us e f k d g) =
      around (kind_in s) (Tests conjunction) t ts us Kind.AND (kind-mark s t Kind.AND k refl) (test-and _ _ (test-shadow conjunction ts e d) (test-shadow operand us f g))
  test-shadow _ _ _ (test-up ts e d) = test-ands _ (test-shadow conjunction ts e d)
  test-shadow _ _ _ (or-tree t ts us e f k d g) =
      around (kind_in s) (Tests whole) t ts us Kind.OR (kind-mark s t Kind.OR k refl) (test-or _ _ (test-shadow whole ts e d) (test-shadow conjunction us f g))

pub program-shadow : (s : List ℕ) (ts : List Token) (x : Says) → ProgramTree s ts x → Clauses (spoken x) (kinds_in s ts)
program-shadow s _ _ no-clauses = no-clause
program-shadow s _ _ (one_more t ts us p c k d g) =
    subst (Clauses whole) (sym (kinds-append (kind_in s) ts (us ++ t ∷ [])))
    (around (kind_in s) (λ (l : List ℕ). Clauses whole (kinds_in s ts ++ l)) t us [] Kind.SEMICOLON (kind-mark s t Kind.SEMICOLON k refl)
    (clause-last whole (kinds_in s ts) (kinds_in s us) refl (program-shadow s ts (a_program p) d) (program-shadow s us (a-clause c) g)))
program-shadow s _ _ (plain-tree ts e d) = tested _ (test-shadow s whole ts e d)
program-shadow s _ _ (valued-tree t ts us e f k d g) =
    around (kind_in s) (Clauses operand) t ts us Kind.ARROW (kind-mark s t Kind.ARROW k refl) (valued _ _ (test-shadow s whole ts e d) (str-shadow s whole us f g))
program-shadow s _ _ (nested-tree t u v ts us e p k l m d g) =
    around (kind_in s) (Clauses operand) t ts (u ∷ (us ++ v ∷ [])) Kind.ARROW (kind-mark s t Kind.ARROW k refl)
    (subst (λ (x : ℕ). Clauses operand (kinds_in s ts ++ Kind.ARROW ∷ x ∷ kinds_in s (us ++ v ∷ []))) (sym (kind-mark s u Kind.OPEN_BRACE l refl))
    (around (kind_in s) (λ (l : List ℕ). Clauses operand (kinds_in s ts ++ Kind.ARROW ∷ Kind.OPEN_BRACE ∷ l)) v us [] Kind.CLOSE_BRACE (kind-mark s v Kind.CLOSE_BRACE m refl)
    (nested (kinds_in s ts) (kinds_in s us) (test-shadow s whole ts e d) (program-shadow s us (a_program p) g))))
