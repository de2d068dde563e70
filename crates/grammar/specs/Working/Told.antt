-- What a reader has read, by its sort and its level: trees, and how they grow. Assumes nothing.
use Rattle.std.specs.Prelude.{◌≡◌, refl, Bool, List, [], ◌∷◌, ◌++◌, ℕ, zero, suc, ◌+◌, ◌≤◌}
use Rattle.std.proofs.Common.{sym, subst}
use Rattle.std.proofs.Math.Decide.{le_ind}
use Rattle.lexical.specs.Kind
use Rattle.lexical.specs.declared.token.Token.{Token}
use Rattle.syntax.specs.Operator.{Binary, Sort, a-string, an-integer, a-float, a_test}
use Rattle.syntax.specs.Expr.{Expr, truth, binary}
use Rattle.conditions.specs.Table.{PartSort, sorted, word, want_of, Want, want-any, want-string, want-number, want-integer, want-float}
use Rattle.conditions.specs.Operand.{settled_tree}
use Rattle.grammar.specs.Conditions.{Class, operand, power, product, conjunction, whole}
use Rattle.grammar.specs.Trees.{StrTree, literal-tree, text-bracket, text-one, join-tree, IntTree, number-tree, number-bracket, number-one, power-tree, number_up, product-tree, number-term, sum-tree, FloatTree, decimal-tree, decimal-bracket, decimal-one, float-power-tree, decimal-up, float-product-tree, decimal-term, float-sum-tree, ProductOp, SumOp, FloatProductOp, FloatSumOp, OrderOp, CompareOp, equal-op, TestTree, compare-numbers, compare-floats, compare-texts, match-tree, test-bracket-tree, test-once, and-tree, test-up, or-tree}
use Rattle.grammar.specs.Working.Marks.{mark}
use Rattle.grammar.specs.Working.Joints.{Fits, fit-test, fit-text, fit-number, fit-float, fit_word, fit-name, Joint, j-power, j-product, j-sum, j-float-power, j-float-product, j-float-sum, j-orders, j-join, j-numbers, j-texts, j-match, j-and, j-or}

-- the classes of the levels
abbrev pub text_class : ℕ → Class
text_class zero = whole
text_class (suc zero) = whole
text_class (suc (suc zero)) = whole
text_class (suc (suc (suc zero))) = whole
text_class (suc (suc (suc (suc n)))) = operand

abbrev pub number_class : ℕ → Class
number_class zero = whole
number_class (suc zero) = whole
number_class (suc (suc zero)) = whole
number_class (suc (suc (suc zero))) = whole
number_class (suc (suc (suc (suc zero)))) = product
number_class (suc (suc (suc (suc (suc zero))))) = power
number_class (suc (suc (suc (suc (suc (suc n)))))) = operand

abbrev pub test_class : ℕ → Class
test_class zero = whole
test_class (suc zero) = conjunction
test_class (suc (suc n)) = operand

-- what is wanted, and the sorts that suit it
pub data Suits : Want → PartSort → Type 0 where
  suits-any : (sort : PartSort) → Suits want-any sort
  suits-text : Suits want-string (sorted a-string)
  suits-number : Suits want-number (sorted an-integer)
  suits-decimal : Suits want-number (sorted a-float)
  suits-integer : Suits want-integer (sorted an-integer)
  suits-float : Suits want-float (sorted a-float)

-- what is wanted, and what must come of it
pub data Goal : Want → Sort → Type 0 where
  goal-test : Goal want-any a_test
  goal-text : Goal want-string a-string
  goal-number : Goal want-number an-integer
  goal-decimal : Goal want-number a-float
  goal-integer : Goal want-integer an-integer
  goal-float : Goal want-float a-float

-- what must come of what was read
abbrev pub aim : Want → PartSort → Sort
aim want-any sort = a_test
aim want-string sort = a-string
aim want-number (sorted a-string) = an-integer
aim want-number (sorted an-integer) = an-integer
aim want-number (sorted a-float) = a-float
aim want-number (sorted a_test) = an-integer
aim want-number (word b) = an-integer
aim want-integer sort = an-integer
aim want-float sort = a-float

pub aim-goal : (want : Want) (sort : PartSort) → Suits want sort → Goal want (aim want sort)
aim-goal _ _ (suits-any sort) = goal-test
aim-goal _ _ suits-text = goal-text
aim-goal _ _ suits-number = goal-number
aim-goal _ _ suits-decimal = goal-decimal
aim-goal _ _ suits-integer = goal-integer
aim-goal _ _ suits-float = goal-float

-- to the right of an operator one sort must come
pub aim-right : (o : Sort) (sort : PartSort) → aim (want_of o) sort ≡ o
aim-right a-string sort = refl
aim-right an-integer sort = refl
aim-right a-float sort = refl
aim-right a_test sort = refl

pub goal-right : (o g : Sort) → Goal (want_of o) g → o ≡ g
goal-right a-string _ goal-text = refl
goal-right an-integer _ goal-integer = refl
goal-right a-float _ goal-float = refl
goal-right a_test _ goal-test = refl

module _ (s : List ℕ) where
  -- the tokens are of the sort and the level, and say the tree; a bare word says a name until it is settled
  pub data Told : PartSort → ℕ → List Token → Expr → Type 0 where
    told_text : (l : ℕ) (ts : List Token) (e : Expr) → StrTree s (text_class l) ts e → Told (sorted a-string) l ts e
    told-number : (l : ℕ) (ts : List Token) (e : Expr) → IntTree s (number_class l) ts e → Told (sorted an-integer) l ts e
    told-float : (l : ℕ) (ts : List Token) (e : Expr) → FloatTree s (number_class l) ts e → Told (sorted a-float) l ts e
    told-test : (l : ℕ) (ts : List Token) (e : Expr) → TestTree s (test_class l) ts e → Told (sorted a_test) l ts e
    told-word : (b : Bool) (l : ℕ) (ts : List Token) (e : Expr) → StrTree s operand ts e → TestTree s operand ts (truth b) → Told (word b) l ts e

  text-down : (l : ℕ) (ts : List Token) (e : Expr) → StrTree s (text_class (suc l)) ts e → StrTree s (text_class l) ts e
  text-down zero ts e d = d
  text-down (suc zero) ts e d = d
  text-down (suc (suc zero)) ts e d = d
  text-down (suc (suc (suc zero))) ts e d = text-one ts e d
  text-down (suc (suc (suc (suc n)))) ts e d = d

  number-down : (l : ℕ) (ts : List Token) (e : Expr) → IntTree s (number_class (suc l)) ts e → IntTree s (number_class l) ts e
  number-down zero ts e d = d
  number-down (suc zero) ts e d = d
  number-down (suc (suc zero)) ts e d = d
  number-down (suc (suc (suc zero))) ts e d = number-term ts e d
  number-down (suc (suc (suc (suc zero)))) ts e d = number_up ts e d
  number-down (suc (suc (suc (suc (suc zero))))) ts e d = number-one ts e d
  number-down (suc (suc (suc (suc (suc (suc n)))))) ts e d = d

  float-down : (l : ℕ) (ts : List Token) (e : Expr) → FloatTree s (number_class (suc l)) ts e → FloatTree s (number_class l) ts e
  float-down zero ts e d = d
  float-down (suc zero) ts e d = d
  float-down (suc (suc zero)) ts e d = d
  float-down (suc (suc (suc zero))) ts e d = decimal-term ts e d
  float-down (suc (suc (suc (suc zero)))) ts e d = decimal-up ts e d
  float-down (suc (suc (suc (suc (suc zero))))) ts e d = decimal-one ts e d
  float-down (suc (suc (suc (suc (suc (suc n)))))) ts e d = d

  test-down : (l : ℕ) (ts : List Token) (e : Expr) → TestTree s (test_class (suc l)) ts e → TestTree s (test_class l) ts e
  test-down zero ts e d = test-up ts e d
  test-down (suc zero) ts e d = test-once ts e d
  test-down (suc (suc n)) ts e d = d

  down : (sort : PartSort) (l : ℕ) (ts : List Token) (e : Expr) → (m : ℕ) → m ≡ suc l → Told sort m ts e → Told sort l ts e
  down _ l _ _ _ z (told_text m ts e d) = told_text l ts e (text-down l ts e (subst (λ (x : ℕ). StrTree s (text_class x) ts e) z d))
  down _ l _ _ _ z (told-number m ts e d) = told-number l ts e (number-down l ts e (subst (λ (x : ℕ). IntTree s (number_class x) ts e) z d))
  down _ l _ _ _ z (told-float m ts e d) = told-float l ts e (float-down l ts e (subst (λ (x : ℕ). FloatTree s (number_class x) ts e) z d))
  down _ l _ _ _ z (told-test m ts e d) = told-test l ts e (test-down l ts e (subst (λ (x : ℕ). TestTree s (test_class x) ts e) z d))
  down _ l _ _ _ z (told-word b m ts e d g) = told-word b l ts e d g

  -- a level takes what a tighter one takes
  pub lower : (sort : PartSort) (m l : ℕ) (ts : List Token) (e : Expr) → m ≤ l → Told sort l ts e → Told sort m ts e
  lower sort m l ts e h = le_ind (λ (x : ℕ). Told sort x ts e → Told sort m ts e) (λ d. d) (λ x k g d. g (down sort x ts e (suc x) refl d)) l h

  -- an operand at any level
  text-operand : (l : ℕ) (ts : List Token) (e : Expr) → l ≤ 7 → StrTree s operand ts e → Told (sorted a-string) l ts e
  text-operand l ts e h d = lower (sorted a-string) l 7 ts e h (told_text 7 ts e d)

  pub test-operand : (l : ℕ) (ts : List Token) (e : Expr) → l ≤ 7 → TestTree s operand ts e → Told (sorted a_test) l ts e
  test-operand l ts e h d = lower (sorted a_test) l 7 ts e h (told-test 7 ts e d)

  -- a bare word becomes what is wanted
  pub settle : (o : Sort) (sort : PartSort) (l : ℕ) (ts : List Token) (e : Expr) → l ≤ 7 → Fits o sort → Told sort l ts e → Told (sorted o) l ts (settled_tree o sort e)
  unfolding settled_tree
  settle _ _ l ts e h fit-test d = d
  settle _ _ l ts e h fit-text d = d
  settle _ _ l ts e h fit-number d = d
  settle _ _ l ts e h fit-float d = d
  settle _ _ l _ _ h (fit_word _) (told-word b _ ts e d g) = test-operand l ts (truth b) h g
  settle _ _ l _ _ h (fit-name _) (told-word b _ ts e d g) = text-operand l ts e h d

  -- two operands and the operator between them
  pub joined : (k : ℕ) (op : Binary) (l : ℕ) (o r : Sort) (t : Token) (ts us : List Token) (e f : Expr) → Joint k op l o r → t.kind ≡ k → Told (sorted o) l ts e → Told (sorted o) (l + 1) us f
      → Told (sorted r) l (ts ++ t ∷ us) (binary op e f)
  joined _ _ _ _ _ t _ _ _ _ j-power z (told-number _ ts e d) (told-number _ us f g) = told-number 5 _ _ (power-tree t ts us e f z d g)
  joined _ _ _ _ _ t _ _ _ _ (j-product k op c) z (told-number _ ts e d) (told-number _ us f g) =
      told-number 4 _ _ (product-tree t ts us e f op (subst (λ (x : ℕ). ProductOp x op) (sym z) c) d g)
  joined _ _ _ _ _ t _ _ _ _ (j-sum k op c) z (told-number _ ts e d) (told-number _ us f g) =
      told-number 3 _ _ (sum-tree t ts us e f op (subst (λ (x : ℕ). SumOp x op) (sym z) c) d g)
  joined _ _ _ _ _ t _ _ _ _ j-float-power z (told-float _ ts e d) (told-float _ us f g) = told-float 5 _ _ (float-power-tree t ts us e f z d g)
  joined _ _ _ _ _ t _ _ _ _ (j-float-product k op c) z (told-float _ ts e d) (told-float _ us f g) =
      told-float 4 _ _ (float-product-tree t ts us e f op (subst (λ (x : ℕ). FloatProductOp x op) (sym z) c) d g)
  joined _ _ _ _ _ t _ _ _ _ (j-float-sum k op c) z (told-float _ ts e d) (told-float _ us f g) =
      told-float 3 _ _ (float-sum-tree t ts us e f op (subst (λ (x : ℕ). FloatSumOp x op) (sym z) c) d g)
  joined _ _ _ _ _ t _ _ _ _ (j-orders k x c) z (told-float _ ts e d) (told-float _ us f g) =
      told-test 2 _ _ (compare-floats t ts us e f x (subst (λ (y : ℕ). OrderOp y x) (sym z) c) d g)
  joined _ _ _ _ _ t _ _ _ _ j-join z (told_text _ ts e d) (told_text _ us f g) = told_text 3 _ _ (join-tree t ts us e f z d g)
  joined _ _ _ _ _ t _ _ _ _ (j-numbers k x c) z (told-number _ ts e d) (told-number _ us f g) =
      told-test 2 _ _ (compare-numbers t ts us e f x (subst (λ (y : ℕ). CompareOp y x) (sym z) c) d g)
  joined _ _ _ _ _ t _ _ _ _ (j-texts k x c) z (told_text _ ts e d) (told_text _ us f g) =
      told-test 2 _ _ (compare-texts t ts us e f x (subst (λ (y : ℕ). CompareOp y x) (sym z) c) d g)
  joined _ _ _ _ _ t _ _ _ _ j-match z (told_text _ ts e d) (told_text _ us f g) = told-test 2 _ _ (match-tree t ts us e f z d g)
  joined _ _ _ _ _ t _ _ _ _ j-and z (told-test _ ts e d) (told-test _ us f g) = told-test 1 _ _ (and-tree t ts us e f z d g)
  joined _ _ _ _ _ t _ _ _ _ j-or z (told-test _ ts e d) (told-test _ us f g) = told-test 0 _ _ (or-tree t ts us e f z d g)

  -- brackets
  pub enclosed : (sort : PartSort) (t u : Token) (ts : List Token) (e : Expr) → t.kind ≡ Kind.OPEN → u.kind ≡ Kind.CLOSE → Told sort 0 ts e → Told sort 7 (t ∷ ts ++ u ∷ []) e
  enclosed _ t u _ _ y z (told_text _ ts e d) = told_text 7 _ e (text-bracket t u ts e y z d)
  enclosed _ t u _ _ y z (told-number _ ts e d) = told-number 7 _ e (number-bracket t u ts e y z d)
  enclosed _ t u _ _ y z (told-float _ ts e d) = told-float 7 _ e (decimal-bracket t u ts e y z d)
  enclosed _ t u _ _ y z (told-test _ ts e d) = told-test 7 _ e (test-bracket-tree t u ts e y z d)
  enclosed _ t u _ _ y z (told-word b _ ts e d g) =
      told-word b 7 _ e (text-bracket t u ts e y z (text-one ts e d)) (test-bracket-tree t u ts (truth b) y z (test-up ts (truth b) (test-once ts (truth b) g)))

  -- tokens that can be completed to what is wanted
  pub data Completes (want : Want) (level : ℕ) (ts : List Token) : Type 0 where
    completes : (rest : List Token) (e : Expr) (w : Sort) → Goal want w → Told (sorted w) level (ts ++ rest) e → Completes want level ts

  pub completes-lower : (want : Want) (m level : ℕ) (ts : List Token) → m ≤ level → Completes want level ts → Completes want m ts
  completes-lower want m level ts h (completes rest e w γ d) = completes rest e w γ (lower (sorted w) m level (ts ++ rest) e h d)

module _ (s : List ℕ) where
  -- something of what is wanted
  pub something : (want : Want) → Completes s want 7 []
  something want-any =
      completes (mark Kind.LITERAL ∷ mark Kind.EQUAL ∷ mark Kind.LITERAL ∷ []) _ a_test goal-test
      (told-test 7 _ _ (compare-texts (mark Kind.EQUAL) (mark Kind.LITERAL ∷ []) (mark Kind.LITERAL ∷ []) _ _ _ equal-op
      (text-one _ _ (literal-tree (mark Kind.LITERAL) refl)) (text-one _ _ (literal-tree (mark Kind.LITERAL) refl))))
  something want-string = completes (mark Kind.LITERAL ∷ []) _ a-string goal-text (told_text 7 _ _ (literal-tree (mark Kind.LITERAL) refl))
  something want-number = completes (mark Kind.DIGITS ∷ []) _ an-integer goal-number (told-number 7 _ _ (number-tree (mark Kind.DIGITS) refl))
  something want-integer = completes (mark Kind.DIGITS ∷ []) _ an-integer goal-integer (told-number 7 _ _ (number-tree (mark Kind.DIGITS) refl))
  something want-float = completes (mark Kind.FLOAT ∷ []) _ a-float goal-float (told-float 7 _ _ (decimal-tree (mark Kind.FLOAT) refl))
