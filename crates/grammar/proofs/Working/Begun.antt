-- Where a string is read, the first token that is no bracket begins one, and it stands where the reader says. Assumes nothing.
use Rattle.std.specs.Prelude.{◌≡◌, Bool, true, false, List, [], ◌∷◌, ◌++◌, eqb, leb}
use Rattle.std.proofs.Math.Path.{refl}
use Rattle.std.proofs.Common.{sym, ap, ◌∙◌, subst, arith}
use Prim.Native.Nat.{ℕ, zero, suc, ◌+◌, ◌-◌, ◌≤◌}
use borrow.Author.Tests.{eqb-true, eqb-false, ne_eqb}
use Rattle.text.specs.Choice.{split, clash}
use Rattle.lexical.specs.Kind
use Rattle.lexical.specs.Theorems.Bounds.{chosen}
use Rattle.lexical.specs.declared.token.Token.{Token}
use Rattle.syntax.specs.Expr.{Expr}
use Rattle.conditions.specs.Table.{want-string}
use Rattle.conditions.specs.Table
use Rattle.conditions.specs.Word.{next_at}
use Rattle.conditions.specs.Expression.{read_expression, read_operand, read_bracketed}
use Rattle.naming.specs.String.{plain_from}
use Rattle.grammar.specs.Conditions.{Class, operand, whole}
use Rattle.grammar.specs.Sourced.{Plain, plain_here, plain-behind}
use Rattle.grammar.specs.Spelled.{Tokens}
use Rattle.grammar.specs.Trees.{StrTree, literal-tree, name-tree, lookup-tree, text-bracket, text-one, join-tree}
use Rattle.grammar.specs.Viable.{and-on}
use Rattle.grammar.specs.Working.Begun.{Begun, begun-aside, begun-so, on-begun}

module _ (s : List ℕ) where
  plain-not : (left : ℕ) (t : Token) → eqb t.kind Kind.OPEN ≡ false → plain_from left s t ≡ t
  unfolding plain_from
  plain-not zero t e = refl
  plain-not (suc left) t e = rw e refl

  plain-open : (left : ℕ) (t : Token) → eqb t.kind Kind.OPEN ≡ true → plain_from (suc left) s t ≡ plain_from left s (next_at s t.end)
  unfolding plain_from
  plain-open left t e = rw e refl

  abbrev pub begins : ℕ → Token → Bool
  begins left t = Table.begins_string (plain_from left s t).kind

  bracket-begun : (d left : ℕ) (t : Token) → left ≤ 16 → eqb t.kind Kind.OPEN ≡ true
      → ((left' : ℕ) → left ≡ suc left' → Begun (begins left' (next_at s t.end)) (read_expression d s 3 want-string 0 (16 - left') (next_at s t.end)))
      → Begun (begins left t) (read_bracketed (suc d) s want-string (16 - left) t)
  unfolding read_expression Table.inside_level
  bracket-begun d zero t h o inner = begun-aside _ _
  bracket-begun d (suc left) t h o inner =
      chosen (Begun (begins (suc left) t)) (leb 16 (16 - suc left)) _ _ (λ e. begun-aside _ _)
      (λ e. on-begun (begins (suc left) t) _ _
      (subst (λ (n : ℕ). Begun (begins (suc left) t) (read_expression d s 3 want-string 0 n (next_at s t.end))) (let z : 16 - left ≡ (16 - suc left) + 1 = omega (arith, h) in z)
      (subst (λ (u : Token). Begun (Table.begins_string u.kind) (read_expression d s 3 want-string 0 (16 - left) (next_at s t.end))) (sym (plain-open left t o)) (inner left refl))))

  open-prefix : (k : ℕ) → eqb k Kind.OPEN ≡ true → Table.prefix_operator k ≡ Table.no-prefix
  unfolding Table.prefix_operator
  open-prefix k o = let z : k ≡ Kind.OPEN = eqb-true _ _ o in rw z refl

  -- an operand at a token that is allowed
  operand-begun : (d row left : ℕ) (t : Token)
      → (eqb t.kind Kind.OPEN ≡ true → Begun (begins left t) (read_bracketed d s want-string (16 - left) t)) → Begun (begins left t) (read_operand (suc d) s want-string row (16 - left) t)
  unfolding read_expression Table.allows
  operand-begun d row left t inner =
      split (eqb t.kind Kind.OPEN)
      (λ o. rw (o, open-prefix t.kind o) (inner o))
      (λ o. split (Table.begins_string t.kind) (λ b. begun-so (ap (λ (u : Token). Table.begins_string u.kind) (plain-not left t o) ∙ b) _) (λ b. rw (o, b) (begun-aside _ _)))

  pub expression-begun : (d level row left : ℕ) (t : Token) → left ≤ 16 → Begun (begins left t) (read_expression d s level want-string row (16 - left) t)
  unfolding read_expression
  expression-begun zero level row left t h = begun-aside _ _
  expression-begun (suc zero) level row left t h = begun-aside _ _
  expression-begun (suc (suc zero)) level row left t h = on-begun (begins left t) _ _ (operand-begun zero row left t (λ o. begun-aside _ _))
  expression-begun (suc (suc (suc d))) level row left t h =
      on-begun (begins left t) _ _
      (operand-begun (suc d) row left t
      (λ o. bracket-begun d left t h o (λ left' e. expression-begun d 3 0 left' (next_at s t.end) (let z : left' ≤ 16 = omega (arith, h, e) in z))))

  -- the first token of a string that is no bracket
  pub plain-append : (ts us : List Token) (p : ℕ) → Plain ts p → Plain (ts ++ us) p
  plain-append _ us _ (plain_here t ts h) = plain_here t (ts ++ us) h
  plain-append _ us _ (plain-behind t ts p h a) = plain-behind t (ts ++ us) p h (plain-append ts us p a)

  pub no-open : (t : Token) (k : ℕ) → t.kind ≡ k → eqb k Kind.OPEN ≡ false → t.kind ≡ Kind.OPEN → ⊥
  no-open t k z h e = eqb-false k Kind.OPEN h (sym z ∙ e)

  unfoldable pub str_plain : (c : Class) (ts : List Token) (e : Expr) → StrTree s c ts e → (p : ℕ) × Plain ts p
  str_plain _ _ _ (literal-tree t z) = (t.start, plain_here t [] (no-open t Kind.LITERAL z refl))
  str_plain _ _ _ (name-tree t z) = (t.start, plain_here t [] (no-open t Kind.NAME z refl))
  str_plain _ _ _ (lookup-tree t ts e z d) = (t.start, plain_here t ts (no-open t Kind.DOLLAR z refl))
  str_plain _ _ _ (text-bracket t u ts e y z d) =
      ((str_plain whole ts e d).0, plain-behind t (ts ++ u ∷ []) (str_plain whole ts e d).0 y (plain-append ts (u ∷ []) (str_plain whole ts e d).0 (str_plain whole ts e d).1))
  str_plain _ _ _ (text-one ts e d) = str_plain operand ts e d
  str_plain _ _ _ (join-tree t ts us e f z d g) = ((str_plain whole ts e d).0, plain-append ts (t ∷ us) (str_plain whole ts e d).0 (str_plain whole ts e d).1)

  open-zero : (t : Token) → t.kind ≡ Kind.OPEN → begins zero t ≡ false
  unfolding plain_from Table.begins_string
  open-zero t h = rw h refl

  plain_at_lem : (left : ℕ) (t u : Token) (ts : List Token) (p : ℕ) → Plain ts p → Tokens s t ts u → begins left t ≡ true → (plain_from left s t).start ≡ p
  plain_at_lem left _ u _ _ (plain_here t ts h) (and-on _ _ _ q) b = ap (λ (x : Token). x.start) (plain-not left t (ne_eqb t.kind Kind.OPEN h))
  plain_at_lem zero _ u _ _ (plain-behind t ts p h a) (and-on _ _ _ q) b = clash b (open-zero t h)
  plain_at_lem (suc left) _ u _ _ (plain-behind t ts p h a) (and-on _ _ _ q) b =
      let o : eqb t.kind Kind.OPEN ≡ true = rw h refl in
      ap (λ (x : Token). x.start) (plain-open left t o)
      ∙ plain_at_lem left (next_at s t.end) u ts p a q (ap (λ (x : Token). Table.begins_string x.kind) (sym (plain-open left t o)) ∙ b)

  -- where it stands
  pub string-plain : (left : ℕ) (t u : Token) (ts : List Token) (e : Expr) → StrTree s whole ts e → Tokens s t ts u → begins left t ≡ true → Plain ts (plain_from left s t).start
  string-plain left t u ts e d p b =
      subst (λ (x : ℕ). Plain ts x) (sym (plain_at_lem left t u ts (str_plain whole ts e d).0 (str_plain whole ts e d).1 p b)) (str_plain whole ts e d).1
