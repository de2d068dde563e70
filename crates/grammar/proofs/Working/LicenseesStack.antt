-- A machine with a stack of operators that makes the tree of a Licensees field from its tokens: by it a field has one tree. Assumes nothing.
use Rattle.std.specs.Prelude.{◌≡◌, ℕ, ◌+◌, ◌≤◌, eqb}
use Rattle.std.proofs.Math.Path.{refl, ap}
use Rattle.std.proofs.Common.{sym, ◌∙◌, subst, arith}
use Rattle.std.proofs.Math.Bool.{true, false}
use mathlib.Core.List.{List, [], ◌∷◌, ◌++◌}
use Rattle.text.specs.Choice.{pick}
use Rattle.record.specs.Query.{Attribute}
use Rattle.lexical.specs.Kind
use Rattle.lexical.specs.Literal.{decoded_at}
use Rattle.lexical.specs.Number.{number_at}
use Rattle.lexical.specs.declared.token.Token.{Token}
use Rattle.syntax.specs.Code.{name_at}
use Rattle.syntax.specs.Expr.{Expr, literal, name}
use Rattle.naming.specs.Source.{Source, Sources, one, and, or, k_of, Licensees, empty, given}
use Rattle.grammar.specs.Conditions.{Class, operand, power, product, conjunction, whole}
use Rattle.grammar.specs.Sourced.{SourceTree, source-tree, ListTree, one-item, more-items, PrincTree, principal-tree, threshold-tree, bracket-tree, once, both-tree, up, either-tree, LicenseesTree, nobody-tree, somebody-tree}
use Rattle.grammar.specs.Trees.{StrTree, literal-tree, name-tree, lookup-tree, text-bracket, text-one, join-tree}
use Rattle.grammar.specs.Working.Automaton.{run, run-append}
use Rattle.grammar.proofs.Working.Begun.{str_plain}
use Rattle.grammar.specs.Working.Marks.{at-kind}
use Rattle.grammar.specs.Working.Pending.{pending, opening, reduce, reduce-same, Stops, stops_end, stops-open, stops-low, stops-up, stops-is, reduce-own}
use Rattle.grammar.specs.Working.LicenseesStack.{Context, Machine, Waiting, closed_in, item_in, joined, level_of, listing, looked, operated, plain-one, source, top, z-have, z-lost, z-number, z-of, z-want}

module _ (s : List ℕ) where
  -- the machine behind one more token
  unfoldable shift : Machine → Token → Machine
  shift (z-want C P) t =
      pick (eqb t.kind Kind.OPEN) (z-want C (opening ∷ P))
      (pick (eqb t.kind Kind.DIGITS) (z-number (number_at s t.start t.end) P)
      (pick (eqb t.kind Kind.DOLLAR) (z-want C (pending 3 (looked t.start) ∷ P))
      (pick (eqb t.kind Kind.LITERAL) (z-have C (one (source t.start (literal (decoded_at s t.start)))) P)
      (z-have C (one (source t.start (name (name_at s t.start)))) P))))
  shift (z-have C e P) t =
      pick (eqb t.kind Kind.CLOSE) (closed_in C (reduce 0 e P)) (pick (eqb t.kind Kind.COMMA) (item_in C (reduce 0 e P)) (operated C t.kind (reduce (level_of t.kind) e P)))
  shift (z-number k P) t = z-of k P
  shift (z-of k P) t = z-want (listing k [] P) []
  shift z-lost t = z-lost

  abbrev runs : Machine → List Token → Machine
  runs q ts = run shift q ts

  -- the marks
  want-open : (C : Context) (P : Waiting) (t : Token) → t.kind ≡ Kind.OPEN → shift (z-want C P) t ≡ z-want C (opening ∷ P)
  unfolding shift
  want-open C P t z = rw (at-kind t Kind.OPEN Kind.OPEN true z refl) refl

  want-digits : (C : Context) (P : Waiting) (t : Token) → t.kind ≡ Kind.DIGITS → shift (z-want C P) t ≡ z-number (number_at s t.start t.end) P
  unfolding shift
  want-digits C P t z = rw (at-kind t Kind.DIGITS Kind.OPEN false z refl, at-kind t Kind.DIGITS Kind.DIGITS true z refl) refl

  want-dollar : (C : Context) (P : Waiting) (t : Token) → t.kind ≡ Kind.DOLLAR → shift (z-want C P) t ≡ z-want C (pending 3 (looked t.start) ∷ P)
  unfolding shift
  want-dollar C P t z = rw (at-kind t Kind.DOLLAR Kind.OPEN false z refl, at-kind t Kind.DOLLAR Kind.DIGITS false z refl, at-kind t Kind.DOLLAR Kind.DOLLAR true z refl) refl

  want-literal : (C : Context) (P : Waiting) (t : Token) → t.kind ≡ Kind.LITERAL → shift (z-want C P) t ≡ z-have C (one (source t.start (literal (decoded_at s t.start)))) P
  unfolding shift
  want-literal C P t z =
      rw (at-kind t Kind.LITERAL Kind.OPEN false z refl, at-kind t Kind.LITERAL Kind.DIGITS false z refl, at-kind t Kind.LITERAL Kind.DOLLAR false z refl, at-kind t Kind.LITERAL Kind.LITERAL true z refl) refl

  want-name : (C : Context) (P : Waiting) (t : Token) → t.kind ≡ Kind.NAME → shift (z-want C P) t ≡ z-have C (one (source t.start (name (name_at s t.start)))) P
  unfolding shift
  want-name C P t z =
      rw (at-kind t Kind.NAME Kind.OPEN false z refl, at-kind t Kind.NAME Kind.DIGITS false z refl, at-kind t Kind.NAME Kind.DOLLAR false z refl, at-kind t Kind.NAME Kind.LITERAL false z refl) refl

  have-close : (C : Context) (e : Sources) (P : Waiting) (t : Token) → t.kind ≡ Kind.CLOSE → shift (z-have C e P) t ≡ closed_in C (reduce 0 e P)
  unfolding shift
  have-close C e P t z = rw (at-kind t Kind.CLOSE Kind.CLOSE true z refl) refl

  have-comma : (C : Context) (e : Sources) (P : Waiting) (t : Token) → t.kind ≡ Kind.COMMA → shift (z-have C e P) t ≡ item_in C (reduce 0 e P)
  unfolding shift
  have-comma C e P t z = rw (at-kind t Kind.COMMA Kind.CLOSE false z refl, at-kind t Kind.COMMA Kind.COMMA true z refl) refl

  have-operator : (C : Context) (e : Sources) (P : Waiting) (t : Token) (k : ℕ) → t.kind ≡ k → eqb k Kind.CLOSE ≡ false → eqb k Kind.COMMA ≡ false
      → shift (z-have C e P) t ≡ operated C k (reduce (level_of k) e P)
  unfolding shift
  have-operator C e P t k z n m = rw (at-kind t k Kind.CLOSE false z n, at-kind t k Kind.COMMA false z m) (ap (λ (x : ℕ). operated C x (reduce (level_of x) e P)) z)

  number_of : (k : ℕ) (P : Waiting) (u v : Token) → runs (z-number k P) (u ∷ v ∷ []) ≡ z-want (listing k [] P) []
  unfolding shift
  number_of k P u v = refl

  -- where tokens that say e lead from P on, up to what operators of level l and tighter make of it
  data Sim (C : Context) (l : ℕ) (e : Sources) (P : Waiting) : Machine → Type 0 where
    sim : (e₁ : Sources) (P₁ : Waiting) → reduce l e₁ P₁ ≡ reduce l e P → Sim C l e P (z-have C e₁ P₁)

  sim-down : (C : Context) (l m : ℕ) (e : Sources) (P : Waiting) (q : Machine) → l ≤ m → Sim C m e P q → Sim C l e P q
  sim-down C l m e P _ h (sim e₁ P₁ g) = sim e₁ P₁ (reduce-same l m e₁ e P₁ P h g)

  sim-at : (C : Context) (l : ℕ) (e : Sources) (P : Waiting) (q r : Machine) → q ≡ r → Sim C l e P r → Sim C l e P q
  sim-at C l e P q r z x = subst (Sim C l e P) (sym z) x

  -- two operands and the operator of level l between them
  two : (C : Context) (k l : ℕ) (P : Waiting) (e f : Sources) (t : Token) (us : List Token) (q : Machine) → t.kind ≡ k → eqb k Kind.CLOSE ≡ false → eqb k Kind.COMMA ≡ false → level_of k ≡ l → Stops l P
      → Sim C l e P q → ((Q : Waiting) → Stops (l + 1) Q → Sim C l f Q (runs (z-want C Q) us)) → Sim C l (joined k e f) P (runs q (t ∷ us))
  two C k l P e f t us _ z n m lev st (sim e₁ P₁ g) right =
      sim-at C l (joined k e f) P (runs (z-have C e₁ P₁) (t ∷ us)) (runs (z-want C Q) us) (ap (λ (x : Machine). runs x us) led) (reduced (runs (z-want C Q) us) (right Q (stops-low l (joined k e) P (omega arith))))
    where
      Q : Waiting
      Q = pending l (joined k e) ∷ P

      led : shift (z-have C e₁ P₁) t ≡ z-want C Q
      led =
          have-operator C e₁ P₁ t k z n m ∙ ap (λ (x : ℕ). z-want C (pending x (joined k (reduce x e₁ P₁).0) ∷ (reduce x e₁ P₁).1)) lev
          ∙ ap (λ (x : Sources × Waiting). z-want C (pending l (joined k x.0) ∷ x.1)) (g ∙ stops-is l e P st)

      reduced : (q : Machine) → Sim C l f Q q → Sim C l (joined k e f) P q
      reduced _ (sim f₁ Q₁ h) = sim f₁ Q₁ (h ∙ reduce-own l (joined k e) f P)

  closed-bracket : (C : Context) (e : Sources) (P : Waiting) → closed_in C (e, opening ∷ P) ≡ z-have C e P
  closed-bracket top e P = refl
  closed-bracket (listing k xs Q) e P = refl

  closes : (C : Context) (l m : ℕ) (P : Waiting) (e : Sources) (u : Token) (q : Machine) → u.kind ≡ Kind.CLOSE → Sim C l e (opening ∷ P) q → Sim C m e P (shift q u)
  closes C l m P e u _ z (sim e₁ P₁ g) =
      sim-at C m e P (shift (z-have C e₁ P₁) u) (z-have C e P) (have-close C e₁ P₁ u z ∙ ap (closed_in C) (reduce-same 0 l e₁ e P₁ (opening ∷ P) (omega arith) g) ∙ closed-bracket C e P) (sim e P refl)

  looks : (C : Context) (p : ℕ) (e : Sources) (P : Waiting) (q : Machine) → Sim C 3 e (pending 3 (looked p) ∷ P) q → Sim C 3 (looked p e) P q
  looks C p e P _ (sim e₁ P₁ g) = sim e₁ P₁ (g ∙ reduce-own 3 (looked p) e P)

  -- strings
  abbrev text_level : Class → ℕ
  text_level operand = 3
  text_level power = 2
  text_level product = 2
  text_level conjunction = 2
  text_level whole = 2

  data TextRoom (P : Waiting) : Class → Type 0 where
    any-room : TextRoom P operand
    dot-room : Stops 2 P → TextRoom P whole

  abbrev place_of : (c : Class) (ts : List Token) (e : Expr) → StrTree s c ts e → ℕ
  place_of c ts e d = (str_plain s c ts e d).0

  str-sim : (c : Class) (ts : List Token) (e : Expr) (d : StrTree s c ts e) (C : Context) (P : Waiting) → TextRoom P c → Sim C (text_level c) (one (source (place_of c ts e d) e)) P (runs (z-want C P) ts)
  unfolding str_plain
  str-sim _ _ _ (literal-tree t z) C P h = sim-at C 3 _ P (shift (z-want C P) t) _ (want-literal C P t z) (sim _ P refl)
  str-sim _ _ _ (name-tree t z) C P h = sim-at C 3 _ P (shift (z-want C P) t) _ (want-name C P t z) (sim _ P refl)
  str-sim _ _ _ (lookup-tree t ts e z d) C P h =
      sim-at C 3 _ P (runs (z-want C P) (t ∷ ts)) (runs (z-want C (pending 3 (looked t.start) ∷ P)) ts) (ap (λ (q : Machine). runs q ts) (want-dollar C P t z))
      (looks C t.start _ P (runs (z-want C (pending 3 (looked t.start) ∷ P)) ts) (str-sim operand ts e d C (pending 3 (looked t.start) ∷ P) any-room))
  str-sim _ _ _ (text-bracket t u ts e y z d) C P h =
      sim-at C 3 _ P (runs (z-want C P) (t ∷ ts ++ u ∷ [])) (shift (runs (z-want C (opening ∷ P)) ts) u)
      (ap (λ (q : Machine). runs q (ts ++ u ∷ [])) (want-open C P t y) ∙ run-append shift (z-want C (opening ∷ P)) ts (u ∷ []))
      (closes C 2 3 P _ u (runs (z-want C (opening ∷ P)) ts) z (str-sim whole ts e d C (opening ∷ P) (dot-room (stops-open P))))
  str-sim _ _ _ (text-one ts e d) C P h = sim-down C 2 3 _ P (runs (z-want C P) ts) (omega arith) (str-sim operand ts e d C P any-room)
  str-sim _ _ _ (join-tree t ts us e f z d g) C P (dot-room st) =
      sim-at C 2 _ P (runs (z-want C P) (ts ++ t ∷ us)) (runs (runs (z-want C P) ts) (t ∷ us)) (run-append shift (z-want C P) ts (t ∷ us))
      (two C Kind.DOT 2 P _ (one (source (place_of operand us f g) f)) t us (runs (z-want C P) ts) z refl refl refl st (str-sim whole ts e d C P (dot-room st))
      (λ Q sq. sim-down C 2 3 _ Q (runs (z-want C Q) us) (omega arith) (str-sim operand us f g C Q any-room)))

  source-sim : (ts : List Token) (x : Source) → SourceTree s ts x → (C : Context) (P : Waiting) → Stops 2 P → Sim C 2 (one x) P (runs (z-want C P) ts)
  source-sim _ _ (source-tree ts x d p) C P st =
      subst (λ (y : ℕ). Sim C 2 (one (source y x.says)) P (runs (z-want C P) ts)) (plain-one ts (place_of whole ts x.says d) x.place (str_plain s whole ts x.says d).1 p)
      (str-sim whole ts x.says d C P (dot-room st))

  -- lists
  data ListSim (k : ℕ) (xs : List Source) (P : Waiting) : Machine → Type 0 where
    list-sim : (ys : List Source) (x : Source) (e₁ : Sources) (P₁ : Waiting) → ys ++ x ∷ [] ≡ xs → reduce 0 e₁ P₁ ≡ (one x, []) → ListSim k xs P (z-have (listing k ys P) e₁ P₁)

  item-sim : (k : ℕ) (ys : List Source) (x : Source) (P : Waiting) (q : Machine) → Sim (listing k ys P) 2 (one x) [] q → ListSim k (ys ++ x ∷ []) P q
  item-sim k ys x P _ (sim e₁ P₁ g) = list-sim ys x e₁ P₁ refl (reduce-same 0 2 e₁ (one x) P₁ [] (omega arith) g)

  comma-led : (k : ℕ) (xs : List Source) (P : Waiting) (c : Token) (q : Machine) → c.kind ≡ Kind.COMMA → ListSim k xs P q → shift q c ≡ z-want (listing k xs P) []
  comma-led k xs P c _ z (list-sim ys x e₁ P₁ e g) =
      have-comma (listing k ys P) e₁ P₁ c z ∙ ap (item_in (listing k ys P)) g ∙ ap (λ (l : List Source). z-want (listing k l P) []) e

  close-led : (k : ℕ) (xs : List Source) (P : Waiting) (c : Token) (q : Machine) → c.kind ≡ Kind.CLOSE → ListSim k xs P q → shift q c ≡ z-have top (k_of k xs) P
  close-led k xs P c _ z (list-sim ys x e₁ P₁ e g) =
      have-close (listing k ys P) e₁ P₁ c z ∙ ap (closed_in (listing k ys P)) g ∙ ap (λ (l : List Source). z-have top (k_of k l) P) e

  list-runs : (k : ℕ) (P : Waiting) (ts : List Token) (xs : List Source) → ListTree s ts xs → ListSim k xs P (runs (z-want (listing k [] P) []) ts)
  list-runs k P _ _ (one-item ts x d) = item-sim k [] x P (runs (z-want (listing k [] P) []) ts) (source-sim ts x d (listing k [] P) [] stops_end)
  list-runs k P _ _ (more-items c ts us xs x e l d) =
      subst (ListSim k (xs ++ x ∷ []) P)
      (sym (run-append shift (z-want (listing k [] P) []) ts (c ∷ us) ∙ ap (λ (q : Machine). runs q us) (comma-led k xs P c (runs (z-want (listing k [] P) []) ts) e (list-runs k P ts xs l))))
      (item-sim k xs x P (runs (z-want (listing k xs P) []) us) (source-sim us x d (listing k xs P) [] stops_end))

  abbrev level : Class → ℕ
  level operand = 2
  level power = 0
  level product = 0
  level conjunction = 1
  level whole = 0

  data Room (P : Waiting) : Class → Type 0 where
    one-room : Stops 2 P → Room P operand
    and-room : Stops 1 P → Room P conjunction
    or-room : Stops 0 P → Room P whole

  princ-sim : (c : Class) (ts : List Token) (e : Sources) → PrincTree s c ts e → (P : Waiting) → Room P c → Sim top (level c) e P (runs (z-want top P) ts)
  princ-sim _ _ _ (principal-tree ts x d) P (one-room st) = source-sim ts x d top P st
  princ-sim _ _ _ (threshold-tree t u v w ts xs x y a b d) P h =
      sim-at top 2 _ P (runs (z-want top P) (t ∷ u ∷ v ∷ ts ++ w ∷ [])) (z-have top (k_of (number_at s t.start t.end) xs) P)
      (ap (λ (q : Machine). runs q (u ∷ v ∷ ts ++ w ∷ [])) (want-digits top P t x) ∙ ap (λ (q : Machine). runs q (ts ++ w ∷ [])) (number_of (number_at s t.start t.end) P u v)
      ∙ run-append shift (z-want (listing (number_at s t.start t.end) [] P) []) ts (w ∷ [])
      ∙ close-led (number_at s t.start t.end) xs P w (runs (z-want (listing (number_at s t.start t.end) [] P) []) ts) b (list-runs (number_at s t.start t.end) P ts xs d)) (sim _ P refl)
  princ-sim _ _ _ (bracket-tree t u ts e y z d) P h =
      sim-at top 2 e P (runs (z-want top P) (t ∷ ts ++ u ∷ [])) (shift (runs (z-want top (opening ∷ P)) ts) u)
      (ap (λ (q : Machine). runs q (ts ++ u ∷ [])) (want-open top P t y) ∙ run-append shift (z-want top (opening ∷ P)) ts (u ∷ []))
      (closes top 0 2 P e u (runs (z-want top (opening ∷ P)) ts) z (princ-sim whole ts e d (opening ∷ P) (or-room (stops-open P))))
  princ-sim _ _ _ (once ts e d) P (and-room st) =
      sim-down top 1 2 e P (runs (z-want top P) ts) (omega arith) (princ-sim operand ts e d P (one-room (stops-up 1 2 P (omega arith) st)))
  princ-sim _ _ _ (both-tree t ts us e f z d g) P (and-room st) =
      sim-at top 1 (and e f) P (runs (z-want top P) (ts ++ t ∷ us)) (runs (runs (z-want top P) ts) (t ∷ us)) (run-append shift (z-want top P) ts (t ∷ us))
      (two top Kind.AND 1 P e f t us (runs (z-want top P) ts) z refl refl refl st (princ-sim conjunction ts e d P (and-room st))
      (λ Q sq. sim-down top 1 2 f Q (runs (z-want top Q) us) (omega arith) (princ-sim operand us f g Q (one-room sq))))
  princ-sim _ _ _ (up ts e d) P (or-room st) =
      sim-down top 0 1 e P (runs (z-want top P) ts) (omega arith) (princ-sim conjunction ts e d P (and-room (stops-up 0 1 P (omega arith) st)))
  princ-sim _ _ _ (either-tree t ts us e f z d g) P (or-room st) =
      sim-at top 0 (or e f) P (runs (z-want top P) (ts ++ t ∷ us)) (runs (runs (z-want top P) ts) (t ∷ us)) (run-append shift (z-want top P) ts (t ∷ us))
      (two top Kind.OR 0 P e f t us (runs (z-want top P) ts) z refl refl refl st (princ-sim whole ts e d P (or-room st))
      (λ Q sq. sim-down top 0 1 f Q (runs (z-want top Q) us) (omega arith) (princ-sim conjunction us f g Q (and-room sq))))

  module _ (constants : List Attribute) where
    -- what a field's tokens have led to
    unfoldable tree_of : Machine → Licensees
    tree_of (z-want C P) = empty
    tree_of (z-have C e P) = given constants (reduce 0 e P).0
    tree_of (z-number k P) = empty
    tree_of (z-of k P) = empty
    tree_of z-lost = empty

    of-sim : (e : Sources) (q : Machine) → Sim top 0 e [] q → tree_of q ≡ given constants e
    unfolding tree_of
    of-sim e _ (sim e₁ P₁ g) = ap (λ (x : Sources × Waiting). given constants x.0) g

    made : (ts : List Token) (l : Licensees) → LicenseesTree s constants ts l → tree_of (runs (z-want top []) ts) ≡ l
    unfolding tree_of
    made _ _ nobody-tree = refl
    made _ _ (somebody-tree ts e d) = of-sim e (runs (z-want top []) ts) (princ-sim whole ts e d [] (or-room stops_end))

    pub one-tree : (ts : List Token) (l m : Licensees) → LicenseesTree s constants ts l → LicenseesTree s constants ts m → l ≡ m
    one-tree ts l m d g = sym (made ts l d) ∙ made ts m g
