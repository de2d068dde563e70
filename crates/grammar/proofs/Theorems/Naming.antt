-- Licensees with string expressions (W-203): its reader gives reason 2 where the grammar allows no continuation, and else reads a sentence and gives a
-- tree of it. Assumes nothing.
use Rattle.std.specs.Prelude.{◌≡◌, Bool, true, false, eqb, leb, ltb}
use Rattle.std.proofs.Math.Path.{refl, ap}
use Rattle.std.proofs.Common.{sym, ◌∙◌, subst, arith, eqb-true, leb-false}
use mathlib.Core.List.{List, [], ◌∷◌, ◌++◌, append_assoc}
use Prim.Native.Nat.{ℕ, zero, suc, ◌+◌, ◌-◌, ◌≤◌, ◌<◌}
use Rattle.std.proofs.Math.ListN.{length, length-append}
use Rattle.text.specs.Choice.{split, clash}
use Rattle.text.specs.Loop.{Step}
use Rattle.record.specs.Query.{Attribute}
use Rattle.lexical.specs.Kind
use Rattle.lexical.specs.Kind.{ending}
use Rattle.lexical.specs.Theorems.Bounds.{chosen}
use Rattle.lexical.specs.Line.{token_at}
use Rattle.lexical.specs.Number.{number_at}
use Rattle.lexical.specs.declared.token.Token.{Token}
use Rattle.syntax.specs.Expr.{Expr}
use Rattle.syntax.specs.Parsed.{Parsed, ok, aside, refusal, unexpected, and_then}
use Rattle.conditions.specs.Table.{PartSort}
use Rattle.conditions.specs.Table
use Rattle.conditions.specs.Parsed.{Part, on_part}
use Rattle.conditions.specs.Program.{DEPTH}
use Rattle.fields.specs.Parsed.{ended}
use Rattle.naming.specs.Source.{Source, Sources, one, and, or, k_of, Licensees, missing, empty, given, sources}
use Rattle.naming.specs.String.{plain_from, source}
use Rattle.naming.specs.Licensees as L
use Rattle.grammar.specs.Fields.{end-of-text, Field, field}
use Rattle.grammar.specs.Conditions.{Class, operand, conjunction, whole, Str, str-literal, str-bracket, str-one}
use Rattle.grammar.specs.Naming.{PrincList, PrincExpr, bracket, both, either, threshold, principal, nobody, somebody}
use Rattle.grammar.specs.Naming as G
use Rattle.grammar.specs.Sourced.{SourceTree, ListTree, one-item, more-items, PrincTree, principal-tree, threshold-tree, bracket-tree, once, both-tree, up, either-tree, LicenseesTree, nobody-tree, somebody-tree}
use Rattle.grammar.specs.Spelled.{kind_in, kinds_in}
use Rattle.grammar.specs.Trees.{StrTree}
use Rattle.grammar.specs.Viable.{TokensIn, at_once, and-on, opens, here, JudgedBy, through, another}
use Rattle.grammar.specs.Theorems.OneToken.{judged-stop, opens-end}
use Rattle.grammar.proofs.Theorems.OneToken.{ending-ends}
use Rattle.grammar.specs.Theorems.Shadow.{kind-mark}
use Rattle.grammar.proofs.Theorems.Shadow.{bracketed, str-shadow}
use Rattle.grammar.specs.Theorems.Authoring.{ending-kind}
use Rattle.grammar.specs.Working.Automaton.{run, run-append, run-dead}
use Rattle.grammar.specs.Working.Looping.{Turned, turned-next, turned-done, loop-turned}
use Rattle.grammar.specs.Working.Marks.{around, before, kinds-append, tokens_append, tokens-one}
use Rattle.grammar.specs.Working.Joints.{test-kind}
use Rattle.grammar.specs.Working.States.{TEXT, Frame, people, item, State, p-dead, p-text, p-have, p-names, p-princ, p-people, p-count, p-of, step}
use Rattle.grammar.specs.Working.Accepts.{step-dead, through-part, first_part, dot-text, as-text, text-run}
use Rattle.grammar.specs.Working.Reading.{Real}
use Rattle.grammar.proofs.Working.Reading.{runs, runs_on, runs_last}
use Rattle.grammar.specs.Working.Known.{token-real}
use Rattle.grammar.specs.Working.Begun.{Begun, begun-so, begun-aside}
use Rattle.grammar.proofs.Working.Begun.{begins, expression-begun}
use Rattle.grammar.specs.Working.Modes.{Near, near_same, near-test, near-ending, near-refusal, near-start, near-is}
use Rattle.grammar.proofs.Working.LicenseesStack.{one-tree}
use Rattle.grammar.specs.Working.Strings.{leaves, tokens-kinds}
use Rattle.grammar.proofs.Working.Strings.{Named, named, unnamed, not_named, source-strung, strung-named, source-shadow}
use Rattle.grammar.specs.Working.Principals.{Joins, joins-and, joins-or, princ-digits, count_of, item-comma, Stood, text-stood, mixed-stood, people-stood, open-run, closed-mixed, closed-people, list-place, names-want}
use Rattle.grammar.proofs.Working.Principals.{princ-run, stood-joins, list-run, threshold-run, names-dead}
use Rattle.grammar.specs.Theorems.Naming.{have-not-dead, one_size, text-not-dead}

-- what is no string
data Several : Sources → Type 0 where
  several-and : (a b : Sources) → Several (and a b)
  several-or : (a b : Sources) → Several (or a b)
  several-of : (k : ℕ) (xs : List Source) → Several (k_of k xs)

-- where the automaton stands behind kinds that say an expression, a token of kind k behind them
data Stands (ks : List ℕ) (k : ℕ) : Sources → Type 0 where
  stands-text : (x : Source) → Str whole ks → eqb k Kind.DOT ≡ false → Stands ks k (one x)
  stands-mixed : (e : Sources) → Several e → ((u n : ℕ) → run step (p-princ u n) ks ≡ p-have TEXT (people 0 n)) → eqb k Kind.DOT ≡ false → Stands ks k e
  stands-people : (e : Sources) → Several e → ((u n : ℕ) → run step (p-princ u n) ks ≡ p-people n) → Stands ks k e

stands-stood : (ks : List ℕ) (k : ℕ) (e : Sources) → Stands ks k e → Stood ks
stands-stood ks k _ (stands-text x g h) = text-stood g
stands-stood ks k _ (stands-mixed e z g h) = mixed-stood g
stands-stood ks k _ (stands-people e z g) = people-stood g

-- the kinds that the automaton has no place for
text-wrong : (u n k : ℕ) → eqb k Kind.DOT ≡ false → eqb k Kind.AND ≡ false → eqb k Kind.OR ≡ false → eqb k Kind.CLOSE ≡ false → step (p-have TEXT (people u (suc n))) k ≡ p-dead
text-wrong u n k d a b c = leaves (people u (suc n)) k d ∙ rw (a, b, c) (chosen (λ (q : State). q ≡ p-dead) (ending k) p-dead p-dead (λ e. refl) (λ e. refl))

people-wrong : (n k : ℕ) → eqb k Kind.AND ≡ false → eqb k Kind.OR ≡ false → eqb k Kind.CLOSE ≡ false → step (p-people (suc n)) k ≡ p-dead
unfolding step
people-wrong n k a b c = rw (a, b, c) (chosen (λ (q : State). q ≡ p-dead) (ending k) p-dead p-dead (λ e. refl) (λ e. refl))

text-last : (u k : ℕ) → eqb k Kind.DOT ≡ false → eqb k Kind.AND ≡ false → eqb k Kind.OR ≡ false → ending k ≡ false → step (p-have TEXT (people u 0)) k ≡ p-dead
text-last u k d a b c = leaves (people u 0) k d ∙ rw (a, b, c) (chosen (λ (q : State). q ≡ p-dead) (eqb k Kind.CLOSE) p-dead p-dead (λ e. refl) (λ e. refl))

people-last : (k : ℕ) → eqb k Kind.AND ≡ false → eqb k Kind.OR ≡ false → ending k ≡ false → step (p-people 0) k ≡ p-dead
unfolding step
people-last k a b c = rw (a, b, c) (chosen (λ (q : State). q ≡ p-dead) (eqb k Kind.CLOSE) p-dead p-dead (λ e. refl) (λ e. refl))

count-wrong : (n k : ℕ) → eqb k Kind.OF ≡ false → step (p-count n) k ≡ p-dead
unfolding step
count-wrong n k a = rw a refl

of-wrong : (n k : ℕ) → eqb k Kind.OPEN ≡ false → step (p-of n) k ≡ p-dead
unfolding step
of-wrong n k a = rw a refl

item-wrong : (n k : ℕ) → eqb k Kind.DOT ≡ false → eqb k Kind.CLOSE ≡ false → eqb k Kind.COMMA ≡ false → step (p-have TEXT (item n)) k ≡ p-dead
item-wrong n k d a b = leaves (item n) k d ∙ rw (a, b) refl

-- a string begins alike where a licensee and where a string is wanted
princ-same : (u n k : ℕ) → eqb k Kind.OPEN ≡ false → eqb k Kind.DIGITS ≡ false → step (p-princ u n) k ≡ step (p-text TEXT (people u n)) k
unfolding step
princ-same u n k a b = rw (a, b) refl

ending-minus : (k : ℕ) → ending k ≡ true → eqb k Kind.MINUS ≡ false
unfolding ending
ending-minus k h = split (eqb k Kind.MINUS) (λ e. let z : k ≡ Kind.MINUS = eqb-true _ _ e in clash (rw z at h) refl) (λ e. e)

abbrev N0 : ℕ → Type 0
N0 k = k ≡ k

abbrev N1 : ℕ → Type 0
N1 k = (k ≡ k) × (eqb k Kind.AND ≡ false)

abbrev N2 : ℕ → Type 0
N2 k = N1 k × (eqb k Kind.OR ≡ false)

module _ (s : List ℕ) where
  abbrev Toks : Token → List Token → Token → Type 0
  Toks t ts n = TokensIn s Kind.IN_LICENSEES t ts n

  abbrev next : Token → Token
  next t = token_at s Kind.IN_LICENSEES t.end

  -- the kinds of the tokens of a tree are a sentence
  list-shadow : (ts : List Token) (xs : List Source) → ListTree s ts xs → PrincList (kinds_in s ts)
  list-shadow _ _ (one-item ts x d) = G.one _ (source-shadow s ts x d)
  list-shadow _ _ (more-items c ts us xs x e l d) =
      around (kind_in s) PrincList c ts us Kind.COMMA (kind-mark s c Kind.COMMA e refl) (G.comma _ _ (list-shadow ts xs l) (G.one _ (source-shadow s us x d)))

  pub princ-shadow : (c : Class) (ts : List Token) (e : Sources) → PrincTree s c ts e → PrincExpr (kinds_in s ts)
  princ-shadow _ _ _ (principal-tree ts x d) = principal _ (source-shadow s ts x d)
  princ-shadow _ _ _ (threshold-tree t u v w ts xs a b c f l) =
      before (kind_in s) PrincExpr t (u ∷ v ∷ ts ++ w ∷ []) Kind.DIGITS (kind-mark s t Kind.DIGITS a refl)
      (before (kind_in s) (λ (l : List ℕ). PrincExpr (Kind.DIGITS ∷ l)) u (v ∷ ts ++ w ∷ []) Kind.OF (kind-mark s u Kind.OF b refl)
      (before (kind_in s) (λ (l : List ℕ). PrincExpr (Kind.DIGITS ∷ Kind.OF ∷ l)) v (ts ++ w ∷ []) Kind.OPEN (kind-mark s v Kind.OPEN c refl)
      (around (kind_in s) (λ (l : List ℕ). PrincExpr (Kind.DIGITS ∷ Kind.OF ∷ Kind.OPEN ∷ l)) w ts [] Kind.CLOSE (kind-mark s w Kind.CLOSE f refl) (threshold _ (list-shadow ts xs l)))))
  princ-shadow _ _ _ (bracket-tree t u ts e y z d) = bracketed s PrincExpr t u ts y z (bracket _ (princ-shadow whole ts e d))
  princ-shadow _ _ _ (once ts e d) = princ-shadow operand ts e d
  princ-shadow _ _ _ (both-tree t ts us e f z d g) =
      around (kind_in s) PrincExpr t ts us Kind.AND (kind-mark s t Kind.AND z refl) (both _ _ (princ-shadow conjunction ts e d) (princ-shadow operand us f g))
  princ-shadow _ _ _ (up ts e d) = princ-shadow conjunction ts e d
  princ-shadow _ _ _ (either-tree t ts us e f z d g) =
      around (kind_in s) PrincExpr t ts us Kind.OR (kind-mark s t Kind.OR z refl) (either _ _ (princ-shadow whole ts e d) (princ-shadow conjunction us f g))

  -- what a reader of expressions behind n licensees makes of the tokens from t on; N is what is known of the kind behind what it read; u is the token
  -- behind as the reader sees it, v as it stands in the field
  data Reading (c : Class) (N : ℕ → Type 0) (n : ℕ) (t : Token) : Parsed Sources → Type 0 where
    got : (ts : List Token) (u v : Token) (e : Sources) → Toks t ts v → Near u v → PrincTree s c ts e → Stands (kinds_in s ts) v.kind e → N v.kind → 1 ≤ length (sources e)
        → n + length (sources e) ≤ 16 → Reading c N n t (ok e u)
    halted : (ts : List Token) (v : Token) → Toks t ts v → (rest : List ℕ) → PrincExpr (kinds_in s ts ++ rest) → ((u m : ℕ) → runs s (p-princ u m) ts v ≡ p-dead) → (r : ℕ) → r ≡ refusal v.kind
        → Reading c N n t (aside r v.start)
    otherwise : (r p : ℕ) → (r ≡ 2 → ⊥) → Reading c N n t (aside r p)

  -- one that stops at u, which stands as v in the field
  halted-near : (c : Class) (N : ℕ → Type 0) (n : ℕ) (t : Token) (ts : List Token) (u v : Token) → Toks t ts v → Near u v → (rest : List ℕ) → PrincExpr (kinds_in s ts ++ rest)
      → ((x m : ℕ) → runs s (p-princ x m) ts v ≡ p-dead) → Reading c N n t (unexpected u)
  halted-near c N n t ts u v p z rest g dead =
      subst (λ (x : ℕ). Reading c N n t (aside (refusal u.kind) x)) (sym (near-start u v z)) (halted ts v p rest g dead (refusal u.kind) (near-refusal u v z))

  -- a token that is no "-" is the one that stands there
  near-path : (t u v : Token) (ts : List Token) (k : ℕ) → u.kind ≡ k → eqb k Kind.MINUS ≡ false → Near u v → Toks t ts v → Toks t ts u
  near-path t u v ts k e h z p = subst (λ (x : Token). Toks t ts x) (sym (near-is u v z (ap (λ (x : ℕ). eqb x Kind.MINUS) e ∙ h))) p

  -- one licensee
  data OneLicensee (n : ℕ) (t : Token) : Parsed Source → Type 0 where
    one-got : (ts : List Token) (u v : Token) (x : Source) → Toks t ts v → Near u v → SourceTree s ts x → eqb v.kind Kind.DOT ≡ false → n < 16 → OneLicensee n t (ok x u)
    one_none : (ts : List Token) (v : Token) → Toks t ts v → (rest : List Token) (e : Expr) → StrTree s whole (ts ++ rest) e → ((F : Frame) → runs s (p-text TEXT F) ts v ≡ p-dead)
        → (r : ℕ) → r ≡ refusal v.kind → OneLicensee n t (aside r v.start)
    one-other : (r p : ℕ) → (r ≡ 2 → ⊥) → OneLicensee n t (aside r p)

  from-few : (n : ℕ) (t : Token) (b : Bool) (r : Parsed Source) → n < 16 → Named s b t r → OneLicensee n t r
  from-few n t b _ few (named ts u v x p z d h y) = one-got ts u v x p z d (sym (near-test u v Kind.DOT z refl refl) ∙ h) few
  from-few n t b _ few (unnamed ts v p rest e d g r h) = one_none ts v p rest e d g r h
  from-few n t b _ few (not_named r p m) = one-other r p m

  from-none : (n : ℕ) (t : Token) (b : Bool) (r : Parsed Source) → b ≡ false → Named s b t r → OneLicensee n t r
  from-none n t b _ f (named ts u v x p z d h y) = clash y f
  from-none n t b _ f (unnamed ts v p rest e d g r h) = one_none ts v p rest e d g r h
  from-none n t b _ f (not_named r p m) = one-other r p m

  licensee-read : (left n : ℕ) (t : Token) → left ≤ 16 → Real s t → OneLicensee n t (L.licensee s left n t)
  unfolding L.licensee
  licensee-read left n t low x =
      chosen (OneLicensee n t) (leb 16 n) _ _
      (λ e. chosen (OneLicensee n t) (Table.begins_string (plain_from left s t).kind) _ _ (λ f. one-other 7 _ (λ z. let bad : ⊥ = omega (arith, z) in bad))
      (λ f. from-none n t _ (source s left t) f (strung-named s _ t (source s left t) (source-strung s left t low x))))
      (λ e. from-few n t _ (source s left t) (leb-false 16 n e) (strung-named s _ t (source s left t) (source-strung s left t low x)))

  string-expr : (ts rest : List Token) (e : Expr) → StrTree s whole (ts ++ rest) e → PrincExpr (kinds_in s ts ++ kinds_in s rest)
  string-expr ts rest e d = subst PrincExpr (kinds-append (kind_in s) ts rest) (principal _ (str-shadow s whole (ts ++ rest) e d))

  -- a string where a licensee is wanted, by what its dead ends are there
  module _ (n : ℕ) (t : Token)
      (heads : (ts : List Token) (v : Token) → Toks t ts v → ((F : Frame) → runs s (p-text TEXT F) ts v ≡ p-dead) → (u m : ℕ) → runs s (p-princ u m) ts v ≡ p-dead) where
    lone-body : (r : Parsed Source) → OneLicensee n t r → Reading operand N0 n t (and_then r (λ x u. ok (one x) u))
    lone-body _ (one-got ts u v x p z d h few) =
        got ts u v (one x) p z (principal-tree ts x d) (stands-text x (source-shadow s ts x d) h) refl (omega (arith, one_size x)) (omega (arith, one_size x, few))
    lone-body _ (one_none ts v p rest e d g r h) = halted ts v p (kinds_in s rest) (string-expr ts rest e d) (heads ts v p g) r h
    lone-body _ (one-other r p m) = otherwise r p m

  -- one whose first token is no bracket
  plain-heads : (t : Token) → eqb t.kind Kind.OPEN ≡ false → eqb t.kind Kind.DIGITS ≡ false → (ts : List Token) (v : Token) → Toks t ts v
      → ((F : Frame) → runs s (p-text TEXT F) ts v ≡ p-dead) → (u m : ℕ) → runs s (p-princ u m) ts v ≡ p-dead
  plain-heads t a b _ _ (at_once _) g u m = princ-same u m (kind_in s t) (test-kind s t Kind.OPEN refl refl ∙ a) (test-kind s t Kind.DIGITS refl refl ∙ b) ∙ g (people u m)
  plain-heads t a b _ v (and-on _ _ ts p) g u m =
      ap (λ (q : State). run step q (kinds_in s ts ++ kind_in s v ∷ [])) (princ-same u m (kind_in s t) (test-kind s t Kind.OPEN refl refl ∙ a) (test-kind s t Kind.DIGITS refl refl ∙ b))
      ∙ g (people u m)

  -- two walks from one token
  data Ways (us : List Token) (w : Token) (pre : List Token) (v : Token) : Type 0 where
    together : us ≡ pre → w ≡ v → Ways us w pre v
    beyond : (more : List Token) → us ≡ pre ++ v ∷ more → Ways us w pre v
    short : (more : List Token) → pre ≡ us ++ w ∷ more → Ways us w pre v

  ways-more : (t : Token) (us : List Token) (w : Token) (pre : List Token) (v : Token) → Ways us w pre v → Ways (t ∷ us) w (t ∷ pre) v
  ways-more t us w pre v (together e f) = together (ap (λ (l : List Token). t ∷ l) e) f
  ways-more t us w pre v (beyond more e) = beyond more (ap (λ (l : List Token). t ∷ l) e)
  ways-more t us w pre v (short more e) = short more (ap (λ (l : List Token). t ∷ l) e)

  ways : (t w v : Token) (us pre : List Token) → Toks t us w → Toks t pre v → Ways us w pre v
  ways t _ _ _ _ (at_once _) (at_once _) = together refl refl
  ways t _ v _ _ (at_once _) (and-on _ _ pre q) = short pre refl
  ways t w _ _ _ (and-on _ _ us p) (at_once _) = beyond us refl
  ways t w v _ _ (and-on _ _ us p) (and-on _ _ pre q) = ways-more t us w pre v (ways (next t) w v us pre p q)

  -- a string in brackets, a "." behind it, begins a string
  module _ (t : Token) (pre : List Token) (v : Token) (path : Toks t pre v) (str : Str whole (kinds_in s pre)) (dot : v.kind ≡ Kind.DOT) where
    dot-kind : kind_in s v ≡ Kind.DOT
    dot-kind = kind-mark s v Kind.DOT dot refl

    -- behind the "." it doesn't matter whose brackets they were
    dot-run : (q : State) (F : Frame) → run step q (kinds_in s pre) ≡ p-have TEXT F → (more : List Token) (w : Token) → runs s q (pre ++ v ∷ more) w ≡ runs s (p-text TEXT F) more w
    dot-run q F e more w =
        ap (λ (l : List ℕ). run step q (l ++ kind_in s w ∷ [])) (kinds-append (kind_in s) pre (v ∷ more))
        ∙ ap (run step q) (append_assoc (kinds_in s pre) (kinds_in s (v ∷ more)) (kind_in s w ∷ []))
        ∙ through-part q (p-have TEXT F) (p-text TEXT F) (kinds_in s pre) (kinds_in s more ++ kind_in s w ∷ []) (kind_in s v) e (ap (λ (k : ℕ). step (p-have TEXT F) k) dot-kind ∙ dot-text F)

    text-pre : (F : Frame) → run step (p-text TEXT F) (kinds_in s pre) ≡ p-have TEXT F
    text-pre F = text-run whole (kinds_in s pre) str TEXT F (as-text refl)

    way-dead : (us : List Token) (w : Token) → ((F : Frame) → runs s (p-text TEXT F) us w ≡ p-dead) → (u m : ℕ) → Ways us w pre v → runs s (p-princ u m) us w ≡ p-dead
    way-dead us w g u m (together e f) =
        absurd (text-not-dead (people u m) (sym (runs_last s (p-text TEXT (people u m)) (p-have TEXT (people u m)) pre v (text-pre (people u m)) ∙ ap (λ (k : ℕ). step (p-have TEXT (people u m)) k) dot-kind ∙ dot-text (people u m))
        ∙ subst (λ (l : List Token). runs s (p-text TEXT (people u m)) l v ≡ p-dead) e (subst (λ (x : Token). runs s (p-text TEXT (people u m)) us x ≡ p-dead) f (g (people u m)))))
    way-dead us w g u m (beyond more e) =
        ap (λ (l : List Token). runs s (p-princ u m) l w) e ∙ dot-run (p-princ u m) (people u m) (princ-run whole (kinds_in s pre) str u m) more w
        ∙ sym (dot-run (p-text TEXT (people u m)) (people u m) (text-pre (people u m)) more w) ∙ ap (λ (l : List Token). runs s (p-text TEXT (people u m)) l w) (sym e) ∙ g (people u m)
    way-dead us w g u m (short more e) =
        absurd (have-not-dead (people u m) (sym (text-pre (people u m)) ∙ ap (λ (l : List Token). run step (p-text TEXT (people u m)) (kinds_in s l)) e
        ∙ ap (run step (p-text TEXT (people u m))) (kinds-append (kind_in s) us (w ∷ more) ∙ sym (append_assoc (kinds_in s us) (kind_in s w ∷ []) (kinds_in s more)))
        ∙ run-append step (p-text TEXT (people u m)) (kinds_in s us ++ kind_in s w ∷ []) (kinds_in s more) ∙ ap (λ (q : State). run step q (kinds_in s more)) (g (people u m))
        ∙ run-dead step p-dead step-dead (kinds_in s more)))

    dot-heads : (us : List Token) (w : Token) → Toks t us w → ((F : Frame) → runs s (p-text TEXT F) us w ≡ p-dead) → (u m : ℕ) → runs s (p-princ u m) us w ≡ p-dead
    dot-heads us w q g u m = way-dead us w g u m (ways t w v us pre q path)

  -- the items of a list so far, and the comma behind them
  data Items : List Token → List Source → Type 0 where
    items-none : Items [] []
    items-some : (ls : List Token) (xs : List Source) (c : Token) → ListTree s ls xs → c.kind ≡ Kind.COMMA → Items (ls ++ c ∷ []) xs

  items-add : (ls us : List Token) (xs : List Source) (x : Source) → Items ls xs → SourceTree s us x → ListTree s (ls ++ us) (xs ++ x ∷ [])
  items-add _ us _ x items-none d = one-item us x d
  items-add _ us _ x (items-some ls xs c l e) d = subst (λ (y : List Token). ListTree s y (xs ++ x ∷ [])) (sym (append_assoc ls (c ∷ []) us)) (more-items c ls us xs x e l d)

  items-kinds : (ls : List Token) (c : Token) → c.kind ≡ Kind.COMMA → kinds_in s (ls ++ c ∷ []) ≡ kinds_in s ls ++ Kind.COMMA ∷ []
  items-kinds ls c e = kinds-append (kind_in s) ls (c ∷ []) ∙ ap (λ (k : ℕ). kinds_in s ls ++ k ∷ []) (kind-mark s c Kind.COMMA e refl)

  items-open : (ls : List Token) (xs : List Source) → Items ls xs → (ms : List ℕ) → PrincList ms → PrincList (kinds_in s ls ++ ms)
  items-open _ _ items-none ms l = l
  items-open _ _ (items-some ls xs c d e) ms l =
      subst PrincList (sym (ap (λ (y : List ℕ). y ++ ms) (items-kinds ls c e) ∙ append_assoc (kinds_in s ls) (Kind.COMMA ∷ []) ms)) (G.comma (kinds_in s ls) ms (list-shadow ls xs d) l)

  items-run : (ls : List Token) (xs : List Source) → Items ls xs → (m : ℕ) → run step (p-text TEXT (item m)) (kinds_in s ls) ≡ p-text TEXT (item m)
  items-run _ _ items-none m = refl
  items-run _ _ (items-some ls xs c d e) m =
      ap (run step (p-text TEXT (item m))) (items-kinds ls c e)
      ∙ through-part (p-text TEXT (item m)) (p-have TEXT (item m)) (p-text TEXT (item m)) (kinds_in s ls) [] Kind.COMMA (list-run (kinds_in s ls) (list-shadow ls xs d) m) (item-comma m)

  -- sixteen licensees are enough
  data Few (n : ℕ) : Parsed Source → Type 0 where
    few-so : n < 16 → (r : Parsed Source) → Few n r
    few-aside : (r p : ℕ) → Few n (aside r p)

  few-source : (n : ℕ) (b : Bool) (r : Parsed Part) (k : PartSort → Expr → Token → Parsed Source) → b ≡ false → Begun b r → Few n (on_part r k)
  few-source n b r k f (begun-so e _) = clash e f
  few-source n b _ k f (begun-aside r p) = few-aside r p

  licensee-few : (left n : ℕ) (t : Token) → left ≤ 16 → Few n (L.licensee s left n t)
  unfolding L.licensee source
  licensee-few left n t low =
      chosen (Few n) (leb 16 n) _ _
      (λ e. chosen (Few n) (Table.begins_string (plain_from left s t).kind) _ _ (λ f. few-aside 7 _) (λ f. few-source n (begins s left t) _ _ f (expression-begun s DEPTH 3 0 left t low)))
      (λ e. few-so (leb-false 16 n e) _)

  few-ok : (n : ℕ) (x : Source) (u : Token) → Few n (ok x u) → n < 16
  few-ok n x u (few-so h _) = h

  k_of-size : (n k : ℕ) (xs : List Source) (x : Source) → n + length xs < 16 → (1 ≤ length (sources (k_of k (xs ++ x ∷ [])))) × (n + length (sources (k_of k (xs ++ x ∷ []))) ≤ 16)
  unfolding sources
  k_of-size n k xs x few = let z : length (xs ++ x ∷ []) ≡ length xs + 1 = rw length-append refl in (omega (arith, z), omega (arith, z, few))

  -- "K-of(list)", whose number is the token t
  module _ (left n : ℕ) (t : Token) (digits : t.kind ≡ Kind.DIGITS) where
    abbrev k : ℕ
    k = number_at s t.start t.end

    abbrev o : Token
    o = next t

    abbrev b : Token
    b = next o

    module _ (low : left ≤ 16) (of : o.kind ≡ Kind.OF) (open' : b.kind ≡ Kind.OPEN) where
      abbrev up_to : List Token → List Token
      up_to ls = t ∷ o ∷ b ∷ ls

      up-path : (ls : List Token) (u : Token) → Toks (next b) ls u → Toks t (up_to ls) u
      up-path ls u p = and-on t u (o ∷ b ∷ ls) (and-on o u (b ∷ ls) (and-on b u ls p))

      up-kinds : (ls : List Token) → kinds_in s (up_to ls) ≡ Kind.DIGITS ∷ Kind.OF ∷ Kind.OPEN ∷ kinds_in s ls
      up-kinds ls =
          ap (λ (x : ℕ). x ∷ kind_in s o ∷ kind_in s b ∷ kinds_in s ls) (kind-mark s t Kind.DIGITS digits refl)
          ∙ ap (λ (x : ℕ). Kind.DIGITS ∷ x ∷ kind_in s b ∷ kinds_in s ls) (kind-mark s o Kind.OF of refl)
          ∙ ap (λ (x : ℕ). Kind.DIGITS ∷ Kind.OF ∷ x ∷ kinds_in s ls) (kind-mark s b Kind.OPEN open' refl)

      up_run : (ls : List Token) (v : Token) (u m : ℕ) → runs s (p-princ u m) (up_to ls) v ≡ runs s (p-text TEXT (item m)) ls v
      up_run ls v u m = ap (λ (l : List ℕ). run step (p-princ u m) (l ++ kind_in s v ∷ [])) (up-kinds ls) ∙ list-place (kinds_in s ls ++ kind_in s v ∷ []) u m

      up-closed : (ls : List Token) (w : Token) → w.kind ≡ Kind.CLOSE → kinds_in s (up_to ls ++ w ∷ []) ≡ Kind.DIGITS ∷ Kind.OF ∷ Kind.OPEN ∷ kinds_in s ls ++ Kind.CLOSE ∷ []
      up-closed ls w e =
          kinds-append (kind_in s) (up_to ls) (w ∷ []) ∙ ap (λ (x : ℕ). kinds_in s (up_to ls) ++ x ∷ []) (kind-mark s w Kind.CLOSE e refl)
          ∙ ap (λ (l : List ℕ). l ++ Kind.CLOSE ∷ []) (up-kinds ls)

      abbrev InList : List Source × Token → Parsed Sources → Type 0
      InList x r = (ls : List Token) → Toks (next b) ls x.1 → Items ls x.0 → Real s x.1 → Reading operand N0 n t r

      abbrev listμ : List Source × Token → ℕ
      listμ x = 16 - (n + length x.0)

      abbrev list_out : List Source × Token → Parsed Sources
      list_out x = unexpected x.1

      abbrev ListTurn : List Source × Token → Step (List Source × Token) (Parsed Sources) → Type 0
      ListTurn x st = Turned listμ list_out (L.list_turn s left n k) InList x st

      -- behind an item
      module _ (xs : List Source) (u : Token) (ls : List Token) (path : Toks (next b) ls u) (it : Items ls xs) (ts : List Token) (w v : Token) (x : Source) (p : Toks u ts v) (z : Near w v)
          (d : SourceTree s ts x) (dot : eqb v.kind Kind.DOT ≡ false) (few : n + length xs < 16) where
        item-path : Toks (next b) (ls ++ ts) v
        item-path = tokens_append s Kind.IN_LICENSEES (next b) u v ls ts path p

        tree : ListTree s (ls ++ ts) (xs ++ x ∷ [])
        tree = items-add ls ts xs x it d

        closed-read : w.kind ≡ Kind.CLOSE → Reading operand N0 n t (L.listed s k (xs ++ x ∷ []) w)
        unfolding L.listed
        closed-read e =
            chosen (Reading operand N0 n t) (ltb (length (xs ++ x ∷ [])) k) _ _ (λ f. otherwise 5 _ (λ y. let bad : ⊥ = omega (arith, y) in bad))
            (λ f. got (up_to (ls ++ ts) ++ w ∷ []) (next w) (next w) (k_of k (xs ++ x ∷ []))
            (tokens-one s Kind.IN_LICENSEES t w (up_to (ls ++ ts)) (near-path t w v (up_to (ls ++ ts)) Kind.CLOSE e refl z (up-path (ls ++ ts) v item-path))) (near_same (next w))
            (threshold-tree t o b w (ls ++ ts) (xs ++ x ∷ []) digits of open' e tree)
            (stands-people _ (several-of k (xs ++ x ∷ []))
            (λ u m. ap (run step (p-princ u m)) (up-closed (ls ++ ts) w e) ∙ threshold-run (kinds_in s (ls ++ ts)) (list-shadow (ls ++ ts) (xs ++ x ∷ []) tree) u m)) refl
            (k_of-size n k xs x few).0 (k_of-size n k xs x few).1)

        comma-path : w.kind ≡ Kind.COMMA → Toks (next b) ((ls ++ ts) ++ w ∷ []) (next w)
        comma-path e = tokens-one s Kind.IN_LICENSEES (next b) w (ls ++ ts) (near-path (next b) w v (ls ++ ts) Kind.COMMA e refl z item-path)

        comma-items : w.kind ≡ Kind.COMMA → Items ((ls ++ ts) ++ w ∷ []) (xs ++ x ∷ [])
        comma-items e = items-some (ls ++ ts) (xs ++ x ∷ []) w tree e

        listed-halt : eqb w.kind Kind.CLOSE ≡ false → eqb w.kind Kind.COMMA ≡ false → Reading operand N0 n t (unexpected w)
        listed-halt a c =
            halted-near operand N0 n t (up_to (ls ++ ts)) w v (up-path (ls ++ ts) v item-path) z (Kind.CLOSE ∷ [])
            (subst (λ (l : List ℕ). PrincExpr (l ++ Kind.CLOSE ∷ [])) (sym (up-kinds (ls ++ ts))) (threshold (kinds_in s (ls ++ ts)) (list-shadow (ls ++ ts) (xs ++ x ∷ []) tree)))
            (λ u m. up_run (ls ++ ts) v u m
            ∙ runs_last s (p-text TEXT (item m)) (p-have TEXT (item m)) (ls ++ ts) v (list-run (kinds_in s (ls ++ ts)) (list-shadow (ls ++ ts) (xs ++ x ∷ []) tree) m)
            ∙ item-wrong m (kind_in s v) (test-kind s v Kind.DOT refl refl ∙ dot) (test-kind s v Kind.CLOSE refl refl ∙ sym (near-test w v Kind.CLOSE z refl refl) ∙ a)
            (test-kind s v Kind.COMMA refl refl ∙ sym (near-test w v Kind.COMMA z refl refl) ∙ c))

      -- an item that is none
      item-aside : (xs : List Source) (u : Token) (ls : List Token) → Toks (next b) ls u → Items ls xs → (r p : ℕ) → OneLicensee (n + length xs) u (aside r p) → Reading operand N0 n t (aside r p)
      item-aside xs u ls path it _ _ (one_none ts v p rest e d g r h) =
          halted (up_to (ls ++ ts)) v (up-path (ls ++ ts) v (tokens_append s Kind.IN_LICENSEES (next b) u v ls ts path p)) (kinds_in s rest ++ Kind.CLOSE ∷ [])
          (subst PrincExpr (sym whole_kinds) (threshold (kinds_in s ls ++ kinds_in s (ts ++ rest)) (items-open ls xs it (kinds_in s (ts ++ rest)) (G.one _ (str-shadow s whole (ts ++ rest) e d)))))
          (λ u m. up_run (ls ++ ts) v u m ∙ runs_on s (p-text TEXT (item m)) ls ts v ∙ ap (λ (q : State). runs s q ts v) (items-run ls xs it m) ∙ g (item m)) r h
        where
          whole_kinds : kinds_in s (up_to (ls ++ ts)) ++ (kinds_in s rest ++ Kind.CLOSE ∷ [])
              ≡ Kind.DIGITS ∷ Kind.OF ∷ Kind.OPEN ∷ (kinds_in s ls ++ kinds_in s (ts ++ rest)) ++ Kind.CLOSE ∷ []
          whole_kinds =
              ap (λ (l : List ℕ). l ++ (kinds_in s rest ++ Kind.CLOSE ∷ [])) (up-kinds (ls ++ ts))
              ∙ ap (λ (l : List ℕ). Kind.DIGITS ∷ Kind.OF ∷ Kind.OPEN ∷ l) (sym (append_assoc (kinds_in s (ls ++ ts)) (kinds_in s rest) (Kind.CLOSE ∷ []))
              ∙ ap (λ (l : List ℕ). l ++ Kind.CLOSE ∷ []) (ap (λ (l : List ℕ). l ++ kinds_in s rest) (kinds-append (kind_in s) ls ts)
              ∙ append_assoc (kinds_in s ls) (kinds_in s ts) (kinds_in s rest) ∙ ap (λ (l : List ℕ). kinds_in s ls ++ l) (sym (kinds-append (kind_in s) ts rest))))
      item-aside xs u ls path it _ _ (one-other r p m) = otherwise r p m

      -- what an item makes of the list, once it is known
      from-item : (xs : List Source) (u : Token) (x : Source) (w : Token) (R : Type 0) → OneLicensee (n + length xs) u (ok x w)
          → ((ts : List Token) (v : Token) → Toks u ts v → Near w v → SourceTree s ts x → eqb v.kind Kind.DOT ≡ false → n + length xs < 16 → R) → R
      from-item xs u _ _ R (one-got ts w v x p z d dot few) h = h ts v p z d dot few

      on-item : (xs : List Source) (u : Token) (r : Parsed Source) → Few (n + length xs) r → (Real s u → OneLicensee (n + length xs) u r) → ListTurn (xs, u) (L.on_listed s k xs r)
      on-item xs u (aside r p) f h = turned-done (aside r p) (λ ls path it re. item-aside xs u ls path it r p (h re))
      on-item xs u (ok x w) f h =
          chosen (ListTurn (xs, u)) (eqb w.kind Kind.CLOSE) _ _
          (λ e. turned-done _ (λ ls path it re. from-item xs u x w (Reading operand N0 n t (L.listed s k (xs ++ x ∷ []) w)) (h re)
          (λ ts v p z d dot few. closed-read xs u ls path it ts w v x p z d dot few (eqb-true _ _ e))))
          (λ e. chosen (ListTurn (xs, u)) (eqb w.kind Kind.COMMA) _ _
          (λ g. turned-next (xs ++ x ∷ [], next w) (rw length-append (omega (arith, few-ok (n + length xs) x w f)))
          (λ r j ls path it re. from-item xs u x w (Reading operand N0 n t r) (h re)
          (λ ts v p z d dot few. j ((ls ++ ts) ++ w ∷ []) (comma-path xs u ls path it ts w v x p z d dot few (eqb-true _ _ g)) (comma-items xs u ls path it ts w v x p z d dot few (eqb-true _ _ g))
          (token-real s Kind.IN_LICENSEES w.end))))
          (λ g. turned-done _ (λ ls path it re. from-item xs u x w (Reading operand N0 n t (unexpected w)) (h re)
          (λ ts v p z d dot few. listed-halt xs u ls path it ts w v x p z d dot few e g))))

      list-turn : (x : List Source × Token) → ListTurn x (L.list_turn s left n k x)
      list-turn (xs, u) = on-item xs u (L.licensee s left (n + length xs) u) (licensee-few left (n + length xs) u low) (λ re. licensee-read left (n + length xs) u low re)

      list-reads : Reading operand N0 n t (L.list_from s left n k [] (next b))
      unfolding L.list_from
      list-reads = loop-turned listμ list_out (L.list_turn s left n k) InList list-turn ([], next b) [] (at_once (next b)) items-none (token-real s Kind.IN_LICENSEES b.end)

  -- the bracket, "-of" and the number before it
  module _ (left n : ℕ) (t : Token) (digits : t.kind ≡ Kind.DIGITS) where
    abbrev number : ℕ
    number = number_at s t.start t.end

    digits-kind : kind_in s t ≡ Kind.DIGITS
    digits-kind = kind-mark s t Kind.DIGITS digits refl

    some-list : PrincExpr (Kind.DIGITS ∷ Kind.OF ∷ Kind.OPEN ∷ Kind.LITERAL ∷ Kind.CLOSE ∷ [])
    some-list = threshold (Kind.LITERAL ∷ []) (G.one (Kind.LITERAL ∷ []) (str-one _ str-literal))

    open-reads : left ≤ 16 → (next t).kind ≡ Kind.OF → Reading operand N0 n t (L.list_opened s left n number (next (next t)))
    unfolding L.list_opened
    open-reads low of =
        chosen (Reading operand N0 n t) (eqb (next (next t)).kind Kind.OPEN) _ _
        (λ e. chosen (Reading operand N0 n t) (eqb left 0) _ _ (λ f. otherwise 7 _ (λ y. let bad : ⊥ = omega (arith, y) in bad))
        (λ f. list-reads (left - 1) n t digits (let z : left - 1 ≤ 16 = omega (arith, low) in z) of (eqb-true _ _ e)))
        (λ e. halted (t ∷ next t ∷ []) (next (next t)) (and-on t _ _ (and-on (next t) _ [] (at_once (next (next t))))) (Kind.OPEN ∷ Kind.LITERAL ∷ Kind.CLOSE ∷ [])
        (subst (λ (l : List ℕ). PrincExpr (l ++ Kind.OPEN ∷ Kind.LITERAL ∷ Kind.CLOSE ∷ [])) (sym two-kinds) some-list)
        (λ u m. ap (λ (l : List ℕ). run step (p-princ u m) (l ++ kind_in s (next (next t)) ∷ [])) two-kinds
        ∙ first_part (p-princ u m) (p-count m) (Kind.OF ∷ kind_in s (next (next t)) ∷ []) Kind.DIGITS (princ-digits u m)
        ∙ first_part (p-count m) (p-of m) (kind_in s (next (next t)) ∷ []) Kind.OF (count_of m)
        ∙ of-wrong m (kind_in s (next (next t))) (test-kind s (next (next t)) Kind.OPEN refl refl ∙ e)) (refusal (next (next t)).kind) refl)
      where
        two-kinds : kinds_in s (t ∷ next t ∷ []) ≡ Kind.DIGITS ∷ Kind.OF ∷ []
        two-kinds = ap (λ (x : ℕ). x ∷ kind_in s (next t) ∷ []) digits-kind ∙ ap (λ (x : ℕ). Kind.DIGITS ∷ x ∷ []) (kind-mark s (next t) Kind.OF of refl)

    of-reads : left ≤ 16 → Reading operand N0 n t (L.of_read s left n number (next t))
    unfolding L.of_read
    of-reads low =
        chosen (Reading operand N0 n t) (eqb (next t).kind Kind.OF) _ _ (λ e. open-reads low (eqb-true _ _ e))
        (λ e. halted (t ∷ []) (next t) (and-on t _ [] (at_once (next t))) (Kind.OF ∷ Kind.OPEN ∷ Kind.LITERAL ∷ Kind.CLOSE ∷ [])
        (subst (λ (x : ℕ). PrincExpr (x ∷ Kind.OF ∷ Kind.OPEN ∷ Kind.LITERAL ∷ Kind.CLOSE ∷ [])) (sym digits-kind) some-list)
        (λ u m. ap (λ (x : ℕ). run step (p-princ u m) (x ∷ kind_in s (next t) ∷ [])) digits-kind
        ∙ first_part (p-princ u m) (p-count m) (kind_in s (next t) ∷ []) Kind.DIGITS (princ-digits u m)
        ∙ count-wrong m (kind_in s (next t)) (test-kind s (next t) Kind.OF refl refl ∙ e)) (refusal (next t).kind) refl)

    threshold-reads : left ≤ 16 → Reading operand N0 n t (L.threshold s left n t number)
    unfolding L.threshold
    threshold-reads low =
        chosen (Reading operand N0 n t) (eqb number 0) _ _ (λ f. otherwise 5 _ (λ y. let bad : ⊥ = omega (arith, y) in bad))
        (λ f. chosen (Reading operand N0 n t) (ltb 16 number) _ _ (λ g. otherwise 5 _ (λ y. let bad : ⊥ = omega (arith, y) in bad)) (λ g. of-reads low))

  -- operands joined by one operator: of the class c, and joined of the class cj
  module _ (N : ℕ → Type 0) (c cj : Class) (joint : ℕ) (join : Sources → Sources → Sources) (reader : L.Reader)
      (names : (a b : Sources) → sources (join a b) ≡ sources a ++ sources b) (several : (a b : Sources) → Several (join a b)) (joins : Joins joint)
      (plain : eqb joint Kind.NAME ≡ false) (apart : eqb joint Kind.MINUS ≡ false) (minus : eqb Kind.MINUS joint ≡ false) (other' : eqb Kind.OF joint ≡ false)
      (joined : (ks ls : List ℕ) → PrincExpr ks → PrincExpr ls → PrincExpr (ks ++ joint ∷ ls))
      (lift : (ts : List Token) (e : Sources) → PrincTree s c ts e → PrincTree s cj ts e)
      (grow : (t : Token) (ts us : List Token) (e f : Sources) → t.kind ≡ joint → PrincTree s cj ts e → PrincTree s c us f → PrincTree s cj (ts ++ t ∷ us) (join e f))
      (reads : (n : ℕ) (t : Token) → Real s t → Reading c N n t (reader n t)) where
    abbrev Stop : ℕ → Type 0
    Stop k = N k × (eqb k joint ≡ false)

    joint-kinds : (ts us : List Token) (u : Token) → u.kind ≡ joint → kinds_in s (ts ++ u ∷ us) ≡ kinds_in s ts ++ joint ∷ kinds_in s us
    joint-kinds ts us u e = kinds-append (kind_in s) ts (u ∷ us) ∙ ap (λ (x : ℕ). kinds_in s ts ++ x ∷ kinds_in s us) (kind-mark s u joint e plain)

    joined-stands : (ks ls : List ℕ) (k : ℕ) (e f : Sources) → Stood ks → Stands ls k f → Stands (ks ++ joint ∷ ls) k (join e f)
    joined-stands ks ls k e _ a (stands-text x g h) = stands-mixed (join e (one x)) (several e (one x)) (λ u m. stood-joins ks joint ls joins a u m ∙ princ-run whole ls g 0 m) h
    joined-stands ks ls k e _ a (stands-mixed f z g h) = stands-mixed (join e f) (several e f) (λ u m. stood-joins ks joint ls joins a u m ∙ g 0 m) h
    joined-stands ks ls k e _ a (stands-people f z g) = stands-people (join e f) (several e f) (λ u m. stood-joins ks joint ls joins a u m ∙ g 0 m)

    joint-run : (ts us : List Token) (u w : Token) → u.kind ≡ joint → Stood (kinds_in s ts) → (x m : ℕ) → runs s (p-princ x m) (ts ++ u ∷ us) w ≡ runs s (p-princ 0 m) us w
    joint-run ts us u w e a x m =
        ap (λ (l : List ℕ). run step (p-princ x m) (l ++ kind_in s w ∷ [])) (joint-kinds ts us u e)
        ∙ ap (run step (p-princ x m)) (append_assoc (kinds_in s ts) (joint ∷ kinds_in s us) (kind_in s w ∷ []))
        ∙ stood-joins (kinds_in s ts) joint (kinds_in s us ++ kind_in s w ∷ []) joins a x m

    name-length : (e f : Sources) → length (sources (join e f)) ≡ length (sources e) + length (sources f)
    name-length e f = rw (names e f, length-append) refl

    module _ (n : ℕ) (t : Token) where
      abbrev Chained : Sources × Token → Parsed Sources → Type 0
      Chained x r = (ts : List Token) (v : Token) → Toks t ts v → Near x.1 v → PrincTree s cj ts x.0 → Stands (kinds_in s ts) v.kind x.0 → N v.kind → 1 ≤ length (sources x.0)
          → n + length (sources x.0) ≤ 16 → Reading cj Stop n t r

      abbrev chainμ : Sources × Token → ℕ
      chainμ x = 16 - (n + length (sources x.0))

      abbrev chain_out : Sources × Token → Parsed Sources
      chain_out x = unexpected x.1

      abbrev ChainTurn : Sources × Token → Step (Sources × Token) (Parsed Sources) → Type 0
      ChainTurn x st = Turned chainμ chain_out (L.chain_turn s joint join reader n) Chained x st

      joint-path : (ts us : List Token) (u v w : Token) → u.kind ≡ joint → Near u v → Toks t ts v → Toks (next u) us w → Toks t (ts ++ u ∷ us) w
      joint-path ts us u v w e z p q = tokens_append s Kind.IN_LICENSEES t u w ts (u ∷ us) (near-path t u v ts joint e apart z p) (and-on u w us q)

      -- the operand behind the operator u
      from-ok : (e : Sources) (u : Token) → u.kind ≡ joint → (f : Sources) (w : Token) (r : Parsed Sources) → Chained (join e f, w) r → Reading c N (n + length (sources e)) (next u) (ok f w) → Chained (e, u) r
      from-ok e u je _ _ r h (got us w w' f q y g st nk some few) ts v p z x sx m one' low =
          h (ts ++ u ∷ us) w' (joint-path ts us u v w' je z p q) y (grow u ts us e f je x g)
          (subst (λ (l : List ℕ). Stands l w'.kind (join e f)) (sym (joint-kinds ts us u je)) (joined-stands (kinds_in s ts) (kinds_in s us) w'.kind e f (stands-stood _ _ e sx) st)) nk
          (rw (name-length e f) (omega (arith, some))) (rw (name-length e f) (omega (arith, few)))

      from-aside : (e : Sources) (u : Token) → u.kind ≡ joint → (r p : ℕ) → Reading c N (n + length (sources e)) (next u) (aside r p) → Chained (e, u) (aside r p)
      from-aside e u je _ _ (halted us w q rest g dead r re) ts v p z x sx m one' low =
          halted (ts ++ u ∷ us) w (joint-path ts us u v w je z p q) rest
          (subst PrincExpr (sym (ap (λ (l : List ℕ). l ++ rest) (joint-kinds ts us u je) ∙ append_assoc (kinds_in s ts) (joint ∷ kinds_in s us) rest))
          (joined (kinds_in s ts) (kinds_in s us ++ rest) (princ-shadow cj ts e x) g))
          (λ y i. joint-run ts us u w je (stands-stood _ _ e sx) y i ∙ dead 0 i) r re
      from-aside e u je _ _ (otherwise r p k) ts v q z x sx m one' low = otherwise r p k

      got-more : (e f : Sources) (u w : Token) → Reading c N (n + length (sources e)) u (ok f w) → chainμ (join e f, w) < chainμ (e, w)
      got-more e _ u _ (got us w w' f q y g st nk some few) = rw (name-length e f) (omega (arith, some, few))

      on-operand : (e : Sources) (u : Token) → u.kind ≡ joint → (r : Parsed Sources) → Reading c N (n + length (sources e)) (next u) r → ChainTurn (e, u) (L.on_operand join e r)
      on-operand e u je (aside r p) h = turned-done (aside r p) (from-aside e u je r p h)
      on-operand e u je (ok g w) h = turned-next (join e g, w) (got-more e g (next u) w h) (λ r k. from-ok e u je g w r k h)

      chain-turn : (x : Sources × Token) → ChainTurn x (L.chain_turn s joint join reader n x)
      chain-turn (e, u) =
          chosen (ChainTurn (e, u)) (eqb u.kind joint) _ _
          (λ j. on-operand e u (eqb-true _ _ j) (reader (n + length (sources e)) (next u)) (reads (n + length (sources e)) (next u) (token-real s Kind.IN_LICENSEES u.end)))
          (λ j. turned-done (ok e u) (λ ts v p z x sx m one' low. got ts u v e p z x sx (m, sym (near-test u v joint z minus other') ∙ j) one' low))

      chain-from : (r : Parsed Sources) → Reading c N n t r → Reading cj Stop n t (and_then r (λ e u. L.chain_from s joint join reader n e u))
      chain-from _ (got ts u v e p z x sx m one' low) = loop-turned chainμ chain_out (L.chain_turn s joint join reader n) Chained chain-turn (e, u) ts v p z (lift ts e x) sx m one' low
      chain-from _ (halted ts v p rest g dead r re) = halted ts v p rest g dead r re
      chain-from _ (otherwise r p k) = otherwise r p k

    chain-reads : (n : ℕ) (t : Token) → Real s t → Reading cj Stop n t (L.chain s joint join reader n t)
    chain-reads n t re = chain-from n t (reader n t) (reads n t re)

  and-names : (a b : Sources) → sources (and a b) ≡ sources a ++ sources b
  unfolding sources
  and-names a b = refl

  or-names : (a b : Sources) → sources (or a b) ≡ sources a ++ sources b
  unfolding sources
  or-names a b = refl

  expression-reads : (reader : L.Reader) → ((n : ℕ) (t : Token) → Real s t → Reading operand N0 n t (reader n t)) → (n : ℕ) (t : Token) → Real s t → Reading whole N2 n t (L.expression_of s reader n t)
  expression-reads reader reads =
      chain-reads N1 conjunction whole Kind.OR or (L.chain s Kind.AND and reader) or-names several-or joins-or refl refl refl refl either up either-tree
      (chain-reads N0 operand conjunction Kind.AND and reader and-names several-and joins-and refl refl refl refl both once both-tree reads)

  -- a bracket t
  dead-close : (e : Sources) (ts : List Token) (v : Token) → Stands (kinds_in s ts) v.kind e → eqb v.kind Kind.AND ≡ false → eqb v.kind Kind.OR ≡ false → eqb v.kind Kind.CLOSE ≡ false
      → (u m : ℕ) → runs s (p-princ u (suc m)) ts v ≡ p-dead
  dead-close _ ts v (stands-text x g h) a b c u m =
      runs_last s (p-princ u (suc m)) (p-have TEXT (people u (suc m))) ts v (princ-run whole (kinds_in s ts) g u (suc m))
      ∙ text-wrong u m (kind_in s v) (test-kind s v Kind.DOT refl refl ∙ h) (test-kind s v Kind.AND refl refl ∙ a) (test-kind s v Kind.OR refl refl ∙ b) (test-kind s v Kind.CLOSE refl refl ∙ c)
  dead-close _ ts v (stands-mixed e z g h) a b c u m =
      runs_last s (p-princ u (suc m)) (p-have TEXT (people 0 (suc m))) ts v (g u (suc m))
      ∙ text-wrong 0 m (kind_in s v) (test-kind s v Kind.DOT refl refl ∙ h) (test-kind s v Kind.AND refl refl ∙ a) (test-kind s v Kind.OR refl refl ∙ b) (test-kind s v Kind.CLOSE refl refl ∙ c)
  dead-close _ ts v (stands-people e z g) a b c u m =
      runs_last s (p-princ u (suc m)) (p-people (suc m)) ts v (g u (suc m))
      ∙ people-wrong m (kind_in s v) (test-kind s v Kind.AND refl refl ∙ a) (test-kind s v Kind.OR refl refl ∙ b) (test-kind s v Kind.CLOSE refl refl ∙ c)

  dead-last : (e : Sources) (ts : List Token) (v : Token) → Stands (kinds_in s ts) v.kind e → eqb v.kind Kind.AND ≡ false → eqb v.kind Kind.OR ≡ false → ending v.kind ≡ false
      → runs s (p-princ 0 0) ts v ≡ p-dead
  dead-last _ ts v (stands-text x g h) a b c =
      runs_last s (p-princ 0 0) (p-have TEXT (people 0 0)) ts v (princ-run whole (kinds_in s ts) g 0 0)
      ∙ text-last 0 (kind_in s v) (test-kind s v Kind.DOT refl refl ∙ h) (test-kind s v Kind.AND refl refl ∙ a) (test-kind s v Kind.OR refl refl ∙ b) (ending-kind s v ∙ c)
  dead-last _ ts v (stands-mixed e z g h) a b c =
      runs_last s (p-princ 0 0) (p-have TEXT (people 0 0)) ts v (g 0 0)
      ∙ text-last 0 (kind_in s v) (test-kind s v Kind.DOT refl refl ∙ h) (test-kind s v Kind.AND refl refl ∙ a) (test-kind s v Kind.OR refl refl ∙ b) (ending-kind s v ∙ c)
  dead-last _ ts v (stands-people e z g) a b c =
      runs_last s (p-princ 0 0) (p-people 0) ts v (g 0 0) ∙ people-last (kind_in s v) (test-kind s v Kind.AND refl refl ∙ a) (test-kind s v Kind.OR refl refl ∙ b) (ending-kind s v ∙ c)

  module _ (left n : ℕ) (t : Token) (low : left ≤ 16) (o : t.kind ≡ Kind.OPEN) (re : Real s t) where
    several-onward : (e : Sources) (u : Token) → Several e → L.onward s left n t e u ≡ ok e u
    several-onward _ u (several-and a b) = refl
    several-onward _ u (several-or a b) = refl
    several-onward _ u (several-of k xs) = refl

    bracket-kinds : (ts : List Token) → kinds_in s (t ∷ ts) ≡ Kind.OPEN ∷ kinds_in s ts
    bracket-kinds ts = ap (λ (x : ℕ). x ∷ kinds_in s ts) (kind-mark s t Kind.OPEN o refl)

    bracket-run : (ts : List Token) (v : Token) (u m : ℕ) → runs s (p-princ u m) (t ∷ ts) v ≡ runs s (p-princ (suc u) (suc m)) ts v
    bracket-run ts v u m = ap (λ (l : List ℕ). run step (p-princ u m) (l ++ kind_in s v ∷ [])) (bracket-kinds ts) ∙ open-run (kinds_in s ts ++ kind_in s v ∷ []) u m

    -- what it holds, up to its closing bracket u
    module _ (ts : List Token) (u : Token) (path : Toks (next t) ts u) (c : u.kind ≡ Kind.CLOSE) where
      abbrev pre : List Token
      pre = t ∷ ts ++ u ∷ []

      shut-path : Toks t pre (next u)
      shut-path = tokens-one s Kind.IN_LICENSEES t u (t ∷ ts) (and-on t u ts path)

      shut-kinds : kinds_in s pre ≡ Kind.OPEN ∷ kinds_in s ts ++ Kind.CLOSE ∷ []
      shut-kinds =
          kinds-append (kind_in s) (t ∷ ts) (u ∷ []) ∙ ap (λ (x : ℕ). kinds_in s (t ∷ ts) ++ x ∷ []) (kind-mark s u Kind.CLOSE c refl) ∙ ap (λ (l : List ℕ). l ++ Kind.CLOSE ∷ []) (bracket-kinds ts)

      onward-reads : (k : ℕ) (e : Sources) → PrincTree s whole ts e → Stands (kinds_in s ts) k e → 1 ≤ length (sources e) → n + length (sources e) ≤ 16
          → Reading operand N0 n t (L.onward s left n t e (next u))
      onward-reads k _ d (stands-text x g h) some few =
          chosen (Reading operand N0 n t) (eqb (next u).kind Kind.DOT) _ _
          (λ z. lone-body n t (dot-heads t pre (next u) shut-path string (eqb-true _ _ z)) (L.licensee s left n t) (licensee-read left n t low re))
          (λ z. got pre (next u) (next u) (one x) shut-path (near_same (next u)) (bracket-tree t u ts (one x) o c d) (stands-text x string z) refl some few)
        where
          string : Str whole (kinds_in s pre)
          string = subst (Str whole) (sym shut-kinds) (str-one _ (str-bracket (kinds_in s ts) g))
      onward-reads k _ d (stands-mixed e z g h) some few =
          subst (Reading operand N0 n t) (sym (several-onward e (next u) z))
          (got pre (next u) (next u) e shut-path (near_same (next u)) (bracket-tree t u ts e o c d)
          (stands-people e z (λ x m. ap (run step (p-princ x m)) shut-kinds ∙ closed-mixed (kinds_in s ts) g x m)) refl some few)
      onward-reads k _ d (stands-people e z g) some few =
          subst (Reading operand N0 n t) (sym (several-onward e (next u) z))
          (got pre (next u) (next u) e shut-path (near_same (next u)) (bracket-tree t u ts e o c d)
          (stands-people e z (λ x m. ap (run step (p-princ x m)) shut-kinds ∙ closed-people (kinds_in s ts) g x m)) refl some few)

    closed-reads : (ts : List Token) (u v : Token) (e : Sources) → Toks (next t) ts v → Near u v → PrincTree s whole ts e → Stands (kinds_in s ts) v.kind e → N2 v.kind
        → 1 ≤ length (sources e) → n + length (sources e) ≤ 16 → Reading operand N0 n t (L.closed s left n t e u)
    unfolding L.closed
    closed-reads ts u v e p z d sx m some few =
        chosen (Reading operand N0 n t) (eqb u.kind Kind.CLOSE) _ _
        (λ c. onward-reads ts u (near-path (next t) u v ts Kind.CLOSE (eqb-true _ _ c) refl z p) (eqb-true _ _ c) v.kind e d sx some few)
        (λ c. halted-near operand N0 n t (t ∷ ts) u v (and-on t v ts p) z (Kind.CLOSE ∷ [])
        (subst (λ (l : List ℕ). PrincExpr (l ++ Kind.CLOSE ∷ [])) (sym (bracket-kinds ts)) (bracket (kinds_in s ts) (princ-shadow whole ts e d)))
        (λ x i. bracket-run ts v x i ∙ dead-close e ts v sx m.0.1 m.1 (sym (near-test u v Kind.CLOSE z refl refl) ∙ c) (suc x) i))

    bracket-reads : (r : Parsed Sources) → Reading whole N2 n (next t) r → Reading operand N0 n t (and_then r (λ e u. L.closed s left n t e u))
    bracket-reads _ (got ts u v e p z d sx m some few) = closed-reads ts u v e p z d sx m some few
    bracket-reads _ (halted ts v p rest g dead r h) =
        halted (t ∷ ts) v (and-on t v ts p) (rest ++ Kind.CLOSE ∷ [])
        (subst PrincExpr (sym (ap (λ (l : List ℕ). l ++ (rest ++ Kind.CLOSE ∷ [])) (bracket-kinds ts) ∙ ap (λ (l : List ℕ). Kind.OPEN ∷ l) (sym (append_assoc (kinds_in s ts) rest (Kind.CLOSE ∷ [])))))
        (bracket (kinds_in s ts ++ rest) g)) (λ x i. bracket-run ts v x i ∙ dead (suc x) (suc i)) r h
    bracket-reads _ (otherwise r p m) = otherwise r p m

  body_reads : (left : ℕ) (inner : L.Reader) → left ≤ 16 → (eqb left 0 ≡ false → (n : ℕ) (t : Token) → Real s t → Reading whole N2 n t (inner n t)) → (n : ℕ) (t : Token) → Real s t
      → Reading operand N0 n t (L.primary_body s left inner n t)
  body_reads left inner low reads n t re =
      chosen (Reading operand N0 n t) (eqb t.kind Kind.OPEN) _ _
      (λ o. chosen (Reading operand N0 n t) (eqb left 0) _ _ (λ f. otherwise 7 t.start (λ z. let bad : ⊥ = omega (arith, z) in bad))
      (λ f. bracket-reads left n t low (eqb-true _ _ o) re (inner n (next t)) (reads f n (next t) (token-real s Kind.IN_LICENSEES t.end))))
      (λ o. chosen (Reading operand N0 n t) (eqb t.kind Kind.DIGITS) _ _ (λ f. threshold-reads left n t (eqb-true _ _ f) low)
      (λ f. lone-body n t (plain-heads t o f) (L.licensee s left n t) (licensee-read left n t low re)))

  primary-reads : (left n : ℕ) (t : Token) → left ≤ 16 → Real s t → Reading operand N0 n t (L.primary s left n t)
  unfolding L.primary
  primary-reads zero n t low re = body_reads 0 (λ n t. unexpected t) low (λ f. clash refl f) n t re
  primary-reads (suc left) n t low re =
      body_reads (suc left) (L.expression_of s (λ n t. L.primary s left n t)) low
      (λ f. expression-reads (λ n t. L.primary s left n t) (λ n t x. primary-reads left n t (let z : left ≤ 16 = omega (arith, low) in z) x)) n t re

  -- the whole field
  module _ (constants : List Attribute) (t : Token) where
    abbrev FieldJudged : Parsed Licensees → Type 0
    FieldJudged r = JudgedBy (kind_in s) (Field G.Licensees) s Kind.IN_LICENSEES t r

    judged-near : (ks : List ℕ) (u v : Token) → Near u v → (r : ℕ) → FieldJudged (aside r v.start) → FieldJudged (aside r u.start)
    judged-near ks u v z r h = subst (λ (x : ℕ). FieldJudged (aside r x)) (sym (near-start u v z)) h

    first_runs : (ts : List Token) (v : Token) → ending t.kind ≡ false → Toks t ts v → runs s p-names ts v ≡ runs s (p-princ 0 0) ts v
    first_runs _ _ f (at_once _) = names-want (kind_in s t) (ending-kind s t ∙ f)
    first_runs _ v f (and-on _ _ ts p) = ap (λ (q : State). run step q (kinds_in s ts ++ kind_in s v ∷ [])) (names-want (kind_in s t) (ending-kind s t ∙ f))

    end-through : (ts : List Token) (u v : Token) (e : Sources) → Toks t ts v → Near u v → PrincTree s whole ts e → ending u.kind ≡ true → FieldJudged (ok (given constants e) u)
    end-through ts u v e p z d f =
        subst (λ (x : Token). FieldJudged (ok (given constants e) x)) (sym (near-is u v z (ending-minus u.kind f)))
        (through (kinds_in s ts) v (given constants e) (tokens-kinds s Kind.IN_LICENSEES t v ts p)
        (field (kinds_in s ts) (kind_in s v) (somebody (kinds_in s ts) (princ-shadow whole ts e d)) (ending-ends (kind_in s v) (ending-kind s v ∙ sym (near-ending u v z) ∙ f))))

    ended-judged : (ts : List Token) (u v : Token) (e : Sources) → ending t.kind ≡ false → Toks t ts v → Near u v → PrincTree s whole ts e → Stands (kinds_in s ts) v.kind e → N2 v.kind
        → FieldJudged (ended (given constants e) u)
    ended-judged ts u v e f p z d sx m =
        chosen FieldJudged (ending u.kind) _ _ (λ g. end-through ts u v e p z d g)
        (λ g. judged-near (kinds_in s ts) u v z (refusal u.kind)
        (judged-stop (kind_in s) (Field G.Licensees) s Kind.IN_LICENSEES t (kinds_in s ts) v (tokens-kinds s Kind.IN_LICENSEES t v ts p)
        (opens Kind.END [] (field (kinds_in s ts) Kind.END (somebody (kinds_in s ts) (princ-shadow whole ts e d)) end-of-text))
        (names-dead (kinds_in s ts ++ kind_in s v ∷ []) (first_runs ts v f p ∙ dead-last e ts v sx m.0.1 m.1 (sym (near-ending u v z) ∙ g))) (refusal u.kind) (near-refusal u v z)))

    judged : ending t.kind ≡ false → (r : Parsed Sources) → Reading whole N2 0 t r → FieldJudged (and_then r (λ e u. ended (given constants e) u))
    judged f _ (got ts u v e p z d sx m some few) = ended-judged ts u v e f p z d sx m
    judged f _ (halted ts v p rest g dead r h) =
        judged-stop (kind_in s) (Field G.Licensees) s Kind.IN_LICENSEES t (kinds_in s ts) v (tokens-kinds s Kind.IN_LICENSEES t v ts p)
        (opens-end (Field G.Licensees) (kinds_in s ts) rest
        (subst (Field G.Licensees) (append_assoc (kinds_in s ts) rest (Kind.END ∷ [])) (field (kinds_in s ts ++ rest) Kind.END (somebody (kinds_in s ts ++ rest) g) end-of-text)))
        (names-dead (kinds_in s ts ++ kind_in s v ∷ []) (first_runs ts v f p ∙ dead 0 0)) r h
    judged f _ (otherwise r p m) = another r p m

    -- what was read, and its tree
    pub data Listed : Parsed Licensees → Type 0 where
      listed : (ts : List Token) (n : Token) (l : Licensees) → Toks t ts n → LicenseesTree s constants ts l → Listed (ok l n)
      not_listed : (r p : ℕ) → Listed (aside r p)

    reading-listed : (r : Parsed Sources) → Reading whole N2 0 t r → Listed (and_then r (λ e u. ended (given constants e) u))
    reading-listed _ (got ts u v e p z d sx m some few) =
        chosen Listed (ending u.kind) _ _
        (λ f. listed ts u (given constants e) (subst (λ (x : Token). Toks t ts x) (sym (near-is u v z (ending-minus u.kind f))) p) (somebody-tree ts e d)) (λ f. not_listed _ _)
    reading-listed _ (halted ts v p rest g dead r h) = not_listed r v.start
    reading-listed _ (otherwise r p m) = not_listed r p

  module _ (constants : List Attribute) (at : ℕ) where
    abbrev first : Token
    first = token_at s Kind.IN_LICENSEES at

    first_reads : Reading whole N2 0 first (L.expression_of s (λ n t. L.primary s 16 n t) 0 first)
    first_reads = expression-reads (λ n t. L.primary s 16 n t) (λ n t x. primary-reads 16 n t (omega arith) x) 0 first (token-real s Kind.IN_LICENSEES at)

    -- Licensees, read from the token behind a place of the text on.
    pub names-judged : JudgedBy (kind_in s) (Field G.Licensees) s Kind.IN_LICENSEES first (L.licensees s constants first)
    unfolding L.licensees L.expression
    names-judged =
        chosen (JudgedBy (kind_in s) (Field G.Licensees) s Kind.IN_LICENSEES first) (ending first.kind) _ _
        (λ e. through [] first empty (here first) (field [] (kind_in s first) nobody (ending-ends (kind_in s first) (ending-kind s first ∙ e))))
        (λ e. judged constants first e (L.expression_of s (λ n t. L.primary s 16 n t) 0 first) first_reads)

    -- Where the reader gets through, its expression is one that the tokens say.
    pub names-tree : Listed constants first (L.licensees s constants first)
    unfolding L.licensees L.expression
    names-tree =
        chosen (Listed constants first) (ending first.kind) _ _ (λ e. listed [] first empty (at_once first) nobody-tree)
        (λ e. reading-listed constants first (L.expression_of s (λ n t. L.primary s 16 n t) 0 first) first_reads)

-- The grouping is the one of the classes: tokens say one thing at most.
pub names-unique : (s : List ℕ) (constants : List Attribute) (ts : List Token) (l m : Licensees) → LicenseesTree s constants ts l → LicenseesTree s constants ts m → l ≡ m
names-unique = one-tree

-- So it is with one string expression, as Authorizer holds it.
pub source-unique : (s : List ℕ) (ts : List Token) (x y : Source) → SourceTree s ts x → SourceTree s ts y → x ≡ y
source-unique s ts x y d g = ap in_field (one-tree s [] ts (given [] (one x)) (given [] (one y)) (as-field x d) (as-field y g))
  where
    as-field : (z : Source) → SourceTree s ts z → LicenseesTree s [] ts (given [] (one z))
    as-field z d = somebody-tree ts (one z) (up ts (one z) (once ts (one z) (principal-tree ts z d)))

    in_one : Sources → Source
    in_one (one z) = z
    in_one (and a b) = x
    in_one (or a b) = x
    in_one (k_of k xs) = x

    in_field : Licensees → Source
    in_field missing = x
    in_field empty = x
    in_field (given c e) = in_one e

-- The tokens of a tree have the kinds of a sentence.
pub names-shadow : (s : List ℕ) (constants : List Attribute) (ts : List Token) (l : Licensees) → LicenseesTree s constants ts l → G.Licensees (kinds_in s ts)
names-shadow s constants _ _ nobody-tree = nobody
names-shadow s constants _ _ (somebody-tree ts e d) = somebody (kinds_in s ts) (princ-shadow s whole ts e d)
