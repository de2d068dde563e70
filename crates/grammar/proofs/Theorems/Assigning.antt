-- Local-Constants: its reader gives reason 2 where the grammar allows no continuation, and else reads a sentence. Assumes nothing.
use Rattle.std.specs.Prelude.{◌≡◌, refl, ℕ, ◌-◌, length}
use Rattle.std.proofs.Common.{sym, ap, ◌∙◌, subst, arith, length-append}
use Rattle.std.proofs.Math.Bool.{false}
use mathlib.Core.List.{List, [], ◌∷◌, ◌++◌, append_assoc, append-nil}
use Rattle.text.specs.Loop.{Step}
use Rattle.record.specs.Query.{Attribute}
use Rattle.lexical.specs.Kind
use Rattle.lexical.specs.Kind.{ending}
use Rattle.lexical.specs.Theorems.Bounds.{chosen}
use Rattle.lexical.specs.declared.token.Token.{Token}
use Rattle.syntax.specs.Parsed.{Parsed, ok, aside, refusal, unexpected}
use Rattle.fields.specs.Parsed.{behind}
use Rattle.fields.specs.Constants.{constant, on_constant, constants_turn, constants_from}
use Rattle.grammar.specs.Fields.{Ends, end-of-text, Field, field, Assignments, no-assignment, assignment}
use Rattle.grammar.specs.Viable.{Viable, opens, Kinds, here, further, Judged, plainly, through, another}
use Rattle.grammar.specs.Working.Automaton.{run, run-append, not-viable, not-longer}
use Rattle.grammar.specs.Working.Looping.{Turned, turned-next, turned-done, loop-turned, kinds-append, kinds-one}
use Rattle.grammar.specs.Theorems.OneToken.{ends-ending, judged-stop}
use Rattle.grammar.proofs.Theorems.OneToken.{ending-ends}
use Rattle.grammar.specs.Theorems.Assigning.{OneSet, constant-set, not-name, one_set, other-set, set-assign, set-name, set-run, set-stays, set-viable, set-wrong-1, set-wrong-2, set-wrong-3, set_last, set_snoc, set_step, triple, wrong-1, wrong-2, wrong-3}

set-end : (k : ℕ) → Ends k → set_step 1 k ≡ 4
unfolding set_step
set-end k e = rw (not-name k (ends-ending k e), ends-ending k e)

set-alive : (ks : List ℕ) → Field Assignments ks → run set_step 1 ks ≡ 0 → ⊥
set-alive _ (field ks e g en) z =
    let w : run set_step 1 (ks ++ e ∷ []) ≡ 4 = run-append set_step 1 ks (e ∷ []) ∙ ap (λ (q : ℕ). set_step q e) (set-run ks g) ∙ set-end e en in
    omega (arith, w, z)

set-dead : (ks : List ℕ) → run set_step 1 ks ≡ 0 → Viable (Field Assignments) ks → ⊥
set-dead = not-viable set_step 0 set-stays (Field Assignments) 1 set-alive

set-over : (ks : List ℕ) → Field Assignments ks → run set_step 1 ks ≡ 4
set-over _ (field ks e g en) = run-append set_step 1 ks (e ∷ []) ∙ ap (λ (q : ℕ). set_step q e) (set-run ks g) ∙ set-end e en

-- no sentence of the field goes on as another
pub constants-whole : (ks : List ℕ) (k : ℕ) (more : List ℕ) → Field Assignments ks → Field Assignments (ks ++ k ∷ more) → ⊥
constants-whole = not-longer set_step 0 set-stays (Field Assignments) 1 4 set-over set_last (λ z. let bad : ⊥ = omega (arith, z) in bad)

-- kinds that begin none
set-dead-at : (ks ls : List ℕ) (k q : ℕ) → Assignments ks → run set_step 1 ls ≡ q → set_step q k ≡ 0 → Viable (Field Assignments) ((ks ++ ls) ++ k ∷ []) → ⊥
set-dead-at ks ls k q a l d =
    set-dead ((ks ++ ls) ++ k ∷ [])
    (run-append set_step 1 (ks ++ ls) (k ∷ []) ∙ ap (λ (x : ℕ). set_step x k) (run-append set_step 1 ks ls ∙ ap (λ (x : ℕ). run set_step x ls) (set-run ks a) ∙ l) ∙ d)

-- the whole field, whose first token is t
module _ (s : List ℕ) (t : Token) where
  abbrev So : List Attribute × Token → Parsed (List Attribute) → Type 0
  So x r = (ks : List ℕ) → Kinds s Kind.IN_FIELD t ks x.1 → Assignments ks → Judged (Field Assignments) s Kind.IN_FIELD t r

  abbrev μ : List Attribute × Token → ℕ
  μ x = 16 - length x.0

  abbrev out : List Attribute × Token → Parsed (List Attribute)
  out x = unexpected x.1

  abbrev Turn : List Attribute × Token → Step (List Attribute × Token) (Parsed (List Attribute)) → Type 0
  Turn x st = Turned μ out (constants_turn s) So x st

  three-kinds : (u v w : Token) (ks : List ℕ) → v ≡ behind s Kind.IN_FIELD u → w ≡ behind s Kind.IN_FIELD v → u.kind ≡ Kind.NAME → v.kind ≡ Kind.ASSIGN → w.kind ≡ Kind.LITERAL
      → Kinds s Kind.IN_FIELD t ks u → Kinds s Kind.IN_FIELD t (ks ++ triple) (behind s Kind.IN_FIELD w)
  three-kinds u v w ks ve we a b c p =
      let q : Kinds s Kind.IN_FIELD w (w.kind ∷ []) (behind s Kind.IN_FIELD w) = further w (behind s Kind.IN_FIELD w) [] (here (behind s Kind.IN_FIELD w)) in
      let q' : Kinds s Kind.IN_FIELD (behind s Kind.IN_FIELD v) (w.kind ∷ []) (behind s Kind.IN_FIELD w) = subst (λ (x : Token). Kinds s Kind.IN_FIELD x (w.kind ∷ []) (behind s Kind.IN_FIELD w)) we q in
      let r : Kinds s Kind.IN_FIELD v (v.kind ∷ w.kind ∷ []) (behind s Kind.IN_FIELD w) = further v _ (w.kind ∷ []) q' in
      let r' : Kinds s Kind.IN_FIELD (behind s Kind.IN_FIELD u) (v.kind ∷ w.kind ∷ []) (behind s Kind.IN_FIELD w) =
      subst (λ (x : Token). Kinds s Kind.IN_FIELD x (v.kind ∷ w.kind ∷ []) (behind s Kind.IN_FIELD w)) ve r in
      let o : Kinds s Kind.IN_FIELD u (u.kind ∷ v.kind ∷ w.kind ∷ []) (behind s Kind.IN_FIELD w) = further u _ (v.kind ∷ w.kind ∷ []) r' in
      let z : u.kind ∷ v.kind ∷ w.kind ∷ [] ≡ triple = cc (a, b, c) in
      kinds-append s Kind.IN_FIELD t u (behind s Kind.IN_FIELD w) ks triple p (subst (λ (l : List ℕ). Kinds s Kind.IN_FIELD u l (behind s Kind.IN_FIELD w)) z o)

  one-kind : (u v : Token) (ks : List ℕ) (k : ℕ) → v ≡ behind s Kind.IN_FIELD u → u.kind ≡ k → Kinds s Kind.IN_FIELD t ks u → Kinds s Kind.IN_FIELD t (ks ++ k ∷ []) v
  one-kind u v ks k ve e p =
      let q : Kinds s Kind.IN_FIELD t (ks ++ u.kind ∷ []) (behind s Kind.IN_FIELD u) = kinds-one s Kind.IN_FIELD t u ks p in
      let q' : Kinds s Kind.IN_FIELD t (ks ++ u.kind ∷ []) v = subst (λ (x : Token). Kinds s Kind.IN_FIELD t (ks ++ u.kind ∷ []) x) (sym ve) q in
      subst (λ (x : ℕ). Kinds s Kind.IN_FIELD t (ks ++ x ∷ []) v) e q'

  two-kinds : (u v w : Token) (ks : List ℕ) (j k : ℕ) → v ≡ behind s Kind.IN_FIELD u → w ≡ behind s Kind.IN_FIELD v → u.kind ≡ j → v.kind ≡ k → Kinds s Kind.IN_FIELD t ks u
      → Kinds s Kind.IN_FIELD t (ks ++ j ∷ k ∷ []) w
  two-kinds u v w ks j k ve we e f p =
      subst (λ (l : List ℕ). Kinds s Kind.IN_FIELD t l w) (append_assoc ks (j ∷ []) (k ∷ [])) (one-kind v w (ks ++ j ∷ []) k we f (one-kind u v ks j ve e p))

  on-set : (cs : List Attribute) (u v w : Token) → v ≡ behind s Kind.IN_FIELD u → w ≡ behind s Kind.IN_FIELD v → ending u.kind ≡ false → (r : Parsed Attribute)
      → OneSet s cs u v w r → Turn (cs, u) (on_constant cs r)
  on-set cs u v w ve we e _ (one_set a b c few x) =
      turned-next (cs ++ (x ∷ []), behind s Kind.IN_FIELD w) (rw length-append (omega (arith, few)))
      (λ r h ks p g. h (ks ++ triple) (three-kinds u v w ks ve we a b c p) (set_snoc ks g))
  on-set cs u v w ve we e _ (wrong-1 n r q) =
      turned-done (aside r u.start) (λ ks p g.
      judged-stop plainly (Field Assignments) s Kind.IN_FIELD t ks u p (opens Kind.END [] (field ks Kind.END g end-of-text))
      (subst (λ (l : List ℕ). Viable (Field Assignments) (l ++ u.kind ∷ []) → ⊥) (append-nil ks) (set-dead-at ks [] u.kind 1 g refl (set-wrong-1 u.kind n e))) r q)
  on-set cs u v w ve we e _ (wrong-2 a n) =
      turned-done (aside (refusal v.kind) v.start) (λ ks p g.
      judged-stop plainly (Field Assignments) s Kind.IN_FIELD t (ks ++ Kind.NAME ∷ []) v (one-kind u v ks Kind.NAME ve a p)
      (set-viable ks (Kind.NAME ∷ []) (Kind.ASSIGN ∷ Kind.LITERAL ∷ []) g (assignment [] no-assignment))
      (set-dead-at ks (Kind.NAME ∷ []) v.kind 2 g set-name (set-wrong-2 v.kind n)) (refusal v.kind) refl)
  on-set cs u v w ve we e _ (wrong-3 a b n) =
      turned-done (aside (refusal w.kind) w.start) (λ ks p g.
      judged-stop plainly (Field Assignments) s Kind.IN_FIELD t (ks ++ Kind.NAME ∷ Kind.ASSIGN ∷ []) w (two-kinds u v w ks Kind.NAME Kind.ASSIGN ve we a b p)
      (set-viable ks (Kind.NAME ∷ Kind.ASSIGN ∷ []) (Kind.LITERAL ∷ []) g (assignment [] no-assignment))
      (set-dead-at ks (Kind.NAME ∷ Kind.ASSIGN ∷ []) w.kind 3 g (ap (λ (q : ℕ). set_step q Kind.ASSIGN) set-name ∙ set-assign) (set-wrong-3 w.kind n)) (refusal w.kind) refl)
  on-set cs u v w ve we e _ (other-set r p n) = turned-done (aside r p) (λ ks q g. another r p n)

  turn-judged : (x : List Attribute × Token) → Turn x (constants_turn s x)
  turn-judged (cs, u) =
      chosen (Turn (cs, u)) (ending u.kind) _ _
      (λ e. turned-done (ok cs u) (λ ks p g. through ks u cs p (field ks u.kind g (ending-ends u.kind e))))
      (λ e. on-set cs u (behind s Kind.IN_FIELD u) (behind s Kind.IN_FIELD (behind s Kind.IN_FIELD u)) refl refl e (constant s cs u) (constant-set s cs u))

  -- Local-Constants, read from its first token t on.
  pub constants-judged : Judged (Field Assignments) s Kind.IN_FIELD t (constants_from s [] t)
  unfolding constants_from
  constants-judged = loop-turned μ out (constants_turn s) So turn-judged ([], t) [] (here t) no-assignment
