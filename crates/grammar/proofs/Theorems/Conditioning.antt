-- Conditions: its reader gives reason 2 where the grammar allows no continuation, and else reads a sentence and gives a tree of it. Assumes nothing.
use Rattle.std.specs.Prelude.{◌≡◌, Bool, true, ℕ, zero, suc, ◌+◌, ◌-◌, ◌≤◌, ◌<◌, eqb, leb}
use Rattle.std.proofs.Math.Path.{refl, ap}
use Rattle.std.proofs.Common.{sym, ◌∙◌, subst, arith, eqb-true, leb-true}
use Rattle.std.proofs.Math.Bool.{false}
use mathlib.Core.List.{List, [], ◌∷◌, ◌++◌, append_assoc, append-nil}
use Rattle.std.proofs.Math.ListN.{length}
use Rattle.text.specs.Choice.{pick, split}
use Rattle.text.specs.Loop.{Step}
use Rattle.lexical.specs.Kind
use Rattle.lexical.specs.Theorems.Bounds.{chosen}
use Rattle.lexical.specs.Line.{token_at}
use Rattle.lexical.specs.declared.token.Token.{Token}
use Rattle.syntax.specs.Expr.{Expr, Program, none, also, Clause, plain, valued, nested}
use Rattle.syntax.specs.Parsed.{Parsed, ok, aside, refusal, unexpected, and_then}
use Rattle.syntax.specs.Operator.{a_test}
use Rattle.conditions.specs.Table.{PartSort, sorted, want-any, want-string}
use Rattle.conditions.specs.Table
use Rattle.conditions.specs.Word.{next_at}
use Rattle.conditions.specs.Parsed.{Part, on_part}
use Rattle.conditions.specs.Operand.{settled_tree}
use Rattle.conditions.specs.Expression.{read_expression}
use Rattle.conditions.specs.Program as P
use Rattle.conditions.specs.Working.Pace.{real}
use Rattle.conditions.specs.Working.Reach.{allowed-real}
use Rattle.grammar.specs.Fields.{Ends, end-of-text, field}
use Rattle.grammar.specs.Conditions.{whole, Conditions}
use Rattle.grammar.specs.Spelled.{kind_in, kinds_in, Tokens}
use Rattle.grammar.specs.Trees.{StrTree, TestTree, a_program, a-clause, ProgramTree, no-clauses, one_more, plain-tree, valued-tree, nested-tree}
use Rattle.grammar.specs.Viable.{at_once, and-on, KindsBy, here, further, JudgedBy, through, another}
use Rattle.grammar.specs.Theorems.OneToken.{judged-stop, opens-end}
use Rattle.grammar.proofs.Theorems.OneToken.{ending-ends}
use Rattle.grammar.specs.Theorems.Shadow.{kind-mark}
use Rattle.grammar.proofs.Theorems.Shadow.{program-shadow}
use Rattle.grammar.specs.Working.Marks.{mark, kinds-append, tokens_append, tokens-one}
use Rattle.grammar.specs.Working.Automaton.{run}
use Rattle.grammar.specs.Working.Looping.{Went, went-next, went-done, loop-went}
use Rattle.grammar.specs.Working.States.{TEXT, in-clause, value, State, p-dead, p-begin, p-arrow, p-block, p-any, p-text, p-have, step}
use Rattle.grammar.specs.Working.Accepts.{behind-arrow, behind-semicolon, value-ends, brace-opens, brace-closes, block-ends}
use Rattle.grammar.proofs.Working.Accepts.{conditions-dead, conditions-over}
use Rattle.grammar.specs.Working.Joints.{Fits, Unfit, TestFit, test_fits, test-unfit, test-fit, test-kind}
use Rattle.grammar.specs.Working.Told.{goal-test, goal-text, Told, told_text, told-test, settle, Suits, suits-text, Completes, completes}
use Rattle.grammar.proofs.Working.Told.{finish}
use Rattle.grammar.specs.Working.Onward.{Starts, start-any, start-text, after, asked-any, asked-text}
use Rattle.grammar.proofs.Working.Onward.{strict-dead}
use Rattle.grammar.specs.Working.Openings as O
use Rattle.grammar.specs.Working.Reading.{Real, real-token}
use Rattle.grammar.proofs.Working.Reading.{runs, runs_on, run-one, runs_last, Reading, got, halted, otherwise, expression-reads}
use Rattle.grammar.specs.Working.Known.{next-real}
use Rattle.grammar.proofs.Working.ProgramStack.{one-program}
use Rattle.limits.specs.Limits.{most_brackets}
use Rattle.grammar.specs.Theorems.Conditioning.{arrow-same, begin-same, block-wrong, clause-right, clause-wrong, closing-brace, stops-kind, value-wrong}

-- no sentence of the field goes on as another
pub conditions-whole : (ks : List ℕ) (k : ℕ) (more : List ℕ) → Conditions ks → Conditions (ks ++ k ∷ more) → ⊥
conditions-whole = conditions-over

module _ (s : List ℕ) where
  -- two places that take the first token alike
  runs-head : (q q' : State) (v u : Token) (us : List Token) → Tokens s v us u → step q (kind_in s v) ≡ step q' (kind_in s v) → runs s q us u ≡ runs s q' us u
  runs-head q q' v _ _ (at_once _) e = e
  runs-head q q' v u _ (and-on _ _ us p) e = ap (λ (x : State). run step x (kinds_in s us ++ kind_in s u ∷ [])) e

  -- what a reader of a clause makes of the tokens from t on, where so many brackets are open
  data ClauseRead (nest : ℕ) (t : Token) : Parsed Clause → Type 0 where
    c-got : (us : List Token) (u : Token) (c : Clause) → Tokens s t us u → u.kind ≡ Kind.SEMICOLON → ProgramTree s us (a-clause c) → runs s (p-any (in-clause nest)) us u ≡ p-begin nest
        → ClauseRead nest t (ok c (next_at s u.end))
    c-halted : (us : List Token) (u : Token) → Tokens s t us u → (rest : List Token) (c : Clause) → ProgramTree s (us ++ rest) (a-clause c) → runs s (p-any (in-clause nest)) us u ≡ p-dead
        → (r : ℕ) → r ≡ refusal u.kind → ClauseRead nest t (aside r u.start)
    c-otherwise : (r p : ℕ) → (r ≡ 2 → ⊥) → ClauseRead nest t (aside r p)

  -- and a reader of a program
  data BlockRead (nest : ℕ) (t : Token) : Parsed Program → Type 0 where
    b-got : (ts : List Token) (u : Token) (p : Program) → Tokens s t ts u → Table.stops nest u.kind ≡ true → ProgramTree s ts (a_program p)
        → run step (p-begin nest) (kinds_in s ts) ≡ p-begin nest → BlockRead nest t (ok p u)
    b-halted : (ts : List Token) (u : Token) → Tokens s t ts u → (rest : List Token) (p : Program) → ProgramTree s (ts ++ rest) (a_program p) → runs s (p-begin nest) ts u ≡ p-dead
        → (r : ℕ) → r ≡ refusal u.kind → BlockRead nest t (aside r u.start)
    b-otherwise : (r p : ℕ) → (r ≡ 2 → ⊥) → BlockRead nest t (aside r p)

  module _ (nest : ℕ) (t : Token) where
    -- the ";" behind a clause
    ending-reads : (us : List Token) (u : Token) (c : Clause) → Tokens s t us u → ProgramTree s us (a-clause c) → (p : State) → runs s (p-any (in-clause nest)) us u ≡ step p (kind_in s u)
        → step p Kind.SEMICOLON ≡ p-begin nest → (eqb u.kind Kind.SEMICOLON ≡ false → step p (kind_in s u) ≡ p-dead) → ClauseRead nest t (P.clause_end s c u)
    unfolding P.clause_end
    ending-reads us u c path d p e f g =
        chosen (ClauseRead nest t) (eqb u.kind Kind.SEMICOLON) _ _
        (λ z. c-got us u c path (eqb-true _ _ z) d (e ∙ ap (λ (k : ℕ). step p k) (kind-mark s u Kind.SEMICOLON (eqb-true _ _ z) refl) ∙ f))
        (λ z. c-halted us u path [] c (subst (λ (l : List Token). ProgramTree s l (a-clause c)) (sym (append-nil us)) d) (e ∙ g z) (refusal u.kind) refl)

    -- behind the clause's test and "->"
    module _ (ts : List Token) (u : Token) (e : Expr) (path : Tokens s t ts u) (tree : TestTree s whole ts e) (arrow : u.kind ≡ Kind.ARROW)
        (led : runs s (p-any (in-clause nest)) ts u ≡ p-arrow nest) where
      abbrev pre : List Token
      pre = ts ++ u ∷ []

      abbrev v : Token
      v = next_at s u.end

      arrow-path : Tokens s t pre v
      arrow-path = tokens-one s Kind.IN_FIELD t u ts path

      arrow-runs : (us : List Token) (n : Token) → runs s (p-any (in-clause nest)) (pre ++ us) n ≡ runs s (p-arrow nest) us n
      arrow-runs us n = runs_on s (p-any (in-clause nest)) pre us n ∙ ap (λ (x : State). runs s x us n) (run-one s (p-any (in-clause nest)) ts u ∙ led)

      -- a string
      value-tree : (us : List Token) (f : Expr) → StrTree s whole us f → ProgramTree s (pre ++ us) (a-clause (valued e f))
      value-tree us f d = subst (λ (l : List Token). ProgramTree s l (a-clause (valued e f))) (sym (append_assoc ts (u ∷ []) us)) (valued-tree u ts us e f arrow tree d)

      value-runs : (us : List Token) (n : Token) → eqb v.kind Kind.OPEN_BRACE ≡ false → Tokens s v us n → runs s (p-any (in-clause nest)) (pre ++ us) n ≡ runs s (p-text TEXT (value nest)) us n
      value-runs us n z p =
          arrow-runs us n ∙ runs-head (p-arrow nest) (p-text TEXT (value nest)) v n us p (arrow-same nest (kind_in s v) (test-kind s v Kind.OPEN_BRACE refl refl ∙ z))

      value-reads : eqb v.kind Kind.OPEN_BRACE ≡ false → (rr : Parsed Part) → Reading s 3 3 3 want-string v rr → ClauseRead nest t (on_part rr (λ x f n. P.valuing s e x f n))
      unfolding P.valuing Table.fits settled_tree
      value-reads z _ (got us n _ _ p x suits-text (told_text _ _ f d) b g) =
          ending-reads (pre ++ us) n (valued e f) (tokens_append s Kind.IN_FIELD t v n pre us arrow-path p) (value-tree us f d) (p-have TEXT (value nest))
          (value-runs us n z p ∙ g (p-text TEXT (value nest)) (start-text (value nest))) (value-ends nest)
          (λ y. value-wrong nest (kind_in s n) b (test-kind s n Kind.SEMICOLON refl refl ∙ y))
      value-reads z _ (halted us n p (completes rest _ _ goal-text (told_text _ _ f d)) g r h) =
          c-halted (pre ++ us) n (tokens_append s Kind.IN_FIELD t v n pre us arrow-path p) rest (valued e f)
          (subst (λ (l : List Token). ProgramTree s l (a-clause (valued e f))) (sym (append_assoc pre us rest)) (value-tree (us ++ rest) f d))
          (value-runs us n z p ∙ g (p-text TEXT (value nest)) (start-text (value nest))) r h
      value-reads z _ (otherwise r p n) = c-otherwise r p n

      -- or a program in brackets
      abbrev first : Token
      first = next_at s v.end

      block-tree : v.kind ≡ Kind.OPEN_BRACE → (us : List Token) (w : Token) (p : Program) → w.kind ≡ Kind.CLOSE_BRACE → ProgramTree s us (a_program p)
          → ProgramTree s (pre ++ v ∷ (us ++ w ∷ [])) (a-clause (nested e p))
      block-tree z us w p y d =
          subst (λ (l : List Token). ProgramTree s l (a-clause (nested e p))) (sym (append_assoc ts (u ∷ []) (v ∷ (us ++ w ∷ [])))) (nested-tree u v w ts us e p arrow z y tree d)

      block_runs : v.kind ≡ Kind.OPEN_BRACE → (us : List Token) (n : Token) → runs s (p-any (in-clause nest)) (pre ++ v ∷ us) n ≡ runs s (p-begin (nest + 1)) us n
      block_runs z us n =
          arrow-runs (v ∷ us) n
          ∙ ap (λ (k : ℕ). run step (step (p-arrow nest) k) (kinds_in s us ++ kind_in s n ∷ [])) (kind-mark s v Kind.OPEN_BRACE z refl)
          ∙ ap (λ (x : State). run step x (kinds_in s us ++ kind_in s n ∷ [])) (brace-opens nest)
          ∙ ap (λ (d : ℕ). run step (p-begin d) (kinds_in s us ++ kind_in s n ∷ [])) (let z : suc nest ≡ nest + 1 = omega arith in z)

      block-path : (us : List Token) (n : Token) → Tokens s first us n → Tokens s t (pre ++ v ∷ us) n
      block-path us n p = tokens_append s Kind.IN_FIELD t v n pre (v ∷ us) arrow-path (and-on v n us p)

      brace-closes-at : step (p-begin (nest + 1)) Kind.CLOSE_BRACE ≡ p-block nest
      brace-closes-at = ap (λ (d : ℕ). step (p-begin d) Kind.CLOSE_BRACE) (let z : nest + 1 ≡ suc nest = omega arith in z) ∙ brace-closes nest

      closed_run : (us : List Token) (w n : Token) → v.kind ≡ Kind.OPEN_BRACE → w.kind ≡ Kind.CLOSE_BRACE → run step (p-begin (nest + 1)) (kinds_in s us) ≡ p-begin (nest + 1)
          → runs s (p-any (in-clause nest)) (pre ++ v ∷ (us ++ w ∷ [])) n ≡ step (p-block nest) (kind_in s n)
      closed_run us w n z y g =
          block_runs z (us ++ w ∷ []) n
          ∙ runs_last s (p-begin (nest + 1)) (p-block nest) (us ++ w ∷ []) n
          (run-one s (p-begin (nest + 1)) us w ∙ runs_last s (p-begin (nest + 1)) (p-begin (nest + 1)) us w g
          ∙ ap (λ (k : ℕ). step (p-begin (nest + 1)) k) (kind-mark s w Kind.CLOSE_BRACE y refl) ∙ brace-closes-at)

      nested-reads : v.kind ≡ Kind.OPEN_BRACE → (rr : Parsed Program) → BlockRead (nest + 1) first rr → ClauseRead nest t (and_then rr (λ p n. P.clause_end s (nested e p) (next_at s n.end)))
      nested-reads z _ (b-got us w p q st d g) =
          ending-reads (pre ++ v ∷ (us ++ w ∷ [])) (next_at s w.end) (nested e p) (block-path (us ++ w ∷ []) (next_at s w.end) (tokens-one s Kind.IN_FIELD first w us q))
          (block-tree z us w p (closing-brace nest w.kind st) d) (p-block nest) (closed_run us w (next_at s w.end) z (closing-brace nest w.kind st) g) (block-ends nest)
          (λ y. block-wrong nest (kind_in s (next_at s w.end)) (test-kind s (next_at s w.end) Kind.SEMICOLON refl refl ∙ y))
      nested-reads z _ (b-halted us n q rest p d g r h) =
          c-halted (pre ++ v ∷ us) n (block-path us n q) (rest ++ mark Kind.CLOSE_BRACE ∷ []) (nested e p)
          (subst (λ (l : List Token). ProgramTree s l (a-clause (nested e p)))
          (ap (λ (l : List Token). pre ++ v ∷ l) (append_assoc us rest (mark Kind.CLOSE_BRACE ∷ [])) ∙ sym (append_assoc pre (v ∷ us) (rest ++ mark Kind.CLOSE_BRACE ∷ [])))
          (block-tree z (us ++ rest) (mark Kind.CLOSE_BRACE) p refl d)) (block_runs z us n ∙ g) r h
      nested-reads z _ (b-otherwise r p n) = c-otherwise r p n

    told-whole : (ts : List Token) (e : Expr) → Told s (sorted a_test) 0 ts e → TestTree s whole ts e
    told-whole _ _ (told-test _ ts e d) = d

    -- a clause's test, and what its value makes of it
    abbrev Valued : (ℕ → Expr → Token → Parsed Clause) → Type 0
    Valued reader = (ts : List Token) (u : Token) (e : Expr) → Tokens s t ts u → TestTree s whole ts e → u.kind ≡ Kind.ARROW → runs s (p-any (in-clause nest)) ts u ≡ p-arrow nest
        → ClauseRead nest t (reader nest e (next_at s u.end))

    module _ (reader : ℕ → Expr → Token → Parsed Clause) (values : Valued reader) (ts : List Token) (u : Token) (sort : PartSort) (e : Expr) (path : Tokens s t ts u) (y : Suits want-any sort)
        (d : Told s sort 0 ts e) (b : Table.binds 0 (Table.operator sort (kind_in s u)) ≡ false)
        (g : (q : State) → Starts 0 want-any q → runs s q ts u ≡ step (after q sort) (kind_in s u)) where
      at-clause : runs s (p-any (in-clause nest)) ts u ≡ step (after (p-any (in-clause nest)) sort) (kind_in s u)
      at-clause = g (p-any (in-clause nest)) (start-any (in-clause nest))

      tested-with : Fits a_test sort → ClauseRead nest t (P.tested_with reader s nest (settled_tree a_test sort e) u)
      tested-with f =
          chosen (ClauseRead nest t) (eqb u.kind Kind.ARROW) _ _
          (λ z. values ts u (settled_tree a_test sort e) path tree (eqb-true _ _ z)
          (at-clause ∙ ap (λ (k : ℕ). step (after (p-any (in-clause nest)) sort) k) (kind-mark s u Kind.ARROW (eqb-true _ _ z) refl) ∙ clause-right nest sort Kind.ARROW (p-arrow nest) f behind-arrow))
          (λ z. ending-reads ts u (plain (settled_tree a_test sort e)) path (plain-tree ts _ tree) (after (p-any (in-clause nest)) sort) at-clause
          (clause-right nest sort Kind.SEMICOLON (p-begin nest) f behind-semicolon)
          (λ x. clause-wrong nest sort (kind_in s u) f b (test-kind s u Kind.ARROW refl refl ∙ z) (test-kind s u Kind.SEMICOLON refl refl ∙ x)))
        where
          tree : TestTree s whole ts (settled_tree a_test sort e)
          tree = told-whole ts (settled_tree a_test sort e) (settle s a_test sort 0 ts e (omega arith) f d)

      completed : Completes s want-any 0 ts → Unfit sort → ClauseRead nest t (unexpected u)
      completed (completes rest f _ goal-test k) x =
          c-halted ts u path rest (plain f) (plain-tree (ts ++ rest) f (told-whole (ts ++ rest) f k))
          (at-clause ∙ strict-dead (in-clause nest) 0 (omega arith) sort (kind_in s u) x b) (refusal u.kind) refl

      by-fit : (fit : Bool) → TestFit sort fit → ClauseRead nest t (pick fit (P.tested_with reader s nest (settled_tree a_test sort e) u) (unexpected u))
      by-fit _ (test_fits f) = tested-with f
      by-fit _ (test-unfit x) = completed (finish s want-any sort 0 0 ts e (omega arith) (omega arith) y d) x

      tested-body : ClauseRead nest t (P.tested_of reader s nest sort e u)
      tested-body = by-fit (Table.fits a_test sort) (test-fit sort)

    -- what is known behind a test
    abbrev Tested : (ℕ → PartSort → Expr → Token → Parsed Clause) → Type 0
    Tested tested = (ts : List Token) (u : Token) (sort : PartSort) (e : Expr) → Tokens s t ts u → Suits want-any sort → Told s sort 0 ts e → Table.binds 0 (Table.operator sort (kind_in s u)) ≡ false
        → ((q : State) → Starts 0 want-any q → runs s q ts u ≡ step (after q sort) (kind_in s u)) → ClauseRead nest t (tested nest sort e u)

    clause-body : (tested : ℕ → PartSort → Expr → Token → Parsed Clause) → Tested tested → (rr : Parsed Part) → Reading s 0 0 0 want-any t rr → ClauseRead nest t (on_part rr (λ sort e n. tested nest sort e n))
    clause-body tested h _ (got ts u sort e p x y d b g) = h ts u sort e p y d b g
    clause-body tested h _ (halted ts u p (completes rest f _ goal-test d) g r z) =
        c-halted ts u p rest (plain f) (plain-tree (ts ++ rest) f (told-whole (ts ++ rest) f d)) (g (p-any (in-clause nest)) (start-any (in-clause nest))) r z
    clause-body tested h _ (otherwise r p n) = c-otherwise r p n

    -- clauses from left to right
    abbrev Stands : P.State → Parsed Program → Type 0
    Stands x r = (ts : List Token) → Tokens s t ts x.0 → Real s x.0 → ProgramTree s ts (a_program x.1) → run step (p-begin nest) (kinds_in s ts) ≡ p-begin nest → BlockRead nest t r

    module _ (clause : ℕ → Token → Parsed Clause) (clauses : (u : Token) → Real s u → ClauseRead nest u (clause nest u)) where
      abbrev μ : P.State → ℕ
      μ x = length s - x.0.start

      abbrev out : P.State → Parsed Program
      out x = aside 0 x.0.start

      abbrev turn : P.State → Step P.State (Parsed Program)
      turn = P.clauses_turn clause s nest

      abbrev Turn : P.State → Step P.State (Parsed Program) → Type 0
      Turn x st = Went μ out turn Stands x st

      -- the automaton behind the clauses so far
      module _ (u : Token) (ts : List Token) (g : run step (p-begin nest) (kinds_in s ts) ≡ p-begin nest) where
        clause-runs : (us : List Token) (n : Token) → Tokens s u us n → Table.stops nest u.kind ≡ false → runs s (p-begin nest) (ts ++ us) n ≡ runs s (p-any (in-clause nest)) us n
        clause-runs us n p z =
            runs_on s (p-begin nest) ts us n ∙ ap (λ (x : State). runs s x us n) g
            ∙ runs-head (p-begin nest) (p-any (in-clause nest)) u n us p (begin-same nest (kind_in s u) (stops-kind s u nest ∙ z))

      on-clause : (u : Token) (p : Program) → Table.stops nest u.kind ≡ false → (rr : Parsed Clause) → (Real s u → ClauseRead nest u rr) → Turn (u, p) (P.on_clause u p rr)
      on-clause u p z (aside r at) h = went-done (aside r at) (λ ts path x d g. from-aside ts path d g r at (h x))
        where
          from-aside : (ts : List Token) → Tokens s t ts u → ProgramTree s ts (a_program p) → run step (p-begin nest) (kinds_in s ts) ≡ p-begin nest → (r at : ℕ) → ClauseRead nest u (aside r at) → BlockRead nest t (aside r at)
          from-aside ts path d g _ _ (c-halted us n q rest c k dead r e) =
              b-halted (ts ++ us) n (tokens_append s Kind.IN_FIELD t u n ts us path q) (rest ++ mark Kind.SEMICOLON ∷ []) (also p c)
              (subst (λ (l : List Token). ProgramTree s l (a_program (also p c)))
              (ap (λ (l : List Token). ts ++ l) (append_assoc us rest (mark Kind.SEMICOLON ∷ [])) ∙ sym (append_assoc ts us (rest ++ mark Kind.SEMICOLON ∷ [])))
              (one_more (mark Kind.SEMICOLON) ts (us ++ rest) p c refl d k)) (clause-runs u ts g us n q z ∙ dead) r e
          from-aside ts path d g _ _ (c-otherwise r at n) = b-otherwise r at n
      on-clause u p z (ok c n) h =
          chosen (Turn (u, p)) (leb n.start u.start) _ _ (λ y. went-done (aside 0 u.start) (λ ts path x d g. b-otherwise 0 u.start (λ k. let bad : ⊥ = omega (arith, k) in bad)))
          (λ y. went-next (n, also p c) (λ r k ts path x d g. from-ok ts path d g r n c k (h x)))
        where
          from-ok : (ts : List Token) → Tokens s t ts u → ProgramTree s ts (a_program p) → run step (p-begin nest) (kinds_in s ts) ≡ p-begin nest → (r : Parsed Program) (n : Token) (c : Clause) → Stands (n, also p c) r
              → ClauseRead nest u (ok c n) → BlockRead nest t r
          from-ok ts path d g r _ _ k (c-got us w c q e b f) =
              k (ts ++ (us ++ w ∷ [])) (tokens_append s Kind.IN_FIELD t u (next_at s w.end) ts (us ++ w ∷ []) path (tokens-one s Kind.IN_FIELD u w us q)) (next-real s w.end) (one_more w ts us p c e d b)
              (ap (λ (l : List Token). run step (p-begin nest) (kinds_in s l)) (sym (append_assoc ts us (w ∷ []))) ∙ run-one s (p-begin nest) (ts ++ us) w ∙ clause-runs u ts g us w q z ∙ f)

      -- behind the last token
      late : (u : Token) (p : Program) → length s ≤ u.start → Stands (u, p) (P.stopping nest p u)
      unfolding P.stopping
      late u p h ts path (real-token x n) d g =
          chosen (BlockRead nest t) (Table.stops nest u.kind) _ _ (λ z. b-got ts u p path z d g)
          (λ z. b-halted ts u path [] p (subst (λ (l : List Token). ProgramTree s l (a_program p)) (sym (append-nil ts)) d)
          (runs_last s (p-begin nest) (p-begin nest) ts u g ∙ begin-same nest (kind_in s u) (stops-kind s u nest ∙ z) ∙ O.not-allowed s u want-any (p-any (in-clause nest)) (start-any (in-clause nest)) n none_allowed)
          (refusal u.kind) refl)
        where
          none_allowed : Table.allows want-any u.kind ≡ false
          none_allowed =
              split (Table.allows want-any u.kind)
              (λ e. let k : (u.start < u.end) × (u.end ≤ length s) = real s u x (allowed-real want-any u.kind e) in absurd (let bad : ⊥ = omega (arith, h, k.0, k.1) in bad)) (λ e. e)

      clauses-turn : (x : P.State) → Turn x (turn x)
      clauses-turn (u, p) =
          chosen (Turn (u, p)) (leb (length s) u.start) _ _ (λ h. went-done (P.stopping nest p u) (late u p (leb-true _ _ h)))
          (λ h. chosen (Turn (u, p)) (Table.stops nest u.kind) _ _ (λ z. went-done (ok p u) (λ ts path x d g. b-got ts u p path z d g))
          (λ z. on-clause u p z (clause nest u) (clauses u)))

      clauses-body : Real s t → BlockRead nest t (P.clauses_of clause s nest t)
      clauses-body x =
          loop-went μ out turn Stands (λ x ts path y d g. b-otherwise 0 x.0.start (λ k. let bad : ⊥ = omega (arith, k) in bad)) clauses-turn (t, none) [] (at_once t) x no-clauses refl

  abbrev nothing : ◌≡◌ {A = ℕ} 0 2 → ⊥
  nothing k = let bad : ⊥ = omega (arith, k) in bad

  mutual
    unfolding P.read_clause

    clause-reads : (d nest : ℕ) (t : Token) → Real s t → ClauseRead nest t (P.read_clause d s nest t)
    clause-reads zero nest t x = c-otherwise 0 t.start nothing
    clause-reads (suc d) nest t x =
        clause-body nest t (λ nest sort e t. P.read_tested d s nest sort e t) (λ ts u sort e p y k b g. tested_reads d nest t ts u sort e p y k b g) (read_expression d s 0 want-any 0 nest t)
        (expression-reads s (next-real s) d 0 want-any 0 nest t (asked-any (omega arith)) x)

    tested_reads : (d nest : ℕ) (t : Token) (ts : List Token) (u : Token) (sort : PartSort) (e : Expr) → Tokens s t ts u → Suits want-any sort → Told s sort 0 ts e
        → Table.binds 0 (Table.operator sort (kind_in s u)) ≡ false → ((q : State) → Starts 0 want-any q → runs s q ts u ≡ step (after q sort) (kind_in s u))
        → ClauseRead nest t (P.read_tested d s nest sort e u)
    tested_reads zero nest t ts u sort e p y k b g = c-otherwise 0 u.start nothing
    tested_reads (suc d) nest t ts u sort e p y k b g =
        tested-body nest t (λ nest e t. P.read_value d s nest e t) (λ ts u e p tree z led. values-read d nest t ts u e p tree z led) ts u sort e p y k b g

    values-read : (d nest : ℕ) (t : Token) (ts : List Token) (u : Token) (e : Expr) → Tokens s t ts u → TestTree s whole ts e → u.kind ≡ Kind.ARROW
        → runs s (p-any (in-clause nest)) ts u ≡ p-arrow nest → ClauseRead nest t (P.read_value d s nest e (next_at s u.end))
    values-read zero nest t ts u e p tree z led = c-otherwise 0 (next_at s u.end).start nothing
    values-read (suc d) nest t ts u e p tree z led =
        chosen (ClauseRead nest t) (eqb (next_at s u.end).kind Kind.OPEN_BRACE) _ _ (λ h. blocks-read d nest t ts u e p tree z led (eqb-true _ _ h))
        (λ h. value-reads nest t ts u e p tree z led h (read_expression d s 3 want-string 0 nest (next_at s u.end))
        (expression-reads s (next-real s) d 3 want-string 0 nest (next_at s u.end) (asked-text (omega arith) (omega arith)) (next-real s u.end)))

    blocks-read : (d nest : ℕ) (t : Token) (ts : List Token) (u : Token) (e : Expr) → Tokens s t ts u → TestTree s whole ts e → u.kind ≡ Kind.ARROW
        → runs s (p-any (in-clause nest)) ts u ≡ p-arrow nest → (next_at s u.end).kind ≡ Kind.OPEN_BRACE → ClauseRead nest t (P.read_nested d s nest e (next_at s u.end))
    blocks-read zero nest t ts u e p tree z led h = c-otherwise 0 (next_at s u.end).start nothing
    blocks-read (suc d) nest t ts u e p tree z led h =
        chosen (ClauseRead nest t) (leb most_brackets nest) _ _ (λ k. c-otherwise 7 (next_at s u.end).start (λ y. let bad : ⊥ = omega (arith, y) in bad))
        (λ k. nested-reads nest t ts u e p tree z led h (P.read_block d s (nest + 1) (next_at s (next_at s u.end).end)) (block_reads d (nest + 1) (next_at s (next_at s u.end).end) (next-real s (next_at s u.end).end)))

    block_reads : (d nest : ℕ) (t : Token) → Real s t → BlockRead nest t (P.read_block d s nest t)
    block_reads zero nest t x = b-otherwise 0 t.start nothing
    block_reads (suc d) nest t x = clauses-read d nest t x

    clauses-read : (d nest : ℕ) (t : Token) → Real s t → BlockRead nest t (P.read_clauses d s nest t)
    clauses-read zero nest t x = b-otherwise 0 t.start nothing
    clauses-read (suc d) nest t x = clauses-body nest t (λ nest t. P.read_clause d s nest t) (λ u y. clause-reads d nest u y) x

  -- the whole field
  tokens-kinds : (t n : Token) (ts : List Token) → Tokens s t ts n → KindsBy (kind_in s) s Kind.IN_FIELD t (kinds_in s ts) n
  tokens-kinds t _ _ (at_once _) = here t
  tokens-kinds t n _ (and-on _ _ ts p) = further t n (kinds_in s ts) (tokens-kinds (next_at s t.end) n ts p)

  field-ends : (u : Token) → Table.stops 0 u.kind ≡ true → Ends (kind_in s u)
  unfolding Table.stops
  field-ends u h = ending-ends (kind_in s u) (stops-kind s u 0 ∙ h)

  judged : (t : Token) (r : Parsed Program) → BlockRead 0 t r → JudgedBy (kind_in s) Conditions s Kind.IN_FIELD t r
  judged t _ (b-got ts u p path z d g) = through (kinds_in s ts) u p (tokens-kinds t u ts path) (field (kinds_in s ts) (kind_in s u) (program-shadow s ts (a_program p) d) (field-ends u z))
  judged t _ (b-halted ts u path rest p d g r e) =
      judged-stop (kind_in s) Conditions s Kind.IN_FIELD t (kinds_in s ts) u (tokens-kinds t u ts path)
      (opens-end Conditions (kinds_in s ts) (kinds_in s rest)
      (subst Conditions (ap (λ (l : List ℕ). l ++ Kind.END ∷ []) (kinds-append (kind_in s) ts rest) ∙ append_assoc (kinds_in s ts) (kinds_in s rest) (Kind.END ∷ []))
      (field (kinds_in s (ts ++ rest)) Kind.END (program-shadow s (ts ++ rest) (a_program p) d) end-of-text)))
      (conditions-dead (kinds_in s ts ++ kind_in s u ∷ []) g) r e
  judged t _ (b-otherwise r p n) = another r p n

  -- Conditions, read from the token behind a place of the text on.
  pub conditions-judged : (at : ℕ) → JudgedBy (kind_in s) Conditions s Kind.IN_FIELD (token_at s Kind.IN_FIELD at) (P.read_program s (token_at s Kind.IN_FIELD at))
  unfolding P.read_program
  conditions-judged at = judged (token_at s Kind.IN_FIELD at) (P.read_block P.DEPTH s 0 (token_at s Kind.IN_FIELD at)) (block_reads P.DEPTH 0 (token_at s Kind.IN_FIELD at) (next-real s at))

  -- what was read, and its tree
  pub data Said (t : Token) : Parsed Program → Type 0 where
    said : (ts : List Token) (n : Token) (p : Program) → Tokens s t ts n → ProgramTree s ts (a_program p) → Said t (ok p n)
    not-said : (r p : ℕ) → Said t (aside r p)

  block-said : (t : Token) (r : Parsed Program) → BlockRead 0 t r → Said t r
  block-said t _ (b-got ts n p path z d g) = said ts n p path d
  block-said t _ (b-halted ts u path rest p d g r e) = not-said r u.start
  block-said t _ (b-otherwise r p n) = not-said r p

  -- Where the reader gets through, its program is one that the tokens say.
  pub conditions-tree : (at : ℕ) → Said (token_at s Kind.IN_FIELD at) (P.read_program s (token_at s Kind.IN_FIELD at))
  unfolding P.read_program
  conditions-tree at = block-said (token_at s Kind.IN_FIELD at) (P.read_block P.DEPTH s 0 (token_at s Kind.IN_FIELD at)) (block_reads P.DEPTH 0 (token_at s Kind.IN_FIELD at) (next-real s at))

  -- The grouping is the one of the precedence classes: tokens say one program at most.
  pub conditions-unique : (ts : List Token) (p q : Program) → ProgramTree s ts (a_program p) → ProgramTree s ts (a_program q) → p ≡ q
  conditions-unique = one-program s
