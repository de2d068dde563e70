-- Programs belong to their code. Assumes nothing.
use Rattle.std.specs.Prelude.{◌≡◌, refl, Bool, List, [], ◌∷◌, ◌++◌, ℕ, zero, suc, ◌+◌, ◌-◌, ◌<◌, ◌≤◌, eqb, leb, length, Err}
use Rattle.std.proofs.Common.{sym, arith}
use Rattle.std.proofs.Math.Bool.{true, false}
use borrow.Author.Tests.{le-ltb}
use Rattle.text.specs.Choice.{pick}
use Rattle.text.specs.Loop.{Step}
use Rattle.lexical.specs.Kind
use Rattle.lexical.specs.declared.token.Token.{Token}
use Rattle.syntax.specs.Op
use Rattle.syntax.specs.Expr.{Expr, Program, none, also, Clause, plain, valued, nested}
use Rattle.syntax.specs.Code.{entry, Codes, ProgramCodes, ClauseCodes, code-none, code-also, code-plain, code-valued, code-nested}
use Rattle.syntax.specs.Operator.{a-string, a_test}
use Rattle.conditions.specs.Table.{PartSort, want-any, want-string, fits, stops}
use Rattle.conditions.specs.Working.Numbered.{ANY, TEST, TEXT, sort_number}
use Rattle.conditions.specs.Working.TieTable.{fits-number}
use Rattle.conditions.specs.Word.{next_at}
use Rattle.syntax.specs.Parsed.{Parsed, ok, aside, unexpected}
use Rattle.conditions.specs.Operand.{settled_tree}
use Rattle.conditions.specs.Expression.{read_expression}
use Rattle.conditions.specs.Program as Read
use Rattle.conditions.specs.Working.Emit.{found, Ran, ran, refused, above, put, word_top, word_written, ended_at, valued_at}
use Rattle.conditions.specs.Working.Expression.{expr_at}
use Rattle.conditions.specs.Working.Program as Write
use Rattle.conditions.specs.Working.Written.{Grown, Then, then, grown-as, grown-then, grown-none, grown-put, append_assoc, keeps_self, kept, under}
use Rattle.conditions.specs.Working.Same.{PartCodes, SameAs, as-aside, as-ok, as-refused, same-on, as-on, both, start-within, Steps, both-next, both-done, loop-same}
use Rattle.conditions.specs.Working.TieOperand.{write-word-grown}
use Rattle.conditions.proofs.Working.TieExpression.{expression-same}
use Rattle.syntax.specs.Working.Faults.{against}
use Rattle.limits.specs.Limits.{most_brackets}

module _ (s : List ℕ) (short : length s < 65536) where
  abbrev SameClause : List ℕ → ℕ → Parsed Clause → Ran → Type 0
  SameClause m top = SameAs (ClauseCodes s) s m top

  abbrev SameProgram : List ℕ → ℕ → Parsed Program → Ran → Type 0
  SameProgram m top = SameAs (ProgramCodes s) s m top

  -- the end of a clause, behind what L holds of and what P holds of
  module _ (m₀ : List ℕ) (top₀ : ℕ) (m : List ℕ) (top : ℕ) (b : List ℕ) (u : ℕ) (L P : List ℕ → Type 0) (q : Clause) (op : ℕ) (small : op < 64)
      (f : (c d : List ℕ) → L c → P d → ClauseCodes s q (c ++ d ++ (entry op 0 ∷ []))) (g : Grown m₀ top₀ m top L) (h : Grown m top b u P) where
    ended-codes : (c d : List ℕ) → L c → Then P (entry op 0) d → ClauseCodes s q (c ++ d)
    ended-codes c _ l (then d p) = rw (sym (append_assoc c d (entry op 0 ∷ []))) (f c d l p)

    pub ended_same : (t : Token) → SameClause m₀ top₀ (Read.clause_end s q t) (ended_at s b u op t)
    unfolding Read.clause_end ended_at
    ended_same t =
        both (SameClause m₀ top₀) (eqb t.kind Kind.SEMICOLON) _ _ _ _
        (λ k. as-ok q TEST 0 (above b u) (next_at s t.end) (put b u op 0) (start-within s t.end)
        (grown-then m₀ top₀ m top (put b u op 0) (above b u) L (Then P (entry op 0)) (ClauseCodes s q) ended-codes g
        (grown-then m top b u (put b u op 0) (above b u) P (λ d. d ≡ entry op 0 ∷ []) (Then P (entry op 0)) (λ c d p r. rw r (then c p)) h
        (grown-put b u op 0 small (omega arith)))))
        (λ k. as-refused (ClauseCodes s) s m₀ top₀ t b (under g (kept h)))

  plain-same : (m₀ : List ℕ) (top₀ : ℕ) (b : List ℕ) (u : ℕ) (e : Expr) (t : Token) → Grown m₀ top₀ b u (Codes s e)
      → SameClause m₀ top₀ (Read.clause_end s (plain e) t) (ended_at s b u Op.PLAIN t)
  plain-same m₀ top₀ b u e t g =
      ended_same m₀ top₀ m₀ top₀ b u (λ c. c ≡ []) (Codes s e) (plain e) Op.PLAIN (omega arith) (λ c d l p. rw l (code-plain p))
      (grown-none m₀ top₀ (λ c. c ≡ []) refl) g t

  valued_same : (m₀ : List ℕ) (top₀ : ℕ) (m : List ℕ) (top : ℕ) (e : Expr) → Grown m₀ top₀ m top (Codes s e)
      → (x : PartSort) (p u : ℕ) (f : Expr) (n : Token) (b : List ℕ) → p < 65536 → Grown m top b u (λ c. PartCodes s p f c x)
      → SameClause m₀ top₀ (Read.valuing s e x f n) (valued_at s b u (sort_number x) p n)
  unfolding Read.valuing valued_at
  valued_same m₀ top₀ m top e g x p u f n b near h =
      rw (fits-number a-string x) (both (SameClause m₀ top₀) (fits a-string x) _ _ _ _
      (λ k. ended_same m₀ top₀ m top (word_written b u TEXT (sort_number x) p) (word_top b u (sort_number x)) (Codes s e) (Codes s (settled_tree a-string x f)) (valued e (settled_tree a-string x f)) Op.VALUED
      (omega arith) (λ c d l q. code-valued l q) g (write-word-grown s m top b u p f near a-string x h) n)
      (λ k. as-refused (ClauseCodes s) s m₀ top₀ n b (under g (kept h))))

  -- where a program stands
  data States (m₀ : List ℕ) (top₀ : ℕ) : Read.State → Write.State → Type 0 where
    states : (t : Token) (p : Program) (top : ℕ) (m : List ℕ) → t.start ≤ length s → Grown m₀ top₀ m top (ProgramCodes s p)
        → States m₀ top₀ (t, p) (t, top, m)

  module _ (m₀ : List ℕ) (top₀ : ℕ) where
    abbrev Turns : Step Read.State (Parsed Program) → Step Write.State Ran → Type 0
    Turns = Steps (States m₀ top₀) (SameProgram m₀ top₀)

    clause-on : (t : Token) (p : Program) (top : ℕ) (m : List ℕ) → Grown m₀ top₀ m top (ProgramCodes s p)
        → (q : Parsed Clause) (r : Ran) → SameClause m top q r → Turns (Read.on_clause t p q) (Write.on_clause t r)
    clause-on t p top m g _ _ (as-aside r i b k) = both-done (aside r i) (ran (Err (against r i)) b) (as-aside r i b (under g k))
    clause-on t p top m g _ _ (as-ok c x i u n b within h) =
        both Turns (leb n.start t.start) _ _ _ _
        (λ k. both-done (aside 0 t.start) (ran (Err (against 0 t.start)) b) (as-aside 0 t.start b (under g (kept h))))
        (λ k. both-next (n, also p c) (n, u, b) (states n (also p c) u b within
        (grown-then m₀ top₀ m top b u (ProgramCodes s p) (ClauseCodes s c) (ProgramCodes s (also p c)) (λ y z v w. code-also v w) g h)))

    last-same : (nest : ℕ) (t : Token) (p : Program) (top : ℕ) (m : List ℕ) → t.start ≤ length s → Grown m₀ top₀ m top (ProgramCodes s p)
        → SameProgram m₀ top₀ (Read.stopping nest p t) (ran (Write.last_at nest top t) m)
    unfolding Read.stopping Write.last_at
    last-same nest t p top m within g = last-cases (stops nest t.kind)
      where
        last-cases : (f : Bool) → SameProgram m₀ top₀ (pick f (ok p t) (unexpected t)) (ran (pick f (found TEST 0 top t) (refused t)) m)
        last-cases true = as-ok p TEST 0 top t m within g
        last-cases false = as-refused (ProgramCodes s) s m₀ top₀ t m (kept g)

    module _ (d nest : ℕ) (clause : (m : List ℕ) (top : ℕ) (t : Token) → t.start ≤ length s → SameClause m top (Read.read_clause d s nest t) (Write.clause_at d s m top nest t)) where
      clauses-turn : (x : Read.State) (y : Write.State) → States m₀ top₀ x y
          → Turns (Read.clauses_turn (λ nest t. Read.read_clause d s nest t) s nest x) (Write.clauses_turn (λ m top nest t. Write.clause_at d s m top nest t) s nest y)
      clauses-turn _ _ (states t p top m within g) =
          both Turns (leb (length s) t.start) _ _ _ _
          (λ h. both-done (Read.stopping nest p t) (ran (Write.last_at nest top t) m) (last-same nest t p top m within g))
          (λ h. both Turns (stops nest t.kind) _ _ _ _
          (λ k. both-done (ok p t) (ran (found TEST 0 top t) m) (as-ok p TEST 0 top t m within g))
          (λ k. clause-on t p top m g _ _ (clause m top t within)))

      measures : (x : Read.State) (y : Write.State) → States m₀ top₀ x y → length s - x.0.start ≡ length s - y.0.start
      measures _ _ (states t p top m within g) = refl

      outs : (x : Read.State) (y : Write.State) → States m₀ top₀ x y → SameProgram m₀ top₀ (aside 0 x.0.start) (ran (Err (against 0 y.0.start)) y.2)
      outs _ _ (states t p top m within g) = as-aside 0 t.start m (kept g)

      clauses-body : (t : Token) (top : ℕ) (m : List ℕ) → t.start ≤ length s → Grown m₀ top₀ m top (ProgramCodes s none)
          → SameProgram m₀ top₀ (Read.clauses_of (λ nest t. Read.read_clause d s nest t) s nest t) (Write.clauses_loop (λ m top nest t. Write.clause_at d s m top nest t) s m top nest t)
      clauses-body t top m within g =
          loop-same (λ x. length s - x.0.start) (λ x. aside 0 x.0.start) (Read.clauses_turn (λ nest t. Read.read_clause d s nest t) s nest)
          (λ x. length s - x.0.start) (λ x. ran (Err (against 0 x.0.start)) x.2) (Write.clauses_turn (λ m top nest t. Write.clause_at d s m top nest t) s nest)
          (States m₀ top₀) (SameProgram m₀ top₀) measures outs clauses-turn (t, none) (t, top, m) (states t none top m within g)

  mutual
    unfolding Read.read_clause Write.clause_at

    clause-same : (d : ℕ) (m : List ℕ) (top nest : ℕ) (t : Token) → t.start ≤ length s
        → SameClause m top (Read.read_clause d s nest t) (Write.clause_at d s m top nest t)
    clause-same zero m top nest t within = as-aside 0 t.start m (keeps_self m top)
    clause-same (suc d) m top nest t within =
        same-on (SameClause m top) s m top as-aside (read_expression d s 0 want-any 0 nest t) (expr_at d s m top 0 ANY 0 nest t)
        (λ sort e n. Read.read_tested d s nest sort e n) (λ x p u n b. Write.tested_at d s b u nest x p n)
        (λ x p u e n b near within g. tested-same d m top b u nest x p e n near g)
        (expression-same s short d m top 0 want-any 0 nest t within)

    tested-same : (d : ℕ) (m₀ : List ℕ) (top₀ : ℕ) (m : List ℕ) (top nest : ℕ) (sort : PartSort) (place : ℕ) (e : Expr) (t : Token) → place < 65536 → Grown m₀ top₀ m top (λ c. PartCodes s place e c sort)
        → SameClause m₀ top₀ (Read.read_tested d s nest sort e t) (Write.tested_at d s m top nest (sort_number sort) place t)
    tested-same zero m₀ top₀ m top nest sort place e t near g = as-aside 0 t.start m (kept g)
    tested-same (suc d) m₀ top₀ m top nest sort place e t near g =
        rw (fits-number a_test sort) (both (SameClause m₀ top₀) (fits a_test sort) _ _ _ _
        (λ h. both (SameClause m₀ top₀) (eqb t.kind Kind.ARROW) _ _ _ _
        (λ k. value_same d m₀ top₀ (word_written m top TEST (sort_number sort) place) (word_top m top (sort_number sort)) nest (settled_tree a_test sort e) (next_at s t.end) (start-within s t.end)
        (write-word-grown s m₀ top₀ m top place e near a_test sort g))
        (λ k. plain-same m₀ top₀ (word_written m top TEST (sort_number sort) place) (word_top m top (sort_number sort)) (settled_tree a_test sort e) t (write-word-grown s m₀ top₀ m top place e near a_test sort g)))
        (λ h. as-refused (ClauseCodes s) s m₀ top₀ t m (kept g)))

    value_same : (d : ℕ) (m₀ : List ℕ) (top₀ : ℕ) (m : List ℕ) (top nest : ℕ) (e : Expr) (t : Token) → t.start ≤ length s → Grown m₀ top₀ m top (Codes s e)
        → SameClause m₀ top₀ (Read.read_value d s nest e t) (Write.value_at d s m top nest t)
    value_same zero m₀ top₀ m top nest e t within g = as-aside 0 t.start m (kept g)
    value_same (suc d) m₀ top₀ m top nest e t within g =
        both (SameClause m₀ top₀) (eqb t.kind Kind.OPEN_BRACE) _ _ _ _
        (λ h. nested_same d m₀ top₀ m top nest e t g)
        (λ h. same-on (SameClause m₀ top₀) s m top (λ r p b k. as-aside r p b (under g k)) (read_expression d s 3 want-string 0 nest t) (expr_at d s m top 3 TEXT 0 nest t)
        (λ sort f n. Read.valuing s e sort f n) (λ x p u n b. valued_at s b u x p n)
        (λ x p u f n b near within h. valued_same m₀ top₀ m top e g x p u f n b near h)
        (expression-same s short d m top 3 want-string 0 nest t within))

    nested_same : (d : ℕ) (m₀ : List ℕ) (top₀ : ℕ) (m : List ℕ) (top nest : ℕ) (e : Expr) (t : Token) → Grown m₀ top₀ m top (Codes s e)
        → SameClause m₀ top₀ (Read.read_nested d s nest e t) (Write.nested_at d s m top nest t)
    nested_same zero m₀ top₀ m top nest e t g = as-aside 0 t.start m (kept g)
    nested_same (suc d) m₀ top₀ m top nest e t g =
        both (SameClause m₀ top₀) (leb most_brackets nest) _ _ _ _ (λ h. as-aside 7 t.start m (kept g))
        (λ h. as-on (SameClause m₀ top₀) s m top (λ r p b k. as-aside r p b (under g k)) (ProgramCodes s) (Read.read_block d s (nest + 1) (next_at s t.end))
        (Write.program_at d s m top (nest + 1) (next_at s t.end))
        (λ p n. Read.clause_end s (nested e p) (next_at s n.end)) (λ x p u n b. ended_at s b u Op.NESTED (next_at s n.end))
        (λ p x i u n b within h. ended_same m₀ top₀ m top b u (Codes s e) (ProgramCodes s p) (nested e p) Op.NESTED (omega arith) (λ c k l q. code-nested l q) g h (next_at s n.end))
        (block_same d m top (nest + 1) (next_at s t.end) (start-within s t.end)))

    pub block_same : (d : ℕ) (m : List ℕ) (top nest : ℕ) (t : Token) → t.start ≤ length s
        → SameProgram m top (Read.read_block d s nest t) (Write.program_at d s m top nest t)
    block_same zero m top nest t within = as-aside 0 t.start m (keeps_self m top)
    block_same (suc d) m top nest t within =
        clauses-same d m top (put m top Op.BEGIN 0) (above m top) nest t within
        (grown-as m top (put m top Op.BEGIN 0) (above m top) (λ c. c ≡ entry Op.BEGIN 0 ∷ []) (ProgramCodes s none) (λ c q. rw q code-none)
        (grown-put m top Op.BEGIN 0 (omega arith) (omega arith)))

    clauses-same : (d : ℕ) (m₀ : List ℕ) (top₀ : ℕ) (m : List ℕ) (top nest : ℕ) (t : Token) → t.start ≤ length s → Grown m₀ top₀ m top (ProgramCodes s none)
        → SameProgram m₀ top₀ (Read.read_clauses d s nest t) (Write.clauses_at d s m top nest t)
    clauses-same zero m₀ top₀ m top nest t within g = as-aside 0 t.start m (kept g)
    clauses-same (suc d) m₀ top₀ m top nest t within g =
        clauses-body m₀ top₀ d nest (λ m top t within. clause-same d m top nest t within) t top m within g

  -- The code that `conditions` writes says what the field says.
  pub conditions-same : (m : List ℕ) (top : ℕ) (t : Token) → t.start ≤ length s → top ≤ length m → length s - t.start ≤ length m - top
      → SameProgram m top (Read.read_program s t) (Write.conditions_at s m top t)
  unfolding Read.read_program Write.conditions_at
  conditions-same m top t within h k = rw (le-ltb _ _ h, le-ltb _ _ k) (block_same Read.DEPTH m top 0 t within)
