-- Programs, read into code. Assumes nothing.
use Rattle.std.specs.Prelude.{List, ℕ, zero, suc, ◌+◌, ◌-◌, eqb, leb, ltb, length, Ok, Err}
use Rattle.text.specs.Choice.{pick}
use Rattle.text.specs.Loop.{Step, next, done, loop}
use Rattle.lexical.specs.Kind
use Rattle.lexical.specs.declared.token.Token.{Token}
use Rattle.syntax.specs.Op
use Rattle.conditions.specs.Table.{stops}
use Rattle.conditions.specs.Working.Numbered.{ANY, TEST, TEXT, fits}
use Rattle.conditions.specs.Word.{next_at}
use Rattle.conditions.specs.Program.{DEPTH}
use Rattle.conditions.specs.Working.Emit.{found, Out, Ran, ran, on_found, above, put, word_top, word_written, refused, ended_at, valued_at}
use Rattle.conditions.specs.Working.Expression.{expr_at}
use Rattle.syntax.specs.Working.Faults.{against}
use Rattle.limits.specs.Limits.{most_brackets}

-- code, its end, brackets, token
abbrev pub Reader : Type 0
Reader = List ℕ → ℕ → ℕ → Token → Ran

abbrev pub clause_body : ℕ → (List ℕ → ℕ → ℕ → ℕ → ℕ → Token → Ran) → List ℕ → Reader
clause_body d tested s m top nest t = on_found (expr_at d s m top 0 ANY 0 nest t) (λ x p u n b. tested b u nest x p n)

abbrev pub tested_with : Reader → List ℕ → List ℕ → ℕ → ℕ → Token → Ran
tested_with value s m top nest t = pick (eqb t.kind Kind.ARROW) (value m top nest (next_at s t.end)) (ended_at s m top Op.PLAIN t)

abbrev pub tested_body : Reader → List ℕ → List ℕ → ℕ → ℕ → ℕ → ℕ → Token → Ran
tested_body value s m top nest sort place t =
    pick (fits TEST sort) (tested_with value s (word_written m top TEST sort place) (word_top m top sort) nest t) (ran (refused t) m)

abbrev pub value_body : ℕ → Reader → List ℕ → Reader
value_body d nested s m top nest t =
    pick (eqb t.kind Kind.OPEN_BRACE) (nested m top nest t) (on_found (expr_at d s m top 3 TEXT 0 nest t) (λ x p u n b. valued_at s b u x p n))

abbrev pub nested_body : Reader → List ℕ → Reader
nested_body program s m top nest t =
    pick (leb most_brackets nest) (ran (Err (against 7 t.start)) m)
    (on_found (program m top (nest + 1) (next_at s t.end)) (λ x p u n b. ended_at s b u Op.NESTED (next_at s n.end)))

abbrev pub program_body : Reader → Reader
program_body clauses m top nest t = clauses (put m top Op.BEGIN 0) (above m top) nest t

unfoldable pub last_at : ℕ → ℕ → Token → Out
last_at nest top t = pick (stops nest t.kind) (found TEST 0 top t) (refused t)

-- the token, the code's end and the code
abbrev pub State : Type 0
State = Token × ℕ × List ℕ

abbrev pub on_clause : Token → Ran → Step State Ran
on_clause t (ran (Err f) b) = done (ran (Err f) b)
on_clause t (ran (Ok q) b) = pick (leb q.next.start t.start) (done (ran (Err (against 0 t.start)) b)) (next (q.next, q.top, b))

abbrev pub clauses_turn : Reader → List ℕ → ℕ → State → Step State Ran
clauses_turn clause s nest x =
    pick (leb (length s) x.0.start) (done (ran (last_at nest x.1 x.0) x.2))
    (pick (stops nest x.0.kind) (done (ran (found TEST 0 x.1 x.0) x.2))
    (on_clause x.0 (clause x.2 x.1 nest x.0)))

abbrev pub clauses_loop : Reader → List ℕ → Reader
clauses_loop clause s m top nest t = loop (λ x. length s - x.0.start) (λ x. ran (Err (against 0 x.0.start)) x.2) (clauses_turn clause s nest) (t, top, m)

unfoldable mutual
  pub clause_at : ℕ → List ℕ → List ℕ → ℕ → ℕ → Token → Ran
  clause_at zero s m top nest t = ran (Err (against 0 t.start)) m
  clause_at (suc d) s m top nest t = clause_body d (λ m top nest sort place t. tested_at d s m top nest sort place t) s m top nest t

  pub tested_at : ℕ → List ℕ → List ℕ → ℕ → ℕ → ℕ → ℕ → Token → Ran
  tested_at zero s m top nest sort place t = ran (Err (against 0 t.start)) m
  tested_at (suc d) s m top nest sort place t = tested_body (λ m top nest t. value_at d s m top nest t) s m top nest sort place t

  pub value_at : ℕ → List ℕ → List ℕ → ℕ → ℕ → Token → Ran
  value_at zero s m top nest t = ran (Err (against 0 t.start)) m
  value_at (suc d) s m top nest t = value_body d (λ m top nest t. nested_at d s m top nest t) s m top nest t

  pub nested_at : ℕ → List ℕ → List ℕ → ℕ → ℕ → Token → Ran
  nested_at zero s m top nest t = ran (Err (against 0 t.start)) m
  nested_at (suc d) s m top nest t = nested_body (λ m top nest t. program_at d s m top nest t) s m top nest t

  pub program_at : ℕ → List ℕ → List ℕ → ℕ → ℕ → Token → Ran
  program_at zero s m top nest t = ran (Err (against 0 t.start)) m
  program_at (suc d) s m top nest t = program_body (λ m top nest t. clauses_at d s m top nest t) m top nest t

  pub clauses_at : ℕ → List ℕ → List ℕ → ℕ → ℕ → Token → Ran
  clauses_at zero s m top nest t = ran (Err (against 0 t.start)) m
  clauses_at (suc d) s m top nest t = clauses_loop (λ m top nest t. clause_at d s m top nest t) s m top nest t

-- the rest of a program, with its clauses at the depth k
unfoldable pub clauses_rest : ℕ → List ℕ → List ℕ → ℕ → ℕ → Token → Ran
clauses_rest k s m top nest t = clauses_loop (λ m top nest t. clause_at k s m top nest t) s m top nest t

-- a whole field, with room for an entry for each byte from its first token on
unfoldable pub conditions_at : List ℕ → List ℕ → ℕ → Token → Ran
conditions_at s m top t =
    pick (ltb (length m) top) (ran (Err (against 0 t.start)) m)
    (pick (ltb (length m - top) (length s - t.start)) (ran (Err (against 0 t.start)) m) (program_at DEPTH s m top 0 t))
