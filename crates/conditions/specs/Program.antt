-- Programs: "clauses ended by ";", each a test, test -> string expression, or test -> { clauses }". Assumes nothing.
use Rattle.std.specs.Prelude.{List, ℕ, zero, suc, ◌+◌, ◌-◌, ◌*◌, eqb, leb, length}
use Rattle.text.specs.Choice.{pick}
use Rattle.text.specs.Loop.{Step, next, done, loop}
use Rattle.lexical.specs.Kind
use Rattle.lexical.specs.declared.token.Token.{Token}
use Rattle.syntax.specs.Expr.{Expr, Program, none, also, Clause, plain, valued, nested}
use Rattle.syntax.specs.Operator.{a-string, a_test}
use Rattle.conditions.specs.Table.{PartSort, want-any, want-string, fits, stops}
use Rattle.conditions.specs.Word.{next_at}
use Rattle.syntax.specs.Parsed.{Parsed, ok, aside, unexpected, and_then}
use Rattle.conditions.specs.Parsed.{on_part}
use Rattle.conditions.specs.Operand.{settled_tree}
use Rattle.conditions.specs.Expression.{read_expression}
use Rattle.limits.specs.Limits.{most_brackets, most_prefixes}

-- the ";" that ends a clause
unfoldable pub clause_end : List ℕ → Clause → Token → Parsed Clause
clause_end s q t = pick (eqb t.kind Kind.SEMICOLON) (ok q (next_at s t.end)) (unexpected t)

-- a clause's test must be a test, or a bare word
abbrev pub clause_of : ℕ → (ℕ → PartSort → Expr → Token → Parsed Clause) → List ℕ → ℕ → Token → Parsed Clause
clause_of d tested s nest t = on_part (read_expression d s 0 want-any 0 nest t) (λ sort e n. tested nest sort e n)

abbrev pub tested_with : (ℕ → Expr → Token → Parsed Clause) → List ℕ → ℕ → Expr → Token → Parsed Clause
tested_with value s nest e t = pick (eqb t.kind Kind.ARROW) (value nest e (next_at s t.end)) (clause_end s (plain e) t)

abbrev pub tested_of : (ℕ → Expr → Token → Parsed Clause) → List ℕ → ℕ → PartSort → Expr → Token → Parsed Clause
tested_of value s nest sort e t = pick (fits a_test sort) (tested_with value s nest (settled_tree a_test sort e) t) (unexpected t)

-- a value is a string
unfoldable pub valuing : List ℕ → Expr → PartSort → Expr → Token → Parsed Clause
valuing s e sort f t = pick (fits a-string sort) (clause_end s (valued e (settled_tree a-string sort f)) t) (unexpected t)

-- or a program in brackets
abbrev pub value_of : ℕ → (ℕ → Expr → Token → Parsed Clause) → List ℕ → ℕ → Expr → Token → Parsed Clause
value_of d block s nest e t =
    pick (eqb t.kind Kind.OPEN_BRACE) (block nest e t) (on_part (read_expression d s 3 want-string 0 nest t) (λ sort f n. valuing s e sort f n))

-- reason 7: "16 brackets open (round and curly together)"
abbrev pub nested_of : (ℕ → Token → Parsed Program) → List ℕ → ℕ → Expr → Token → Parsed Clause
nested_of program s nest e t =
    pick (leb most_brackets nest) (aside 7 t.start)
    (and_then (program (nest + 1) (next_at s t.end)) (λ p n. clause_end s (nested e p) (next_at s n.end)))

-- the token, and the clauses before it
abbrev pub State : Type 0
State = Token × Program

abbrev pub on_clause : Token → Program → Parsed Clause → Step State (Parsed Program)
on_clause t p (aside r q) = done (aside r q)
on_clause t p (ok c n) = pick (leb n.start t.start) (done (aside 0 t.start)) (next (n, also p c))

unfoldable pub stopping : ℕ → Program → Token → Parsed Program
stopping nest p t = pick (stops nest t.kind) (ok p t) (unexpected t)

abbrev pub clauses_turn : (ℕ → Token → Parsed Clause) → List ℕ → ℕ → State → Step State (Parsed Program)
clauses_turn clause s nest x =
    pick (leb (length s) x.0.start) (done (stopping nest x.1 x.0))
    (pick (stops nest x.0.kind) (done (ok x.1 x.0))
    (on_clause x.0 x.1 (clause nest x.0)))

abbrev pub clauses_of : (ℕ → Token → Parsed Clause) → List ℕ → ℕ → Token → Parsed Program
clauses_of clause s nest t = loop (λ x. length s - x.0.start) (λ x. aside 0 x.0.start) (clauses_turn clause s nest) (t, none)

unfoldable mutual
  pub read_clause : ℕ → List ℕ → ℕ → Token → Parsed Clause
  read_clause zero s nest t = aside 0 t.start
  read_clause (suc d) s nest t = clause_of d (λ nest sort e t. read_tested d s nest sort e t) s nest t

  pub read_tested : ℕ → List ℕ → ℕ → PartSort → Expr → Token → Parsed Clause
  read_tested zero s nest sort e t = aside 0 t.start
  read_tested (suc d) s nest sort e t = tested_of (λ nest e t. read_value d s nest e t) s nest sort e t

  pub read_value : ℕ → List ℕ → ℕ → Expr → Token → Parsed Clause
  read_value zero s nest e t = aside 0 t.start
  read_value (suc d) s nest e t = value_of d (λ nest e t. read_nested d s nest e t) s nest e t

  pub read_nested : ℕ → List ℕ → ℕ → Expr → Token → Parsed Clause
  read_nested zero s nest e t = aside 0 t.start
  read_nested (suc d) s nest e t = nested_of (λ nest t. read_block d s nest t) s nest e t

  pub read_block : ℕ → List ℕ → ℕ → Token → Parsed Program
  read_block zero s nest t = aside 0 t.start
  read_block (suc d) s nest t = read_clauses d s nest t

  pub read_clauses : ℕ → List ℕ → ℕ → Token → Parsed Program
  read_clauses zero s nest t = aside 0 t.start
  read_clauses (suc d) s nest t = clauses_of (λ nest t. read_clause d s nest t) s nest t

-- a depth that no text exhausts
abbrev pub DEPTH : ℕ
DEPTH = 10 + 3 * (7 * (most_prefixes + 1) * most_brackets + 6 * (most_prefixes + 1) + most_prefixes)

-- a Conditions field, from the token behind its label on
unfoldable pub read_program : List ℕ → Token → Parsed Program
read_program s t = read_block DEPTH s 0 t
