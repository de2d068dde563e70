-- Which names stand in Conditions as strings, and whether "$" does. Assumes nothing.
use Rattle.std.specs.Prelude.{Bool, false, ◌||◌, List, ℕ}
use Rattle.text.specs.Equal.{equal}
use Rattle.syntax.specs.Operator.{is_lookup}
use Rattle.syntax.specs.Expr.{Expr, literal, name, number, truth, decimal, unary, binary, Program, none, also, Clause, plain, valued, nested}

-- "the name stands there as a string"
unfoldable pub names : Expr → List ℕ → Bool
names (literal b) n = false
names (name m) n = equal m n
names (number k) n = false
names (truth t) n = false
names (decimal b) n = false
names (unary op e) n = names e n
names (binary op e f) n = names e n || names f n

unfoldable mutual
  pub program_names : Program → List ℕ → Bool
  program_names none n = false
  program_names (also p q) n = program_names p n || clause_names q n

  pub clause_names : Clause → List ℕ → Bool
  clause_names (plain e) n = names e n
  clause_names (valued e f) n = names e n || names f n
  clause_names (nested e p) n = names e n || program_names p n

-- "$" stands there, which computes the name that it reads
unfoldable pub computes : Expr → Bool
computes (literal b) = false
computes (name m) = false
computes (number k) = false
computes (truth t) = false
computes (decimal b) = false
computes (unary op e) = is_lookup op || computes e
computes (binary op e f) = computes e || computes f

unfoldable mutual
  pub program_computes : Program → Bool
  program_computes none = false
  program_computes (also p q) = program_computes p || clause_computes q

  pub clause_computes : Clause → Bool
  clause_computes (plain e) = computes e
  clause_computes (valued e f) = computes e || computes f
  clause_computes (nested e p) = computes e || program_computes p
