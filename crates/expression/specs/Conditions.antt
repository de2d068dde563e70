-- What expressions give and what Conditions are worth. Assumes nothing.
use Rattle.std.specs.Prelude.{false, List, [], ◌∷◌, ℕ, suc, ◌-◌, max, length}
use Rattle.text.specs.Choice.{pick}
use Rattle.text.specs.Equal.{equal}
use Rattle.float.specs.Written.{float_of}
use Rattle.syntax.specs.Expr.{Expr, literal, name, number, truth, decimal, unary, binary, Program, none, also, Clause, plain, valued, nested}
use Rattle.expression.specs.Value.{Value, text, integer, test, rank, float, fault}
use Rattle.expression.specs.Integers.{ranged}
use Rattle.expression.specs.Names.{Environment, lookup}
use Rattle.expression.specs.Operations.{held, unary_of, binary_of}

-- an expression's value
unfoldable pub evaluate : Environment → Expr → Value
evaluate env (literal b) = held b
evaluate env (name n) = held (lookup env n)
evaluate env (number n) = ranged false n
evaluate env (truth t) = test t
evaluate env (decimal b) = float (float_of b)
evaluate env (unary op e) = unary_of (lookup env) op (evaluate env e)
evaluate env (binary op e f) = binary_of op (evaluate env e) (evaluate env f)

-- the index of a string among the compliance values, from n on; "a string outside the value set" is 0
unfoldable pub index_from : ℕ → List (List ℕ) → List ℕ → ℕ
index_from n [] b = 0
index_from n (x ∷ xs) b = pick (equal x b) n (index_from (suc n) xs b)

unfoldable pub rank_of : List (List ℕ) → Value → ℕ
rank_of vs (text b) = index_from 0 vs b
rank_of vs (integer i) = 0
rank_of vs (test t) = 0
rank_of vs (rank n) = 0
rank_of vs (float x) = 0
rank_of vs fault = 0

-- "no value means top"
unfoldable pub top : List (List ℕ) → ℕ
top vs = length vs - 1

-- what a clause counts for: nothing where its test does not hold; "An error met makes the clause's whole test false"
abbrev pub gate : Value → ℕ → ℕ
gate (text b) n = 0
gate (integer i) n = 0
gate (test t) n = pick t n 0
gate (rank m) n = 0
gate (float x) n = 0
gate fault n = 0

-- "the maximum over clauses whose test holds"
unfoldable mutual
  pub conditions : Environment → Program → ℕ
  conditions env none = 0
  conditions env (also p q) = max (conditions env p) (clause env q)

  pub clause : Environment → Clause → ℕ
  clause env (plain e) = gate (evaluate env e) (top env.values)
  clause env (valued e f) = gate (evaluate env e) (rank_of env.values (evaluate env f))
  clause env (nested e p) = gate (evaluate env e) (conditions env p)
