-- Conditions are worth at most the top compliance value. Assumes nothing.
use Rattle.std.specs.Prelude.{Bool, true, false, List, [], ◌∷◌, ℕ, suc, ◌+◌, ◌-◌, ◌≤◌, length}
use Rattle.std.proofs.Common.{arith}
use Rattle.text.specs.Choice.{pick}
use Rattle.text.specs.Equal.{equal}
use Rattle.syntax.specs.Expr.{Program, none, also, Clause, plain, valued, nested}
use Rattle.expression.specs.Value.{Value, text, integer, test, rank, float, fault}
use Rattle.expression.specs.Names.{Environment}
use Rattle.expression.specs.Conditions.{evaluate, index_from, rank_of, top, gate, conditions, clause}

pick-most : (t : Bool) (a b m : ℕ) → a ≤ m → b ≤ m → pick t a b ≤ m
pick-most true a b m h k = h
pick-most false a b m h k = k

index-most : (n : ℕ) (vs : List (List ℕ)) (b : List ℕ) → index_from n vs b ≤ n + length vs - 1
unfolding index_from
index-most n [] b = omega arith
index-most n (x ∷ xs) b = pick-most (equal x b) n (index_from (suc n) xs b) _ (omega arith) (omega (arith, index-most (suc n) xs b))

rank_most : (vs : List (List ℕ)) (v : Value) → rank_of vs v ≤ top vs
unfolding rank_of top
rank_most vs (text b) = omega (arith, index-most 0 vs b)
rank_most vs (integer i) = omega arith
rank_most vs (test t) = omega arith
rank_most vs (rank n) = omega arith
rank_most vs (float x) = omega arith
rank_most vs fault = omega arith

gate-most : (v : Value) (n m : ℕ) → n ≤ m → gate v n ≤ m
gate-most (text b) n m h = omega arith
gate-most (integer i) n m h = omega arith
gate-most (test t) n m h = pick-most t n 0 m h (omega arith)
gate-most (rank k) n m h = omega arith
gate-most (float x) n m h = omega arith
gate-most fault n m h = omega arith

mutual
  unfolding conditions clause

  pub conditions-most : (env : Environment) (p : Program) → conditions env p ≤ top env.values
  conditions-most env none = omega arith
  conditions-most env (also p q) = omega (arith, conditions-most env p, clause-most env q)

  clause-most : (env : Environment) (q : Clause) → clause env q ≤ top env.values
  clause-most env (plain e) = gate-most (evaluate env e) (top env.values) (top env.values) (omega arith)
  clause-most env (valued e f) = gate-most (evaluate env e) (rank_of env.values (evaluate env f)) (top env.values) (rank_most env.values (evaluate env f))
  clause-most env (nested e p) = gate-most (evaluate env e) (conditions env p) (top env.values) (conditions-most env p)
