-- What a Conditions field says. Assumes nothing.
use Rattle.std.specs.Prelude.{Bool, List, ℕ}
use Rattle.syntax.specs.Operator.{Unary, Binary}

-- strings, integers, floats and tests; a float literal is the bytes that write it
pub data Expr : Type 0 where
  literal : List ℕ → Expr
  name : List ℕ → Expr
  number : ℕ → Expr
  truth : Bool → Expr
  decimal : List ℕ → Expr
  unary : Unary → Expr → Expr
  binary : Binary → Expr → Expr → Expr

-- "clauses ended by ";", each a test, test -> string expression, or test -> { clauses }"
mutual
  pub data Program : Type 0 where
    none : Program
    also : Program → Clause → Program

  pub data Clause : Type 0 where
    plain : Expr → Clause
    valued : Expr → Expr → Clause
    nested : Expr → Program → Clause
