-- Which names Conditions read. Assumes nothing.
use Rattle.std.specs.Prelude.{◌≡◌, Bool, true, false, ◌||◌, List, [], ◌∷◌, ℕ}
use Rattle.text.specs.Choice.{pick}
use Rattle.text.specs.Equal.{equal}
use Rattle.record.specs.Query.{Attribute}
use Rattle.syntax.specs.Operator.{is_lookup}
use Rattle.syntax.specs.Expr.{Expr, literal, name, number, truth, decimal, unary, binary, Program, none, also, Clause, plain, valued, nested}
use Rattle.expression.specs.Names.{Environment}

-- "the name stands there as a string"; "$" may read any name
unfoldable pub reads : Expr → List ℕ → Bool
reads (literal b) n = false
reads (name m) n = equal m n
reads (number k) n = false
reads (truth t) n = false
reads (decimal b) n = false
reads (unary op e) n = is_lookup op || reads e n
reads (binary op e f) n = reads e n || reads f n

unfoldable mutual
  pub program_reads : Program → List ℕ → Bool
  program_reads none n = false
  program_reads (also p q) n = program_reads p n || clause_reads q n

  pub clause_reads : Clause → List ℕ → Bool
  clause_reads (plain e) n = reads e n
  clause_reads (valued e f) n = reads e n || reads f n
  clause_reads (nested e p) n = reads e n || program_reads p n

-- is the name set by a constant?
unfoldable pub is_set : List Attribute → List ℕ → Bool
is_set [] n = false
is_set (a ∷ l) n = pick (equal a.name n) true (is_set l n)

-- attributes alike: the same names in order, and the same values wherever R holds of the name
pub data Alike (R : List ℕ → Type 0) : List Attribute → List Attribute → Type 0 where
  alike[] : Alike R [] []
  alike∷ : {a b : Attribute} {l m : List Attribute} → a.name ≡ b.name → (R a.name → a.value ≡ b.value) → Alike R l m → Alike R (a ∷ l) (b ∷ m)

-- the environment with other attributes
unfoldable pub with_attributes : Environment → List Attribute → Environment
with_attributes env l = record { constants = env.constants; values = env.values; requesters = env.requesters; attributes = l }
