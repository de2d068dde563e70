-- What `judge` gives is what the Conditions field says. Assumes nothing.
use Rattle.std.specs.Prelude.{◌≡◌, List, ℕ, ◌-◌, ◌%◌, ◌≤◌, length, Err}
use Rattle.std.proofs.Common.{arith}
use Rattle.lexical.specs.declared.token.Token.{Token}
use Rattle.syntax.specs.Expr.{Program}
use Rattle.syntax.specs.Parsed.{Parsed, ok, aside}
use Rattle.syntax.specs.Stood.{Stood}
use Rattle.expression.specs.Names.{Environment}
use Rattle.expression.specs.Conditions.{conditions, top}
use Rattle.expression.specs.Theorems.Topmost.{conditions-most}
use Rattle.syntax.specs.Working.Faults.{against}
use Rattle.judge.specs.Working.Judging.{Judged, ranked}

-- room for the strings of every program that a text of this length has
abbrev pub Wide : ℕ → Type 0
Wide space = 77824 ≤ space

-- the same reason of document 01 at the same place; or the rank of the program, before a token of the text
pub data Judging (s : List ℕ) (env : Environment) : Parsed Program → Judged → Type 0 where
  judged-aside : (r p : ℕ) → (r ≡ 0 → ⊥) → Judging s env (aside r p) (Err (against r p))
  judged-on : (q : Program) (n : Token) → Stood s n → Judging s env (ok q n) (ranked (conditions env q) n)

-- a rank of at most 256 values is a byte
small : (k n : ℕ) → k ≤ n - 1 → n ≤ 256 → k % 256 ≡ k
small k n h i = omega (arith, h, i)

pub rank-byte : (env : Environment) (q : Program) → length env.values ≤ 256 → conditions env q % 256 ≡ conditions env q
unfolding top
rank-byte env q h = small (conditions env q) (length env.values) (conditions-most env q) h
