-- The reader of expressions against the trees and the automaton. Assumes nothing.
use Rattle.std.specs.Prelude.{◌≡◌, false, List, ℕ, ◌+◌, ◌≤◌}
use Rattle.std.proofs.Common.{arith, leb-false}
use Rattle.lexical.specs.declared.token.Token.{Token}
use Rattle.syntax.specs.Operator.{Binary}
use Rattle.conditions.specs.Table.{PartSort, sorted, word, Want, want-any, want-string, want-number, want-integer, want-float, is_any}
use Rattle.conditions.specs.Table
use Rattle.conditions.specs.Working.Pace.{Sound}
use Rattle.grammar.specs.Conditions.{TRUTH}

-- an operator that a level takes, and the next tighter one does not, is of that level at most
pub operator-low : (l : ℕ) (op : Binary) (lo : ℕ) → Table.level_of op ≡ lo → Table.binds (l + 1) (Table.between op) ≡ false → lo ≤ l
unfolding Table.binds
operator-low l op lo e b = omega (arith, e, leb-false (l + 1) (Table.level_of op) b)

-- a token of the text
pub data Real (s : List ℕ) (u : Token) : Type 0 where
  real-token : Sound s u → (u.kind ≡ TRUTH → ⊥) → Real s u
