-- The operand that code leaves, the tables shown. Assumes nothing.
use Rattle.std.specs.Prelude.{List, [], map, ℕ}
use Rattle.text.specs.Counted.{counted}
use Rattle.expression.specs.Tables.{lookup_in}
use Rattle.expression.specs.declared.value.Operand.{Operand}
use Rattle.machine.specs.Working.Machine.{on, exec, result_of}

-- with room for so many numbers and bytes
unfoldable pub left_in : ℕ → ℕ → List ℕ → List ℕ → List ℕ → List ℕ → List ℕ → List ℕ → List ℕ → Operand
left_in depth room code s rec consts values names constants =
    result_of (exec depth room s (lookup_in rec consts values names constants) (map (counted rec) values) code (on [] []))
