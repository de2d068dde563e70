-- The string that code leaves, put into a buffer. Assumes nothing.
use Rattle.std.specs.Prelude.{List, [], map, ℕ, length, Option, Some, None}
use Rattle.text.specs.Counted.{counted}
use Rattle.text.specs.Copy.{Copied, copied, copy_at}
use Rattle.expression.specs.Tables.{lookup_in}
use Rattle.machine.specs.Working.Machine.{State, on, stuck, exec}

-- how many bytes it has, and the buffer after it
pub data Gave : Type 0 where
  gave : Option ℕ → List ℕ → Gave

abbrev pub buffer_of : Copied → List ℕ
buffer_of (copied b out) = out

-- all bytes that are left are the string's; a longer one than the buffer is only counted
unfoldable pub string_of : State → List ℕ → Gave
string_of (on vs bs) out = gave (Some (length bs)) (buffer_of (copy_at out 0 bs))
string_of stuck out = gave None out

-- with room for so many numbers and bytes
unfoldable pub string_in : ℕ → ℕ → List ℕ → List ℕ → List ℕ → List ℕ → List ℕ → List ℕ → List ℕ → List ℕ → Gave
string_in depth room code s rec consts values names constants out =
    string_of (exec depth room s (lookup_in rec consts values names constants) (map (counted rec) values) code (on [] [])) out
