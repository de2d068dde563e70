-- How the machine's lists lie in the lent buffers. Assumes nothing.
use Rattle.std.specs.Prelude.{◌≡◌, List, ℕ, ◌+◌, ◌-◌, ◌≤◌, ltb, length, take, set, Option, Some, None}
use Rattle.text.specs.Choice.{pick}
use Rattle.expression.specs.Operands.{kind_of, size_of, width}
use Rattle.expression.specs.declared.value.Operand.{Operand}
use Rattle.machine.specs.Working.Machine.{State, on, stuck}
use Rattle.machine.specs.declared.Tops.{Tops}

-- how much the stacks hold, or nothing where the machine can't go on
abbrev pub Reached : Type 0
Reached = Option Tops

abbrev pub tops : ℕ → ℕ → Reached
tops n t = Some (record { numbers = n; bytes = t })

-- the fronts of the buffers that are in use
abbrev pub shown : Reached → List ℕ → List ℕ → State
shown (Some w) stack bytes = on (take w.numbers stack) (take w.bytes bytes)
shown None stack bytes = stuck

abbrev pub Within : Reached → List ℕ → List ℕ → Type 0
Within (Some w) stack bytes = (w.numbers ≤ length stack) × (w.bytes ≤ length bytes)
Within None stack bytes = Unit {0}

pub record Live (r : Reached) (stack bytes : List ℕ) (st : State) : Type 0 where
  pub within : Within r stack bytes
  pub holds : shown r stack bytes ≡ st

-- what putting an operand tells, and the stack after it
pub data Landed : Type 0 where
  landed : Reached → List ℕ → Landed

unfoldable pub put_at : List ℕ → ℕ → ℕ → Operand → Landed
put_at stack n t v =
    pick (ltb (length stack) n) (landed None stack)
    (pick (ltb (length stack - n) 2) (landed None stack) (landed (tops (n + 2) t) (set (set stack n (kind_of v)) (n + 1) (size_of v))))

-- an operand whose string starts at `base`, put below the top
unfoldable pub put_below : List ℕ → ℕ → ℕ → ℕ → Operand → Landed
put_below stack n t base v =
    pick (ltb t base) (landed None stack) (pick (ltb (t - base) (width v)) (landed None stack) (put_at stack n (base + width v) v))
