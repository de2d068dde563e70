use mathlib.Core.Path.{◌≡◌}
use mathlib.Core.List.{[], map}
use Prim.Native.Nat.{◌-◌, ◌≤◌}
use lib.ListN.{length, take}
use Rattle.text.specs.Counted.{counted}
use Rattle.expression.specs.Tables.{lookup_in}
use Rattle.machine.specs.Working.Machine.{exec, on}
use Rattle.machine.specs.Working.Running.{exec_from}
use Rattle.machine.proofs.run_live.Given as goal

abbrev pub invariant-loop-i : goal.invariant-loop-i
invariant-loop-i l = (length l.stack ≡ length l.initial.stack) × ((length l.bytes ≡ length l.initial.bytes) × ((l.n ≤ length l.stack) × ((l.t ≤ length l.bytes) × (exec_from (length l.initial.stack) (length l.initial.bytes) l.s (lookup_in l.scope.query.now l.scope.consts.now l.scope.values.now l.scope.names.now l.scope.constants.now) (map (counted l.scope.query.now) l.scope.values.now) l.code l.i (take l.n l.stack) (take l.t l.bytes) ≡ exec (length l.initial.stack) (length l.initial.bytes) l.s (lookup_in l.scope.query.now l.scope.consts.now l.scope.values.now l.scope.names.now l.scope.constants.now) (map (counted l.scope.query.now) l.scope.values.now) l.code (on [] [])))))

abbrev pub decreases-loop-i : goal.decreases-loop-i
decreases-loop-i l = length l.code - l.i
