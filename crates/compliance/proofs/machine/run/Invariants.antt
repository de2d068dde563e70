use Rattle.std.proofs.Common.{◌≡◌, ◌≤◌, [], length, take}
use Rattle.compliance.specs.Working.Machine.{exec, exec_from}
use Rattle.compliance.proofs.machine.run.Given as goal

abbrev pub invariant-loop-op : goal.invariant-loop-op
invariant-loop-op l = (l.sp ≤ length l.stack) × (exec_from l.ranks l.top (length l.initial.stack) l.code l.op-index (take l.sp l.stack) ≡ exec l.ranks l.top (length l.initial.stack) l.code [])
