use Rattle.std.proofs.Common.{◌≡◌, ◌-◌}
use Rattle.float.specs.Operations.{power_from, power}
use Rattle.float.proofs.operation.raise_to.Given as goal

abbrev pub invariant-loop-n : goal.invariant-loop-n
invariant-loop-n l = power_from (65 - l.n) l.n l.x l.y ≡ power l.x l.y
