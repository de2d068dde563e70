use Rattle.std.proofs.Common.{◌≡◌, ◌-◌}
use Rattle.float.specs.Operations.{raised_from, raised}
use Rattle.float.proofs.operation.raise.Given as goal

abbrev pub invariant-loop : goal.invariant-loop
invariant-loop l = raised_from (l.n - l.counter) l.x l.v ≡ raised l.n l.x
