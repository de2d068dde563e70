use mathlib.Core.Path.{◌≡◌}
use Rattle.naming.specs.String.{plain_from}
use Rattle.naming.proofs.list.plain_from.Given as goal

abbrev pub invariant-loop-left : goal.invariant-loop-left
invariant-loop-left l = plain_from l.left l.s l.t ≡ plain_from l.initial.left l.s l.initial.t

abbrev pub decreases-loop-left : goal.decreases-loop-left
decreases-loop-left l = l.left
