use Rattle.std.proofs.Common.{◌≡◌}
use Rattle.expression.specs.Tables.{first_from}
use Rattle.expression.specs.Working.Searching.{first_rest}
use Rattle.orders.proofs.find_by.Given as goal

abbrev pub invariant-loop-i : goal.invariant-loop-i
invariant-loop-i g l = first_rest l.s l.name l.places l.i ≡ first_from l.s l.name 0 l.places
