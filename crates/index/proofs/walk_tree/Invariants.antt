use Rattle.std.proofs.Common.{◌≡◌, ◌-◌}
use Rattle.index.specs.Working.Walking.{walked}
use Rattle.index.proofs.walk_tree.Given as goal

abbrev pub invariant-loop : goal.invariant-loop
invariant-loop l = walked l.pool l.places l.n l.id (l.n - l.counter) l.last l.rest ≡ walked l.pool l.places l.n l.id l.n 0 l.t
