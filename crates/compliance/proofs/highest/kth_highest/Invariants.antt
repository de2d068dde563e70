use Rattle.std.proofs.Common.{◌≡◌}
use Rattle.compliance.specs.Highest.{highest}
use Rattle.compliance.specs.Working.Highest.{best_from}
use Rattle.compliance.proofs.highest.kth_highest.Given as goal

abbrev pub invariant-loop-x : goal.invariant-loop-x
invariant-loop-x l = best_from l.k l.values l.x-index l.best ≡ highest l.k l.values
