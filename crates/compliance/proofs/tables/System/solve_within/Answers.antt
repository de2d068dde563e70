use Rattle.limits.specs.Limits.{most_assertions}
use Rattle.compliance.specs.Working.Solve.{part-blank}
use Rattle.compliance.proofs.tables.System.solve_within.Goals as goal

pub solve_in-requires : goal.solve_in-requires
solve_in-requires g c = part-blank _ _ c.requires.within.1 c.requires.wide.0 _ c.requires.wide.1 most_assertions _ c.requires.within.0
