use Rattle.system.specs.Working.Solving.{rows_are}
use Rattle.system.proofs.solved.solve_rows.Goals as goal

pub returns : goal.returns
returns c = search rows_are
