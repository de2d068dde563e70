use Rattle.std.proofs.Common.{◌∙◌}
use Rattle.float.specs.Working.Computing.{finite-is}
use Rattle.float.proofs.operation.is_finite.Goals as goal

pub returns : goal.returns
returns c = c.is_finite.ensures.value ∙ finite-is c.args.x
