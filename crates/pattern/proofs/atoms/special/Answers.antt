use Rattle.std.proofs.Common.{◌∙◌}
use Rattle.pattern.specs.Working.Scan.{way-special}
use Rattle.pattern.proofs.atoms.special.Goals as goal

pub returns : goal.returns
returns c = c.contains.ensures.value ∙ way-special c.args.b
