use Rattle.std.proofs.Common.{◌∙◌}
use Rattle.text.specs.Working.Joining.{lead-byte}
use Rattle.text.proofs.lead.Goals as goal

pub returns : goal.returns
returns c = c.from.ensures ∙ lead-byte c.args.i
