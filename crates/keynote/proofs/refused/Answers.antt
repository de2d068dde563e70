use Rattle.keynote.specs.Working.Answering.{refused-is}
use Rattle.keynote.proofs.refused.Goals as goal

pub returns : goal.returns
returns c = search refused-is
