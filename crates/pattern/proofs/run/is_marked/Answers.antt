use Rattle.pattern.specs.Working.Skip.{way-byte}
use Rattle.pattern.proofs.run.is_marked.Goals as goal

pub returns : goal.returns
returns c = way-byte c.args.m.now c.args.c _ c.ranges.c.fits c.from.ensures
