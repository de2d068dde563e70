use Rattle.std.proofs.Common.{◌∙◌}
use Rattle.pattern.specs.Working.Skip.{way-idle, way-busy}
use Rattle.pattern.proofs.run.Pattern.is_idle.Goals as goal

pub returns-then-x-eq0 : goal.returns-then-x-eq0
returns-then-x-eq0 c = c.same_places.ensures ∙ way-idle c.args.x c.args.self.now.whole.fm c.if-x-eq0.true

pub returns-else-x-eq0 : goal.returns-else-x-eq0
returns-else-x-eq0 c = search way-busy
