use Rattle.index.specs.Working.Entering.{link-past, link_at}
use Rattle.index.proofs.link.Goals as goal

pub returns-then-places-i : goal.returns-then-places-i
returns-then-places-i c = search link-past

pub returns : goal.returns
returns c = search link_at
