use Rattle.index.specs.Working.Adding.{put-past}
use Rattle.index.proofs.put_entry.Goals as goal

pub returns-then-places-i : goal.returns-then-places-i
returns-then-places-i c = search put-past
