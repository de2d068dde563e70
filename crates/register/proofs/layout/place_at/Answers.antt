use Rattle.register.specs.Working.Bytes.{entry-held, entry_free}
use Rattle.register.proofs.layout.place_at.Goals as goal

pub returns-then-s-at-eq1 : goal.returns-then-s-at-eq1
returns-then-s-at-eq1 c = search entry-held

pub returns : goal.returns
returns c = search entry_free
