use Rattle.record.specs.Working.Entry.{entries-put}
use Rattle.record.proofs.copy_entries.Goals as goal

pub returns : goal.returns
returns c = entries-put c.args.dst.now c.args.src.now c.args.n c.requires.0 _ c.copy_from_slice.ensures.after
