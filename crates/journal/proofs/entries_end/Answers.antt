use Rattle.journal.specs.Working.Ways.{end-more, end-stop, end-less}
use Rattle.journal.proofs.entries_end.Goals as goal

pub loop-next-smaller : goal.loop-next-smaller
loop-next-smaller c = search end-less

pub loop-next-preserved : goal.loop-next-preserved
loop-next-preserved c = search end-more

pub returns : goal.returns
returns c = search end-stop
