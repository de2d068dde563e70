use Rattle.lexical.proofs.LineWays.{lines_more, lines-less}
use Rattle.lexical.proofs.line.lines_from.Goals as goal

pub loop-t-smaller : goal.loop-t-smaller
loop-t-smaller c = search lines-less

pub loop-t-preserved : goal.loop-t-preserved
loop-t-preserved c = search lines_more
