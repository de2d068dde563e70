use Rattle.naming.specs.Working.Whole.{pair-stops, pair-last}
use Rattle.naming.proofs.whole.is_clear_to.Goals as goal

pub returns-then-is_clear : goal.returns-then-is_clear
returns-then-is_clear c = search pair-last

pub returns : goal.returns
returns c = search pair-stops
