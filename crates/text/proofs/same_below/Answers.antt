use Rattle.std.proofs.Common.{rules}
use Rattle.text.specs.Working.Blocks.{below_none, below-unlike, below-like}
use Rattle.text.proofs.same_below.Goals as goal

pub returns-then-not-same_part : goal.returns-then-not-same_part
returns-then-not-same_part c = search (rules, below-unlike)

pub loop-k-preserved : goal.loop-k-preserved
loop-k-preserved c = search (rules, below-like)

pub returns : goal.returns
returns c = search (rules, below_none)
