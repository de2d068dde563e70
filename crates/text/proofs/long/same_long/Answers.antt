use Rattle.std.proofs.Common.{rules}
use Rattle.text.specs.Working.Backward.{same-apart}
use Rattle.text.specs.Working.Blocks.{ahead-like, ahead-unlike, ahead_rest}
use Rattle.text.proofs.long.same_long.Goals as goal

pub returns-then-a-b : goal.returns-then-a-b
returns-then-a-b c = search (rules, same-apart)

pub returns-then-not-same_part : goal.returns-then-not-same_part
returns-then-not-same_part c = search (rules, ahead-unlike)

pub loop-k-preserved : goal.loop-k-preserved
loop-k-preserved c = search (rules, ahead-like)

pub returns : goal.returns
returns c = search (rules, ahead_rest)
