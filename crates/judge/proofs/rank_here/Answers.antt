use lib.Seq.{length-take-le}
use Rattle.judge.specs.Working.Judging.{rank-short, rank_left}
use borrow.Author.Rules.{rules}
use Rattle.judge.proofs.rank_here.Goals as goal

pub returns-then-code-top : goal.returns-then-code-top
returns-then-code-top c = search rank-short

pub slice_bounds-written-end : goal.slice_bounds-written-end
slice_bounds-written-end c = search (rules, length-take-le)

pub returns : goal.returns
returns c = search rank_left
