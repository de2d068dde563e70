use lib.Seq.{length-take-le}
use Rattle.judge.specs.Working.Saying.{value-short, value-whole}
use borrow.Author.Rules.{rules}
use Rattle.judge.proofs.string.value_of.Goals as goal

pub returns-then-code-top : goal.returns-then-code-top
returns-then-code-top c = search value-short

pub slice_bounds-string_here-end : goal.slice_bounds-string_here-end
slice_bounds-string_here-end c = search (rules, length-take-le)

pub returns : goal.returns
returns c = search value-whole
