use Rattle.index.specs.Working.Walking.{walk-spent, walk-past, walk_here, walk-on, walk_ends}
use borrow.Author.Tests.{not-true, not-false}
use Rattle.index.proofs.walk_tree.Goals as goal

pub returns-then-places-last : goal.returns-then-places-last
returns-then-places-last c = search walk-past

pub returns-then-is_entry : goal.returns-then-is_entry
returns-then-is_entry c = search walk_here

pub loop-preserved : goal.loop-preserved
loop-preserved c = search (walk-on, not-false)

pub returns-then-not-is_between : goal.returns-then-not-is_between
returns-then-not-is_between c = search (walk_ends, not-true)

pub returns : goal.returns
returns c = search walk-spent
