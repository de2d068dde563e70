use Rattle.fields.specs.Working.Setting.{front_length, taken_is, taken-short}
use borrow.Author.Rules.{rules}
use Rattle.fields.proofs.constants.is_taken.Goals as goal

pub returns-then-places-count : goal.returns-then-places-count
returns-then-places-count c = search taken-short

pub slice_bounds-find-end : goal.slice_bounds-find-end
slice_bounds-find-end c = search (rules, front_length)

pub returns : goal.returns
returns c = search taken_is
