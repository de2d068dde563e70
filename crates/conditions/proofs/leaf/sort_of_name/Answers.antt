use Rattle.conditions.proofs.LeafWays.{word-settled, word-is-true, word-is-false, word-other}
use Rattle.conditions.proofs.leaf.sort_of_name.Goals as goal

pub returns-then-want-ne-ANY : goal.returns-then-want-ne-ANY
returns-then-want-ne-ANY c = search word-settled

pub returns-then-is_true : goal.returns-then-is_true
returns-then-is_true c = search word-is-true

pub returns-then-is_false : goal.returns-then-is_false
returns-then-is_false c = search word-is-false

pub returns : goal.returns
returns c = search word-other
