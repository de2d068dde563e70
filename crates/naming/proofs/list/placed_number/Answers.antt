use Rattle.naming.specs.Working.ListWays.{number-none, number-high, number-on}
use Rattle.naming.proofs.list.placed_number.Goals as goal

pub returns-then-number-ge32768 : goal.returns-then-number-ge32768
returns-then-number-ge32768 c = number-high _ _ _ _ _ _ _ c.in-Some.is c.requires c.if-number-ge32768.true

pub returns-in-None : goal.returns-in-None
returns-in-None c = search number-none

pub returns-else-number-ge32768 : goal.returns-else-number-ge32768
returns-else-number-ge32768 c = search number-on
