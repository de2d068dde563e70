use Rattle.naming.specs.Working.ListWays.{before-most, before-placed}
use Rattle.naming.specs.Working.Identifying.{plain-kind-yes}
use Rattle.naming.proofs.list.name_before.Goals as goal

pub returns-then-st-ge-MOST_LICENSEES : goal.returns-then-st-ge-MOST_LICENSEES
returns-then-st-ge-MOST_LICENSEES c = search before-most

pub plain_named-e-requires : goal.plain_named-e-requires
plain_named-e-requires c = search plain-kind-yes

pub returns : goal.returns
returns c = search before-placed
