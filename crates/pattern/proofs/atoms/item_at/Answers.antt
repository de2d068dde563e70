use Rattle.std.proofs.Common.{rules}
use Rattle.text.specs.Choice.{tests}
use Rattle.pattern.specs.Working.Scan.{item_at, way-item-byte, way-item-closed, way-item-dash, way-item-first, way-item-opens}
use Rattle.pattern.proofs.atoms.item_at.Goals as goal

pub returns-then-p-i : goal.returns-then-p-i
unfolding item_at
returns-then-p-i c = search (rules, tests)

pub returns-then-first : goal.returns-then-first
returns-then-first c = search way-item-first

pub returns-else-first : goal.returns-else-first
returns-else-first c = search way-item-closed

pub returns-in-45 : goal.returns-in-45
returns-in-45 c = search way-item-dash

pub returns-then-opens_name : goal.returns-then-opens_name
returns-then-opens_name c = search way-item-opens

pub returns-else-opens_name : goal.returns-else-opens_name
returns-else-opens_name c = search way-item-byte
