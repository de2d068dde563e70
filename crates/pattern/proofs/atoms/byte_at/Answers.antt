use Rattle.text.specs.Choice.{tests}
use Rattle.pattern.specs.Working.Scan.{byte_at, way-byte-range, way-byte-self}
use borrow.Author.Rules.{rules}
use Rattle.pattern.proofs.atoms.byte_at.Goals as goal

pub returns-then-p-i : goal.returns-then-p-i
unfolding byte_at
returns-then-p-i c = search (rules, tests)

pub returns-then-ranges : goal.returns-then-ranges
returns-then-ranges c = search way-byte-range

pub returns : goal.returns
returns c = search way-byte-self
