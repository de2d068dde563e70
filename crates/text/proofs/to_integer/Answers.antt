use Rattle.std.proofs.Common.{rules}
use Rattle.text.specs.Working.Deciding.{decimal-none, decimal-signed, decimal-unsigned}
use Rattle.text.proofs.to_integer.Goals as goal

pub returns-in_default : goal.returns-in_default
returns-in_default c = search (rules, decimal-none, c.in_default.ensures)

pub returns-then-first-eq45 : goal.returns-then-first-eq45
returns-then-first-eq45 c = search (rules, decimal-signed, c.in-Some.ensures)

pub returns : goal.returns
returns c = search (rules, decimal-unsigned, c.in-Some.ensures)
