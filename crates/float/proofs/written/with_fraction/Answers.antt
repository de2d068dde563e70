use Rattle.std.proofs.Common.{rules}
use Rattle.float.specs.Working.Reading.{fraction-none, fraction-more, fraction-all, digits-all}
use Rattle.float.proofs.written.with_fraction.Goals.{then-j-eq0-via-then-j-eq0, then-j-eq0-via-else-j-eq0+then-j-digits}
use Rattle.float.proofs.written.with_fraction.Goals as goal

pub returns-then-j-eq0 : goal.returns-then-j-eq0
returns-then-j-eq0 c = elim c.then-j-eq0.branch [
  | then-j-eq0-via-then-j-eq0 w ↦ search fraction-none
  | then-j-eq0-via-else-j-eq0+then-j-digits w ↦ search fraction-more
]

pub amount-requires : goal.amount-requires
amount-requires c = (search rules, search digits-all)

pub returns : goal.returns
returns c = search fraction-all
