use Rattle.fields.specs.Working.Outs.{number-high, number-other, number-two}
use Rattle.fields.proofs.version.by_number.Goals as goal

pub returns-then-n-ge-LIMIT : goal.returns-then-n-ge-LIMIT
returns-then-n-ge-LIMIT c = search number-high

pub returns-then-n-eq2 : goal.returns-then-n-eq2
returns-then-n-eq2 c = search number-two

pub returns : goal.returns
returns c = search number-other
