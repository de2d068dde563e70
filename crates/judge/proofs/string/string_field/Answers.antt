use Rattle.judge.specs.Working.Saying.{string-short, string-middle, string-long}
use Rattle.judge.proofs.string.string_field.Goals as goal

pub returns-then-n-le254 : goal.returns-then-n-le254
returns-then-n-le254 c = search string-short

pub returns-then-n-le2046 : goal.returns-then-n-le2046
returns-then-n-le2046 c = search string-middle

pub returns : goal.returns
returns c = search string-long
