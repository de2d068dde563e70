use Rattle.judge.specs.Working.Judging.{here-tiny, here-brief, here-short, here-middle, here-long}
use Rattle.judge.proofs.judge_field.Goals as goal

pub returns-then-n-le126 : goal.returns-then-n-le126
returns-then-n-le126 c = search here-tiny

pub returns-then-n-le254 : goal.returns-then-n-le254
returns-then-n-le254 c = search here-brief

pub returns-then-n-le510 : goal.returns-then-n-le510
returns-then-n-le510 c = search here-short

pub returns-then-n-le2046 : goal.returns-then-n-le2046
returns-then-n-le2046 c = search here-middle

pub returns : goal.returns
returns c = search here-long
