use Rattle.pattern.specs.Working.Parse.{eat-in, eat-other, eat-past}
use Rattle.pattern.proofs.reader.eat.Goals.{else-i-p-via-then-i-p+else-p-i, else-i-p-via-else-i-p}
use Rattle.pattern.proofs.reader.eat.Goals as goal

pub returns-then-p-i : goal.returns-then-p-i
returns-then-p-i c = eat-in _ _ _ c.if-i-p.true c.if-p-i.true

pub returns : goal.returns
returns c = elim c.else-i-p.branch [
  | else-i-p-via-then-i-p+else-p-i w ↦ search eat-other
  | else-i-p-via-else-i-p w ↦ search eat-past
]
