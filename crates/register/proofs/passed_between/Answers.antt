use Rattle.register.specs.Working.Ways.{pass-over, pass-self, pass-done}
use Rattle.register.proofs.passed_between.Goals as goal

pub returns-then-moves-amount : goal.returns-then-moves-amount
returns-then-moves-amount c = search pass-over

pub returns-then-i-j : goal.returns-then-i-j
returns-then-i-j c = search pass-self

pub returns : goal.returns
returns c = search pass-done
