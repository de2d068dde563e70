use Rattle.expression.specs.Working.Arithmetic.{sign-odd, sign-even}
use Rattle.expression.proofs.integer.sign_of_power.Goals as goal

pub returns-then-is_odd : goal.returns-then-is_odd
returns-then-is_odd c = search sign-odd

pub returns : goal.returns
returns c = search sign-even
