use Rattle.expression.specs.Working.Arithmetic.{differ-turned, differ_same}
use Rattle.expression.proofs.integer.signs_differ.Goals as goal

pub returns-then-a : goal.returns-then-a
returns-then-a c = search differ-turned

pub returns : goal.returns
returns c = search differ_same
