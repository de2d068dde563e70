use mathlib.Core.Path.{refl}
use Rattle.machine.specs.Working.Passing.{pass-end, pass-outer, pass-more, above_within}
use borrow.Author.Rules.{rules}
use Rattle.machine.proofs.passed.Goals as goal

pub loop-j-init : goal.loop-j-init
loop-j-init c = (search rules, refl)

pub returns-then-is_outer : goal.returns-then-is_outer
returns-then-is_outer c = search pass-outer

pub loop-j-preserved : goal.loop-j-preserved
loop-j-preserved c = (search above_within, search pass-more)

pub returns : goal.returns
returns c = search pass-end
