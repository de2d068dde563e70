use mathlib.Core.Path.{refl}
use Rattle.machine.specs.Working.Ending.{end-end, end-closed, end_more, begun-within}
use borrow.Author.Rules.{rules}
use Rattle.machine.proofs.finished.Goals as goal

pub loop-j-init : goal.loop-j-init
loop-j-init c = (search rules, refl)

pub returns-then-is_closing : goal.returns-then-is_closing
returns-then-is_closing c = search end-closed

pub loop-j-preserved : goal.loop-j-preserved
loop-j-preserved c = (search begun-within, search end_more)

pub returns : goal.returns
returns c = search end-end
