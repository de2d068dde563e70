use borrow.Author.Rules.{rules}
use Rattle.system.specs.Working.Asking.{all_start, all_end, all_more}
use mathlib.Core.Path.{refl}
use Rattle.system.proofs.asked.ask_all.Goals as goal

pub loop-p-init : goal.loop-p-init
loop-p-init c = search (rules, all_start)

pub loop-p-preserved : goal.loop-p-preserved
loop-p-preserved c = (search rules, search rules, search rules, all_more _ _ _ _ _ _ _ _ c.loop-p.invariant.3 c.loop-p-test.true _ _ _ _ _ _ refl c.counted_at.ensures c.ask-index.ensures)

pub returns : goal.returns
returns c = search all_end
