use Rattle.orders.specs.Working.Comparing.{last-other}
use Rattle.orders.proofs.same_from_last.Goals as goal

pub returns-else-eq : goal.returns-else-eq
returns-else-eq c = last-other c.args.a.now c.args.b.now _ _ c.last.ensures.value c.last-2.ensures.value _ c.eq.ensures c.if-eq.false
