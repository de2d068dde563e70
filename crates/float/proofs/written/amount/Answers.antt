use Rattle.std.proofs.Common.{rules, arith}
use Rattle.float.specs.Working.Reading.{amount-over, amount-few, whole-small, value-small, amount-is}
use Rattle.float.proofs.written.amount.Goals as goal

pub returns-then-saturating_add-gt18 : goal.returns-then-saturating_add-gt18
returns-then-saturating_add-gt18 c = search amount-over

pub more-w-requires : goal.more-w-requires
more-w-requires c = (search whole-small, search amount-few, search rules)

pub nearest_to-requires : goal.nearest_to-requires
nearest_to-requires c =
    let few = amount-few c.args.whole.now c.args.fraction.now _ c.saturating_add.ensures c.if-saturating_add-gt18.false in
    (value-small _ _ _ _ few c.more-w.ensures, omega (arith, few))

pub returns : goal.returns
returns c =
    let few = amount-few c.args.whole.now c.args.fraction.now _ c.saturating_add.ensures c.if-saturating_add-gt18.false in
    amount-is _ _ _ few _ _ c.more-v.ensures c.more-w.ensures _ c.nearest_to.ensures
