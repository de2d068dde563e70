use Rattle.std.proofs.Common.{◌≡◌, ◌∙◌, refl, arith, length}
use Rattle.expression.specs.Working.Searching.{first-start, first-end, first-here, first_more}
use Rattle.orders.proofs.find_by.Goals as goal

pub loop-i-init : goal.loop-i-init
loop-i-init g c = search first-start

pub returns-then-same : goal.returns-then-same
returns-then-same g c =
    first-here _ _ _ _ _ c.loop-i.invariant c.loop-i-test.true _ refl _ c.counted_at.ensures _ (c.requires.decides _ _ _ c.same.ensures) c.if-same.true

pub loop-i-preserved : goal.loop-i-preserved
loop-i-preserved g c =
    first_more _ _ _ _ _ c.loop-i.invariant c.loop-i-test.true _ refl _ c.counted_at.ensures _ (c.requires.decides _ _ _ c.same.ensures) c.if-same.false

pub returns : goal.returns
returns g c =
    let z : length c.args.places.now ≡ c.loop-i.i = omega arith in
    z ∙ first-end c.args.s.now c.args.name.now c.args.places.now c.loop-i.i _ c.loop-i.invariant c.loop-i-test.false
