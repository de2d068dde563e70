use Rattle.std.proofs.Common.{refl, rules, arith, length, ◌+◌, ◌-◌, ◌%◌}
use Rattle.text.specs.Working.Backward.{above-all, eights-unlike, eights-like, above-end, above-lowest}
use Rattle.text.proofs.same_above.Goals as goal

pub loop-k-init : goal.loop-k-init
loop-k-init c = search (rules, above-all)

pub returns-then-not-same_part : goal.returns-then-not-same_part
returns-then-not-same_part c = search (rules, eights-unlike)

pub loop-k-preserved : goal.loop-k-preserved
loop-k-preserved c = search (rules, eights-like)

pub returns-then-i-low : goal.returns-then-i-low
returns-then-i-low c = search (rules, above-end)

pub returns-then-i-lt8 : goal.returns-then-i-lt8
returns-then-i-lt8 c =
    above-lowest c.args.a.now c.args.b.now c.args.low (c.args.low + (length c.args.a.now - c.args.low) % 8) c.loop-k.k c.loop-k.invariant c.loop-k-test.false
    (omega arith) (omega arith) (omega arith) (omega arith) c.requires.0 0 (omega arith) _ c.same_part-then-i-lt8.ensures

pub returns : goal.returns
returns c =
    above-lowest c.args.a.now c.args.b.now c.args.low (c.args.low + (length c.args.a.now - c.args.low) % 8) c.loop-k.k c.loop-k.invariant c.loop-k-test.false
    (omega arith) (omega arith) (omega arith) (omega arith) c.requires.0 _ refl _ c.same_part-2.ensures
