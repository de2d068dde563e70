use Rattle.std.proofs.Common.{◌∙◌}
use Rattle.expression.specs.Working.Arithmetic.{sizes_cmp, compared-below, compared-less, compared-greater, compared-above}
use Rattle.expression.proofs.integer.order_of.Goals as goal

pub returns-in-true-true : goal.returns-in-true-true
returns-in-true-true c =
    compared-below c.args.a c.args.b c.in-true-true.is-0 c.cmp.result c.in-true-true.is-1 (c.cmp.ensures ∙ sizes_cmp c.args.b.size c.args.a.size)

pub returns-in-true-false : goal.returns-in-true-false
returns-in-true-false c = search compared-less

pub returns-in-false-true : goal.returns-in-false-true
returns-in-false-true c = search compared-greater

pub returns-in-false-false : goal.returns-in-false-false
returns-in-false-false c =
    compared-above c.args.a c.args.b c.in-false-false.is-0 c.cmp-in-false-false.result c.in-false-false.is-1
    (c.cmp-in-false-false.ensures ∙ sizes_cmp c.args.a.size c.args.b.size)
