use Rattle.std.proofs.lemmas.Result.{err_from_is_err_and}
use mathlib.Core.Path.{◌∙◌}
use Rattle.assertion.specs.Working.ReadingWays.{fields-last, fields-aside, fields-more, fields-less}
use Rattle.assertion.proofs.fields.Goals as goal

pub returns-then-is_last : goal.returns-then-is_last
returns-then-is_last c = search fields-last

pub returns-in_err-more : goal.returns-in_err-more
returns-in_err-more c =
    let p = err_from_is_err_and c.from_residual.result c.from_residual.ensures.1 in
    let w = c.in_err-more.was {u = tt} in rw (p.1, p.2) (search (fields-aside, w))

pub loop-free-smaller : goal.loop-free-smaller
loop-free-smaller c = fields-less _ _ _ _ _ _ _ _ _ _ _ _ _ _ _ c.loop-free.invariant.6 _ c.is_last.ensures c.if-is_last.false _ c.next_field.ensures.free_after _ _ c.next_field.ensures.code_after

pub loop-free-preserved : goal.loop-free-preserved
loop-free-preserved c = let w = c.in_ok-more.was {u = tt} in let more = fields-more _ _ _ _ _ _ _ _ _ _ _ _ _ _ _ c.loop-free.invariant.6 _ c.is_last.ensures c.if-is_last.false _ c.next_field.ensures.free_after _ _ c.next_field.ensures.code_after in
    (c.next_field.auto.free ∙ c.loop-free.invariant.0, c.next_field.auto.consts ∙ c.loop-free.invariant.1, c.next_field.auto.constants ∙ c.loop-free.invariant.2, c.next_field.auto.pool ∙ c.loop-free.invariant.3, c.next_field.auto.places ∙ c.loop-free.invariant.4, c.next_field.auto.code ∙ c.loop-free.invariant.5, search (more, w))
