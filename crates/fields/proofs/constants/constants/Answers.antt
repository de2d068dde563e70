use Rattle.std.proofs.lemmas.Result.{err_from_is_err_and}
use Rattle.fields.specs.Working.Setting.{setting-more, setting-aside, constants-end, setting-fault, setting-most}
use borrow.Author.Rules.{rules}
use Rattle.fields.proofs.constants.constants.Goals as goal

pub returns-then-is_ending : goal.returns-then-is_ending
returns-then-is_ending c = search constants-end

pub returns-then-f-ne0 : goal.returns-then-f-ne0
returns-then-f-ne0 c = search setting-fault

pub returns-then-index-ge-MOST_CONSTANTS : goal.returns-then-index-ge-MOST_CONSTANTS
returns-then-index-ge-MOST_CONSTANTS c = search setting-most

pub returns-in_err-set : goal.returns-in_err-set
returns-in_err-set c =
    let p = err_from_is_err_and c.from_residual.result c.from_residual.ensures.1 in
    let w = c.in_err-set.was {u = tt} in rw (p.1, p.2) (search (setting-aside, w))

pub loop-index-preserved : goal.loop-index-preserved
loop-index-preserved c = (search rules, search rules, (let f = setting-more _ _ _ _ _ _ _ c.loop-index.invariant.2 _ c.is_ending.ensures c.if-is_ending.false _ c.name_fault-f.ensures c.if-f-ne0.false c.if-index-ge-MOST_CONSTANTS.false _ _ _ c.assigned.ensures in let w = c.in_ok-set.was {u = tt} in search (f, w)))
