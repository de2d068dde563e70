use Rattle.std.proofs.lemmas.Result.{err_from_is_err_and}
use Rattle.judge.specs.Working.Judging.{judge-aside, judge-on}
use Rattle.judge.proofs.judge_in.Goals as goal

pub returns-in_err-q : goal.returns-in_err-q
returns-in_err-q c =
    let p = err_from_is_err_and c.from_residual.result c.from_residual.ensures.1 in
    let w = c.in_err-q.was {u = tt} in rw (p.1, p.2) (search (judge-aside, w))

pub returns : goal.returns
returns c = judge-on _ _ _ _ _ _ _ _ _ _ _ _ c.conditions.ensures _ (c.in_ok-q.was {u = tt}) _ c.rank_here-rank.ensures
