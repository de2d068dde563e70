use Rattle.std.proofs.lemmas.Result.{err_from_is_err_and}
use Rattle.judge.specs.Working.Saying.{said-aside, said-stuck, said-on}
use Rattle.judge.proofs.string.string_in.Goals as goal

pub returns-in_err-q : goal.returns-in_err-q
returns-in_err-q c =
    let p = err_from_is_err_and c.from_residual.result c.from_residual.ensures.1 in
    let w = c.in_err-q.was {u = tt} in rw (p.1, p.2) (search (said-aside, w))

pub returns-in-None : goal.returns-in-None
returns-in-None c = let w = c.in_ok-q.was {u = tt} in search (said-stuck, w)

pub returns-in-Some : goal.returns-in-Some
returns-in-Some c = let w = c.in_ok-q.was {u = tt} in search (said-on, w)
