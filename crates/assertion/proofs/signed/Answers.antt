use Rattle.std.proofs.lemmas.Result.{err_from_is_err_and}
use Rattle.assertion.specs.Working.ReadingWays.{signed-on, signed-not}
use Rattle.assertion.proofs.signed.Goals as goal

pub returns-in_err-next : goal.returns-in_err-next
returns-in_err-next c =
    let p = err_from_is_err_and c.from_residual.result c.from_residual.ensures.1 in
    let w = c.in_err-next.was {u = tt} in rw (p.1, p.2) (search (signed-not, w))

pub returns : goal.returns
returns c = let w = c.in_ok-next.was {u = tt} in search (signed-on, w)
