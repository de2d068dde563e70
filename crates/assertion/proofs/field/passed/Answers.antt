use Rattle.std.proofs.lemmas.Result.{err_from_is_err_and}
use Rattle.assertion.specs.Working.FieldWays.{passed_on_lem, passed-not}
use Rattle.assertion.proofs.field.passed.Goals as goal

pub returns-in_err-next : goal.returns-in_err-next
returns-in_err-next c =
    let p = err_from_is_err_and c.from_residual.result c.from_residual.ensures.1 in
    let w = c.in_err-next.was {u = tt} in rw (p.1, p.2) (search (passed-not, w))

pub returns : goal.returns
returns c = let w = c.in_ok-next.was {u = tt} in search (passed_on_lem, w)
