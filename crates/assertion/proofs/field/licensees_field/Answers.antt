use Rattle.std.proofs.lemmas.Result.{err_from_is_err_and}
use Rattle.assertion.specs.Working.FieldWays.{listed-on, listed-not}
use Rattle.assertion.proofs.field.licensees_field.Goals as goal

pub returns-in_err-named : goal.returns-in_err-named
returns-in_err-named c =
    let p = err_from_is_err_and c.from_residual.result c.from_residual.ensures.1 in
    let w = c.in_err-named.was {u = tt} in rw (p.1, p.2) (search (listed-not, w))

pub returns : goal.returns
returns c = let w = c.in_ok-named.was {u = tt} in search (listed-on, w)
