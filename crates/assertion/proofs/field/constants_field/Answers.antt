use Rattle.std.proofs.lemmas.Result.{err_from_is_err_and}
use Rattle.assertion.specs.Working.FieldWays.{settings-on, settings-not}
use Rattle.assertion.proofs.field.constants_field.Goals as goal

pub returns-in_err-said : goal.returns-in_err-said
returns-in_err-said c =
    let p = err_from_is_err_and c.from_residual.result c.from_residual.ensures.1 in
    let w = c.in_err-said.was {u = tt} in rw (p.1, p.2) (search (settings-not, w))

pub returns : goal.returns
returns c = let w = c.in_ok-said.was {u = tt} in search (settings-on, w)
