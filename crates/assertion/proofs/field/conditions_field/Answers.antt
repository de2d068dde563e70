use Rattle.std.proofs.lemmas.Result.{err_from_is_err_and}
use Rattle.assertion.specs.Working.FieldWays.{judged-on, judged-not}
use Rattle.assertion.proofs.field.conditions_field.Goals as goal

pub returns-in_err-judged : goal.returns-in_err-judged
returns-in_err-judged c =
    let p = err_from_is_err_and c.from_residual.result c.from_residual.ensures.1 in
    let w = c.in_err-judged.was {u = tt} in rw (p.1, p.2) (search (judged-not, w))

pub returns : goal.returns
returns c = let w = c.in_ok-judged.was {u = tt} in search (judged-on, w)
