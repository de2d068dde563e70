use Rattle.std.proofs.lemmas.Result.{err_from_is_err_and}
use Rattle.register.specs.Working.Ways.{spend-over, spend-done, spend-unknown, spend-amount, spend-unsound}
use Rattle.register.proofs.spent.Goals as goal

pub returns-then-not-is_sound : goal.returns-then-not-is_sound
returns-then-not-is_sound c = search spend-unsound

pub returns-then-not-is_amount : goal.returns-then-not-is_amount
returns-then-not-is_amount c = search spend-amount

pub returns-in_err-place : goal.returns-in_err-place
returns-in_err-place c =
    let p = err_from_is_err_and c.from_residual.result c.from_residual.ensures.1 in
    let w = c.in_err-place.was {u = tt} in rw (p.1, p.2) (search (spend-unknown, w))

pub returns-then-moves-amount : goal.returns-then-moves-amount
returns-then-moves-amount c =
    let w = c.in_ok-place.was {u = tt} in search (spend-over, w)

pub returns : goal.returns
returns c =
    let w = c.in_ok-place.was {u = tt} in search (spend-done, w)
