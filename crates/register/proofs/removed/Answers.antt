use Rattle.std.proofs.lemmas.Result.{err_from_is_err_and}
use Rattle.register.specs.Working.Ways.{remove-holds, remove-done, remove-unknown, remove-unsound}
use Rattle.register.proofs.removed.Goals as goal

pub returns-then-not-is_sound : goal.returns-then-not-is_sound
returns-then-not-is_sound c = search remove-unsound

pub returns-in_err-place : goal.returns-in_err-place
returns-in_err-place c =
    let p = err_from_is_err_and c.from_residual.result c.from_residual.ensures.1 in
    let w = c.in_err-place.was {u = tt} in rw (p.1, p.2) (search (remove-unknown, w))

pub returns-then-moves_at-gt0 : goal.returns-then-moves_at-gt0
returns-then-moves_at-gt0 c =
    let w = c.in_ok-place.was {u = tt} in search (remove-holds, w)

pub returns : goal.returns
returns c =
    let w = c.in_ok-place.was {u = tt} in search (remove-done, w)
