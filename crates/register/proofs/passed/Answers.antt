use Rattle.std.proofs.lemmas.Result.{err_from_is_err_and}
use Rattle.register.specs.Working.Ways.{place-few, amount-few, pass-found, pass-unknown-2, pass-unknown, pass-amount, pass-unsound}
use Rattle.register.proofs.passed.Goals as goal

pub returns-then-not-is_sound : goal.returns-then-not-is_sound
returns-then-not-is_sound c = search pass-unsound

pub returns-then-not-is_amount : goal.returns-then-not-is_amount
returns-then-not-is_amount c = search pass-amount

pub returns-in_err-i : goal.returns-in_err-i
returns-in_err-i c =
    let p = err_from_is_err_and c.from_residual.result c.from_residual.ensures.1 in
    let w = c.in_err-i.was {u = tt} in rw (p.1, p.2) (search (pass-unknown, w))

pub returns-in_err-j : goal.returns-in_err-j
returns-in_err-j c =
    let p = err_from_is_err_and c.from_residual-in_err-j.result c.from_residual-in_err-j.ensures.1 in
    let v = c.in_ok-i.was {u = tt} in
    let w = c.in_err-j.was {u = tt} in rw (p.1, p.2) (search (pass-unknown-2, v, w))

pub passed_between-requires : goal.passed_between-requires
passed_between-requires c =
    let w = c.in_ok-j.was {u = tt} in (search (place-few, w), search amount-few)

pub returns : goal.returns
returns c =
    let v = c.in_ok-i.was {u = tt} in
    let w = c.in_ok-j.was {u = tt} in search (pass-found, v, w)
