use Rattle.std.proofs.lemmas.Result.{err_from_is_err_and}
use Rattle.naming.specs.Working.Authorizing.{authored-aside, authored-nobody, authored-at}
use Rattle.naming.proofs.authorizer.authored.Goals as goal

pub returns-in_err-next : goal.returns-in_err-next
returns-in_err-next c =
    let p = err_from_is_err_and c.from_residual.result c.from_residual.ensures.1 in
    let w = c.in_err-next.was {u = tt} in rw (p.1, p.2) (search (authored-aside, w))

pub returns-in-Nobody : goal.returns-in-Nobody
returns-in-Nobody c = let w = c.in_ok-next.was {u = tt} in search (authored-nobody, w)

pub returns-in-At : goal.returns-in-At
returns-in-At c = let w = c.in_ok-next.was {u = tt} in search (authored-at, w)
