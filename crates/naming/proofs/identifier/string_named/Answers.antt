use Rattle.std.proofs.lemmas.Result.{err_from_is_err_and}
use Rattle.naming.specs.Working.Identifying.{short-front}
use Rattle.naming.specs.Working.Identifying.{string-aside, string-long, string-entered}
use borrow.Author.Rules.{rules}
use Rattle.naming.proofs.identifier.string_named.Goals as goal

pub returns-then-said-gt-MOST_IDENTIFIER : goal.returns-then-said-gt-MOST_IDENTIFIER
returns-then-said-gt-MOST_IDENTIFIER c = let w = c.in_ok-said.was {u = tt} in search (string-long, w)

pub slice_bounds-entered-end : goal.slice_bounds-entered-end
slice_bounds-entered-end c = search (rules, short-front)

pub returns-in_err-said : goal.returns-in_err-said
returns-in_err-said c =
    let p = err_from_is_err_and c.from_residual.result c.from_residual.ensures.1 in
    let w = c.in_err-said.was {u = tt} in rw (p.1, p.2) (search (string-aside, w))

pub returns : goal.returns
returns c = let w = c.in_ok-said.was {u = tt} in search (string-entered, w)
