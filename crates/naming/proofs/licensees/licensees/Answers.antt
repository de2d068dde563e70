use Rattle.std.proofs.lemmas.Result.{err_from_is_err_and}
use Rattle.naming.specs.Working.ChainWays.{field-aside, field-empty, field-on, field_past, field-short}
use Rattle.naming.proofs.licensees.licensees.Goals as goal

pub returns-then-code-size : goal.returns-then-code-size
returns-then-code-size c = search field_past

pub returns-then-code-size-lt-MOST_CODE : goal.returns-then-code-size-lt-MOST_CODE
returns-then-code-size-lt-MOST_CODE c = search field-short

pub returns-then-is_ending : goal.returns-then-is_ending
returns-then-is_ending c = search field-empty

pub returns-in_err-all : goal.returns-in_err-all
returns-in_err-all c =
    let p = err_from_is_err_and c.from_residual.result c.from_residual.ensures.1 in
    let w = c.in_err-all.was {u = tt} in rw (p.1, p.2) (search (field-aside, w))

pub returns : goal.returns
returns c = let w = c.in_ok-all.was {u = tt} in search (field-on, w)
