use Rattle.std.proofs.lemmas.Result.{err_from_is_err_and}
use Rattle.register.specs.Working.Ways.{is-true, issued-fits, amount-few, issue-over, issue-more, issue-full, issue-amount, issue-unsound}
use Rattle.register.proofs.issued.Goals as goal

pub returns-then-not-is_sound : goal.returns-then-not-is_sound
returns-then-not-is_sound c = search issue-unsound

pub returns-then-not-is_amount : goal.returns-then-not-is_amount
returns-then-not-is_amount c = search issue-amount

pub overflow_add-all : goal.overflow_add-all
overflow_add-all c = search issued-fits

pub returns-then-all-gt-MOST_MOVES : goal.returns-then-all-gt-MOST_MOVES
returns-then-all-gt-MOST_MOVES c = search issue-over

pub credited-requires : goal.credited-requires
credited-requires c = (search is-true, search amount-few)

pub returns-in_err-more : goal.returns-in_err-more
returns-in_err-more c =
    let p = err_from_is_err_and c.from_residual.result c.from_residual.ensures.1 in
    let w = c.in_err-more.was {u = tt} in rw (p.1, p.2) (search (issue-full, w))

pub returns : goal.returns
returns c =
    let w = c.in_ok-more.was {u = tt} in search (issue-more, w)
