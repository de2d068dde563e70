use Rattle.std.proofs.lemmas.Result.{err_from_is_err_and}
use Rattle.journal.specs.Working.Ways.{room-empty, opened-within, room-not, room-there}
use Rattle.journal.proofs.room_for.Goals as goal

pub returns-then-answer-eq0 : goal.returns-then-answer-eq0
returns-then-answer-eq0 c = search room-empty

pub room_at-requires : goal.room_at-requires
room_at-requires c = opened-within _ _ _ c.page_end.ensures (c.in_ok-at.was {u = tt})

pub returns-in_err-at : goal.returns-in_err-at
returns-in_err-at c =
    let p = err_from_is_err_and c.from_residual.result c.from_residual.ensures.1 in
    rw (p.1, p.2) (room-not _ _ c.if-answer-eq0.false _ c.page_end.ensures _ (c.in_err-at.was {u = tt}))

pub returns : goal.returns
returns c = room-there _ _ c.if-answer-eq0.false _ c.page_end.ensures _ (c.in_ok-at.was {u = tt}) _ c.room_at.ensures
