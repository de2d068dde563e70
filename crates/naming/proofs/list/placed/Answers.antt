use Rattle.std.proofs.lemmas.Result.{err_from_is_err_and}
use Rattle.naming.specs.Working.ListWays.{placed-aside, nobody-most, nobody-on, number-most, placed-high, placed_on}
use Rattle.naming.proofs.list.placed.Goals as goal

pub returns-in_err-next : goal.returns-in_err-next
returns-in_err-next c =
    let p = err_from_is_err_and c.from_residual.result c.from_residual.ensures.1 in
    let w = c.in_err-next.was {u = tt} in rw (p.1, p.2) (search (placed-aside, w))

pub returns-then-st-ge-MOST_LICENSEES : goal.returns-then-st-ge-MOST_LICENSEES
returns-then-st-ge-MOST_LICENSEES c = let w = c.in_ok-next.was {u = tt} in search (nobody-most, nobody-on, number-most, placed-high, placed_on, w)

pub returns-then-st-ge-MOST_LICENSEES-2 : goal.returns-then-st-ge-MOST_LICENSEES-2
returns-then-st-ge-MOST_LICENSEES-2 c = let w = c.in_ok-next.was {u = tt} in search (nobody-most, nobody-on, number-most, placed-high, placed_on, w)

pub returns-then-number-ge32768 : goal.returns-then-number-ge32768
returns-then-number-ge32768 c = let w = c.in_ok-next.was {u = tt} in search (nobody-most, nobody-on, number-most, placed-high, placed_on, w)

pub returns-else-st-ge-MOST_LICENSEES : goal.returns-else-st-ge-MOST_LICENSEES
returns-else-st-ge-MOST_LICENSEES c = let w = c.in_ok-next.was {u = tt} in search (nobody-most, nobody-on, number-most, placed-high, placed_on, w)

pub returns-else-number-ge32768 : goal.returns-else-number-ge32768
returns-else-number-ge32768 c = let w = c.in_ok-next.was {u = tt} in search (nobody-most, nobody-on, number-most, placed-high, placed_on, w)
