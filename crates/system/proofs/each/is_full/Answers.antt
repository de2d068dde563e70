use Rattle.system.specs.Working.Each.{full_start, full-lengths, full-text, full-end, full-pool, full-count, full-places}
use Rattle.system.proofs.each.is_full.Goals as goal

pub returns-then-consts-start : goal.returns-then-consts-start
returns-then-consts-start c = search full_start

pub returns-then-consts-start-lt-MOST_LENGTHS : goal.returns-then-consts-start-lt-MOST_LENGTHS
returns-then-consts-start-lt-MOST_LENGTHS c = search full-lengths

pub returns-then-consts-start-2 : goal.returns-then-consts-start-2
returns-then-consts-start-2 c = search full-text

pub returns-then-pool-end : goal.returns-then-pool-end
returns-then-pool-end c = search full-end

pub returns-then-pool-end-lt-MOST_ENTERED : goal.returns-then-pool-end-lt-MOST_ENTERED
returns-then-pool-end-lt-MOST_ENTERED c = search full-pool

pub returns-then-places-count : goal.returns-then-places-count
returns-then-places-count c = search full-count

pub returns : goal.returns
returns c = search full-places
