use Rattle.std.proofs.Common.{◌≡◌, ◌-◌, length}
use Rattle.journal.specs.Working.Walk.{end_at}
use Rattle.journal.proofs.entries_end.Given as goal

abbrev pub invariant-loop-next : goal.invariant-loop-next
invariant-loop-next l = end_at l.page l.at ≡ end_at l.page 1

abbrev pub decreases-loop-next : goal.decreases-loop-next
decreases-loop-next l = length l.page - l.at
