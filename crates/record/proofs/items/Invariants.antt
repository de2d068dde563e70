use Rattle.std.proofs.Common.{◌≡◌, ◌-◌}
use Rattle.record.specs.Working.Groups.{items_into}
use Rattle.record.proofs.items.Given as goal

abbrev pub invariant-loop : goal.invariant-loop
invariant-loop l = items_into l.group l.s l.from (l.n - l.counter) l.i l.table l.next.at ≡ items_into l.group l.s l.from l.n l.from l.initial.table l.initial.next.at
