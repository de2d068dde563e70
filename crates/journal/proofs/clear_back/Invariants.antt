use Rattle.std.proofs.Common.{◌≡◌, ◌-◌, length, take}
use Rattle.journal.specs.Stores.{stored, cleared}
use Rattle.journal.proofs.clear_back.Given as goal

abbrev pub invariant-loop-j : goal.invariant-loop-j
invariant-loop-j l = (length l.page ≡ length l.initial.page) × (l.page ≡ stored l.initial.page (take l.j (cleared (length l.initial.page - l.at) l.at)))
