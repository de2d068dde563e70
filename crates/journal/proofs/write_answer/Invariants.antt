use Rattle.std.proofs.Common.{◌≡◌, length, take}
use Rattle.journal.specs.Stores.{stored, placed}
use Rattle.journal.proofs.write_answer.Given as goal

abbrev pub invariant-loop-j : goal.invariant-loop-j
invariant-loop-j l = (length l.page ≡ length l.initial.page) × (l.page ≡ stored l.initial.page (take l.j (placed l.at l.answer)))
