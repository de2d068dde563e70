use Rattle.system.specs.Working.Asking.{all_from, asked}
use lib.ListN.{length, drop}
use mathlib.Core.Path.{◌≡◌}
use Rattle.system.proofs.asked.ask_all.Given as goal

abbrev pub invariant-loop-p : goal.invariant-loop-p
invariant-loop-p l = (length l.pool ≡ length l.initial.pool) × (length l.places ≡ length l.initial.places) × (length l.direct ≡ length l.initial.direct) × (all_from l.query (drop l.p-index l.requesters) (asked l.index l.pool l.places l.direct) ≡ all_from l.query l.requesters (asked l.initial.index l.initial.pool l.initial.places l.initial.direct))
