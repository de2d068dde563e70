use mathlib.Core.Path.{◌≡◌}
use lib.ListN.{length}
use Rattle.printed.specs.Fill.{filled, fill_at}
use Rattle.printed.specs.Lines.{assertion_lines}
use Rattle.printed.proofs.add_assertions.Given as goal

abbrev pub invariant-loop-i : goal.invariant-loop-i
invariant-loop-i l = (filled l.to l.out ≡ fill_at l.initial.out l.at (assertion_lines l.page l.end l.i)) × (length l.out ≡ length l.initial.out)
