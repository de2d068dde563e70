use mathlib.Core.Path.{◌≡◌}
use lib.ListN.{take, drop}
use Rattle.text.specs.All.{all}
use Rattle.naming.specs.Working.Whole.{printed}
use Rattle.naming.proofs.whole.is_printed.Given as goal

abbrev pub invariant-loop-j : goal.invariant-loop-j
invariant-loop-j l = l.held ≡ all printed (take l.j (drop l.i l.s))
