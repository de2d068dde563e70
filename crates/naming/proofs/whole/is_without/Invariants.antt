use mathlib.Core.Path.{◌≡◌}
use lib.ListN.{take, drop}
use Rattle.text.specs.All.{all}
use Rattle.naming.specs.Working.Whole.{other}
use Rattle.naming.proofs.whole.is_without.Given as goal

abbrev pub invariant-loop-j : goal.invariant-loop-j
invariant-loop-j l = l.none ≡ all (other l.b) (take l.j (drop l.i l.s))
