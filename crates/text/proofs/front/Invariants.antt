use Rattle.std.proofs.Common.{◌≡◌}
use Rattle.text.specs.Scan.{run, past}
use Rattle.text.specs.Class.{in_class}
use Rattle.text.proofs.front.Given as goal

abbrev pub invariant-loop-i : goal.invariant-loop-i
invariant-loop-i l = past (in_class l.class) l.s l.i ≡ run (in_class l.class) l.s
