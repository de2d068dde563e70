use mathlib.Core.Path.{◌≡◌}
use lib.ListN.{length}
use Prim.Native.Nat.{◌-◌}
use Rattle.pattern.specs.Working.Sim.{run_from}
use Rattle.pattern.proofs.run.Pattern.run_skipping.Given as goal

abbrev pub invariant-loop-i : goal.invariant-loop-i
invariant-loop-i l = run_from l.self.bytes.now l.s l.self.table.now l.self.whole.fm l.self.whole.lm l.self.whole.le l.i l.at ≡ run_from l.self.bytes.now l.s l.self.table.now l.self.whole.fm l.self.whole.lm l.self.whole.le 0 l.initial.at

abbrev pub decreases-loop-i : goal.decreases-loop-i
decreases-loop-i l = length l.s - l.i
