use Rattle.pattern.specs.Working.Sim.{sweep}
use Prim.Native.Nat.{◌-◌}
use mathlib.Core.Path.{◌≡◌}
use Rattle.pattern.proofs.run.Pattern.sweep.Given as goal

abbrev pub invariant-loop-q : goal.invariant-loop-q
invariant-loop-q l = sweep l.self.bytes.now l.self.table.now l.x l.l l.q l.end l.c l.a ≡ sweep l.self.bytes.now l.self.table.now l.word l.ends l.base l.end l.c l.initial.a

abbrev pub decreases-loop-q : goal.decreases-loop-q
decreases-loop-q l = l.end - l.q
