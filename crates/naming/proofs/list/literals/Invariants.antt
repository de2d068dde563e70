use Prim.Native.Nat.{◌-◌}
use lib.ListN.{length}
use mathlib.Core.Path.{◌≡◌}
use Rattle.naming.specs.Working.List.{ran, Leads, read_to}
use Rattle.naming.proofs.list.literals.Given as goal

abbrev pub invariant-loop-state : goal.invariant-loop-state
invariant-loop-state l = (length l.pool ≡ length l.initial.pool) × (length l.places ≡ length l.initial.places) × (length l.code ≡ length l.initial.code) × Leads l.s l.initial.pool l.initial.places l.initial.code l.initial.state l.initial.t (ran (read_to l.state l.t) l.pool l.places l.code)

abbrev pub decreases-loop-state : goal.decreases-loop-state
decreases-loop-state l = 16 - l.state.listed
