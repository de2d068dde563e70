use Prim.Native.Nat.{◌-◌}
use lib.ListN.{length}
use mathlib.Core.Path.{◌≡◌}
use Rattle.naming.specs.Working.Identifying.{sight}
use Rattle.naming.specs.Working.List.{list_in}
use Rattle.naming.proofs.list.list.Given as goal

abbrev pub invariant-loop-one : goal.invariant-loop-one
invariant-loop-one l = (length l.pool ≡ length l.initial.pool) × (length l.places ≡ length l.initial.places) × (length l.code ≡ length l.initial.code) × (list_in l.s (sight l.scope.query.now l.scope.consts.now l.scope.values.now l.scope.names.now l.scope.constants.now) l.m.left l.m.k l.m.before l.pool l.places l.code l.state l.t ≡ list_in l.s (sight l.scope.query.now l.scope.consts.now l.scope.values.now l.scope.names.now l.scope.constants.now) l.m.left l.m.k l.m.before l.initial.pool l.initial.places l.initial.code l.initial.state l.initial.t)

abbrev pub decreases-loop-one : goal.decreases-loop-one
decreases-loop-one l = 16 - l.state.listed
