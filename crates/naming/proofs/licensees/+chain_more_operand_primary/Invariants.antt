use lib.ListN.{length}
use mathlib.Core.Path.{◌≡◌}
use Rattle.naming.specs.Working.Identifying.{sight}
use Rattle.naming.specs.Working.Chain.{more_at}
use Prim.Native.Nat.{◌-◌, ◌+◌, ◌*◌}
use Rattle.naming.proofs.licensees.+chain_more_operand_primary.Given as goal

abbrev pub decreases-chain : goal.decreases-chain
decreases-chain l = 7 * l.left + 3 * l.level + 3

abbrev pub decreases-more : goal.decreases-more
decreases-more l = 7 * l.left + 3 * l.level + 2

abbrev pub decreases-operand : goal.decreases-operand
decreases-operand l = 7 * l.left + 3 * l.level + 1

abbrev pub decreases-primary : goal.decreases-primary
decreases-primary l = 7 * l.left

abbrev pub invariant-more-loop-t : goal.invariant-more-loop-t
invariant-more-loop-t l = (length l.pool ≡ length l.initial.pool) × (length l.places ≡ length l.initial.places) × (length l.code ≡ length l.initial.code) × (more_at l.left l.level l.s (sight l.scope.query.now l.scope.consts.now l.scope.values.now l.scope.names.now l.scope.constants.now) l.pool l.places l.code l.state l.t ≡ more_at l.left l.level l.s (sight l.scope.query.now l.scope.consts.now l.scope.values.now l.scope.names.now l.scope.constants.now) l.initial.pool l.initial.places l.initial.code l.initial.state l.initial.t)

abbrev pub decreases-more-loop-t : goal.decreases-more-loop-t
decreases-more-loop-t l = 16 - l.state.listed
