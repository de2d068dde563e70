use mathlib.Core.Path.{◌≡◌}
use Prim.Native.Nat.{◌-◌}
use lib.ListN.{length}
use Rattle.conditions.specs.Working.Expression.{chain_rest, chain_at}
use Rattle.conditions.proofs.expression.+bracketed_chain_expression_joined_operand_prefixed.Given as goal

abbrev pub decreases-bracketed : goal.decreases-bracketed
decreases-bracketed l = l.d

abbrev pub decreases-chain : goal.decreases-chain
decreases-chain l = l.d

abbrev pub decreases-expression : goal.decreases-expression
decreases-expression l = l.d

abbrev pub decreases-joined : goal.decreases-joined
decreases-joined l = l.d

abbrev pub decreases-operand : goal.decreases-operand
decreases-operand l = l.d

abbrev pub decreases-prefixed : goal.decreases-prefixed
decreases-prefixed l = l.d

abbrev pub invariant-chain-loop-t : goal.invariant-chain-loop-t
invariant-chain-loop-t l = (length l.code ≡ length l.initial.code) × (chain_rest (l.d - 1) l.s l.code l.top l.level l.nest l.sort l.place l.t ≡ chain_at l.d l.s l.initial.code l.from l.level l.nest l.before l.spot l.initial.t)

abbrev pub decreases-chain-loop-t : goal.decreases-chain-loop-t
decreases-chain-loop-t l = length l.s - l.t.start
