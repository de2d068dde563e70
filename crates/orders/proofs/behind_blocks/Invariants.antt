use Rattle.std.proofs.Common.{◌≡◌, ◌*◌, take}
use Rattle.orders.proofs.behind_blocks.Given as goal

abbrev pub invariant-loop-k : goal.invariant-loop-k
invariant-loop-k g l = take (l.k * g.row.N) l.a ≡ take (l.k * g.row.N) l.b
