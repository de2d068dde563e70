use Rattle.std.proofs.Common.{◌≡◌, ◌*◌, drop}
use Rattle.text.specs.Equal.{equal}
use Rattle.text.proofs.long.same_long.Given as goal

abbrev pub invariant-loop-k : goal.invariant-loop-k
invariant-loop-k l = equal (drop (l.k * 1024) l.a) (drop (l.k * 1024) l.b) ≡ equal l.a l.b
