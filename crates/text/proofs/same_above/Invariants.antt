use Rattle.std.proofs.Common.{◌≡◌, ◌+◌, ◌*◌, take}
use Rattle.text.specs.Equal.{equal}
use Rattle.text.proofs.same_above.Given as goal

abbrev pub invariant-loop-k : goal.invariant-loop-k
invariant-loop-k l = equal (take (l.i + l.k * 8) l.a) (take (l.i + l.k * 8) l.b) ≡ equal l.a l.b
