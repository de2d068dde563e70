use Rattle.std.proofs.Common.{◌≡◌, ◌*◌, take}
use Rattle.text.specs.Equal.{equal}
use Rattle.text.proofs.same_below.Given as goal

abbrev pub invariant-loop-k : goal.invariant-loop-k
invariant-loop-k l = equal (take (l.k * 64) l.a) (take (l.k * 64) l.b) ≡ equal (take (l.n * 64) l.a) (take (l.n * 64) l.b)
