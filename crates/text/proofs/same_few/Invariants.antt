use Rattle.std.proofs.Common.{◌≡◌, take}
use Rattle.text.specs.Equal.{equal}
use Rattle.text.proofs.same_few.Given as goal

abbrev pub invariant-loop-i : goal.invariant-loop-i
invariant-loop-i l = equal (take l.i l.a) (take l.i l.b) ≡ equal l.a l.b
