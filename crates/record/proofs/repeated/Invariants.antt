use Rattle.std.proofs.Common.{◌≡◌}
use Rattle.text.specs.Counted.{counted}
use Rattle.record.specs.Field.{among}
use Rattle.record.specs.Working.Moves.{seen_of}
use Rattle.record.specs.Working.Ways.{among_rest}
use Rattle.record.proofs.repeated.Given as goal

abbrev pub invariant-loop-i : goal.invariant-loop-i
invariant-loop-i l = among_rest l.s l.table l.start l.upto l.i ≡ among (counted l.s l.start) (seen_of l.s l.table l.from l.upto)
