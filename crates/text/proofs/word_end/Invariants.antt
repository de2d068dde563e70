use Rattle.std.proofs.Common.{◌≡◌}
use Rattle.text.specs.Scan.{past}
use Rattle.text.specs.Class.{is_word}
use Rattle.text.proofs.word_end.Given as goal

abbrev pub invariant-loop-i : goal.invariant-loop-i
invariant-loop-i l = past is_word l.s l.i ≡ past is_word l.s l.at
