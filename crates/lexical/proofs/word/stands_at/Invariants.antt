use mathlib.Core.Path.{◌≡◌}
use Rattle.lexical.specs.Word.{stands}
use Rattle.lexical.proofs.WordWays.{stands_rest}
use Rattle.lexical.proofs.word.stands_at.Given as goal

abbrev pub invariant-loop-i : goal.invariant-loop-i
invariant-loop-i l = stands_rest l.s l.at l.w l.i ≡ stands l.s l.at l.w
