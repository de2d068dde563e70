use Rattle.std.proofs.Common.{◌≡◌, Bool, ℕ, ◌-◌, length}
use Rattle.text.specs.Scan.{past}
use Rattle.lexical.specs.Tests.{Tests}
use Rattle.lexical.proofs.scan.end_of.Given as goal

abbrev pub invariant-loop-i : goal.invariant-loop-i
invariant-loop-i g l = (p : ℕ → Bool) → Tests (goal.F-post g l.passes) p → past p l.s l.i ≡ past p l.s l.at

abbrev pub decreases-loop-i : goal.decreases-loop-i
decreases-loop-i g l = length l.s - l.i
