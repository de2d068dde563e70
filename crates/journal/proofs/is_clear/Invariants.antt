use Rattle.std.proofs.Common.{◌≡◌, ◌&&◌, drop}
use Rattle.journal.specs.Page.{zeros}
use Rattle.journal.proofs.is_clear.Given as goal

abbrev pub invariant-loop-b : goal.invariant-loop-b
invariant-loop-b l = (l.clear && zeros (drop l.b-index l.rest)) ≡ zeros l.rest
