use Rattle.std.proofs.Common.{◌≡◌, eqb}
use Rattle.compliance.specs.Working.Rounds.{changes_of}
use Rattle.compliance.specs.Working.RoundWays.{adopted, still_from}
use Rattle.compliance.proofs.rounds.adopt.Given as goal

abbrev pub invariant-loop-i : goal.invariant-loop-i
invariant-loop-i l = (l.ranks ≡ adopted l.initial.ranks l.next l.i) × (still_from l.initial.ranks l.next l.i l.same ≡ eqb (changes_of l.initial.ranks l.next) 0)
