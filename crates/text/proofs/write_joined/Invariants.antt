use Rattle.text.specs.Working.Joining.{Joins}
use Rattle.text.proofs.write_joined.Given as goal

abbrev pub invariant-loop-i : goal.invariant-loop-i
invariant-loop-i l = Joins l.initial.dst l.at l.s l.places l.dst l.to l.i
