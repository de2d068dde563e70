use mathlib.Core.Path.{◌≡◌}
use Prim.Native.Nat.{◌-◌}
use lib.ListN.{length}
use Rattle.conditions.specs.Working.Program.{clauses_rest, clauses_at}
use Rattle.conditions.proofs.program.+clause_clauses_nested_program_tested_value.Given as goal

abbrev pub decreases-clause : goal.decreases-clause
decreases-clause l = l.d

abbrev pub decreases-clauses : goal.decreases-clauses
decreases-clauses l = l.d

abbrev pub decreases-nested : goal.decreases-nested
decreases-nested l = l.d

abbrev pub decreases-program : goal.decreases-program
decreases-program l = l.d

abbrev pub decreases-tested : goal.decreases-tested
decreases-tested l = l.d

abbrev pub decreases-value : goal.decreases-value
decreases-value l = l.d

abbrev pub invariant-clauses-loop-t : goal.invariant-clauses-loop-t
invariant-clauses-loop-t l = (length l.code ≡ length l.initial.code) × (clauses_rest (l.d - 1) l.s l.code l.top l.nest l.t ≡ clauses_at l.d l.s l.initial.code l.from l.nest l.initial.t)

abbrev pub decreases-clauses-loop-t : goal.decreases-clauses-loop-t
decreases-clauses-loop-t l = length l.s - l.t.start
