use Rattle.std.proofs.Common.{◌≡◌, ◌++◌, drop}
use Rattle.compliance.specs.Working.Words.{flags_of}
use Rattle.compliance.specs.Working.Rounds.{direct_table}
use Rattle.compliance.proofs.tables.System.set_direct.Given as goal

abbrev pub invariant-loop-i : goal.invariant-loop-i
invariant-loop-i l = l.next ≡ direct_table l.self.direct.now (flags_of l.reach) l.self.top l.i ++ drop l.i l.initial.next
