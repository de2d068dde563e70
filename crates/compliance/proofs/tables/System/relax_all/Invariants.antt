use Rattle.std.proofs.Common.{◌≡◌, ◌-◌, length}
use Rattle.compliance.specs.Working.Words.{flags_of}
use Rattle.compliance.specs.Working.Rounds.{relax_from}
use Rattle.compliance.proofs.tables.System.relax_all.Given as goal

abbrev pub invariant-loop-j : goal.invariant-loop-j
invariant-loop-j l =
    (length l.stack ≡ length l.initial.stack)
    × (relax_from l.self.authors.now l.self.conds.now l.self.ends.now l.self.code.now l.self.top (length l.initial.stack) (flags_of l.reach) l.ranks (length l.self.authors.now - l.j) l.j l.next
    ≡ relax_from l.self.authors.now l.self.conds.now l.self.ends.now l.self.code.now l.self.top (length l.initial.stack) (flags_of l.reach) l.ranks (length l.self.authors.now) 0 l.initial.next)
