use Rattle.std.proofs.Common.{◌≡◌, ◌-◌, length}
use Rattle.compliance.specs.Working.Reach.{open_from}
use Rattle.compliance.specs.Working.Words.{flags_in}
use Rattle.compliance.proofs.tables.System.first_open.Given as goal

abbrev pub invariant-loop-j : goal.invariant-loop-j
invariant-loop-j l =
    open_from l.self.authors.now l.done (flags_in (length l.self.direct.now) l.reach) (length l.self.authors.now - l.j) l.j
    ≡ open_from l.self.authors.now l.done (flags_in (length l.self.direct.now) l.reach) (length l.self.authors.now) 0
