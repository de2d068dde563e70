use Rattle.std.proofs.Common.{◌≡◌, ◌-◌, length}
use Rattle.compliance.specs.Working.Reach.{spread_from}
use Rattle.compliance.specs.Working.Words.{flags_in, spare_in}
use Rattle.compliance.proofs.tables.System.spread.Given as goal

abbrev pub invariant-loop : goal.invariant-loop
invariant-loop l =
    (spread_from l.self.authors.now l.self.ends.now l.self.code.now (length l.self.authors.now - l.counter) l.done (flags_in (length l.self.direct.now) l.reach)
    ≡ spread_from l.self.authors.now l.self.ends.now l.self.code.now (length l.self.authors.now) l.initial.done (flags_in (length l.self.direct.now) l.initial.reach))
    × (spare_in (length l.self.direct.now) l.reach ≡ spare_in (length l.self.direct.now) l.initial.reach)
