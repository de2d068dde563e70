use Rattle.std.proofs.Common.{◌≡◌, ◌-◌, length}
use Rattle.compliance.specs.Working.Words.{flags_of}
use Rattle.compliance.specs.Working.Rounds.{settle_on}
use Rattle.compliance.specs.Working.Rising.{Rising}
use Rattle.compliance.proofs.tables.System.settle_on.Given as goal

abbrev pub invariant-loop-n : goal.invariant-loop-n
invariant-loop-n l =
    (length l.ranks ≡ length l.next) × (length l.stack ≡ length l.initial.stack)
    × Rising l.self.authors.now l.self.conds.now l.self.ends.now l.self.code.now l.self.top (length l.initial.stack) (flags_of l.reach) l.initial.next l.ranks l.next
    × (settle_on l.self.authors.now l.self.conds.now l.self.ends.now l.self.code.now l.self.top (length l.initial.stack) (flags_of l.reach) l.initial.next (l.limit - l.n) l.n l.ranks
    ≡ settle_on l.self.authors.now l.self.conds.now l.self.ends.now l.self.code.now l.self.top (length l.initial.stack) (flags_of l.reach) l.initial.next l.limit 0 l.initial.ranks)
