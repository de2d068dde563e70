use Rattle.std.proofs.Common.{◌≡◌, length}
use Rattle.pattern.specs.Working.Skip.{Noted}
use Rattle.pattern.proofs.run.Pattern.note_idle.Given as goal

abbrev pub invariant-loop-k : goal.invariant-loop-k
invariant-loop-k l = (length l.m ≡ 256) × Noted l.self.bytes.now l.self.table.now l.self.whole.fm l.self.whole.lm l.k l.m
