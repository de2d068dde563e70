use Rattle.std.proofs.Common.{◌≡◌}
use Rattle.compliance.specs.Working.Reach.{mark_from, marked_all}
use Rattle.compliance.specs.Working.Words.{flags_in, spare_in}
use Rattle.compliance.proofs.reach.mark_all.Given as goal

abbrev pub invariant-loop-op : goal.invariant-loop-op
invariant-loop-op l = (mark_from l.code l.op-index (flags_in l.n l.reach) ≡ marked_all l.code (flags_in l.n l.initial.reach)) × (spare_in l.n l.reach ≡ spare_in l.n l.initial.reach)
