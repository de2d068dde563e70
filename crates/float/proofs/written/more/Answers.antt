use Rattle.std.proofs.Common.{rules}
use Rattle.float.specs.Working.Reading.{more-first, more-fits, more-holds, more_same, more-small, more-done}
use Rattle.float.proofs.written.more.Goals as goal

pub loop-b-init : goal.loop-b-init
loop-b-init c = (search rules, search more-first)

pub overflow_mul-n : goal.overflow_mul-n
overflow_mul-n c = search more-fits

pub overflow_add-n : goal.overflow_add-n
overflow_add-n c = search more-holds

pub loop-b-preserved : goal.loop-b-preserved
loop-b-preserved c = (search more_same, search more-small)

pub returns : goal.returns
returns c = search more-done
