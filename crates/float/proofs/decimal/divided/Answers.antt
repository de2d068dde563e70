use Rattle.float.specs.Working.Converting.{digits-fit, digit-fits, divide-step, rest_below}
use Rattle.float.proofs.Working.Converting.{divided-made}
use Rattle.float.proofs.decimal.divided.Goals as goal

-- src/lib.rt:81:13
pub overflow_mul-q : goal.overflow_mul-q
overflow_mul-q c = search digits-fit

-- src/lib.rt:81:13
pub overflow_add-q : goal.overflow_add-q
overflow_add-q c = search digit-fits

-- src/lib.rt:79:5
pub loop-preserved : goal.loop-preserved
loop-preserved c = (search rest_below, search divide-step)

-- src/lib.rt:72:1
pub returns : goal.returns
returns c = search divided-made
