use Rattle.float.specs.Working.Packing.{nan-bits}
use Rattle.float.proofs.bits.bits_of.Goals as goal

pub returns-then-is_nan : goal.returns-then-is_nan
returns-then-is_nan c = nan-bits c.args.x _ c.is_nan.ensures.value c.if-is_nan.true
