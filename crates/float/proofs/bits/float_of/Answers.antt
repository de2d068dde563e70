use Rattle.float.specs.Working.Packing.{number-low, number-high, float-low, float-high, float-nan, float-beyond}
use Rattle.float.proofs.bits.float_of.Goals.{else-n-ge2147483648-via-then-n-ge2147483648+else-n-le4286578688, else-n-ge2147483648-via-else-n-ge2147483648}
use Rattle.float.proofs.bits.float_of.Goals as goal

pub float_from_bits-result : goal.float_from_bits-result
float_from_bits-result c = search number-low

pub returns-then-n-le2139095040 : goal.returns-then-n-le2139095040
returns-then-n-le2139095040 c = search float-low

pub float_from_bits-result-then-n-le4286578688 : goal.float_from_bits-result-then-n-le4286578688
float_from_bits-result-then-n-le4286578688 c = search number-high

pub returns-then-n-le4286578688 : goal.returns-then-n-le4286578688
returns-then-n-le4286578688 c = search float-high

pub returns : goal.returns
returns c = elim c.else-n-ge2147483648.branch [
  | else-n-ge2147483648-via-then-n-ge2147483648+else-n-le4286578688 w ↦ search float-beyond
  | else-n-ge2147483648-via-else-n-ge2147483648 w ↦ search float-nan
]
