use Rattle.float.specs.Working.Reading.{float-none, float-minus, float_plain}
use Rattle.float.proofs.written.to_float.Goals.{else-s-gt0-via-then-s-gt0+else-s-eq45, else-s-gt0-via-else-s-gt0}
use Rattle.float.proofs.written.to_float.Goals as goal

pub returns-then-s-eq45 : goal.returns-then-s-eq45
returns-then-s-eq45 c = search float-minus

pub returns : goal.returns
returns c = elim c.else-s-gt0.branch [
  | else-s-gt0-via-then-s-gt0+else-s-eq45 w ↦ search float_plain
  | else-s-gt0-via-else-s-gt0 w ↦ search float-none
]
