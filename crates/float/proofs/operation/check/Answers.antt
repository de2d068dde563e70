use Rattle.float.specs.Working.Computing.{check-kept, check-refused}
use Rattle.float.proofs.operation.check.Goals as goal

-- src/lib.rt:32:9
pub returns-then-is_finite : goal.returns-then-is_finite
returns-then-is_finite c = search check-kept

-- src/lib.rt:28:1
pub returns-else-is_finite : goal.returns-else-is_finite
returns-else-is_finite c = search check-refused
