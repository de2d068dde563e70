use Rattle.register.specs.Working.Boundary.{empty-length, empty-done}
use Rattle.register.proofs.lampsickle_register_empty.Goals as goal

pub returns-then-bytes-ne-BYTES : goal.returns-then-bytes-ne-BYTES
returns-then-bytes-ne-BYTES c = search empty-length

pub returns : goal.returns
returns c = search empty-done
