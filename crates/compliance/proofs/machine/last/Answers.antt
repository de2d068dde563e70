use Rattle.std.proofs.Common.{arith}
use Rattle.std.proofs.lemmas.Grind.{common_steps}
use Rattle.std.proofs.lemmas.Option.{unwrap_or-slice_get}
use Rattle.compliance.specs.Working.Machine.{last_of}
use Rattle.compliance.proofs.machine.last.Goals as goal

pub returns : goal.returns
unfolding last_of
returns c = grind (arith, common_steps, unwrap_or-slice_get)
