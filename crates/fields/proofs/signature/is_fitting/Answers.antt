use Rattle.fields.specs.Working.Outs.{fitting-sized, fitting-told}
use Rattle.fields.proofs.signature.is_fitting.Goals as goal

pub returns-then-is_sized : goal.returns-then-is_sized
returns-then-is_sized c = search fitting-sized

pub returns : goal.returns
returns c = search fitting-told
