use Rattle.fields.specs.Working.Outs.{signature-long, signature-none, signature-read}
use Rattle.fields.proofs.signature.signature.Goals as goal

pub returns-then-t-ne-LITERAL : goal.returns-then-t-ne-LITERAL
returns-then-t-ne-LITERAL c = search signature-none

pub returns-then-not-is_fitting : goal.returns-then-not-is_fitting
returns-then-not-is_fitting c = search signature-long

pub returns : goal.returns
returns c = search signature-read
