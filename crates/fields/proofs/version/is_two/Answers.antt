use Rattle.fields.specs.Working.Outs.{two_is, two-length, two-never}
use Rattle.fields.proofs.version.is_two.Goals as goal

pub returns-then-literal_length-ne1 : goal.returns-then-literal_length-ne1
returns-then-literal_length-ne1 c = search two-length

pub returns-then-decode_into : goal.returns-then-decode_into
returns-then-decode_into c = search two_is

pub returns : goal.returns
returns c = search two-never
