use Rattle.fields.specs.Working.Outs.{ended-not, ended-on}
use Rattle.fields.proofs.out.ended.Goals as goal

pub returns-then-is_ending : goal.returns-then-is_ending
returns-then-is_ending c = search ended-on

pub returns : goal.returns
returns c = search ended-not
