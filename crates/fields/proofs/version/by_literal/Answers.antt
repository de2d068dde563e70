use Rattle.fields.specs.Working.Outs.{literal-other, literal-two}
use Rattle.fields.proofs.version.by_literal.Goals as goal

pub returns-then-is_two : goal.returns-then-is_two
returns-then-is_two c = search literal-two

pub returns : goal.returns
returns c = search literal-other
