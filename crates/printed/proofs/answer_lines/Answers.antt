use Rattle.printed.specs.Working.Adding.{refused-lines, answered-lines}
use Rattle.printed.proofs.answer_lines.Goals as goal

pub returns-then-answer-ne0 : goal.returns-then-answer-ne0
returns-then-answer-ne0 c = search refused-lines

pub returns : goal.returns
returns c = search answered-lines
