use Rattle.std.proofs.Common.{arith}
use Rattle.std.proofs.lemmas.Grind.{common_steps}
use Rattle.pattern.specs.Working.Places.{way-word}
use Rattle.pattern.proofs.rows.word_at.Goals as goal

pub returns : goal.returns
returns c = grind (arith, common_steps, way-word)
