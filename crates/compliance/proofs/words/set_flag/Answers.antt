use Rattle.compliance.specs.Working.Words.{set_past, flag-new}
use Rattle.compliance.proofs.words.set_flag.Goals as goal

pub returns-then-j-words : goal.returns-then-j-words
returns-then-j-words c = search flag-new

pub returns-else-j-words : goal.returns-else-j-words
returns-else-j-words c = search set_past
