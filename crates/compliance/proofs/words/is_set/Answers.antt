use Rattle.compliance.specs.Working.Words.{flag-past, flag_is}
use Rattle.compliance.proofs.words.is_set.Goals as goal

pub returns-then-j-words : goal.returns-then-j-words
returns-then-j-words c = search flag_is

pub returns-else-j-words : goal.returns-else-j-words
returns-else-j-words c = search flag-past
