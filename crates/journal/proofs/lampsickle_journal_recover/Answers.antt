use Rattle.journal.specs.Working.Requests.{recover-whole}
use Rattle.journal.proofs.lampsickle_journal_recover.Goals as goal

pub returns : goal.returns
returns c = search recover-whole
