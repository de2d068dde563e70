use Rattle.journal.proofs.Working.Requests.{append-whole}
use Rattle.journal.proofs.lampsickle_journal_append.Goals as goal

pub returns : goal.returns
returns c = search append-whole
