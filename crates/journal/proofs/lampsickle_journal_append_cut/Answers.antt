use Rattle.journal.proofs.Working.Requests.{append-within, append-few, append-short, append-not, append-done}
use Rattle.journal.proofs.lampsickle_journal_append_cut.Goals as goal

pub write_entry-requires : goal.write_entry-requires
write_entry-requires c = (search append-within, search append-few, search append-short)

pub returns-in-Err : goal.returns-in-Err
returns-in-Err c = search append-not

pub returns-in-Ok : goal.returns-in-Ok
returns-in-Ok c = search append-done
