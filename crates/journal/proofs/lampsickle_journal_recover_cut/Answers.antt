use Rattle.journal.specs.Working.Requests.{recover-few, recover-not, recover-done}
use Rattle.journal.specs.Working.Ways.{opened-within}
use Rattle.journal.proofs.lampsickle_journal_recover_cut.Goals as goal

pub overflow_sub-total : goal.overflow_sub-total
overflow_sub-total c = search opened-within

pub clear_back-requires : goal.clear_back-requires
clear_back-requires c = (search opened-within, search recover-few)

pub returns-in-Err : goal.returns-in-Err
returns-in-Err c = search recover-not

pub returns-in-Ok : goal.returns-in-Ok
returns-in-Ok c = search recover-done
