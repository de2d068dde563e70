use Rattle.naming.specs.Working.Authorizing.{finished_on, finished-not}
use Rattle.naming.proofs.authorizer.finished.Goals as goal

pub returns-then-is_ending : goal.returns-then-is_ending
returns-then-is_ending c = search finished_on

pub returns : goal.returns
returns c = search finished-not
