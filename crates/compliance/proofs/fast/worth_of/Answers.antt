use Rattle.compliance.specs.Working.Machine.{worth-alone}
use Rattle.compliance.proofs.fast.worth_of.Goals as goal

pub returns-then-code-lt-TOP : goal.returns-then-code-lt-TOP
returns-then-code-lt-TOP c = search worth-alone
