use Rattle.compliance.specs.Working.Machine.{step-rank, step-top, step-combine}
use Rattle.compliance.proofs.machine.step.Goals as goal

pub returns-then-op-lt-TOP : goal.returns-then-op-lt-TOP
returns-then-op-lt-TOP c = search step-rank

pub returns-then-op-eq-TOP : goal.returns-then-op-eq-TOP
returns-then-op-eq-TOP c = search step-top

pub returns : goal.returns
returns c = search step-combine
