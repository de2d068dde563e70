use Rattle.machine.specs.Working.Running.{push-literal, push-name, push-number, push-decimal, push-test}
use Rattle.machine.proofs.push_step.Goals as goal

pub returns-then-op-eq-LITERAL : goal.returns-then-op-eq-LITERAL
returns-then-op-eq-LITERAL c = search push-literal

pub returns-then-op-eq-NAME : goal.returns-then-op-eq-NAME
returns-then-op-eq-NAME c = search push-name

pub returns-then-op-eq-NUMBER : goal.returns-then-op-eq-NUMBER
returns-then-op-eq-NUMBER c = search push-number

pub returns-then-op-eq-DECIMAL : goal.returns-then-op-eq-DECIMAL
returns-then-op-eq-DECIMAL c = search push-decimal

pub returns : goal.returns
returns c = search push-test
