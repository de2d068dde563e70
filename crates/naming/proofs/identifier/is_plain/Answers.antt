use Rattle.naming.specs.Working.Identifying.{plain-kind, plain-literal}
use Rattle.naming.proofs.identifier.is_plain.Goals as goal

pub returns-then-t-eq-NAME : goal.returns-then-t-eq-NAME
returns-then-t-eq-NAME c = search plain-kind

pub returns : goal.returns
returns c = search plain-literal
