use Rattle.naming.specs.Working.Identifying.{entered-none, entered-long, entered-one}
use Rattle.naming.proofs.identifier.entered.Goals as goal

pub returns-then-id-eq0 : goal.returns-then-id-eq0
returns-then-id-eq0 c = search entered-none

pub returns-then-id-gt-MOST_IDENTIFIER : goal.returns-then-id-gt-MOST_IDENTIFIER
returns-then-id-gt-MOST_IDENTIFIER c = search entered-long

pub returns : goal.returns
returns c = search entered-one
