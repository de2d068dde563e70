use Rattle.naming.specs.Working.Authorizing.{barred-verified, barred-local}
use Rattle.naming.proofs.authorizer.is_barred.Goals as goal

pub returns-then-standing-eq-VERIFIED : goal.returns-then-standing-eq-VERIFIED
returns-then-standing-eq-VERIFIED c = search barred-verified

pub returns : goal.returns
returns c = search barred-local
