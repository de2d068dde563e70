use Rattle.naming.specs.Working.Authorizing.{policy-out, policy-in}
use Rattle.naming.proofs.authorizer.is_policy.Goals as goal

pub returns-then-places-number : goal.returns-then-places-number
returns-then-places-number c = search policy-out

pub returns : goal.returns
returns c = search policy-in
