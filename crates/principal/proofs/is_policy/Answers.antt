use Rattle.principal.specs.Principal.{policy}
use borrow.Author.Rules.{rules}
use Rattle.principal.proofs.is_policy.Goals as goal

pub returns : goal.returns
unfolding policy
returns c = search rules
