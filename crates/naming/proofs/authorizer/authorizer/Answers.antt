use Rattle.naming.specs.Working.Authorizing.{author-made}
use Rattle.naming.proofs.authorizer.authorizer.Goals as goal

pub returns : goal.returns
returns c = search author-made
