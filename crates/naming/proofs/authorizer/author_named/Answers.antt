use Rattle.naming.specs.Working.Authorizing.{author-string, author-longer, author-plain}
use Rattle.naming.specs.Working.Identifying.{plain-yes}
use Rattle.naming.proofs.authorizer.author_named.Goals as goal

pub returns-then-n-eq-DOT : goal.returns-then-n-eq-DOT
returns-then-n-eq-DOT c = search author-longer

pub plain_named-requires : goal.plain_named-requires
plain_named-requires c = search plain-yes

pub returns-then-is_plain : goal.returns-then-is_plain
returns-then-is_plain c = search author-plain

pub returns : goal.returns
returns c = search author-string
