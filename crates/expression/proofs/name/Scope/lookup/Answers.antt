use Rattle.expression.specs.Working.Searching.{lookup-query, lookup-constant}
use Rattle.expression.proofs.name.Scope.lookup.Goals as goal

pub returns-then-self-i : goal.returns-then-self-i
returns-then-self-i c = search lookup-query

pub returns : goal.returns
returns c = search lookup-constant
