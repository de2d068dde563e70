use Rattle.expression.specs.Working.Searching.{query-unmarked}
use Rattle.expression.proofs.name.Scope.from_query.Goals as goal

pub returns : goal.returns
returns c = search query-unmarked
