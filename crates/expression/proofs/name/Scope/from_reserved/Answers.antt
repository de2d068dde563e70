use Rattle.expression.specs.Working.Searching.{query-least, query-most, query-values, query-authorizers, query-attribute}
use Rattle.expression.proofs.name.Scope.from_reserved.Goals as goal

pub returns-then-same_bytes : goal.returns-then-same_bytes
returns-then-same_bytes c = search query-least

pub returns-then-same_bytes-2 : goal.returns-then-same_bytes-2
returns-then-same_bytes-2 c = search query-most

pub returns-then-same_bytes-3 : goal.returns-then-same_bytes-3
returns-then-same_bytes-3 c = search query-values

pub returns-then-same_bytes-4 : goal.returns-then-same_bytes-4
returns-then-same_bytes-4 c = search query-authorizers

pub returns : goal.returns
returns c = search query-attribute
