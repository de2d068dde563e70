-- Authorizer. Assumes nothing.
use Rattle.std.specs.Prelude.{List, ℕ}
use Rattle.record.specs.Query.{Attribute}
use Rattle.limits.specs.Limits.{most_brackets}
use Rattle.lexical.specs.declared.token.Token.{Token}
use Rattle.syntax.specs.Parsed.{Parsed, and_then}
use Rattle.fields.specs.Parsed.{ended}
use Rattle.naming.specs.Source.{Author}
use Rattle.naming.specs.String.{source}

-- the field whose first token is t
unfoldable pub authorizer : List ℕ → List Attribute → Token → Parsed Author
authorizer s constants t = and_then (source s most_brackets t) (λ x u. ended (record { constants = constants; by = x }) u)
