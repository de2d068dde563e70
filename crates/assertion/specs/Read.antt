-- What comes of an assertion's text in a query. Assumes nothing.
use Rattle.std.specs.Prelude.{List, ℕ}
use Rattle.lexical.specs.Kind
use Rattle.lexical.specs.Line.{token_at}
use Rattle.lexical.specs.declared.token.Token.{Token}
use Rattle.assertion.specs.Assertion.{Assertion}

-- "Reasons (0 is kept [..])": the assertion, or the reason against it and its place
pub data Read : Type 0 where
  kept : Assertion → Read
  dropped : ℕ → ℕ → Read

-- the first token of the field behind a label
abbrev pub first : List ℕ → Token → Token
first s t = token_at s (Kind.opened t.kind) t.end
