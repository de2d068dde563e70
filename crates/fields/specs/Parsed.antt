-- The tokens with which fields go on and end. Assumes nothing.
use Rattle.std.specs.Prelude.{List, ℕ}
use Rattle.text.specs.Choice.{pick}
use Rattle.lexical.specs.Kind.{ending}
use Rattle.lexical.specs.Line.{token_at}
use Rattle.lexical.specs.declared.token.Token.{Token}
use Rattle.syntax.specs.Parsed.{Parsed, ok, unexpected}

-- the token behind t
abbrev pub behind : List ℕ → ℕ → Token → Token
behind s mode t = token_at s mode t.end

-- the field ends at t
abbrev pub ended : {A : Type 0} → A → Token → Parsed A
ended a t = pick (ending t.kind) (ok a t) (unexpected t)
