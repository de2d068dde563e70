-- A text as a list of tokens, the last of which is the end or a fault. Assumes nothing.
use Rattle.std.specs.Prelude.{List, [], ◌∷◌, ℕ, zero, suc, ◌-◌, ltb, length}
use Rattle.text.specs.Choice.{pick}
use Rattle.lexical.specs.Kind.{BAD_LINE, BEFORE, mode_after}
use Rattle.lexical.specs.Line.{token_at}
use Rattle.lexical.specs.declared.token.Token.{Token}

-- at most n of them
unfoldable pub tokens_to : ℕ → List ℕ → ℕ → ℕ → List Token
tokens_to zero s mode at = []
tokens_to (suc n) s mode at =
    token_at s mode at
    ∷ pick (ltb BAD_LINE (token_at s mode at).kind) (tokens_to n s (mode_after mode (token_at s mode at).kind) (token_at s mode at).end) []

-- the tokens behind the place `at`: each takes a byte at least
unfoldable pub tokens_from : List ℕ → ℕ → ℕ → List Token
tokens_from s mode at = tokens_to (suc (length s - at)) s mode at

-- the tokens of a text
unfoldable pub tokens : List ℕ → List Token
tokens s = tokens_from s BEFORE 0
