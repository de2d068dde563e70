-- KeyNote-Version. Assumes nothing.
use Rattle.std.specs.Prelude.{List, [], ◌∷◌, ℕ, eqb, leb}
use Rattle.text.specs.Choice.{pick}
use Rattle.text.specs.Equal.{equal}
use Rattle.lexical.specs.Kind
use Rattle.lexical.specs.Literal.{decoded_at}
use Rattle.lexical.specs.Number.{LIMIT, number_at}
use Rattle.lexical.specs.declared.token.Token.{Token}
use Rattle.syntax.specs.Parsed.{Parsed, aside, unexpected}
use Rattle.fields.specs.Parsed.{behind, ended}

-- "a literal of value "2""
abbrev pub two : List ℕ
two = 50 ∷ []

-- "an integer of value 2": 5 "integer literal above 2147483647", 6 "version not 2: the value"
unfoldable pub version_number : List ℕ → Token → ℕ → Parsed ℕ
version_number s t n =
    pick (leb LIMIT n) (aside 5 t.start) (pick (eqb n 2) (ended 2 (behind s Kind.IN_FIELD t)) (aside 6 t.start))

unfoldable pub version_literal : List ℕ → Token → List ℕ → Parsed ℕ
version_literal s t value = pick (equal value two) (ended 2 (behind s Kind.IN_FIELD t)) (aside 6 t.start)

-- the field whose first token is t
unfoldable pub version : List ℕ → Token → Parsed ℕ
version s t =
    pick (eqb t.kind Kind.DIGITS) (version_number s t (number_at s t.start t.end))
    (pick (eqb t.kind Kind.LITERAL) (version_literal s t (decoded_at s t.start)) (unexpected t))
