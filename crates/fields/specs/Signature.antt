-- Signature. Assumes nothing.
use Rattle.std.specs.Prelude.{List, ℕ, eqb, ltb, length}
use Rattle.text.specs.Choice.{pick}
use Rattle.lexical.specs.Kind
use Rattle.lexical.specs.Literal.{decoded_at}
use Rattle.lexical.specs.declared.token.Token.{Token}
use Rattle.limits.specs.Limits.{most_literal}
use Rattle.syntax.specs.Parsed.{Parsed, ok, aside, unexpected}

-- "one string literal; nothing after it is read": what is read ends where t does
unfoldable pub signature : List ℕ → Token → Parsed (List ℕ)
signature s t =
    pick (eqb t.kind Kind.LITERAL)
    (pick (ltb most_literal (length (decoded_at s t.start))) (aside 7 t.start) (ok (decoded_at s t.start) t))
    (unexpected t)
