-- Working definition: the bytes of a token, as the code takes them. Of a name they are the name that starts there (`Theorems.Words`). Assumes nothing.
use Rattle.std.specs.Prelude.{List, ℕ, ◌-◌}
use Rattle.text.specs.Counted.{part}
use Rattle.lexical.specs.declared.token.Token.{Token}

unfoldable pub word_of : List ℕ → Token → List ℕ
word_of s t = part s t.start (t.end - t.start)
