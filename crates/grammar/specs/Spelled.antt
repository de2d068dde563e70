-- The kinds of token in Conditions: those of the lexer, and one more for the words true and false. Assumes nothing.
use Rattle.std.specs.Prelude.{Bool, true, List, map, ℕ, eqb}
use Rattle.text.specs.Choice.{pick}
use Rattle.lexical.specs.Kind
use Rattle.lexical.specs.Word.{spells, word_true, word_false}
use Rattle.lexical.specs.declared.token.Token.{Token}
use Rattle.grammar.specs.Conditions.{TRUTH}
use Rattle.grammar.specs.Viable.{TokensIn}

-- does the token spell that word, in any case?
abbrev pub spelled : List ℕ → Token → List ℕ → Bool
spelled s t w = spells s t.start t.end w

-- "true" and "false" are names that may be tests
unfoldable pub kind_in : List ℕ → Token → ℕ
kind_in s t = pick (eqb t.kind Kind.NAME) (pick (pick (spelled s t word_true) true (spelled s t word_false)) TRUTH Kind.NAME) t.kind

-- the kinds of tokens
abbrev pub kinds_in : List ℕ → List Token → List ℕ
kinds_in s ts = map (kind_in s) ts

-- the tokens of a Conditions field from the first up to before the second
abbrev pub Tokens : List ℕ → Token → List Token → Token → Type 0
Tokens s t ts n = TokensIn s Kind.IN_FIELD t ts n
