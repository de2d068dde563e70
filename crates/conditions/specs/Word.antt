-- The tokens of Conditions and its bare words. Assumes nothing.
use Rattle.std.specs.Prelude.{List, ℕ, true, false}
use Rattle.text.specs.Choice.{pick}
use Rattle.lexical.specs.Kind.{IN_FIELD}
use Rattle.lexical.specs.Line.{token_at}
use Rattle.lexical.specs.Word.{spells, word_true, word_false}
use Rattle.lexical.specs.declared.token.Token.{Token}
use Rattle.syntax.specs.Operator.{a-string}
use Rattle.conditions.specs.Table.{PartSort, sorted, word, Want, is_any}

-- the token behind a place of the field
abbrev pub next_at : List ℕ → ℕ → Token
next_at s at = token_at s IN_FIELD at

-- ""true" and "false" may also be attribute names": where both may stand, the word is not settled yet
unfoldable pub word_sort : List ℕ → Want → ℕ → ℕ → PartSort
word_sort s want start end =
    pick (is_any want) (pick (spells s start end word_true) (word true) (pick (spells s start end word_false) (word false) (sorted a-string))) (sorted a-string)
