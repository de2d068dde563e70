-- A string expression where a principal stands. Assumes nothing.
use Rattle.std.specs.Prelude.{List, ℕ, zero, suc, ◌-◌, eqb}
use Rattle.text.specs.Choice.{pick}
use Rattle.limits.specs.Limits.{most_brackets}
use Rattle.lexical.specs.Kind
use Rattle.lexical.specs.declared.token.Token.{Token}
use Rattle.syntax.specs.Parsed.{Parsed, ok}
use Rattle.conditions.specs.Table.{want-string}
use Rattle.conditions.specs.Word.{next_at}
use Rattle.conditions.specs.Parsed.{on_part}
use Rattle.conditions.specs.Expression.{read_expression}
use Rattle.conditions.specs.Program.{DEPTH}
use Rattle.naming.specs.Source.{Source}

-- "that expression's first token that is no bracket", `left` more brackets allowed
unfoldable pub plain_from : ℕ → List ℕ → Token → Token
plain_from zero s t = t
plain_from (suc left) s t = pick (eqb t.kind Kind.OPEN) (plain_from left s (next_at s t.end)) t

-- how many brackets are open where `left` more are allowed
abbrev pub nest_of : ℕ → ℕ
nest_of left = most_brackets - left

-- a whole string expression from t on, brackets and all, as it stands in Conditions
unfoldable pub source : List ℕ → ℕ → Token → Parsed Source
source s left t =
    on_part (read_expression DEPTH s 3 want-string 0 (nest_of left) t) (λ sort e u. ok (record { place = (plain_from left s t).start; says = e }) u)
