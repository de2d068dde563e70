-- Tokens of a text. Assumes nothing.
use Rattle.std.specs.Prelude.{◌≡◌, refl, List, ℕ, ◌<◌, ◌≤◌, length}
use Rattle.lexical.specs.Kind
use Rattle.lexical.specs.Line.{token_at}
use Rattle.lexical.specs.Theorems.TokensLaws.{token-within}
use Rattle.lexical.specs.declared.token.Token.{Token}

-- t is the token behind some place of the text
pub record Stood (s : List ℕ) (t : Token) : Type 0 where
  pub mode : ℕ
  pub at : ℕ
  pub is : t ≡ token_at s mode at

pub stood-at : (s : List ℕ) (mode at : ℕ) → Stood s (token_at s mode at)
stood-at s mode at = record { mode = mode; at = at; is = refl }

-- a token that can be formed ends in the text
pub stood-end : {s : List ℕ} {t : Token} → Stood s t → Kind.BAD_LINE < t.kind → t.end ≤ length s
stood-end {s} {t} st real = token-within s st.mode st.at t st.is real
