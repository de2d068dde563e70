-- What a reader of a field gives. Assumes nothing.
use Rattle.std.specs.Prelude.{ℕ, eqb}
use Rattle.text.specs.Choice.{pick}
use Rattle.lexical.specs.Kind
use Rattle.lexical.specs.declared.token.Token.{Token}

-- what was read and the token behind it, or the first fault: its reason and its place
pub data Parsed (A : Type 0) : Type 0 where
  ok : A → Token → Parsed A
  aside : ℕ → ℕ → Parsed A

-- reads on behind what was read; a fault stands
abbrev pub and_then : {A B : Type 0} → Parsed A → (A → Token → Parsed B) → Parsed B
and_then (ok a t) k = k a t
and_then (aside r p) k = aside r p

-- 1 "no token can be formed", 3 "line start [..] wrong", 2 "token after which the field's grammar [..] allows no continuation"
unfoldable pub refusal : ℕ → ℕ
refusal kind = pick (eqb kind Kind.ILLEGAL) 1 (pick (eqb kind Kind.BAD_LINE) 3 2)

-- the token may not stand where it stands: "its start"
abbrev pub unexpected : {A : Type 0} → Token → Parsed A
unexpected t = aside (refusal t.kind) t.start
