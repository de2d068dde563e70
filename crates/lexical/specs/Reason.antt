-- The reason and the place that document 01 gives for a fault. Assumes nothing.
use Rattle.std.specs.Prelude.{ℕ, eqb}
use Rattle.text.specs.Choice.{pick}
use Rattle.lexical.specs.Kind.{ILLEGAL, BAD_LINE}
use Rattle.lexical.specs.declared.token.Token.{Token}

-- 1 "no token can be formed", 3 "line start [..] wrong", 0 where the token is no fault
unfoldable pub reason_of : ℕ → ℕ
reason_of kind = pick (eqb kind ILLEGAL) 1 (pick (eqb kind BAD_LINE) 3 0)

-- "its start (a NUL in a comment: that byte)"; "line start"
abbrev pub place_of : Token → ℕ
place_of t = t.start
