-- Working definitions: a fault as the code has it. Assumes nothing.
use Rattle.std.specs.Prelude.{◌≡◌, ℕ}
use Rattle.lexical.specs.declared.token.Token.{Token}
use Rattle.syntax.specs.Parsed.{refusal}
use Rattle.syntax.specs.declared.fault.Fault.{Fault}

-- a reason at a place
abbrev pub against : ℕ → ℕ → Fault
against reason place = record { reason = reason; place = place }

-- a token that may not stand where it stands
abbrev pub misplaced_at : Token → Fault
misplaced_at t = against (refusal t.kind) t.start

pub misplaced-is : (t : Token) (r : ℕ) → r ≡ refusal t.kind → against r t.start ≡ misplaced_at t
misplaced-is t r e = rw e
