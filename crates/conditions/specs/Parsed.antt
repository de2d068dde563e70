-- Parts of expressions. Assumes nothing.
use Rattle.lexical.specs.declared.token.Token.{Token}
use Rattle.syntax.specs.Expr.{Expr}
use Rattle.syntax.specs.Parsed.{Parsed, ok, aside}
use Rattle.conditions.specs.Table.{PartSort}

-- a part of an expression: its sort and what it says; a bare word says a name until it is settled
pub data Part : Type 0 where
  part : PartSort → Expr → Part

-- go on from what was read; a fault stands. Reason 0 is none of document 01's: the reader was given too small a depth.
abbrev pub on_part : {A : Type 0} → Parsed Part → (PartSort → Expr → Token → Parsed A) → Parsed A
on_part (aside r p) k = aside r p
on_part (ok (part sort e) t) k = k sort e t
