-- Where a string is read, the first token that is no bracket begins one, and it stands where the reader says. Assumes nothing.
use Rattle.std.specs.Prelude.{◌≡◌, Bool, true}
use Prim.Native.Nat.{ℕ}
use Rattle.lexical.specs.declared.token.Token.{Token}
use Rattle.syntax.specs.Expr.{Expr}
use Rattle.syntax.specs.Parsed.{Parsed, aside}
use Rattle.conditions.specs.Table.{PartSort}
use Rattle.conditions.specs.Parsed.{Part, on_part}

-- a reader gave a fault, or something is so
pub data Begun (b : Bool) : Parsed Part → Type 0 where
  begun-so : b ≡ true → (r : Parsed Part) → Begun b r
  begun-aside : (r p : ℕ) → Begun b (aside r p)

pub on-begun : (b : Bool) (r : Parsed Part) (k : PartSort → Expr → Token → Parsed Part) → Begun b r → Begun b (on_part r k)
on-begun b r k (begun-so e _) = begun-so e _
on-begun b _ k (begun-aside r p) = begun-aside r p
