-- An assertion as its fields say it. Assumes nothing.
use Rattle.std.specs.Prelude.{List}
use Rattle.record.specs.Query.{Attribute}
use Rattle.principal.specs.Principal.{Principal}
use Rattle.compliance.specs.Licensees.{Licensees}
use Rattle.syntax.specs.Expr.{Program}

-- the field Conditions: a program, with the constants of a Local-Constants field "earlier in the text"
pub data Conditions : Type 0 where
  absent : Conditions
  stated : List Attribute → Program → Conditions

-- a kept assertion: a name in Authorizer or Licensees stands for its principal already
pub record Assertion : Type 0 where
  pub authorizer : Principal
  pub licensees : Licensees
  pub conditions : Conditions
