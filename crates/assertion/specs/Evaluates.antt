-- A well-formed text whose identifiers evaluate in a query. Assumes nothing.
use Rattle.std.specs.Prelude.{◌≡◌, false, ℕ, ◌≤◌, length}
use mathlib.Core.List.{Memᴰ as Mem}
use Rattle.limits.specs.Limits.{most_identifier}
use Rattle.record.specs.Query.{Query}
use Rattle.principal.specs.Principal.{Principal, same, policy}
use Rattle.compliance.specs.Licensees.{licensees}
use Rattle.naming.specs.Naming.{author, licensed}
use Rattle.naming.specs.Fault.{verified}
use Rattle.assertion.specs.Said.{Said}

-- "1 to 256 bytes"; an error has none
pub record Identifies (p : Principal) : Type 0 where
  pub some : 1 ≤ length p
  pub short : length p ≤ most_identifier

-- Authorizer and every licensee identify somebody; a verified credential's Authorizer isn't POLICY
pub record Evaluates (q : Query) (standing : ℕ) (a : Said) : Type 0 where
  pub made : Identifies (author q a.author)
  pub licensed-to : (p : Principal) → Mem p (licensees (licensed q a.licensees)) → Identifies p
  pub unbarred : standing ≡ verified → same (author q a.author) policy ≡ false
