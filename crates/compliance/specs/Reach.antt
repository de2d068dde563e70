-- The reach: "POLICY and, repeatedly, every licensee of kept assertions authorized within it". Assumes nothing.
use Rattle.std.specs.Prelude.{◌≡◌, true, false, ℕ, zero, suc, ◌+◌, length}
use mathlib.Core.List.{List, [], ◌∷◌, ◌++◌, Memᴰ as Mem}
use Rattle.text.specs.Choice.{pick}
use Rattle.principal.specs.Principal.{Principal, same, policy}
use Rattle.principal.specs.Members.{member}
use Rattle.compliance.specs.Licensees.{licensees}
use Rattle.compliance.specs.System.{Assertion, System}

-- the licensees of the assertions that p authorizes
unfoldable pub licensees_of : List Assertion → Principal → List Principal
licensees_of [] p = []
licensees_of (a ∷ l) p = pick (same a.authorizer p) (licensees a.field) [] ++ licensees_of l p

-- what is still to be looked at is taken in turn, and added to what was reached unless it is there
unfoldable pub reach_from : List Assertion → ℕ → List Principal → List Principal → List Principal
reach_from l zero work found = found
reach_from l (suc f) [] found = found
reach_from l (suc f) (p ∷ work) found = elim (member p found) [ true ↦ reach_from l f work found | false ↦ reach_from l f (licensees_of l p ++ work) (p ∷ found) ]

-- how often the assertions name a licensee
unfoldable pub namings : List Assertion → ℕ
namings [] = 0
namings (a ∷ l) = length (licensees a.field) + namings l

-- the principals in the reach, each once: POLICY is looked at, and each naming at most once (`reach-closed`)
unfoldable pub reach : System → List Principal
reach s = reach_from s.assertions (suc (namings s.assertions)) (policy ∷ []) []

-- p is in the reach
abbrev pub InReach : System → Principal → Type 0
InReach s p = member p (reach s) ≡ true

-- the same, as a relation: the reach has these principals and no others (`reach-sound`, `reach-complete`)
pub data Reachable (s : System) : Principal → Type 0 where
  root : {p : Principal} → same p policy ≡ true → Reachable s p
  licensee : {p q : Principal} (a : Assertion) → Mem a s.assertions → same a.authorizer p ≡ true → Reachable s p
      → member q (licensees a.field) ≡ true → Reachable s q
