-- Assertions, the equations of their principals' ranks, and what a solution is. Assumes nothing.
use Rattle.std.specs.Prelude.{◌≡◌, List, [], ◌∷◌, ℕ, zero, suc, ◌≤◌, min, max}
use Rattle.text.specs.Choice.{pick}
use Rattle.principal.specs.Principal.{Principal, same}
use Rattle.principal.specs.Members.{member}
use Rattle.compliance.specs.Licensees.{Rank, Licensees, licensed}

-- a kept assertion; its conditions are a rank already: top where the field is missing, 0 where it is empty
pub record Assertion : Type 0 where
  pub authorizer : Principal
  pub conditions : ℕ
  pub field : Licensees

-- kept assertions, requesters, and the highest rank, which is one less than the number of compliance values
pub record System : Type 0 where
  pub assertions : List Assertion
  pub requesters : List Principal
  pub top : ℕ

-- "its direct authorization (top if a requester, else 0)"
unfoldable pub direct : System → Rank
direct s p = pick (member p s.requesters) s.top 0

-- "An assertion's rank is the minimum of its Conditions and Licensees ranks."
unfoldable pub asserted : ℕ → Rank → Assertion → ℕ
asserted top r a = min a.conditions (licensed top r a.field)

-- the maximum of "the ranks of kept assertions it authorizes"
unfoldable pub delegated : ℕ → List Assertion → Rank → Rank
delegated top [] r p = 0
delegated top (a ∷ l) r p = max (pick (same a.authorizer p) (asserted top r a) 0) (delegated top l r p)

-- "A principal's rank is the maximum of its direct authorization .. and the ranks of kept assertions it authorizes."
unfoldable pub equations : System → Rank → Rank
equations s r p = max (direct s p) (delegated s.top s.assertions r p)

-- "Round 0 gives every principal 0; each next round applies the equations to the round before"
unfoldable pub round : System → ℕ → Rank
round s zero p = 0
round s (suc n) p = equations s (round s n) p

-- "ranks that satisfy the equations"
abbrev pub Solves : System → Rank → Type 0
Solves s r = (p : Principal) → equations s r p ≡ r p

-- ", none higher than in any other ranks that do"
pub record Least (s : System) (r : Rank) : Type 0 where
  pub solves : Solves s r
  pub below : (r' : Rank) → Solves s r' → (p : Principal) → r p ≤ r' p
