-- The least solution, and the numbers that an answer gives beside it. Assumes nothing.
use Rattle.std.specs.Prelude.{Bool, true, false, List, [], ◌∷◌, ◌++◌, ℕ, zero, suc, eqb, length}
use Rattle.text.specs.Choice.{pick}
use Rattle.principal.specs.Principal.{Principal}
use Rattle.compliance.specs.Licensees.{Rank, licensees}
use Rattle.compliance.specs.System.{Assertion, System, round}
use Rattle.compliance.specs.Reach.{reach}

-- two ranks are equal on a list of principals
unfoldable pub equal_on : Rank → Rank → List Principal → Bool
equal_on r r' [] = true
equal_on r r' (p ∷ ps) = pick (eqb (r p) (r' p)) (equal_on r r' ps) false

-- round n's "next round is equal on the reach"
unfoldable pub settled : System → ℕ → Bool
settled s n = equal_on (round s n) (round s (suc n)) (reach s)

-- "Reached is that number of principals."
unfoldable pub reached : System → ℕ
reached s = length (reach s)

-- the first settled round from n on, of the f that follow
unfoldable pub first_settled : System → ℕ → ℕ → ℕ
first_settled s zero n = n
first_settled s (suc f) n = elim (settled s n) [ true ↦ n | false ↦ first_settled s f (suc n) ]

-- "Rounds is the first n whose next round is equal on the reach": it is among the first that are as many as the reached (`rounds-settled`)
unfoldable pub rounds : System → ℕ
rounds s = first_settled s (reached s) 0

-- the principals that authorize an assertion or are its licensees
unfoldable pub mentioned : List Assertion → List Principal
mentioned [] = []
mentioned (a ∷ l) = (a.authorizer ∷ licensees a.field) ++ mentioned l

-- the least solution (`rank-least`): the round after as many as are mentioned changes no principal's rank
unfoldable pub rank : System → Rank
rank s = round s (suc (length (mentioned s.assertions)))
