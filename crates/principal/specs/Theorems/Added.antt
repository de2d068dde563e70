-- A list of distinct principals with one more. Assumes nothing.
use Rattle.std.specs.Prelude.{◌≡◌, false, List, [], ◌∷◌, ◌++◌}
use Rattle.std.proofs.Common.{⊎_elim}
use Rattle.text.specs.Choice.{split, clash}
use Rattle.principal.specs.Principal.{Principal, same-sym}
use Rattle.principal.specs.Members.{member, Distinct, d[], d∷, member-none, member-here, member-there, member-cases, member-either}

pub distinct-added : {names : List Principal} → Distinct names → (p : Principal) → member p names ≡ false → Distinct (names ++ (p ∷ []))
distinct-added d[] p i = d∷ i d[]
distinct-added (d∷ {p = q} {l = names} n d) p i =
    let k : member q (names ++ (p ∷ [])) ≡ false = split (member q (names ++ (p ∷ [])))
    (λ e. ⊎_elim
    (λ x. clash x n)
    (λ x. ⊎_elim (λ y. clash (member-here p q names (same-sym q p y)) i) (λ y. member-none q y) (member-cases q p [] x))
    (member-either q names (p ∷ []) e))
    (λ e. e) in
    d∷ k (distinct-added d p (split (member p names) (λ x. clash (member-there p q names x) i) (λ x. x)))
