-- Tables that hold one number for each principal of a list. Assumes nothing.
use Rattle.std.specs.Prelude.{◌≡◌, refl, true, ℕ, zero, suc, ◌<◌, length, get_or, set, replicate}
use Rattle.std.proofs.Common.{sym, ap, ap₂, ◌∙◌, ⊎_elim, arith}
use mathlib.Core.List.Memᴰ.{head as here}
use mathlib.Core.List.Memᴰ.{tail as there}
use mathlib.Core.List.{List, [], ◌∷◌, map, Memᴰ as Mem}
use Rattle.text.specs.Choice.{pick, split, clash}
use Rattle.principal.specs.Principal.{Principal, same, same-sym, same-trans}
use Rattle.principal.specs.Members.{member, Distinct, d[], d∷, member-none, member-cases, member-mem, member-same}
use Rattle.compliance.specs.Licensees.{Rank}
use Rattle.principal.specs.Places.{place}

-- a rank that goes by `same`
abbrev pub Even : Rank → Type 0
Even f = (p q : Principal) → same p q ≡ true → f p ≡ f q

pub map_same : (f g : Rank) (names : List Principal) → ((q : Principal) → Mem q names → f q ≡ g q) → map f names ≡ map g names
map_same f g [] h = refl
map_same f g (p ∷ names) h = ap₂ ◌∷◌ (h p (here refl)) (map_same f g names (λ q m. h q (there m)))

pub place-lt : (names : List Principal) (p : Principal) → member p names ≡ true → place names p < length names
unfolding place
place-lt [] p i = member-none p i
place-lt (q ∷ names) p i = split (same p q)
    (λ e. rw e (omega arith))
    (λ e. rw e (omega (arith, place-lt names p (⊎_elim (λ h. clash h e) (λ h. h) (member-cases p q names i)))))

-- the table of f has f p at the place of p
pub place_map : (f : Rank) → Even f → (names : List Principal) (p : Principal) → member p names ≡ true → get_or (map f names) (place names p) 0 ≡ f p
unfolding place
place_map f h [] p i = member-none p i
place_map f h (q ∷ names) p i = split (same p q)
    (λ e. rw e (sym (h p q e)))
    (λ e. rw e (place_map f h names p (⊎_elim (λ k. clash k e) (λ k. k) (member-cases p q names i))))

-- who stands at a place below the end
pub map_at : {X : Type 0} (names : List Principal) (i : ℕ) → i < length names → ((q : Principal) → Mem q names → ((f : Rank) → get_or (map f names) i 0 ≡ f q) → X) → X
map_at [] i h k = absurd (omega arith)
map_at (q ∷ names) zero h k = k q (here refl) (λ f. refl)
map_at (q ∷ names) (suc i) h k = map_at names i (omega arith) (λ r m e. k r (there m) e)

pub place_none : (names : List Principal) (f : Rank) (n : ℕ) → n ≡ length names → ((q : Principal) → Mem q names → f q ≡ 0) → replicate n 0 ≡ map f names
place_none [] f n e h = rw e
place_none (q ∷ names) f n e h = rw (e, h q (here refl)) (ap (λ (l : List ℕ). 0 ∷ l) (place_none names f (length names) refl (λ r m. h r (there m))))

-- a store at the place of p changes the number of p alone
pub place_set : {names : List Principal} → Distinct names → (g : Rank) (p : Principal) (v : ℕ) → member p names ≡ true
    → set (map g names) (place names p) v ≡ map (λ (q : Principal). pick (same p q) v (g q)) names
unfolding place
place_set d[] g p v i = member-none p i
place_set (d∷ {p = q} {l = names} n d) g p v i = split (same p q)
    (λ e. rw e (ap (λ (l : List ℕ). v ∷ l) (map_same g _ names (λ r m. sym (other r m e)))))
    (λ e. rw e (ap (λ (l : List ℕ). g q ∷ l) (place_set d g p v (⊎_elim (λ k. clash k e) (λ k. k) (member-cases p q names i)))))
  where
    other : (r : Principal) → Mem r names → same p q ≡ true → pick (same p r) v (g r) ≡ g r
    other r m e = split (same p r)
        (λ f. clash (sym (member-same r q names (same-trans r p q (same-sym p r f) e)) ∙ member-mem m) n)
        (λ f. rw f)
