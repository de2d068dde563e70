-- What the conditions of assertions outside the reach say has no effect. Assumes nothing.
use Rattle.std.specs.Prelude.{◌≡◌, refl, true, ℕ, zero, suc, length}
use Rattle.std.proofs.Common.{sym, ap, ◌∙◌, le_trans, le_antisymm, le_of_eq, le_refl}
use mathlib.Core.List.Memᴰ.{head as here}
use mathlib.Core.List.Memᴰ.{tail as there}
use mathlib.Core.List.{List, [], ◌∷◌, ◌++◌, Memᴰ as Mem}
use Rattle.text.specs.Choice.{split, bool_iff}
use Rattle.principal.specs.Principal.{Principal, same, policy, same-sym}
use Rattle.principal.specs.Members.{member}
use Rattle.compliance.specs.Licensees.{Rank, licensees}
use Rattle.compliance.specs.System.{Assertion, System, direct, asserted, delegated, equations, round}
use Rattle.compliance.specs.Reach.{licensees_of, reach_from, namings, reach, InReach}
use Rattle.compliance.specs.Rounds.{settled, reached, rounds, rank}
use Rattle.compliance.specs.Theorems.Monotone.{EqOn, asserted-lift}
use Rattle.compliance.specs.Theorems.Reach.{reach-closed, reach-root}
use Rattle.compliance.specs.Theorems.Settle.{settled-equal, equal-settled, rounds-settled, rounds-first, rounds-unique, rounds-rank}

-- assertion by assertion the same authorizer and licensees, and the same conditions where the authorizer is in R
pub data Alike (R : Principal → Type 0) : List Assertion → List Assertion → Type 0 where
  a[] : Alike R [] []
  a∷ : {a b : Assertion} {l m : List Assertion} → a.authorizer ≡ b.authorizer → a.field ≡ b.field → (R a.authorizer → a.conditions ≡ b.conditions)
      → Alike R l m → Alike R (a ∷ l) (b ∷ m)

pub record AlikeIn (R : Principal → Type 0) (s t : System) : Type 0 where
  pub listed : Alike R s.assertions t.assertions
  pub asked : s.requesters ≡ t.requesters
  pub topped : s.top ≡ t.top

licensees-alike : {R : Principal → Type 0} {l m : List Assertion} → Alike R l m → (p : Principal) → licensees_of l p ≡ licensees_of m p
unfolding licensees_of
licensees-alike a[] p = refl
licensees-alike (a∷ ea el ec t) p = rw (ea, el, licensees-alike t p)

namings-alike : {R : Principal → Type 0} {l m : List Assertion} → Alike R l m → namings l ≡ namings m
unfolding namings
namings-alike a[] = refl
namings-alike (a∷ ea el ec t) = rw (el, namings-alike t)

from-alike : {R : Principal → Type 0} {l m : List Assertion} → Alike R l m → (f : ℕ) (w found : List Principal) → reach_from l f w found ≡ reach_from m f w found
unfolding reach_from
from-alike t zero w found = refl
from-alike t (suc f) [] found = refl
from-alike {R} {l} {m} t (suc f) (p ∷ w) found = split (member p found)
    (λ e. rw (e, reach_from) (from-alike t f w found))
    (λ e. rw (e, reach_from) (rw (licensees-alike t p) (from-alike t f (licensees_of m p ++ w) (p ∷ found))))

-- the same reach
pub reach-same : {R : Principal → Type 0} {s t : System} → AlikeIn R s t → reach s ≡ reach t
unfolding reach
reach-same {R} {s} {t} k = rw (namings-alike k.listed) (from-alike k.listed _ _ _)

pub reached-same : {R : Principal → Type 0} {s t : System} → AlikeIn R s t → reached s ≡ reached t
unfolding reached
reached-same k = ap length (reach-same k)

asserted-same : (top : ℕ) (r r' : Rank) (a : Assertion) → ((p : Principal) → Mem p (licensees a.field) → r p ≡ r' p) → asserted top r a ≡ asserted top r' a
asserted-same top r r' a h = le_antisymm
    (asserted-lift _ r r' top a (λ p m l. le_trans l (le_of_eq (h p m))) (le_refl _))
    (asserted-lift _ r' r top a (λ p m l. le_trans l (le_of_eq (sym (h p m)))) (le_refl _))

asserted-fields : (top : ℕ) (r : Rank) (a b : Assertion) → a.conditions ≡ b.conditions → a.field ≡ b.field → asserted top r a ≡ asserted top r b
unfolding asserted
asserted-fields top r a b e f = cc

delegated-alike : {R : Principal → Type 0} {l m : List Assertion} → Alike R l m
    → ((p q : Principal) → same p q ≡ true → R p → R q)
    → ((a : Assertion) → Mem a l → R a.authorizer → (q : Principal) → Mem q (licensees a.field) → R q)
    → (top : ℕ) (r r' : Rank) → EqOn R r r' → (p : Principal) → R p → delegated top l r p ≡ delegated top m r' p
unfolding delegated
delegated-alike a[] al cl top r r' h p i = refl
delegated-alike {R} (a∷ {a = a} {b = b} ea el ec t) al cl top r r' h p i =
    let ih = delegated-alike t al (λ c m. cl c (there m)) top r r' h p i in
    split (same a.authorizer p)
    (λ e. let j : R a.authorizer = al p a.authorizer (same-sym _ _ e) i in
    let g : asserted top r a ≡ asserted top r' b = asserted-same top r r' a (λ q n. h q (cl a (here refl) j q n)) ∙ asserted-fields top r' a b (ec j) el in
    cc (ih, g, ea, e))
    (λ e. cc (ih, ea, e))

-- the same rounds on the reach
pub round_same : {s t : System} → AlikeIn (InReach s) s t → (n : ℕ) → EqOn (InReach s) (round s n) (round t n)
unfolding round equations direct
round_same k zero p i = refl
round_same {s} {t} k (suc n) p i =
    let d = delegated-alike k.listed (reach-closed s).alike (reach-closed s).licenses s.top (round s n) (round t n) (round_same k n) p i in
    cc (d, k.asked, k.topped)

reach-member : {s t : System} → AlikeIn (InReach s) s t → (p : Principal) → InReach t p → InReach s p
reach-member {s} {t} k p i = ap (member p) (reach-same k) ∙ i

settled_same : {s t : System} → AlikeIn (InReach s) s t → (n : ℕ) → settled s n ≡ settled t n
settled_same {s} {t} k n = bool_iff _ _
    (λ e. equal-settled t n (λ p i. let j = reach-member k p i in sym (round_same k n p j) ∙ settled-equal s n e p j ∙ round_same k (suc n) p j))
    (λ e. equal-settled s n (λ p j. let i : InReach t p = sym (ap (member p) (reach-same k)) ∙ j in round_same k n p j ∙ settled-equal t n e p i ∙ sym (round_same k (suc n) p j)))

-- the same number of rounds
pub rounds-same : {s t : System} → AlikeIn (InReach s) s t → rounds s ≡ rounds t
rounds-same {s} {t} k = rounds-unique s (rounds t) (settled_same k (rounds t) ∙ rounds-settled t) (λ m l. settled_same k m ∙ rounds-first t m l)

-- the same ranks on the reach, POLICY's among them
pub rank_same : {s t : System} → AlikeIn (InReach s) s t → EqOn (InReach s) (rank s) (rank t)
rank_same {s} {t} k p j =
    let i : InReach t p = sym (ap (member p) (reach-same k)) ∙ j in
    let e : round t (rounds s) p ≡ round t (rounds t) p = ap (λ (n : ℕ). round t n p) (rounds-same k) in
    sym (rounds-rank s p j) ∙ round_same k (rounds s) p j ∙ e ∙ rounds-rank t p i

pub policy-same : {s t : System} → AlikeIn (InReach s) s t → rank s policy ≡ rank t policy
policy-same {s} k = rank_same k policy (reach-root s)
