-- More assertions never lower a rank, and their order does not matter, for every principal. Assumes nothing.
use Rattle.std.specs.Prelude.{◌≡◌, refl, ℕ, zero, suc, ◌≤◌, length}
use Rattle.std.proofs.Common.{sym, ap, ◌∙◌, ⊎_elim, zero-le, le_trans, le_refl, le_of_eq, arith}
use mathlib.Core.List.Memᴰ.{cases_cons as mem-∷}
use mathlib.Core.List.Memᴰ.{head as here}
use mathlib.Core.List.Memᴰ.{tail as there}
use mathlib.Core.List.Permᴰ
use mathlib.Core.List.Permᴰ.{cons as p∷}
use mathlib.Core.List.Permᴰ.{nil as p[]}
use mathlib.Core.List.Permᴰ.{swap as pswap}
use mathlib.Core.List.Permᴰ.{trans as ptrans}
use mathlib.Core.List.{List, ◌∷◌, Memᴰ as Mem, Permᴰ as Perm}
use Rattle.std.proofs.Math.Nat.{le_antisymm}
use Rattle.text.specs.Choice.{bool_iff}
use Rattle.principal.specs.Principal.{Principal}
use Rattle.principal.specs.Members.{distinct-le}
use Rattle.compliance.specs.Licensees.{Rank}
use Rattle.compliance.specs.System.{Assertion, System, direct, delegated, equations, round}
use Rattle.compliance.specs.Reach.{reach, InReach, Reachable, root, licensee}
use Rattle.compliance.specs.Rounds.{settled, reached, rounds, rank, mentioned}
use Rattle.compliance.specs.Theorems.Monotone.{asserted-lift, delegated-from, delegated-by, rounds-below}
use Rattle.compliance.specs.Theorems.Reach.{reach-sound, reach-complete, reach-distinct}
use Rattle.compliance.specs.Theorems.Settle.{settled-equal, equal-settled, rounds-settled, rounds-first, rounds-unique, rank-solves}

-- t has the assertions of s, and the rest is equal
pub record Within (s t : System) : Type 0 where
  pub more : (a : Assertion) → Mem a s.assertions → Mem a t.assertions
  pub asked : s.requesters ≡ t.requesters
  pub topped : s.top ≡ t.top

direct-same : (s t : System) → Within s t → (p : Principal) → direct s p ≡ direct t p
unfolding direct
direct-same s t k p = cc

delegated-grows : (s t : System) → Within s t → (r r' : Rank) → ((q : Principal) → r q ≤ r' q) → (p : Principal)
    → delegated s.top s.assertions r p ≤ delegated t.top t.assertions r' p
delegated-grows s t k r r' h p =
    let w = delegated s.top t.assertions r' p in
    let b = delegated-from s.top r p s.assertions _ w (λ a m e g.
    le_trans (asserted-lift _ r r' s.top a (λ q n l. le_trans l (h q)) g) (delegated-by s.top r' p a (k.more a m) e)) (le_refl _) in
    let z : w ≡ delegated t.top t.assertions r' p = ap (λ (n : ℕ). delegated n t.assertions r' p) k.topped in
    le_trans b (le_of_eq z)

pub round-grows : (s t : System) → Within s t → (n : ℕ) (p : Principal) → round s n p ≤ round t n p
unfolding round equations
round-grows s t k zero p = zero-le
round-grows s t k (suc n) p = omega (arith, direct-same s t k p, delegated-grows s t k (round s n) (round t n) (round-grows s t k n) p)

-- one assertion more, or many, lower no rank
pub rank-grows : (s t : System) → Within s t → (p : Principal) → rank s p ≤ rank t p
unfolding rank
rank-grows s t k p =
    let n = suc (length (mentioned s.assertions)) in
    le_trans (round-grows s t k n p) (rounds-below t (rank t) (rank-solves t) n p)

reachable-grows : {s t : System} → Within s t → {p : Principal} → Reachable s p → Reachable t p
reachable-grows k (root e) = root e
reachable-grows k (licensee a m i r n) = licensee a (k.more a m) i (reachable-grows k r) n

pub reach-grows : (s t : System) → Within s t → (p : Principal) → InReach s p → InReach t p
reach-grows s t k p i = reach-complete t (reachable-grows k (reach-sound s p i))

-- one assertion more
abbrev pub add : Assertion → System → System
add a s = record { assertions = a ∷ s.assertions; requesters = s.requesters; top = s.top }

pub rank-add : (a : Assertion) (s : System) (p : Principal) → rank s p ≤ rank (add a s) p
rank-add a s = rank-grows s (add a s) (record { more = λ b m. there m; asked = refl; topped = refl })

-- the same assertions in another order: the same rounds, number of rounds, reached and ranks
module _ (s t : System) (k : Within s t) (k' : Within t s) where
  pub round-order : (n : ℕ) (p : Principal) → round s n p ≡ round t n p
  round-order n p = le_antisymm (round-grows s t k n p) (round-grows t s k' n p)

  settled-order : (n : ℕ) → settled s n ≡ settled t n
  settled-order n = bool_iff _ _
      (λ e. equal-settled t n (λ p i. sym (round-order n p) ∙ settled-equal s n e p (reach-grows t s k' p i) ∙ round-order (suc n) p))
      (λ e. equal-settled s n (λ p i. round-order n p ∙ settled-equal t n e p (reach-grows s t k p i) ∙ sym (round-order (suc n) p)))

  pub rounds-order : rounds s ≡ rounds t
  rounds-order = rounds-unique s (rounds t) (settled-order (rounds t) ∙ rounds-settled t) (λ m l. settled-order m ∙ rounds-first t m l)

  pub reached-order : reached s ≡ reached t
  unfolding reached
  reached-order = le_antisymm (distinct-le (reach-distinct s) (reach t) (reach-grows s t k)) (distinct-le (reach-distinct t) (reach s) (reach-grows t s k'))

  pub rank-order : (p : Principal) → rank s p ≡ rank t p
  rank-order p = le_antisymm (rank-grows s t k p) (rank-grows t s k' p)

mem-perm : {a : Assertion} {l m : List Assertion} → Perm l m → Mem a l → Mem a m
mem-perm p[] m = m
mem-perm (p∷ e d) m = ⊎_elim (λ z. here (z ∙ e)) (λ n. there (mem-perm d n)) (mem-∷ m)
mem-perm (pswap e₁ e₂) m = ⊎_elim (λ z. there (here (z ∙ e₁))) (λ n. ⊎_elim (λ z. here (z ∙ e₂)) (λ n'. there (there n')) (mem-∷ n)) (mem-∷ m)
mem-perm (ptrans d₁ d₂) m = mem-perm d₂ (mem-perm d₁ m)

-- a permutation of the assertions is inclusion both ways
pub permuted : (s t : System) → Perm s.assertions t.assertions → s.requesters ≡ t.requesters → s.top ≡ t.top → Within s t × Within t s
permuted s t d e f = (
  record { more = λ a. mem-perm d; asked = e; topped = f },
  record { more = λ a. mem-perm (Permᴰ.symm d); asked = sym e; topped = sym f },
)
