-- The equations are monotone, at each threshold by itself; the rounds rise; they stay below every solution. Assumes nothing.
use Rattle.std.specs.Prelude.{◌≡◌, refl, true, leb}
use Rattle.std.proofs.Common.{sym, ◌∙◌, le_refl, le_antisymm, le_of_eq}
use mathlib.Core.List.Memᴰ
use mathlib.Core.List.Memᴰ.{head as here}
use mathlib.Core.List.Memᴰ.{tail as there}
use mathlib.Core.List.{List, [], ◌∷◌, Memᴰ as Mem}
use Prim.Native.Nat.{ℕ, zero, suc, ◌≤◌, max, zero-le}
use Rattle.std.proofs.Math.Nat.{le_trans}
use Rattle.std.proofs.Math.Decide.{le_ind}
use native.Mathlib.Omega.{arith}
use borrow.Author.Tests.{leb-true, leb-false}
use Rattle.text.specs.Choice.{split}
use Rattle.principal.specs.Principal.{Principal, same, same-sym, same-trans}
use Rattle.principal.specs.Members.{member, member-same}
use Rattle.compliance.specs.Licensees.{Rank, Expression, name, and, or, k_of, Licensees, missing, empty, given, value, licensed, named, licensees}
use Rattle.compliance.specs.System.{Assertion, System, direct, asserted, delegated, equations, round, Solves}
use Rattle.compliance.specs.Theorems.Highest.{highest-lift, highest-le}

-- a set of principals that goes by `same`, and that has with an authorizer the licensees of its assertions
pub record Closed (s : System) (R : Principal → Type 0) : Type 0 where
  pub alike : (p q : Principal) → same p q ≡ true → R p → R q
  pub licenses : (a : Assertion) → Mem a s.assertions → R a.authorizer → (q : Principal) → Mem q (licensees a.field) → R q

-- on R, who has v or more by r has it by r'
abbrev pub Lift : (Principal → Type 0) → ℕ → Rank → Rank → Type 0
Lift R v r r' = (p : Principal) → R p → v ≤ r p → v ≤ r' p

abbrev pub LeOn : (Principal → Type 0) → Rank → Rank → Type 0
LeOn R r r' = (p : Principal) → R p → r p ≤ r' p

abbrev pub EqOn : (Principal → Type 0) → Rank → Rank → Type 0
EqOn R r r' = (p : Principal) → R p → r p ≡ r' p

abbrev pub All : Principal → Type 0
All p = Unit {0}

pub all_closed : (s : System) → Closed s All
all_closed s = record { alike = λ p q e u. tt; licenses = λ a m u q n. tt }

-- at every threshold is at most
lift-le : (R : Principal → Type 0) (r r' : Rank) → ((v : ℕ) → Lift R v r r') → LeOn R r r'
lift-le R r r' h p i = h (r p) p i (le_refl (r p))

le-lift : (R : Principal → Type 0) (r r' : Rank) → LeOn R r r' → (v : ℕ) → Lift R v r r'
le-lift R r r' h v p i l = le_trans l (h p i)

module _ (v : ℕ) (r r' : Rank) where
  value-lift : (e : Expression) → ((p : Principal) → Mem p (named e) → v ≤ r p → v ≤ r' p) → v ≤ value r e → v ≤ value r' e
  unfolding value named
  value-lift (name p) h l = h p (here refl) l
  value-lift (and a b) h l =
      omega (arith, value-lift a (λ p m. h p (Memᴰ.append_left (named b) m)) (omega arith), value-lift b (λ p m. h p (Memᴰ.append_right (named a) m)) (omega arith))
  value-lift (or a b) h l = split (leb v (value r a))
      (λ t. omega (arith, value-lift a (λ p m. h p (Memᴰ.append_left (named b) m)) (leb-true _ _ t)))
      (λ t. omega (arith, value-lift b (λ p m. h p (Memᴰ.append_right (named a) m)) (omega (arith, leb-false))))
  value-lift (k_of k ps) h l = highest-lift v r r' k ps h l

  licensed-lift : (top : ℕ) (f : Licensees) → ((p : Principal) → Mem p (licensees f) → v ≤ r p → v ≤ r' p) → v ≤ licensed top r f → v ≤ licensed top r' f
  unfolding licensed licensees
  licensed-lift top missing h l = l
  licensed-lift top empty h l = l
  licensed-lift top (given e) h l = value-lift e h l

  pub asserted-lift : (top : ℕ) (a : Assertion) → ((p : Principal) → Mem p (licensees a.field) → v ≤ r p → v ≤ r' p)
      → v ≤ asserted top r a → v ≤ asserted top r' a
  unfolding asserted
  asserted-lift top a h l = omega (arith, licensed-lift top a.field h (omega arith))

-- what the assertions delegate is the least bound of their ranks: two laws
module _ (top : ℕ) (r : Rank) (p : Principal) where
  pub delegated-from : (l : List Assertion) (v w : ℕ) → ((a : Assertion) → Mem a l → same a.authorizer p ≡ true → v ≤ asserted top r a → v ≤ w)
      → v ≤ delegated top l r p → v ≤ w
  unfolding delegated
  delegated-from [] v w h i = omega arith
  delegated-from (a ∷ l) v w h i =
      let ih : v ≤ delegated top l r p → v ≤ w = delegated-from l v w (λ b m. h b (there m)) in
      split (same a.authorizer p)
      (λ e. split (leb v (asserted top r a))
      (λ t. h a (here refl) e (leb-true _ _ t))
      (λ t. ih (let i' : v ≤ max (asserted top r a) (delegated top l r p) = rw e at i in omega (arith, leb-false v (asserted top r a) t))))
      (λ e. ih (let i' : v ≤ max 0 (delegated top l r p) = rw e at i in omega arith))

  pub delegated-by : {l : List Assertion} (a : Assertion) → Mem a l → same a.authorizer p ≡ true → asserted top r a ≤ delegated top l r p
  unfolding delegated
  delegated-by {l = l} a m i = go l m
    where
      go : (l : List Assertion) → Mem a l → asserted top r a ≤ delegated top l r p
      go l (here {x = b} {xs = k} e) = rw (← e, i) (omega arith)
      go l (there {x = b} {xs = k} m) = omega (arith, go k m)

module _ (s : System) (R : Principal → Type 0) (closed : Closed s R) where
  pub equations-lift : (v : ℕ) (r r' : Rank) → Lift R v r r' → Lift R v (equations s r) (equations s r')
  unfolding equations
  equations-lift v r r' h p i l = split (leb v (direct s p))
      (λ t. omega (arith, leb-true v (direct s p) t))
      (λ t. let w = delegated s.top s.assertions r' p in
      let k = delegated-from s.top r p s.assertions v w
      (λ a m e g. le_trans (asserted-lift v r r' s.top a (λ q n. h q (closed.licenses a m (closed.alike p a.authorizer (same-sym _ _ e) i) q n)) g)
      (delegated-by s.top r' p a m e))
      (omega (arith, leb-false v (direct s p) t)) in
      omega arith)

  -- the equations are monotone
  pub equations-mono : (r r' : Rank) → LeOn R r r' → LeOn R (equations s r) (equations s r')
  equations-mono r r' h = lift-le R _ _ (λ v. equations-lift v r r' (le-lift R r r' h v))

  pub equations-same : (r r' : Rank) → EqOn R r r' → EqOn R (equations s r) (equations s r')
  equations-same r r' h p i = le_antisymm (equations-mono r r' (λ q j. le_of_eq (h q j)) p i) (equations-mono r' r (λ q j. le_of_eq (sym (h q j))) p i)

  -- two rounds that agree on R agree for ever
  pub stays : (n : ℕ) → EqOn R (round s n) (round s (suc n)) → (m : ℕ) → n ≤ m → EqOn R (round s n) (round s m)
  unfolding round
  stays n h m = le_ind (λ (m : ℕ). EqOn R (round s n) (round s m)) (λ p i. refl) (λ m l e p i. h p i ∙ equations-same (round s n) (round s m) e p i) m

  -- what solves the equations on R is at least each round
  pub least_on : (r : Rank) → LeOn R (equations s r) r → (n : ℕ) → LeOn R (round s n) r
  unfolding round
  least_on r h zero p i = zero-le
  least_on r h (suc n) p i = le_trans (equations-mono (round s n) r (least_on r h n) p i) (h p i)

-- the rounds rise
pub rising : (s : System) (n : ℕ) (p : Principal) → round s n p ≤ round s (suc n) p
unfolding round
rising s zero p = zero-le
rising s (suc n) p = equations-mono s All (all_closed s) (round s n) (round s (suc n)) (λ q u. rising s n q) p tt

pub rising-to : (s : System) (n m : ℕ) → n ≤ m → (p : Principal) → round s n p ≤ round s m p
rising-to s n m h p = le_ind (λ (m : ℕ). round s n p ≤ round s m p) (le_refl _) (λ m l e. le_trans e (rising s m p)) m h

-- and stay below every solution
pub rounds-below : (s : System) (r : Rank) → Solves s r → (n : ℕ) (p : Principal) → round s n p ≤ r p
rounds-below s r h n p = least_on s All (all_closed s) r (λ q u. le_of_eq (h q)) n p tt

-- ranks go by `same`
delegated-alike : (top : ℕ) (l : List Assertion) (r : Rank) (p q : Principal) → same p q ≡ true → delegated top l r p ≡ delegated top l r q
delegated-alike top l r p q e =
    let up : (p q : Principal) → same p q ≡ true → delegated top l r p ≤ delegated top l r q =
    λ p q e. delegated-from top r p l _ _ (λ a m i g. le_trans g (delegated-by top r q a m (same-trans a.authorizer p q i e))) (le_refl _) in
    le_antisymm (up p q e) (up q p (same-sym p q e))

pub round-alike : (s : System) (n : ℕ) (p q : Principal) → same p q ≡ true → round s n p ≡ round s n q
unfolding round equations direct
round-alike s zero p q e = refl
round-alike s (suc n) p q e = rw (member-same p q s.requesters e, delegated-alike s.top s.assertions (round s n) p q e)

-- no rank is over the top
value-le : (r : Rank) (t : ℕ) (e : Expression) → ((p : Principal) → r p ≤ t) → value r e ≤ t
unfolding value
value-le r t (name p) h = h p
value-le r t (and a b) h = omega (arith, value-le r t a h)
value-le r t (or a b) h = omega (arith, value-le r t a h, value-le r t b h)
value-le r t (k_of k ps) h = highest-le k t r ps h

licensed-le : (r : Rank) (t : ℕ) (f : Licensees) → ((p : Principal) → r p ≤ t) → licensed t r f ≤ t
unfolding licensed
licensed-le r t missing h = le_refl t
licensed-le r t empty h = zero-le
licensed-le r t (given e) h = value-le r t e h

pub round-le : (s : System) (n : ℕ) (p : Principal) → round s n p ≤ s.top
unfolding round equations direct asserted
round-le s zero p = zero-le
round-le s (suc n) p =
    let w = delegated s.top s.assertions (round s n) p in
    let b = delegated-from s.top (round s n) p s.assertions w s.top
    (λ a m e g. le_trans g (omega (arith, licensed-le (round s n) s.top a.field (round-le s n)))) (le_refl w) in
    split (member p s.requesters) (λ e. rw e (omega arith)) (λ e. rw e (omega arith))
