-- The rounds end at the least solution, for every principal; on the reach they do so at round `rounds`, which is at most `reached`.
-- Assumes nothing.
use Rattle.std.specs.Prelude.{◌≡◌, refl, true, false, ◌⊎◌, eqb, leb, ltb, length}
use Rattle.std.proofs.Common.{sym, ◌∙◌, le_trans, le_refl, le_antisymm, le_of_eq, arith, leb-true, leb-false, le-leb, ltb-true, ltb-false, eqb-true, eq-eqb}
use Rattle.std.proofs.Math.Logic.{inl, inr, ⊎_elim}
use mathlib.Core.List.Memᴰ.{cases_cons as mem-∷}
use mathlib.Core.List.Memᴰ.{head as here}
use mathlib.Core.List.Memᴰ.{tail as there}
use mathlib.Core.List.{List, [], ◌∷◌, Memᴰ as Mem}
use Prim.Native.Nat.{ℕ, zero, suc, ◌+◌, ◌*◌, ◌≤◌, ◌<◌, zero-le}
use Rattle.std.proofs.lemmas.Bool.{eqb-false}
use Rattle.text.specs.Choice.{pick, split, clash}
use Rattle.principal.specs.Principal.{Principal, same-sym}
use Rattle.principal.specs.Members.{member, member-here, member-there, member-left, member_right, member-mem, member-find, member-same}
use Rattle.compliance.specs.Licensees.{Rank, licensees}
use Rattle.compliance.specs.System.{Assertion, System, direct, delegated, equations, round, Solves, Least}
use Rattle.compliance.specs.Reach.{reach, InReach}
use Rattle.compliance.specs.Rounds.{equal_on, settled, reached, first_settled, rounds, mentioned, rank}
use Rattle.compliance.specs.Theorems.Monotone.{Closed, Lift, EqOn, All, all_closed, equations-lift, stays, rising, rounds-below, round-alike, round-le, delegated-from}
use Rattle.compliance.specs.Theorems.Reach.{reach-closed}

-- how many of the list have v or more
unfoldable having : ℕ → Rank → List Principal → ℕ
having v r [] = 0
having v r (p ∷ ps) = pick (leb v (r p)) 1 0 + having v r ps

having-le : (v : ℕ) (r r' : Rank) (ps : List Principal) → ((p : Principal) → r p ≤ r' p) → having v r ps ≤ having v r' ps
unfolding having
having-le v r r' [] h = zero-le
having-le v r r' (p ∷ ps) h = split (leb v (r p))
    (λ e. rw (e, le-leb v (r' p) (le_trans (leb-true _ _ e) (h p))) (omega (arith, having-le v r r' ps h)))
    (λ e. rw e (omega (arith, having-le v r r' ps h)))

-- if no more have it, those who have it had it
having-same : (v : ℕ) (r r' : Rank) (ps : List Principal) → ((p : Principal) → r p ≤ r' p) → having v r' ps ≤ having v r ps
    → (p : Principal) → Mem p ps → v ≤ r' p → v ≤ r p
unfolding having
having-same v r r' [] h k p m l = elim m [ ]
having-same v r r' (q ∷ ps) h k p m l = split (leb v (r q))
    (λ e. let k' : 1 + having v r' ps ≤ 1 + having v r ps = rw (e, le-leb v (r' q) (le_trans (leb-true _ _ e) (h q))) at k in
    ⊎_elim (λ z. rw z (leb-true _ _ e)) (λ n. having-same v r r' ps h (omega arith) p n l) (mem-∷ m))
    (λ e. split (leb v (r' q))
    (λ f. let k' : 1 + having v r' ps ≤ 0 + having v r ps = rw (e, f) at k in absurd (omega (arith, having-le v r r' ps h)))
    (λ f. let k' : 0 + having v r' ps ≤ 0 + having v r ps = rw (e, f) at k in
    ⊎_elim (λ z. clash (le-leb v (r' q) (rw (← z) l)) f) (λ n. having-same v r r' ps h (omega arith) p n l) (mem-∷ m)))

having-few : (v : ℕ) (r : Rank) (ps : List Principal) → having v r ps ≤ length ps
unfolding having
having-few v r [] = zero-le
having-few v r (p ∷ ps) = split (leb v (r p)) (λ e. rw e (omega (arith, having-few v r ps))) (λ e. rw e (omega (arith, having-few v r ps)))

-- if all have it, each has it
having-all : (v : ℕ) (r : Rank) (ps : List Principal) → length ps ≤ having v r ps → (p : Principal) → Mem p ps → v ≤ r p
unfolding having
having-all v r [] h p m = elim m [ ]
having-all v r (q ∷ ps) h p m = split (leb v (r q))
    (λ e. let h' : suc (length ps) ≤ 1 + having v r ps = rw e at h in
    ⊎_elim (λ z. rw z (leb-true _ _ e)) (having-all v r ps (omega arith) p) (mem-∷ m))
    (λ e. let h' : suc (length ps) ≤ 0 + having v r ps = rw e at h in absurd (omega (arith, having-few v r ps)))

-- Each threshold is a system of its own, and all run side by side: while one changes, more have it from round to round. So a
-- closed list of principals is settled after as many rounds as it has members.
module _ (s : System) (ps : List Principal) (closed : Closed s (λ p. member p ps ≡ true)) where
  abbrev In : Principal → Type 0
  In p = member p ps ≡ true

  at-member : (n m v : ℕ) → ((p : Principal) → Mem p ps → v ≤ round s n p → v ≤ round s m p) → (p : Principal) → In p → v ≤ round s n p → v ≤ round s m p
  at-member n m v h p i l = member-find p ps i (λ q k e. le_trans (h q k (le_trans l (le_of_eq (round-alike s n p q e)))) (le_of_eq (sym (round-alike s m p q e))))

  risen : (v n : ℕ) → (n ≤ having v (round s n) ps) ⊎ Lift In v (round s (suc n)) (round s n)
  unfolding round
  risen v zero = inl zero-le
  risen v (suc n) = ⊎_elim
      (λ h. split (leb (having v (round s (suc n)) ps) (having v (round s n) ps))
      (λ e. inr (equations-lift s In closed v (round s (suc n)) (round s n) (at-member (suc n) n v (having-same v _ _ ps (rising s n) (leb-true _ _ e)))))
      (λ e. inl (omega (arith, leb-false))))
      (λ h. inr (equations-lift s In closed v (round s (suc n)) (round s n) h))
      (risen v n)

  pub settles : (n : ℕ) → length ps ≤ n → (p : Principal) → member p ps ≡ true → round s n p ≡ round s (suc n) p
  settles n h p i = le_antisymm (rising s n p) (⊎_elim
      (λ k. at-member (suc n) n _ (λ q m l. having-all _ (round s n) ps (le_trans h k) q m) p i (le_refl _))
      (λ f. f p i (le_refl _))
      (risen (round s (suc n) p) n))

-- ---- every principal

mentioned-in : {l : List Assertion} (a : Assertion) → Mem a l → (q : Principal) → member q (a.authorizer ∷ licensees a.field) ≡ true → member q (mentioned l) ≡ true
unfolding mentioned
mentioned-in {l = l} a n q m = go l n
  where
    go : (l : List Assertion) → Mem a l → member q (mentioned l) ≡ true
    go l (here {x = b} {xs = k} e) = rw (← e) (member-left q (a.authorizer ∷ licensees a.field) (mentioned k) m)
    go l (there {x = b} {xs = k} n) = member_right q (b.authorizer ∷ licensees b.field) (mentioned k) (go k n)

mentioned-closed : (s : System) → Closed s (λ p. member p (mentioned s.assertions) ≡ true)
mentioned-closed s = record {
  alike = λ p q e i. sym (member-same p q (mentioned s.assertions) e) ∙ i;
  licenses = λ a m i q n. mentioned-in a m q (member-there q a.authorizer (licensees a.field) (member-mem n));
}

-- who authorizes nothing has the direct authorization
alone : (s : System) (r : Rank) (p : Principal) → member p (mentioned s.assertions) ≡ false → equations s r p ≡ direct s p
unfolding equations
alone s r p h =
    let w = delegated s.top s.assertions r p in
    let k = delegated-from s.top r p s.assertions w 0
    (λ a m e g. clash (mentioned-in a m p (member-here p a.authorizer (licensees a.field) (same-sym _ _ e))) h) (le_refl w) in
    omega arith

-- the rounds end, for every principal
pub rank-solves : (s : System) → Solves s (rank s)
unfolding rank round
rank-solves s p =
    let n = length (mentioned s.assertions) in
    split (member p (mentioned s.assertions))
    (λ e. sym (settles s (mentioned s.assertions) (mentioned-closed s) (suc n) (omega arith) p e))
    (λ e. alone s (round s (suc n)) p e ∙ sym (alone s (round s n) p e))

-- from then on every round is the same
pub rounds-end : (s : System) (n : ℕ) → suc (length (mentioned s.assertions)) ≤ n → (p : Principal) → round s n p ≡ rank s p
unfolding rank round
rounds-end s n h p = sym (stays s All (all_closed s) (suc (length (mentioned s.assertions))) (λ q u. sym (rank-solves s q)) n h p tt)

-- at the least solution
pub rank-least : (s : System) → Least s (rank s)
unfolding rank
rank-least s = record { solves = rank-solves s; below = λ r h p. rounds-below s r h _ p }

-- which is the only one
pub least-unique : (s : System) (r : Rank) → Least s r → (p : Principal) → r p ≡ rank s p
least-unique s r l p = le_antisymm (l.below (rank s) (rank-solves s) p) ((rank-least s).below r l.solves p)

-- ---- the reach

pub equal-true : (r r' : Rank) (ps : List Principal) → equal_on r r' ps ≡ true → (p : Principal) → Mem p ps → r p ≡ r' p
unfolding equal_on
equal-true r r' [] e p m = elim m [ ]
equal-true r r' (q ∷ ps) e p m = split (eqb (r q) (r' q))
    (λ h. ⊎_elim (λ z. rw z (eqb-true _ _ h)) (equal-true r r' ps (rw h at e) p) (mem-∷ m))
    (λ h. clash (rw h at e) refl)

pub equal-intro : (r r' : Rank) (ps : List Principal) → ((p : Principal) → Mem p ps → r p ≡ r' p) → equal_on r r' ps ≡ true
unfolding equal_on
equal-intro r r' [] h = refl
equal-intro r r' (p ∷ ps) h = rw (eq-eqb (r p) (r' p) (h p (here refl))) (equal-intro r r' ps (λ q m. h q (there m)))

-- a settled round is equal to the next on the reach
pub settled-equal : (s : System) (n : ℕ) → settled s n ≡ true → EqOn (InReach s) (round s n) (round s (suc n))
unfolding settled
settled-equal s n e p i = le_antisymm (rising s n p)
    (at-member s (reach s) (reach-closed s) (suc n) n _ (λ q m l. le_trans l (le_of_eq (sym (equal-true _ _ (reach s) e q m)))) p i (le_refl _))

pub equal-settled : (s : System) (n : ℕ) → EqOn (InReach s) (round s n) (round s (suc n)) → settled s n ≡ true
unfolding settled
equal-settled s n h = equal-intro _ _ (reach s) (λ p m. h p (member-mem m))

-- as many rounds as principals are reached settle it
pub reached-settled : (s : System) (n : ℕ) → reached s ≤ n → settled s n ≡ true
unfolding reached
reached-settled s n h = equal-settled s n (settles s (reach s) (reach-closed s) n h)

first_found : (s : System) (f n : ℕ) → reached s ≤ n + f → settled s (first_settled s f n) ≡ true
unfolding first_settled
first_found s zero n h = reached-settled s n (omega arith)
first_found s (suc f) n h = split (settled s n)
    (λ e. rw (e, first_settled) e)
    (λ e. rw (e, first_settled) (first_found s f (suc n) (omega arith)))

first-none : (s : System) (f n m : ℕ) → n ≤ m → m < first_settled s f n → settled s m ≡ false
unfolding first_settled
first-none s zero n m h l = absurd (omega arith)
first-none s (suc f) n m h l = split (settled s n)
    (λ e. let l' : m < n = rw (e, first_settled) at l in absurd (omega arith))
    (λ e. split (eqb n m) (λ q. rw (← eqb-true n m q) e) (λ q. first-none s f (suc n) m (omega (arith, eqb-false n m q)) (rw (e, first_settled) at l)))

-- `rounds` is settled, and no round before it is
pub rounds-settled : (s : System) → settled s (rounds s) ≡ true
unfolding rounds
rounds-settled s = first_found s (reached s) 0 (omega arith)

pub rounds-first : (s : System) (m : ℕ) → m < rounds s → settled s m ≡ false
unfolding rounds
rounds-first s m l = first-none s (reached s) 0 m zero-le l

-- it is the one number of which both hold
pub rounds-unique : (s : System) (n : ℕ) → settled s n ≡ true → ((m : ℕ) → m < n → settled s m ≡ false) → rounds s ≡ n
rounds-unique s n e h = split (ltb (rounds s) n)
    (λ t. clash (rounds-settled s) (h (rounds s) (ltb-true _ _ t)))
    (λ t. split (ltb n (rounds s)) (λ u. clash e (rounds-first s n (ltb-true _ _ u))) (λ u. omega (arith, ltb-false)))

-- "at most the number of principals in the reach", each threshold by itself
pub rounds-bound : (s : System) → rounds s ≤ reached s
rounds-bound s = split (ltb (reached s) (rounds s))
    (λ t. clash (reached-settled s (reached s) (le_refl _)) (rounds-first s (reached s) (ltb-true _ _ t)))
    (λ t. omega (arith, ltb-false))

-- so "at most the number of principals in the reach times (values minus 1)"
pub rounds-times : (s : System) → rounds s ≤ reached s * s.top
rounds-times s = from s.top refl
  where
    from : (t : ℕ) → s.top ≡ t → rounds s ≤ reached s * t
    from zero e = omega (arith, none)
      where
        none : rounds s ≤ 0
        none = le_of_eq (rounds-unique s 0 (equal-settled s 0 (λ p i. omega (arith, rising s 0 p, round-le s 1 p, round-le s 0 p, e))) (λ m l. absurd (omega arith)))
    from (suc t) e = omega (arith, rounds-bound s)

-- on the reach, round `rounds` is the least solution
pub rounds-rank : (s : System) → EqOn (InReach s) (round s (rounds s)) (rank s)
unfolding rank round
rounds-rank s p i =
    let n = suc (length (mentioned s.assertions)) in
    let solved = rank-solves s in
    split (leb (rounds s) n)
    (λ e. stays s (InReach s) (reach-closed s) (rounds s) (settled-equal s (rounds s) (rounds-settled s)) n (leb-true _ _ e) p i)
    (λ e. sym (stays s All (all_closed s) n (λ q u. sym (solved q)) (rounds s) (omega (arith, leb-false)) p tt))
