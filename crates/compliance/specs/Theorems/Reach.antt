-- The reach is closed, has POLICY, has what can be reached and nothing else, and each principal once. Assumes nothing.
use Rattle.std.specs.Prelude.{◌≡◌, refl, true, false, ◌⊎◌, length}
use Rattle.std.proofs.Common.{sym, ◌∙◌, inl, inr, ⊎_elim, arith}
use mathlib.Core.List.Memᴰ.{head as here}
use mathlib.Core.List.Memᴰ.{tail as there}
use mathlib.Core.List.{List, [], ◌∷◌, ◌++◌, Memᴰ as Mem}
use Prim.Native.Nat.{ℕ, zero, suc, ◌+◌, ◌≤◌}
use Rattle.std.proofs.Math.ListN.{length-append}
use Rattle.text.specs.Choice.{pick, split, clash}
use Rattle.principal.specs.Principal.{Principal, same, policy, same_refl, same-sym, same-trans, same-right}
use Rattle.principal.specs.Members.{member, Distinct, d[], d∷, member-none, member-here, member-there, member-cases, member-left, member_right, member-either, member-mem, member-same}
use Rattle.compliance.specs.Licensees.{licensees}
use Rattle.compliance.specs.System.{Assertion, System}
use Rattle.compliance.specs.Reach.{licensees_of, reach_from, namings, reach, InReach, Reachable, root, licensee}
use Rattle.compliance.specs.Theorems.Monotone.{Closed}

-- the namings of the assertions whose authorizers are not found yet
unfoldable ahead : List Assertion → List Principal → ℕ
ahead [] found = 0
ahead (a ∷ l) found = pick (member a.authorizer found) 0 (length (licensees a.field)) + ahead l found

ahead_none : (l : List Assertion) → ahead l [] ≡ namings l
unfolding ahead namings member
ahead_none [] = refl
ahead_none (a ∷ l) = rw (ahead_none l)

ahead-found : (l : List Assertion) (p : Principal) (found : List Principal) → member p found ≡ false
    → length (licensees_of l p) + ahead l (p ∷ found) ≡ ahead l found
unfolding licensees_of ahead
ahead-found [] p found h = refl
ahead-found (a ∷ l) p found h =
    let ih = ahead-found l p found h in
    split (same a.authorizer p)
    (λ e. let k : member a.authorizer found ≡ false = member-same a.authorizer p found e ∙ h in
    rw (e, k, member-here a.authorizer p found e, length-append) (omega arith))
    (λ e. split (member a.authorizer found)
    (λ k. rw (e, k, member-there a.authorizer p found k) (omega arith))
    (λ k. rw (e, k, not_found a.authorizer p found e k) (omega arith)))
  where
    not_found : (q p : Principal) (found : List Principal) → same q p ≡ false → member q found ≡ false → member q (p ∷ found) ≡ false
    not_found q p found e k = split (member q (p ∷ found)) (λ t. ⊎_elim (λ x. clash x e) (λ x. clash x k) (member-cases q p found t)) (λ t. t)

-- what each turn keeps is true at the end, if the turns are enough
module _ (l : List Assertion) (P : List Principal → List Principal → Type 0)
    (skip : (p : Principal) (w found : List Principal) → member p found ≡ true → P (p ∷ w) found → P w found)
    (add : (p : Principal) (w found : List Principal) → member p found ≡ false → P (p ∷ w) found → P (licensees_of l p ++ w) (p ∷ found)) where
  turns-keep : (f : ℕ) (w found : List Principal) → length w + ahead l found ≤ f → P w found → P [] (reach_from l f w found)
  unfolding reach_from
  turns-keep zero [] found b h = h
  turns-keep zero (p ∷ w) found b h = absurd (omega arith)
  turns-keep (suc f) [] found b h = h
  turns-keep (suc f) (p ∷ w) found b h = split (member p found)
      (λ e. rw (e, reach_from) (turns-keep f w found (omega arith) (skip p w found e h)))
      (λ e. rw (e, reach_from) (turns-keep f (licensees_of l p ++ w) (p ∷ found)
      (rw length-append (omega (arith, ahead-found l p found e))) (add p w found e h)))

-- and those that `reach` gives are
reach-keeps : (s : System) (P : List Principal → List Principal → Type 0)
    → ((p : Principal) (w found : List Principal) → member p found ≡ true → P (p ∷ w) found → P w found)
    → ((p : Principal) (w found : List Principal) → member p found ≡ false → P (p ∷ w) found → P (licensees_of s.assertions p ++ w) (p ∷ found))
    → P (policy ∷ []) [] → P [] (reach s)
unfolding reach
reach-keeps s P skip add h = turns-keep s.assertions P skip add _ _ _ (omega (arith, ahead_none s.assertions)) h

pub licensees-in : {l : List Assertion} (p : Principal) (a : Assertion) → Mem a l → same a.authorizer p ≡ true
    → (q : Principal) → member q (licensees a.field) ≡ true → member q (licensees_of l p) ≡ true
unfolding licensees_of
licensees-in {l = l} p a m h q n = go l m
  where
    go : (l : List Assertion) → Mem a l → member q (licensees_of l p) ≡ true
    go l (here {x = b} {xs = k} e) = rw (← e, h) (member-left q (licensees a.field) (licensees_of k p) n)
    go l (there {x = b} {xs = k} m) = member_right q (pick (same b.authorizer p) (licensees b.field) []) (licensees_of k p) (go k m)

licensees-alike : (l : List Assertion) (p q : Principal) → same p q ≡ true → licensees_of l p ≡ licensees_of l q
unfolding licensees_of
licensees-alike [] p q e = refl
licensees-alike (a ∷ l) p q e = rw (same-right p q a.authorizer e, licensees-alike l p q e)

-- what was found is in turn looked at, or will be
Kept : List Assertion → List Principal → List Principal → Type 0
Kept l w found = (p : Principal) → member p found ≡ true → (q : Principal) → member q (licensees_of l p) ≡ true → (member q found ≡ true) ⊎ (member q w ≡ true)

kept-skip : (l : List Assertion) (p : Principal) (w found : List Principal) → member p found ≡ true → Kept l (p ∷ w) found → Kept l w found
unfolding Kept
kept-skip l p w found e h p' m q n = ⊎_elim inl (λ k. ⊎_elim (λ z. inl (member-same q p found z ∙ e)) inr (member-cases q p w k)) (h p' m q n)

kept-add : (l : List Assertion) (p : Principal) (w found : List Principal) → member p found ≡ false → Kept l (p ∷ w) found → Kept l (licensees_of l p ++ w) (p ∷ found)
unfolding Kept
kept-add l p w found e h p' m q n = ⊎_elim
    (λ z. inr (member-left q (licensees_of l p) w (rw (licensees-alike l p' p z) at n)))
    (λ m'. ⊎_elim
    (λ k. inl (member-there q p found k))
    (λ k. ⊎_elim (λ z. inl (member-here q p found z)) (λ k'. inr (member_right q (licensees_of l p) w k')) (member-cases q p w k))
    (h p' m' q n))
    (member-cases p' p found m)

pub reach-licenses : (s : System) (a : Assertion) → Mem a s.assertions → InReach s a.authorizer → (q : Principal) → member q (licensees a.field) ≡ true → InReach s q
unfolding Kept
reach-licenses s a m i q n =
    let k = reach-keeps s (Kept s.assertions) (kept-skip _) (kept-add _) (λ p z. member-none p z)
    a.authorizer i q (licensees-in a.authorizer a m (same_refl a.authorizer) q n) in
    ⊎_elim (λ x. x) (λ x. member-none q x) k

-- the reach is closed
pub reach-closed : (s : System) → Closed s (InReach s)
reach-closed s = record {
  alike = λ p q e i. sym (member-same p q (reach s) e) ∙ i;
  licenses = λ a m i q n. reach-licenses s a m i q (member-mem n);
}

Rooted : List Principal → List Principal → Type 0
Rooted w found = (member policy found ≡ true) ⊎ (member policy w ≡ true)

-- it has POLICY
pub reach-root : (s : System) → InReach s policy
unfolding Rooted
reach-root s = ⊎_elim (λ x. x) (λ x. member-none policy x) (reach-keeps s Rooted
    (λ p w found e. ⊎_elim inl (λ k. ⊎_elim (λ z. inl (member-same policy p found z ∙ e)) inr (member-cases policy p w k)))
    (λ p w found e. ⊎_elim (λ k. inl (member-there policy p found k))
    (λ k. ⊎_elim (λ z. inl (member-here policy p found z)) (λ k'. inr (member_right policy (licensees_of s.assertions p) w k')) (member-cases policy p w k)))
    (inr (member-here policy policy [] (same_refl policy))))

pub reachable-alike : {s : System} {p q : Principal} → same p q ≡ true → Reachable s p → Reachable s q
reachable-alike {s} {p} {q} e (root h) = root (same-trans q p policy (same-sym p q e) h)
reachable-alike {s} {p} {q} e (licensee a m i r n) = licensee a m i r (sym (member-same p q (licensees a.field) e) ∙ n)

licensees-out : (s : System) (l : List Assertion) → ((a : Assertion) → Mem a l → Mem a s.assertions)
    → (p q : Principal) → Reachable s p → member q (licensees_of l p) ≡ true → Reachable s q
unfolding licensees_of
licensees-out s [] h p q r m = member-none q m
licensees-out s (a ∷ l) h p q r m = split (same a.authorizer p)
    (λ e. ⊎_elim (licensee a (h a (here refl)) e r) (licensees-out s l (λ b n. h b (there n)) p q r) (member-either q (licensees a.field) (licensees_of l p) (rw e at m)))
    (λ e. licensees-out s l (λ b n. h b (there n)) p q r (rw e at m))

Sound : System → List Principal → List Principal → Type 0
Sound s w found = ((q : Principal) → member q found ≡ true → Reachable s q) × ((q : Principal) → member q w ≡ true → Reachable s q)

-- everything in it can be reached
pub reach-sound : (s : System) (p : Principal) → InReach s p → Reachable s p
unfolding Sound
reach-sound s = (reach-keeps s (Sound s)
    (λ p w found e h. (h.0, λ q m. h.1 q (member-there q p w m)))
    (λ p w found e h. (
      λ q m. ⊎_elim (λ z. reachable-alike (same-sym q p z) (h.1 p (member-here p p w (same_refl p)))) (h.0 q) (member-cases q p found m),
      λ q m. ⊎_elim (licensees-out s s.assertions (λ a n. n) p q (h.1 p (member-here p p w (same_refl p)))) (λ n. h.1 q (member-there q p w n)) (member-either q (licensees_of s.assertions p) w m),
    ))
    (λ q m. member-none q m, λ q m. ⊎_elim root (λ n. member-none q n) (member-cases q policy [] m))).0

-- and all that can be reached is in it
pub reach-complete : (s : System) {p : Principal} → Reachable s p → InReach s p
reach-complete s {p} (root e) = member-same p policy (reach s) e ∙ reach-root s
reach-complete s {p} (licensee {p = o} a m i r n) = reach-licenses s a m (member-same a.authorizer o (reach s) i ∙ reach-complete s r) p n

-- each principal once, so that its length is the number of principals in it
pub reach-distinct : (s : System) → Distinct (reach s)
reach-distinct s = reach-keeps s (λ w found. Distinct found) (λ p w found e h. h) (λ p w found e h. d∷ e h) d[]
