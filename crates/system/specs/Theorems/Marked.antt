-- POLICY and the requesters entered one after the other: what the index and the marks are after each. Assumes nothing.
use Rattle.std.specs.Prelude.{◌≡◌, refl, ℕ, zero, suc, ◌+◌, ◌-◌, ◌*◌, ◌≤◌, ◌<◌, set, replicate}
use Rattle.std.proofs.Common.{sym, ap, ap₂, ◌∙◌, arith}
use Rattle.std.proofs.Math.Bool.{true, false}
use Rattle.std.proofs.Math.Logic.{⊎_elim}
use mathlib.Core.List.{List, [], ◌∷◌, ◌++◌, map, append_assoc, append-nil}
use Rattle.std.proofs.Math.ListN.{length, length-append}
use Rattle.std.proofs.lemmas.List.{length-map, set_at}
use Rattle.limits.specs.Limits.{most_requesters, most_identifier, most_principals, most_counted}
use Rattle.text.specs.Choice.{split, clash, bool_iff}
use Rattle.record.specs.Lies.{Lie, lie[], lie∷, StringAt}
use Rattle.record.specs.Valid.{Each, each∷, RequesterOk}
use Rattle.principal.specs.Principal.{Principal, same, same-sym, same_refl}
use Rattle.principal.specs.Members.{member, Distinct, d[], d∷, member-none, member-here, member-there, member-cases, member-left, member_right, member-either, member-same}
use Rattle.index.specs.Index.{enter, enter_all, Holds}
use Rattle.principal.specs.Places.{place}
use Rattle.compliance.specs.Theorems.Fill.{place-added}
use Rattle.compliance.specs.Theorems.Filling.{asking, Filling, fill-name}
use Rattle.index.specs.Working.Entering.{Kept}
use Rattle.naming.specs.Theorems.Entry.{EntryRead, entry_at, entry_read}
use Rattle.index.specs.declared.Index.{Index}
use Rattle.system.specs.Working.Sizes.{small}
use Rattle.system.specs.Working.Asking.{Asked, asked, on_entered, ask_in, all_from}

map_snoc : (f : Principal → ℕ) (l : List Principal) (p : Principal) → map f (l ++ (p ∷ [])) ≡ map f l ++ (f p ∷ [])
map_snoc f [] p = refl
map_snoc f (q ∷ l) p = ap (λ (m : List ℕ). f q ∷ m) (map_snoc f l p)

-- ---- one requester more is marked

module _ (done : List Principal) (p : Principal) where
  member-other : (q : Principal) → same q p ≡ false → member q (done ++ (p ∷ [])) ≡ member q done
  member-other q n = bool_iff _ _
      (λ m. ⊎_elim (λ h. h) (λ h. ⊎_elim (λ k. clash k n) (λ k. member-none q k) (member-cases q p [] h)) (member-either q done (p ∷ []) m))
      (member-left q done (p ∷ []))

  asking-other : (q : Principal) → same q p ≡ false → asking (done ++ (p ∷ [])) q ≡ asking done q
  asking-other q n = rw (member-other q n)

  asking-it : (q : Principal) → same q p ≡ true → asking (done ++ (p ∷ [])) q ≡ 1
  asking-it q e = rw (member_right q done (p ∷ []) (member-here q p [] e))

  apart : (q : Principal) (l : List Principal) → member p (q ∷ l) ≡ false → same q p ≡ false
  apart q l n = split (same q p) (λ e. clash (member-here p q l (same-sym q p e)) n) (λ e. e)

  rest-apart : (q : Principal) (l : List Principal) → member p (q ∷ l) ≡ false → member p l ≡ false
  rest-apart q l n = split (member p l) (λ e. clash (member-there p q l e) n) (λ e. e)

  asking-others : (names : List Principal) → member p names ≡ false → map (asking (done ++ (p ∷ []))) names ≡ map (asking done) names
  asking-others [] n = refl
  asking-others (q ∷ l) n = ap₂ ◌∷◌ (asking-other q (apart q l n)) (asking-others l (rest-apart q l n))

  -- a principal that is there is marked at its place
  mark-known : {names : List Principal} → Distinct names → member p names ≡ true → (z : List ℕ)
      → set (map (asking done) names ++ z) (place names p) 1 ≡ map (asking (done ++ (p ∷ []))) names ++ z
  unfolding place
  mark-known d[] m z = member-none p m
  mark-known (d∷ {p = q} {l = l} n d) m z =
      split (same p q)
      (λ e. rw e (ap₂ ◌∷◌ (sym (asking-it q (same-sym p q e))) (ap (λ (x : List ℕ). x ++ z) (sym (asking-others l (member-same p q l e ∙ n))))))
      (λ e. let f : same q p ≡ false = split (same q p) (λ h. clash (same-sym q p h) e) (λ h. h) in
      let k : member p l ≡ true = ⊎_elim (λ h. clash h e) (λ h. h) (member-cases p q l m) in
      rw e (ap₂ ◌∷◌ (sym (asking-other q f)) (mark-known d k z)))

zeros : (n : ℕ) → 0 < n → replicate {A = ℕ} n 0 ≡ 0 ∷ replicate {A = ℕ} (n - 1) 0
zeros zero h = let no : ⊥ = omega (arith, h) in absurd no
zeros (suc n) h = let z : suc n - 1 ≡ n = omega arith in rw z

module _ (done names : List Principal) (p : Principal) (n : ℕ) where
  -- and a new one at the next
  mark-new : member p names ≡ false → length names < n
      → set (map (asking done) names ++ replicate (n - length names) 0) (length names) 1
      ≡ map (asking (done ++ (p ∷ []))) (names ++ (p ∷ [])) ++ replicate (n - length (names ++ (p ∷ []))) 0
  mark-new m h =
      let e : n - length names - 1 ≡ n - length (names ++ (p ∷ [])) = omega (arith, length-append names (p ∷ [])) in
      rw (zeros (n - length names) (omega (arith, h)), e, map_snoc (asking (done ++ (p ∷ []))) names p, asking-others done p names m, asking-it done p p (same_refl p))
      (set_at (map (asking done) names) 0 (replicate (n - length (names ++ (p ∷ []))) 0) 1 (length names) (length-map names (asking done))
      ∙ sym (append_assoc (map (asking done) names) (1 ∷ []) (replicate (n - length (names ++ (p ∷ []))) 0)))

  pub mark-is : Distinct names → length names < n
      → set (map (asking done) names ++ replicate (n - length names) 0) (place (enter names p) p) 1
      ≡ map (asking (done ++ (p ∷ []))) (enter names p) ++ replicate (n - length (enter names p)) 0
  unfolding enter
  mark-is d h =
      split (member p names)
      (λ m. rw m (mark-known done p d m (replicate (n - length names) 0)))
      (λ m. rw (m, place-added names p m) (mark-new m h))

-- ---- the index and the marks after some of the requesters

pub record Stage (requesters : List Principal) (top : ℕ) (done names : List Principal) (x : Index) (pool places direct : List ℕ) : Type 0 where
  pub holds : Holds pool places x.count x.end names
  pub tight : x.end ≤ most_counted * x.count
  pub few : x.count ≤ 1 + length done
  pub marks : direct ≡ map (asking done) names ++ replicate (small.places - x.count) 0
  pub filling : Filling names [] [] [] [] (map (asking requesters) names) [] requesters top
  pub pool-long : length pool ≡ small.pool
  pub places-long : length places ≡ small.places

pub data Staged (requesters : List Principal) (top : ℕ) (done names : List Principal) : Asked → Type 0 where
  staged : (x : Index) (pool places direct : List ℕ) → Stage requesters top done names x pool places direct → Staged requesters top done names (asked x pool places direct)

module _ (requesters : List Principal) (top : ℕ) where
  fill-enter : (names : List Principal) (p : Principal) → length names < most_principals → Filling names [] [] [] [] (map (asking requesters) names) [] requesters top
      → Filling (enter names p) [] [] [] [] (map (asking requesters) (enter names p)) [] requesters top
  unfolding enter
  fill-enter names p h f =
      split (member p names)
      (λ m. rw m f)
      (λ m. rw (m, map_snoc (asking requesters) names p) (fill-name names [] [] [] [] (map (asking requesters) names) [] requesters top f p m h))

  module _ (done names : List Principal) (x : Index) (pool places direct : List ℕ) (st : Stage requesters top done names x pool places direct) (p : Principal) (low : length done < most_requesters) where
    entered-staged : {k : Kept} → EntryRead pool places x.count x.end names p k → Staged requesters top (done ++ (p ∷ [])) (enter names p) (on_entered direct x k)
    entered-staged (entry_at c e pool' places' h t f g pl ll) =
        let n : length names < most_principals = omega (arith, st.holds.counted, st.few, low) in
        let b : x.count ≡ length names = st.holds.counted in
        let w : c ≡ length (enter names p) = h.counted in
        let old : direct ≡ map (asking done) names ++ replicate (small.places - length names) 0 = st.marks ∙ rw b in
        let new : set direct (place (enter names p) p) 1 ≡ map (asking (done ++ (p ∷ []))) (enter names p) ++ replicate (small.places - c) 0
        = ap (λ (d : List ℕ). set d (place (enter names p) p) 1) old ∙ mark-is done names p small.places st.filling.represents.distinct (omega (arith, st.holds.counted, st.few, low)) ∙ rw w in
        staged _ pool' places' (set direct (place (enter names p) p) 1) (record {
          holds = h;
          tight = t;
          few = omega (arith, f, st.few, length-append done (p ∷ []));
          marks = new;
          filling = fill-enter names p n st.filling;
          pool-long = pl ∙ st.pool-long;
          places-long = ll ∙ st.places-long;
        })

    pub ask-staged : length p ≤ most_identifier → Staged requesters top (done ++ (p ∷ [])) (enter names p) (ask_in pool places direct x p)
    unfolding ask_in
    ask-staged h =
        entered-staged (entry_read pool places x.count x.end names st.holds st.tight p h
        (omega (arith, st.few, low)) (omega (arith, st.few, st.places-long, low)) (omega (arith, st.few, st.tight, st.pool-long, low)))

  -- all requesters at their places
  pub all-staged : (s : List ℕ) {vs : List ℕ} {l : List Principal} → Lie (StringAt s) vs l → {seen : List Principal} → Each RequesterOk seen l
      → (done names : List Principal) → length done + length l ≤ most_requesters → {a : Asked} → Staged requesters top done names a
      → Staged requesters top (done ++ l) (enter_all names l) (all_from s vs a)
  unfolding all_from enter_all
  all-staged s lie[] {seen} ok done names h t = rw (append-nil done) t
  all-staged s (lie∷ {v = v} {vs = vs} {a = p} {l = l} at lie) (each∷ k ks) done names h (staged x pool places direct st) =
      let a : length (done ++ (p ∷ [])) ≡ length done + 1 = length-append done (p ∷ []) in
      let g : Staged requesters top (done ++ (p ∷ [])) (enter names p) (ask_in pool places direct x p) = ask-staged done names x pool places direct st p (omega (arith, h)) k.0.0.1 in
      let w = all-staged s lie ks (done ++ (p ∷ [])) (enter names p) (omega (arith, h, a)) g in
      rw at (rw (append_assoc done (p ∷ []) l) at w)
