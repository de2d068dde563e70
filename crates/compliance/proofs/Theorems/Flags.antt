-- Tables that represent a system: their flags are the reach. Assumes nothing.
use Rattle.std.specs.Prelude.{◌≡◌, Bool, eqb, ltb, get_or, set, replicate}
use Rattle.std.proofs.Math.Path.{refl, ap}
use Rattle.std.proofs.Common.{sym, ◌∙◌, arith, get_or-set_other}
use Rattle.std.proofs.Math.Bool.{true, false}
use Rattle.std.proofs.Math.Logic.{⊎_elim}
use Rattle.std.proofs.Math.Option.{some}
use mathlib.Core.List.Memᴰ
use mathlib.Core.List.Memᴰ.{head as here}
use mathlib.Core.List.Memᴰ.{tail as there}
use mathlib.Core.List.{List, [], ◌∷◌, ◌++◌, map, Memᴰ as Mem}
use Prim.Native.Nat.{ℕ, zero, suc, ◌≤◌, ◌<◌}
use Rattle.std.proofs.Math.ListN.{length, get_elem?, length-set}
use Rattle.std.proofs.lemmas.List.{length-map, length-replicate}
use borrow.Author.Tests.{eqb-true, eqb-false, ltb-true, ltb-false, lt-ltb}
use Rattle.text.specs.Choice.{split, clash}
use Rattle.principal.specs.Principal.{Principal, same, policy, same_refl, same-sym}
use Rattle.principal.specs.Members.{member, member-none, member-here, member-there, member-cases, member-left, member_right, member-either, member-same}
use Rattle.compliance.specs.Licensees.{Expression, name, and, or, k_of, Licensees, missing, empty, given, named, licensees}
use Rattle.compliance.specs.System.{Assertion, System}
use Rattle.compliance.specs.Reach.{reach, Reachable, root, licensee}
use Rattle.compliance.specs.Codes.{top_code, k_of_code, and_code, or_code, zero_code}
use Rattle.principal.specs.Places.{place}
use Rattle.compliance.specs.Tables.{compile, compiled, program_of, Represents}
use Rattle.compliance.specs.Theorems.Reach.{reach-sound, reach-complete}
use Rattle.compliance.specs.Theorems.Index.{map_same, place-lt, place_map, place_none, place_set}
use Rattle.compliance.specs.Working.Reach.{marked, marked_all, open_at, open_from, spread_from}
use Rattle.compliance.specs.Working.Solve.{blank, reach_of}
use Rattle.compliance.specs.Theorems.Flags.{at_mem, at_some, blank-at, flag-on, flag_off, flagged, flagged-even, flagged-same, marked-last, marked_append, mem-at, no_flag, open-found, open-intro, open-parts, open-rest, open_done, undone, undone-blank, undone-none, undone-set}

-- ---- the tables

module _ (names : List Principal) (authors conds ends code direct : List ℕ) (top : ℕ) (s : System)
    (rep : Represents names authors conds ends code direct top s) where
  mark-name : (p : Principal) (l : List Principal) → member p names ≡ true → marked (place names p) (map (flagged l) names) ≡ map (flagged (p ∷ l)) names
  unfolding marked flagged
  mark-name p l i =
      let below : place names p < top_code = omega (arith, place-lt names p i, rep.few_names) in
      rw (lt-ltb (place names p) top_code below)
      (place_set rep.distinct (flagged l) p 1 i
      ∙ map_same _ _ names (λ q m. split (same p q)
      (λ e. rw (e, member-here q p l (same-sym p q e)))
      (λ e. rw e (split (member q l)
      (λ f. rw (f, member-there q p l f))
      (λ f. rw (f, other p q l e f))))))
    where
      other : (p q : Principal) (l : List Principal) → same p q ≡ false → member q l ≡ false → member q (p ∷ l) ≡ false
      other p q l e f = split (member q (p ∷ l)) (λ t. ⊎_elim (λ x. clash (same-sym q p x) e) (λ x. clash x f) (member-cases q p l t)) (λ t. t)

  mark-names : (ps l : List Principal) → ((p : Principal) → Mem p ps → member p names ≡ true)
      → marked_all (map (place names) ps) (map (flagged l) names) ≡ map (flagged (ps ++ l)) names
  unfolding marked_all
  mark-names [] l h = refl
  mark-names (p ∷ ps) l h =
      ap (marked_all (map (place names) ps)) (mark-name p l (h p (here refl)))
      ∙ mark-names ps (p ∷ l) (λ q m. h q (there m))
      ∙ flagged-same (ps ++ (p ∷ l)) ((p ∷ ps) ++ l) names
      (λ q m. ⊎_elim
      (λ x. member-there q p (ps ++ l) (member-left q ps l x))
      (λ x. ⊎_elim (λ y. member-here q p (ps ++ l) y) (λ y. member-there q p (ps ++ l) (member_right q ps l y)) (member-cases q p l x))
      (member-either q ps (p ∷ l) m))
      (λ q m. ⊎_elim
      (λ x. member_right q ps (p ∷ l) (member-here q p l x))
      (λ x. ⊎_elim (λ y. member-left q ps (p ∷ l) y) (λ y. member_right q ps (p ∷ l) (member-there q p l y)) (member-either q ps l x))
      (member-cases q p (ps ++ l) m))

  mark-both : (a b : List Principal) (x y : List ℕ) (op : ℕ) (l : List Principal) → top_code ≤ op
      → marked_all x (map (flagged l) names) ≡ map (flagged (a ++ l)) names → marked_all y (map (flagged (a ++ l)) names) ≡ map (flagged (b ++ (a ++ l))) names
      → marked_all (x ++ (y ++ (op ∷ []))) (map (flagged l) names) ≡ map (flagged ((a ++ b) ++ l)) names
  mark-both a b x y op l h ex ey =
      marked_append x (y ++ (op ∷ [])) (map (flagged l) names)
      ∙ ap (marked_all (y ++ (op ∷ []))) ex
      ∙ marked-last y op (map (flagged (a ++ l)) names) h
      ∙ ey
      ∙ flagged-same (b ++ (a ++ l)) ((a ++ b) ++ l) names
      (λ q m. ⊎_elim
      (λ z. member-left q (a ++ b) l (member_right q a b z))
      (λ z. ⊎_elim (λ w. member-left q (a ++ b) l (member-left q a b w)) (λ w. member_right q (a ++ b) l w) (member-either q a l z))
      (member-either q b (a ++ l) m))
      (λ q m. ⊎_elim
      (λ z. ⊎_elim (λ w. member_right q b (a ++ l) (member-left q a l w)) (λ w. member-left q b (a ++ l) w) (member-either q a b z))
      (λ z. member_right q b (a ++ l) (member_right q a l z))
      (member-either q (a ++ b) l m))

  mark-compile : (e : Expression) (l : List Principal) → ((p : Principal) → Mem p (named e) → member p names ≡ true)
      → marked_all (compile names e) (map (flagged l) names) ≡ map (flagged (named e ++ l)) names
  unfolding compile named
  mark-compile (name p) l h = mark-names (p ∷ []) l h
  mark-compile (and a b) l h = mark-both (named a) (named b) (compile names a) (compile names b) and_code l (omega arith)
      (mark-compile a l (λ p m. h p (Memᴰ.append_left (named b) m))) (mark-compile b (named a ++ l) (λ p m. h p (Memᴰ.append_right (named a) m)))
  mark-compile (or a b) l h = mark-both (named a) (named b) (compile names a) (compile names b) or_code l (omega arith)
      (mark-compile a l (λ p m. h p (Memᴰ.append_left (named b) m))) (mark-compile b (named a ++ l) (λ p m. h p (Memᴰ.append_right (named a) m)))
  mark-compile (k_of k ps) l h = marked-last (map (place names) ps) (k_of_code k (length ps)) (map (flagged l) names) (omega arith) ∙ mark-names ps l h

  mark-field : (f : Licensees) (l : List Principal) → ((p : Principal) → Mem p (licensees f) → member p names ≡ true)
      → marked_all (compiled names f) (map (flagged l) names) ≡ map (flagged (licensees f ++ l)) names
  unfolding compiled licensees
  mark-field missing l h = marked-last [] top_code (map (flagged l) names) (omega arith) ∙ mark-names [] l (λ p m. elim m [ ])
  mark-field empty l h = marked-last [] zero_code (map (flagged l) names) (omega arith) ∙ mark-names [] l (λ p m. elim m [ ])
  mark-field (given e) l h = mark-compile e l h

  -- the flag of an assertion's authorizer
  pub author-flag : (l : List Principal) (j : ℕ) (a : Assertion) → get_elem? s.assertions j ≡ some a
      → get_or (map (flagged l) names) (get_or authors j 0) 0 ≡ flagged l a.authorizer
  author-flag l j a e = let w = rep.rows j a e in rw w.author (place_map (flagged l) (flagged-even l) names a.authorizer w.known)

  -- the licensees of the assertions that are expanded are flagged
  abbrev Done : List Bool → List Principal → Type 0
  Done done l = (j : ℕ) (a : Assertion) → get_elem? s.assertions j ≡ some a → get_or done j false ≡ true
      → (q : Principal) → member q (licensees a.field) ≡ true → member q l ≡ true

  module _ (done : List Bool) (l : List Principal) (long : length done ≡ length authors) (rooted : member policy l ≡ true)
      (sound : (p : Principal) → member p l ≡ true → Reachable s p) (known : Done done l) where
    complete : ((j : ℕ) → j < length authors → open_at authors done (map (flagged l) names) j ≡ false) → {p : Principal} → Reachable s p → member p l ≡ true
    complete h {p} (root e) = member-same p policy l e ∙ rooted
    complete h {p} (licensee {p = o} a m i r n) = mem-at m (λ j e b. split (get_or done j false)
        (λ d. known j a e d p n)
        (λ d. clash (opened j a e d (member-same a.authorizer o l i ∙ complete h r)) (h j (omega (arith, rep.counted)))))
      where
        opened : (j : ℕ) (a : Assertion) → get_elem? s.assertions j ≡ some a → get_or done j false ≡ false → member a.authorizer l ≡ true
            → open_at authors done (map (flagged l) names) j ≡ true
        opened j a e d i = open-intro authors done (map (flagged l) names) j d (author-flag l j a e ∙ flag-on l a.authorizer i)

    -- where no assertion is open, the flags are the reach
    stopped : ((j : ℕ) → j < length authors → open_at authors done (map (flagged l) names) j ≡ false) → map (flagged l) names ≡ map (flagged (reach s)) names
    stopped h = flagged-same l (reach s) names (λ q m. reach-complete s (sound q m)) (λ q m. complete h (reach-sound s q m))

  reaches : (k : ℕ) (done : List Bool) (l : List Principal) → length done ≡ length authors → member policy l ≡ true
      → ((p : Principal) → member p l ≡ true → Reachable s p) → Done done l → undone done ≤ k
      → spread_from authors ends code k done (map (flagged l) names) ≡ map (flagged (reach s)) names
  unfolding spread_from
  reaches zero done l long rooted sound known u = stopped done l long rooted sound known
      (λ j h. open_done authors done (map (flagged l) names) j (undone-none done j (omega arith) (omega arith)))
  reaches (suc k) done l long rooted sound known u =
      let flags = map (flagged l) names in
      let j = open_from authors done flags (length authors) 0 in
      split (ltb j (length authors))
      (λ e. let b : j < length authors = ltb-true _ _ e in
      let o = open-parts authors done flags j (open-found authors done flags (length authors) 0 (omega arith)) in
      at_some s.assertions j (omega (arith, rep.counted)) (λ a at.
      let w = rep.rows j a at in
      let in-l : member a.authorizer l ≡ true = flag_off l a.authorizer (rw (author-flag l j a at) at o.1) in
      let m = licensees a.field ++ l in
      let f : marked_all (program_of ends code j) flags ≡ map (flagged m) names = rw w.program (mark-field a.field l w.listed) in
      rw (e, f) (reaches k (set done j true) m (rw length-set long)
      (member_right policy (licensees a.field) l rooted)
      (λ p i. ⊎_elim
      (λ x. licensee a (at_mem s.assertions j a at) (same_refl a.authorizer) (sound a.authorizer in-l) x)
      (sound p)
      (member-either p (licensees a.field) l i))
      (λ i c ci d q n. split (eqb i j)
      (λ x. let z : c ≡ a = cc (eqb-true i j x, ci, at) in member-left q (licensees a.field) l (rw z at n))
      (λ x. member_right q (licensees a.field) l (known i c ci (rw (get_or-set_other done j i true false (eqb-false i j x)) at d) q n)))
      (omega (arith, undone-set done j (omega arith) o.0))))
      )
      (λ e. rw e (stopped done l long rooted sound known (λ i h. open-rest authors done flags (length authors) 0 (omega (arith, ltb-false)) i (omega arith) (omega arith))))

  direct-long : length direct ≡ length names
  direct-long = ap length rep.asked ∙ length-map names _

  -- the flags that the code finds are the reach
  pub flags-reach : reach_of authors ends code (length direct) ≡ map (flagged (reach s)) names
  unfolding reach_of
  flags-reach =
      let start : marked 0 (blank (length direct)) ≡ map (flagged (policy ∷ [])) names =
      ap (marked 0) (place_none names (flagged []) (length direct) direct-long (λ q m. no_flag q))
      ∙ ap (λ (i : ℕ). marked i (map (flagged []) names)) (sym rep.first)
      ∙ mark-name policy [] rep.rooted in
      rw start (reaches (length authors) (replicate (length authors) false) (policy ∷ []) (length-replicate (length authors) false)
      (member-here policy policy [] (same_refl policy))
      (λ p i. ⊎_elim root (λ x. member-none p x) (member-cases p policy [] i))
      (λ j a e d q n. clash d (blank-at (length authors) j))
      (omega (arith, undone-blank (length authors))))
