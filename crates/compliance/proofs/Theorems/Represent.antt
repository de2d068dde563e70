-- Tables that represent a system: the answer over them is the system's. Assumes nothing.
use Rattle.std.specs.Prelude.{◌≡◌, Bool}
use Rattle.std.proofs.Math.Path.{refl, sym, ap}
use Rattle.std.proofs.Common.{◌∙◌, ext_get_or}
use Rattle.std.proofs.Math.Bool.{true, false}
use Rattle.std.proofs.Math.Option.{some}
use mathlib.Core.List.{List, [], ◌∷◌, map, Memᴰ as Mem}
use Prim.Native.Nat.{ℕ, zero, suc, ◌+◌, ◌≤◌, ◌<◌, max}
use Rattle.std.proofs.Math.Nat.{le_antisymm, add-zero}
use native.Mathlib.Omega.{arith}
use Rattle.std.proofs.Math.Dec.{eqb}
use Rattle.std.proofs.Math.ListN.{length, get_or, get_elem?, set, get_or-append}
use Rattle.std.proofs.lemmas.List.{length-map}
use Rattle.std.proofs.Math.Seq.{get_or-append_seam}
use borrow.Author.Tests.{eqb-true, eqb-false, eq-eqb, le-ltb}
use Rattle.text.specs.Choice.{pick, split, bool_iff}
use Rattle.principal.specs.Principal.{Principal, same, policy, same-right}
use Rattle.principal.specs.Members.{member, distinct-le, member-mem, member-find, member-same}
use Rattle.compliance.specs.Highest.{at_least}
use Rattle.compliance.specs.Licensees.{Rank, licensed, licensees}
use Rattle.compliance.specs.System.{Assertion, System, asserted, delegated, equations, round}
use Rattle.compliance.specs.System as system
use Rattle.compliance.specs.Reach.{reach, InReach, Reachable, root, licensee}
use Rattle.compliance.specs.Rounds.{settled, reached, first_settled, rounds, rank}
use Rattle.limits.specs.Limits.{most_assertions, most_licensees, most_principals}
use Rattle.principal.specs.Places.{place}
use Rattle.compliance.specs.Tables.{compiled, Row, Represents}
use Rattle.compliance.specs.Theorems.Monotone.{round-alike}
use Rattle.compliance.specs.Theorems.Reach.{reach-licenses, reach-root, reach-sound, reach-distinct}
use Rattle.compliance.specs.Theorems.Settle.{settled-equal, equal-settled, rounds-rank}
use Rattle.compliance.specs.Theorems.Alike.{AlikeIn, policy-same, rounds-same, reached-same}
use Rattle.compliance.specs.Theorems.Index.{Even, map_same, map_at, place-lt, place_map, place_none, place_set}
use Rattle.compliance.specs.Theorems.Compile.{Reads, worth-compiled}
use Rattle.compliance.specs.Theorems.Flags.{flagged, flag-on, at_mem, mem-at}
use Rattle.compliance.proofs.Theorems.Flags.{author-flag, flags-reach}
use Rattle.compliance.specs.Working.Machine.{worth}
use Rattle.compliance.specs.Working.Rounds.{granted_of, raised, direct_at, direct_table, changes_of, settled_at, relaxed_at, relax_from, round_of, settle_from}
use Rattle.compliance.specs.Working.RoundWays.{direct-length}
use Rattle.compliance.specs.Working.Solve.{blank, reach_of, solved_by, solution_of}
use Rattle.compliance.specs.Theorems.Represent.{among, among-all, among-count, among-distinct, among_of, changes-none, flag-none, held, held-even, held_in, held_out, none-changed}

-- ---- tables of numbers

table_at : (direct flags : List ℕ) (top n i : ℕ) → i < n → get_or (direct_table direct flags top n) i 0 ≡ direct_at direct flags top i
unfolding direct_table
table_at direct flags top zero i h = absurd (omega arith)
table_at direct flags top (suc n) i h =
    let l = direct-length direct flags top n in
    split (eqb i n)
    (λ e. let z : i ≡ length (direct_table direct flags top n) = omega (arith, eqb-true i n e) in
    rw z (get_or-append_seam (direct_table direct flags top n) (direct_at direct flags top n) [] 0 ∙ ap (direct_at direct flags top) (sym l)))
    (λ e. let b : i < n = omega (arith, eqb-false i n e) in
    get_or-append (direct_table direct flags top n) (direct_at direct flags top n ∷ []) 0 i (omega arith) ∙ table_at direct flags top n i b)

direct-on : (direct flags : List ℕ) (top t i : ℕ) (m r : Bool) → get_or flags i 0 ≡ pick m 1 0 → get_or direct i 0 ≡ pick r 1 0 → top ≡ t
    → direct_at direct flags top i ≡ pick m (pick r t 0) 0
unfolding direct_at
direct-on direct flags top t i true true f d e = rw (f, d, e)
direct-on direct flags top t i true false f d e = rw (f, d)
direct-on direct flags top t i false r f d e = rw f

module _ (names : List Principal) (authors conds ends code direct : List ℕ) (top : ℕ) (s : System)
    (rep : Represents names authors conds ends code direct top s) where
  reach-names : {p : Principal} → Reachable s p → member p names ≡ true
  reach-names {p} (root e) = member-same p policy names e ∙ rep.rooted
  reach-names {p} (licensee a m i r n) = mem-at m (λ j e b. member-find p (licensees a.field) n (λ q k x. member-same p q names x ∙ (rep.rows j a e).listed q k))

  -- the number of flags is the number of principals reached
  reached-count : at_least 1 (map (flagged (reach s)) names) ≡ reached s
  unfolding reached
  reached-count = among-count (reach s) names ∙ le_antisymm
      (distinct-le (among-distinct (reach s) rep.distinct) (reach s) (λ q i. (among_of (reach s) names q i).0))
      (distinct-le (reach-distinct s) (among (reach s) names) (λ q i. among-all (reach s) names q i (reach-names (reach-sound s q i))))

  flags : List ℕ
  flags = map (flagged (reach s)) names

  -- the direct authorizations on the reach
  start : Rank
  start q = pick (member q (reach s)) (system.direct s q) 0

  start-even : Even start
  unfolding start system.direct
  start-even p q e = rw (member-same p q (reach s) e, member-same p q s.requesters e)

  direct-long : length direct ≡ length names
  direct-long = ap length rep.asked ∙ length-map names _

  start-at : (i : ℕ) (q : Principal) → ((f : Rank) → get_or (map f names) i 0 ≡ f q) → direct_at direct flags top i ≡ start q
  unfolding flags start flagged system.direct
  start-at i q e = direct-on direct flags top s.top i (member q (reach s)) (member q s.requesters)
      (e (flagged (reach s)))
      (ap (λ (l : List ℕ). get_or l i 0) rep.asked ∙ e (λ (p : Principal). pick (member p s.requesters) 1 0))
      rep.topped

  start-table : direct_table direct flags top (length direct) ≡ map start names
  start-table = ext_get_or 0 _ _ (direct-length direct flags top (length direct) ∙ direct-long ∙ sym (length-map names start))
      (λ i h. let b : i < length direct = omega (arith, direct-length direct flags top (length direct)) in
      table_at direct flags top (length direct) i b
      ∙ map_at names i (omega (arith, direct-long)) (λ q m e. start-at i q e ∙ sym (e start)))

  -- a rank raised at one principal
  raise-table : (g : Rank) → Even g → (p : Principal) (v : ℕ) → member p names ≡ true
      → raised (map g names) (place names p) v ≡ map (λ (q : Principal). max (g q) (pick (same p q) v 0)) names
  unfolding raised
  raise-table g h p v i =
      ap (λ (w : ℕ). set (map g names) (place names p) (max w v)) (place_map g h names p i)
      ∙ place_set rep.distinct g p (max (g p) v) i
      ∙ map_same _ _ names (λ q m. split (same p q) (λ e. rw (e, h p q e)) (λ e. rw e (omega arith)))

  raise-even : (g : Rank) → Even g → (p : Principal) (v : ℕ) → Even (λ (q : Principal). max (g q) (pick (same p q) v 0))
  raise-even g h p v q r e = rw (h q r e, same-right q r p e)

  module _ (n : ℕ) where
    -- the rank of an assertion whose authorizer is reached
    granted-row : (j : ℕ) (a : Assertion) → Mem a s.assertions → Row names authors conds ends code j a → InReach s a.authorizer
        → granted_of conds ends code top most_licensees (map (held s n) names) j ≡ asserted s.top (round s n) a
    unfolding granted_of asserted
    granted-row j a m w i =
        let reads : (p : Principal) → Mem p (licensees a.field) → Reads (map (held s n) names) top most_licensees names (round s n) (omega arith) p =
        λ p k. (
          omega (arith, place-lt names p (w.listed p k), rep.few_names),
          place_map (held s n) (held-even s n) names p (w.listed p k) ∙ held_in s n p (reach-licenses s a m i p (member-mem k)),
        ) in
        let l : worth (map (held s n) names) top most_licensees (compiled names a.field) ≡ licensed top (round s n) a.field =
        worth-compiled (map (held s n) names) top most_licensees names (round s n) (omega arith) a.field w.formed reads w.few (omega arith) in
        let f : licensed top (round s n) a.field ≡ licensed s.top (round s n) a.field = ap (λ (t : ℕ). licensed t (round s n) a.field) rep.topped in
        cc (w.condition, w.program, l, f)

    -- an assertion raises its authorizer's rank in the table, if that is reached
    relaxed-row : (j : ℕ) (a : Assertion) → get_elem? s.assertions j ≡ some a → (g : Rank) → Even g
        → relaxed_at authors conds ends code top most_licensees flags (map (held s n) names) j (map g names)
        ≡ map (λ (q : Principal). max (g q) (pick (member q (reach s)) (pick (same a.authorizer q) (asserted s.top (round s n) a) 0) 0)) names
    unfolding relaxed_at flags
    relaxed-row j a at g h =
        let w = rep.rows j a at in
        let v = asserted s.top (round s n) a in
        let f = author-flag names authors conds ends code direct top s rep (reach s) j a at in
        split (member a.authorizer (reach s))
        (λ e. let t : eqb (get_or (map (flagged (reach s)) names) (get_or authors j 0) 0) 1 ≡ true = eq-eqb _ 1 (f ∙ flag-on (reach s) a.authorizer e) in
        rw (t, granted-row j a (at_mem s.assertions j a at) w e, w.author)
        (raise-table g h a.authorizer v w.known
        ∙ map_same _ _ names (λ q m. split (same a.authorizer q)
        (λ x. let y : member q (reach s) ≡ true = sym (member-same a.authorizer q (reach s) x) ∙ e in rw (x, y))
        (λ x. rw x (split (member q (reach s)) (λ y. rw y) (λ y. rw y))))))
        (λ e. let t : eqb (get_or (map (flagged (reach s)) names) (get_or authors j 0) 0) 1 ≡ false = ap (λ (m : ℕ). eqb m 1) (f ∙ flag-none (reach s) a.authorizer e) in
        rw t (map_same _ _ names (λ q m. split (same a.authorizer q)
        (λ x. let y : member q (reach s) ≡ false = sym (member-same a.authorizer q (reach s) x) ∙ e in rw (x, y) (omega arith))
        (λ x. rw x (split (member q (reach s)) (λ y. rw y (omega arith)) (λ y. rw y (omega arith)))))))

    relaxed-even : (g : Rank) → Even g → (p : Principal) (v : ℕ) → Even (λ (q : Principal). max (g q) (pick (member q (reach s)) (pick (same p q) v 0) 0))
    relaxed-even g h p v q r e = rw (h q r e, member-same q r (reach s) e, same-right q r p e)

    relax-rows : (l : List Assertion) (j : ℕ) → ((i : ℕ) (a : Assertion) → get_elem? l i ≡ some a → get_elem? s.assertions (j + i) ≡ some a) → (g : Rank) → Even g
        → relax_from authors conds ends code top most_licensees flags (map (held s n) names) (length l) j (map g names)
        ≡ map (λ (q : Principal). max (g q) (pick (member q (reach s)) (delegated s.top l (round s n) q) 0)) names
    unfolding relax_from delegated
    relax-rows [] j h g ev = map_same _ _ names (λ q m. split (member q (reach s)) (λ y. rw y (omega arith)) (λ y. rw y (omega arith)))
    relax-rows (a ∷ l) j h g ev =
        let v = asserted s.top (round s n) a in
        let at : get_elem? s.assertions j ≡ some a = rw add-zero at (h 0 a refl) in
        ap (relax_from authors conds ends code top most_licensees flags (map (held s n) names) (length l) (suc j)) (relaxed-row j a at g ev)
        ∙ relax-rows l (suc j) (λ i b e. let z : suc j + i ≡ j + suc i = omega arith in rw z (h (suc i) b e)) _ (relaxed-even g ev a.authorizer v)
        ∙ map_same _ _ names (λ q m. split (member q (reach s)) (λ y. rw y (omega arith)) (λ y. rw y (omega arith)))

    -- a round over the tables is the next round on the reach
    round-table : round_of authors conds ends code direct top most_licensees flags (length direct) (map (held s n) names) ≡ map (held s (suc n)) names
    unfolding round_of held round equations start
    round-table =
        let ranks = map (held s n) names in
        ap (relax_from authors conds ends code top most_licensees flags ranks (length authors) 0) start-table
        ∙ ap (λ (k : ℕ). relax_from authors conds ends code top most_licensees flags ranks k 0 (map start names)) rep.counted
        ∙ relax-rows s.assertions 0 (λ i a e. let z : 0 + i ≡ i = omega arith in rw z e) start start-even
        ∙ map_same _ _ names (λ q m. split (member q (reach s)) (λ y. rw y) (λ y. rw y (omega arith)))

    -- a round changes nothing exactly when the round before is settled
    table-settled : eqb (changes_of (map (held s n) names) (map (held s (suc n)) names)) 0 ≡ settled s n
    table-settled = bool_iff _ _
        (λ e. equal-settled s n (λ p i. member-find p names (reach-names (reach-sound s p i)) (λ q m x.
        let j : InReach s q = sym (member-same p q (reach s) x) ∙ i in
        round-alike s n p q x ∙ sym (held_in s n q j) ∙ none-changed _ _ names (eqb-true _ _ e) q m ∙ held_in s (suc n) q j ∙ sym (round-alike s (suc n) p q x))))
        (λ e. eq-eqb _ 0 (changes-none _ _ names (λ q m. same-held e q)))
      where
        same-held : settled s n ≡ true → (q : Principal) → held s n q ≡ held s (suc n) q
        same-held e q = split (member q (reach s))
            (λ i. held_in s n q i ∙ settled-equal s n e q i ∙ sym (held_in s (suc n) q i))
            (λ i. held_out s n q i ∙ sym (held_out s (suc n) q i))

  -- the rounds over the tables stop where the definition's do
  settle-table : (k m : ℕ) → settle_from authors conds ends code direct top most_licensees flags (length direct) k m (map (held s m) names)
      ≡ settled_at (first_settled s k m) (map (held s (first_settled s k m)) names)
  unfolding settle_from first_settled
  settle-table zero m = refl
  settle-table (suc k) m = split (settled s m)
      (λ e. let t : eqb (changes_of (map (held s m) names) (map (held s (suc m)) names)) 0 ≡ true = table-settled m ∙ e in
      rw (e, first_settled, round-table m, t) (ap (settled_at m) (map_same _ _ names (λ q i. sym (none-changed _ _ names (eqb-true _ _ t) q i)))))
      (λ e. let t : eqb (changes_of (map (held s m) names) (map (held s (suc m)) names)) 0 ≡ false = table-settled m ∙ e in
      rw (e, first_settled, round-table m, t) (settle-table k (suc m)))

  policy-rank : (n : ℕ) → get_or (map (held s n) names) 0 0 ≡ round s n policy
  policy-rank n =
      ap (λ (i : ℕ). get_or (map (held s n) names) i 0) (sym rep.first)
      ∙ place_map (held s n) (held-even s n) names policy rep.rooted
      ∙ held_in s n policy (reach-root s)

  -- the answer over the tables is the least solution's rank of POLICY, the rounds and the number reached
  pub represented : solution_of authors conds ends code direct top ≡ record { rank = rank s policy; rounds = rounds s; reached = reached s }
  unfolding solution_of solved_by rounds round flags
  represented =
      let f : reach_of authors ends code (length direct) ≡ flags = flags-reach names authors conds ends code direct top s rep in
      let k : at_least 1 flags ≡ reached s = reached-count in
      let z : blank (length direct) ≡ map (held s 0) names = place_none names (held s 0) (length direct) direct-long (λ q m. nothing q) in
      let n = first_settled s (reached s) 0 in
      let p : get_or (map (held s n) names) 0 0 ≡ rank s policy = policy-rank n ∙ rounds-rank s policy (reach-root s) in
      let a : length direct ≤ most_principals = omega (arith, direct-long, rep.few_names) in
      rw (le-ltb most_principals (length direct) a, le-ltb most_assertions (length authors) rep.few_rows, f, k, z, settle-table (reached s) 0, p)
    where
      nothing : (q : Principal) → held s 0 q ≡ 0
      nothing q = split (member q (reach s)) (λ i. held_in s 0 q i ∙ refl) (λ i. held_out s 0 q i)

-- of two systems alike but for conditions outside the reach, the answers over their tables are equal
pub represented-same : (names names' : List Principal) (authors conds ends code direct authors' conds' ends' code' direct' : List ℕ) (top top' : ℕ) (s t : System)
    → Represents names authors conds ends code direct top s → Represents names' authors' conds' ends' code' direct' top' t → AlikeIn (InReach s) s t
    → solution_of authors conds ends code direct top ≡ solution_of authors' conds' ends' code' direct' top'
represented-same names names' authors conds ends code direct authors' conds' ends' code' direct' top top' s t r r' k =
    cc (represented names authors conds ends code direct top s r, represented names' authors' conds' ends' code' direct' top' t r', policy-same k, rounds-same k, reached-same k)
