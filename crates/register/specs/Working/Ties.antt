-- The places by number say what the entries say. Assumes nothing.
use Rattle.std.specs.Prelude.{◌≡◌, Bool, true, false, ◌||◌, ℕ, zero, suc, ◌+◌, ◌-◌, ◌<◌, ◌≤◌, eqb, ltb, leb, get_or, set}
use Rattle.std.proofs.Math.Path.{refl, sym, ap, subst}
use Rattle.std.proofs.Common.{◌∙◌, get_or-set_same, get_or-set_other}
use Rattle.std.proofs.Math.Bool.{not}
use mathlib.Core.List.{List, [], ◌∷◌, map}
use native.Mathlib.Omega.{arith}
use Rattle.std.proofs.Math.ListN.{length, length-set}
use borrow.Author.Tests.{ltb-true, ltb-false, leb-true, leb-false, lt-ltb, le-ltb, le-leb, lt-leb}
use Rattle.text.specs.Choice.{pick, split}
use Rattle.register.specs.Entries.{Entry, held, known, total, principals, twice, added, replaced}
use Rattle.register.specs.Calls.{damaged, outside}
use Rattle.register.specs.Find.{walk, find}
use Rattle.register.specs.Told.{entry_of, contents}
use Rattle.register.specs.Working.Places.{nobody, at, find_in, find_from, found, free_in, free_from, sum_in, sum_from, sum, is_missing, distinct_in, distinct_from, sound, amount}
use Rattle.register.specs.declared.Place.{Place}
use Rattle.register.specs.declared.Register.{Register}
use Rattle.register.specs.declared.Found.TheVariants.{At, Missing}

-- a place as its fields
abbrev pub fields : Place → Bool × (ℕ × (ℕ × Unit {0}))
fields p = (p.held, (p.principal, (p.moves, tt)))

-- how many places a register has, as owning the struct tells it
pub places-length : (l : List Place) → length (map fields l) ≡ 64 → length l ≡ 64
places-length l h = sym (length-map l) ∙ h
  where
    length-map : (l : List Place) → length (map fields l) ≡ length l
    length-map [] = refl
    length-map (x ∷ l) = ap suc (length-map l)

-- the entries at n places from a number on
abbrev pub entries_in : ℕ → List Place → ℕ → List Entry
entries_in zero l i = []
entries_in (suc n) l i = entry_of (at l i) ∷ entries_in n l (i + 1)

entries-cons : (p : Place) (l : List Place) (n i : ℕ) → entries_in n (p ∷ l) (suc i) ≡ entries_in n l i
entries-cons p l zero i = refl
entries-cons p l (suc n) i =
    let e : suc i + 1 ≡ suc (i + 1) = omega arith in
    rw e (ap (λ (es : List Entry). entry_of (at l i) ∷ es) (entries-cons p l n (i + 1)))

pub entries-map : (l : List Place) (n : ℕ) → length l ≡ n → entries_in n l 0 ≡ map entry_of l
entries-map [] zero h = refl
entries-map [] (suc n) h = let no : ⊥ = omega arith in absurd no
entries-map (p ∷ l) zero h = let no : ⊥ = omega arith in absurd no
entries-map (p ∷ l) (suc n) h =
    ap (λ (es : List Entry). entry_of p ∷ es) (entries-cons p l n 0 ∙ entries-map l n (let e : length l ≡ n = omega arith in e))

-- finding
pub walk-in : (n : ℕ) (l : List Place) (x i w : ℕ) → find_in n l x i w ≡ walk i w (entries_in n l i) x
unfolding walk
walk-in zero l x i w = refl
walk-in (suc n) l x i w =
    split (at l i).held
    (λ t. split (eqb (at l i).principal x) (λ u. rw (t, u) refl) (λ u. rw (t, u) (walk-in n l x (i + 1) (w + 1))))
    (λ t. rw t (walk-in n l x (i + 1) w))

missing-in : (n : ℕ) (l : List Place) (x i w : ℕ) → is_missing (find_in n l x i w) ≡ not (known x (entries_in n l i))
unfolding known
missing-in zero l x i w = refl
missing-in (suc n) l x i w =
    split (at l i).held
    (λ t. split (eqb (at l i).principal x) (λ u. rw (t, u) refl) (λ u. rw (t, u) (missing-in n l x (i + 1) (w + 1))))
    (λ t. rw t (missing-in n l x (i + 1) w))

-- sums and repetitions
sum-in : (n : ℕ) (l : List Place) (i : ℕ) → sum_in n l i ≡ total (entries_in n l i)
unfolding total
sum-in zero l i = refl
sum-in (suc n) l i =
    split (at l i).held (λ t. rw t (ap (λ (k : ℕ). (at l i).moves + k) (sum-in n l (i + 1))))
    (λ t. rw t (let e : 0 + sum_in n l (i + 1) ≡ total (entries_in n l (i + 1)) = omega (arith, sum-in n l (i + 1)) in e))

distinct-in : (n : ℕ) (l : List Place) (i : ℕ) → i + n ≡ 64 → distinct_in n l i ≡ not (twice (entries_in n l i))
unfolding twice find_from
distinct-in zero l i h = refl
distinct-in (suc n) l i h =
    let e : 64 - (i + 1) ≡ n = omega arith in
    let r : distinct_in n l (i + 1) ≡ not (twice (entries_in n l (i + 1))) = distinct-in n l (i + 1) (omega arith) in
    let m : is_missing (find_in n l (at l i).principal (i + 1) 0) ≡ not (known (at l i).principal (entries_in n l (i + 1)))
    = missing-in n l (at l i).principal (i + 1) 0 in
    split (at l i).held
    (λ t. split (known (at l i).principal (entries_in n l (i + 1)))
    (λ u. rw (t, e, m, u) refl)
    (λ u. rw (t, e, m, u) r))
    (λ t. rw t r)

-- the first free place, and how many are held
free_in_lem : (n : ℕ) (l : List Place) (i : ℕ) → free_in n l i < i + n → principals (entries_in n l i) < n
unfolding principals
free_in_lem zero l i h = let no : ⊥ = omega arith in absurd no
free_in_lem (suc n) l i h =
    split (at l i).held
    (λ t. let g : free_in n l (i + 1) < i + suc n = rw t at h in rw t (omega (arith, free_in_lem n l (i + 1) (omega arith))))
    (λ t. rw t (omega (arith, most-in n l (i + 1))))
  where
    most-in : (n : ℕ) (l : List Place) (i : ℕ) → principals (entries_in n l i) ≤ n
    most-in zero l i = omega arith
    most-in (suc n) l i =
        split (at l i).held (λ t. rw t (omega (arith, most-in n l (i + 1)))) (λ t. rw t (omega (arith, most-in n l (i + 1))))

full-in : (n : ℕ) (l : List Place) (i : ℕ) → i + n ≤ free_in n l i → principals (entries_in n l i) ≡ n
unfolding principals
full-in zero l i h = refl
full-in (suc n) l i h =
    split (at l i).held
    (λ t. let g : i + suc n ≤ free_in n l (i + 1) = rw t at h in rw t (omega (arith, full-in n l (i + 1) (omega arith))))
    (λ t. let g : i + suc n ≤ i = rw t at h in let no : ⊥ = omega arith in absurd no)

-- stores: at a place before, at the place found, at the first free place
stored-before : (n : ℕ) (l : List Place) (i j : ℕ) (p : Place) → j < i → entries_in n (set l j p) i ≡ entries_in n l i
stored-before zero l i j p h = refl
stored-before (suc n) l i j p h =
    let d : i ≡ j → ⊥ = λ e. apart i j h e in
    let e : get_or (set l j p) i nobody ≡ get_or l i nobody = get_or-set_other l j i p nobody d in
    rw (e, stored-before n l (i + 1) j p (omega arith)) refl
  where
    apart : (i j : ℕ) → j < i → i ≡ j → ⊥
    apart i j h e = omega arith

pub stored_here : (n : ℕ) (l : List Place) (i : ℕ) (p : Place) → i < length l → entries_in (suc n) (set l i p) i ≡ entry_of p ∷ entries_in n l (i + 1)
stored_here n l i p h =
    let e : get_or (set l i p) i nobody ≡ p = get_or-set_same l i p nobody h in
    rw (e, stored-before n l (i + 1) i p (omega arith)) refl

stored-later : (n : ℕ) (l : List Place) (i j : ℕ) (p : Place) → i < j → entries_in (suc n) (set l j p) i ≡ entry_of (at l i) ∷ entries_in n (set l j p) (i + 1)
stored-later n l i j p h =
    let d : i ≡ j → ⊥ = λ e. apart i j h e in
    let e : get_or (set l j p) i nobody ≡ get_or l i nobody = get_or-set_other l j i p nobody d in rw e refl
  where
    apart : (i j : ℕ) → i < j → i ≡ j → ⊥
    apart i j h e = omega arith

missing_at : {P : Type 0} {w j v : ℕ} → Missing w ≡ At j v → P
missing_at h = let z : ◌≡◌ {A = ℕ} 0 1 = cc in let no : ⊥ = omega arith in absurd no

at_place : {i w j v : ℕ} → At i w ≡ At j v → i ≡ j
at_place h = cc

found_from : (n : ℕ) (l : List Place) (x i w j v : ℕ) → find_in n l x i w ≡ At j v → i ≤ j
found_from zero l x i w j v h = missing_at h
found_from (suc n) l x i w j v h =
    split (at l i).held
    (λ t. split (eqb (at l i).principal x)
    (λ u. let s : i ≡ j = at_place (rw (t, u) at h) in omega arith)
    (λ u. omega (arith, found_from n l x (i + 1) (w + 1) j v (rw (t, u) at h))))
    (λ t. omega (arith, found_from n l x (i + 1) w j v (rw t at h)))

replaced-in : (n : ℕ) (l : List Place) (x i w j v : ℕ) (p : Place) → i + n ≤ length l → find_in n l x i w ≡ At j v
    → entries_in n (set l j p) i ≡ replaced x (entry_of p) (entries_in n l i)
unfolding replaced
replaced-in zero l x i w j v p b h = missing_at h
replaced-in (suc n) l x i w j v p b h =
    split (at l i).held
    (λ t. split (eqb (at l i).principal x)
    (λ u. let s : i ≡ j = at_place (rw (t, u) at h) in
    let e : entries_in (suc n) (set l i p) i ≡ entry_of p ∷ entries_in n l (i + 1) = stored_here n l i p (omega arith) in
    let g : entries_in (suc n) (set l j p) i ≡ entry_of p ∷ entries_in n l (i + 1)
    = subst (λ (k : ℕ). entries_in (suc n) (set l k p) i ≡ entry_of p ∷ entries_in n l (i + 1)) s e in
    let r : replaced x (entry_of p) (entries_in (suc n) l i) ≡ entry_of p ∷ entries_in n l (i + 1) = rw (t, u) refl in g ∙ sym r)
    (λ u. let f : find_in n l x (i + 1) (w + 1) ≡ At j v = rw (t, u) at h in
    let k : i < j = omega (arith, found_from n l x (i + 1) (w + 1) j v f) in
    let r : replaced x (entry_of p) (entries_in (suc n) l i) ≡ entry_of (at l i) ∷ replaced x (entry_of p) (entries_in n l (i + 1)) = rw (t, u) refl in
    stored-later n l i j p k ∙ ap (λ (es : List Entry). entry_of (at l i) ∷ es) (replaced-in n l x (i + 1) (w + 1) j v p (omega arith) f) ∙ sym r))
    (λ t. let f : find_in n l x (i + 1) w ≡ At j v = rw t at h in
    let k : i < j = omega (arith, found_from n l x (i + 1) w j v f) in
    let r : replaced x (entry_of p) (entries_in (suc n) l i) ≡ entry_of (at l i) ∷ replaced x (entry_of p) (entries_in n l (i + 1)) = rw t refl in
    stored-later n l i j p k ∙ ap (λ (es : List Entry). entry_of (at l i) ∷ es) (replaced-in n l x (i + 1) w j v p (omega arith) f) ∙ sym r)

free-from : (n : ℕ) (l : List Place) (i : ℕ) → i ≤ free_in n l i
free-from zero l i = omega arith
free-from (suc n) l i = split (at l i).held (λ t. rw t (omega (arith, free-from n l (i + 1)))) (λ t. rw t (omega arith))

added-in : (n : ℕ) (l : List Place) (x m i j : ℕ) (p : Place) → i + n ≤ length l → entry_of p ≡ held x m → free_in n l i ≡ j → j < i + n
    → entries_in n (set l j p) i ≡ added x m (entries_in n l i)
unfolding added
added-in zero l x m i j p b e f h = let no : ⊥ = omega arith in absurd no
added-in (suc n) l x m i j p b e f h =
    split (at l i).held
    (λ t. let g : free_in n l (i + 1) ≡ j = rw t at f in
    let k : i < j = omega (arith, free-from n l (i + 1)) in
    let r : added x m (entries_in (suc n) l i) ≡ entry_of (at l i) ∷ added x m (entries_in n l (i + 1)) = rw t refl in
    stored-later n l i j p k ∙ ap (λ (es : List Entry). entry_of (at l i) ∷ es) (added-in n l x m (i + 1) j p (omega arith) e g (omega arith)) ∙ sym r)
    (λ t. let s : i ≡ j = rw t at f in
    let o : entries_in (suc n) (set l i p) i ≡ entry_of p ∷ entries_in n l (i + 1) = stored_here n l i p (omega arith) in
    let g : entries_in (suc n) (set l j p) i ≡ entry_of p ∷ entries_in n l (i + 1)
    = subst (λ (k : ℕ). entries_in (suc n) (set l k p) i ≡ entry_of p ∷ entries_in n l (i + 1)) s o in
    let r : added x m (entries_in (suc n) l i) ≡ held x m ∷ entries_in n l (i + 1) = rw t refl in
    g ∙ ap (λ (y : Entry). y ∷ entries_in n l (i + 1)) e ∙ sym r)

-- the same of all 64 places
module _ (l : List Place) (e : length l ≡ 64) where
  abbrev es : List Entry
  es = map entry_of l

  whole : entries_in 64 l 0 ≡ es
  whole = entries-map l 64 e

  pub found-is : (x : ℕ) → found l x ≡ find es x
  unfolding found find_from find
  found-is x = walk-in 64 l x 0 0 ∙ ap (λ (y : List Entry). walk 0 0 y x) whole

  pub missing-is : (x : ℕ) → is_missing (found l x) ≡ not (known x es)
  unfolding found find_from
  missing-is x = missing-in 64 l x 0 0 ∙ ap (λ (y : List Entry). not (known x y)) whole

  pub sum_is : sum l ≡ total es
  unfolding sum sum_from
  sum_is = sum-in 64 l 0 ∙ ap total whole

  pub distinct-is : distinct_from l 0 ≡ not (twice es)
  unfolding distinct_from
  distinct-is = distinct-in 64 l 0 refl ∙ ap (λ (y : List Entry). not (twice y)) whole

  pub room-is : ltb (free_from l 0) 64 ≡ not (leb 64 (principals es))
  unfolding free_from
  room-is =
      split (ltb (free_in 64 l 0) 64)
      (λ t. let h : principals es < 64 = subst (λ (y : List Entry). principals y < 64) whole (free_in_lem 64 l 0 (ltb-true _ _ t)) in
      rw (t, lt-leb 64 (principals es) h) refl)
      (λ t. let h : principals es ≡ 64 = sym (ap principals whole) ∙ full-in 64 l 0 (ltb-false _ _ t) in
      let g : 64 ≤ principals es = omega arith in rw (t, le-leb 64 (principals es) g) refl)

  pub replaced-is : (x j v : ℕ) (p : Place) → found l x ≡ At j v → map entry_of (set l j p) ≡ replaced x (entry_of p) es
  unfolding found find_from
  replaced-is x j v p h =
      let n : length (set l j p) ≡ 64 = length-set l j p ∙ e in
      sym (entries-map (set l j p) 64 n) ∙ replaced-in 64 l x 0 0 j v p (omega arith) h ∙ ap (λ (y : List Entry). replaced x (entry_of p) y) whole

  pub added_is : (x m : ℕ) (p : Place) → entry_of p ≡ held x m → free_from l 0 < 64 → map entry_of (set l (free_from l 0) p) ≡ added x m es
  unfolding free_from
  added_is x m p g h =
      let n : length (set l (free_in 64 l 0) p) ≡ 64 = length-set l (free_in 64 l 0) p ∙ e in
      sym (entries-map (set l (free_in 64 l 0) p) 64 n) ∙ added-in 64 l x m 0 (free_in 64 l 0) p (omega arith) g refl h ∙ ap (λ (y : List Entry). added x m y) whole

-- the same tests, turned round
le_not : (a b : ℕ) → leb a b ≡ not (ltb b a)
le_not a b =
    split (leb a b) (λ t. t ∙ ap not (sym (le-ltb b a (leb-true a b t))))
    (λ t. t ∙ ap not (sym (lt-ltb b a (leb-false a b t))))

none_of : (a b c : Bool) → pick (not c) (pick (not b) (not a) false) false ≡ not (a || b || c)
none_of true true true = refl
none_of true true false = refl
none_of true false true = refl
none_of true false false = refl
none_of false true true = refl
none_of false true false = refl
none_of false false true = refl
none_of false false false = refl

neither : (a b : Bool) → pick a false (not b) ≡ not (a || b)
neither true b = refl
neither false b = refl

pub sound-is : (r : Register) → length r.places ≡ 64 → sound r ≡ not (damaged (contents r))
unfolding sound damaged contents
sound-is r e =
    rw (le_not r.issued 1000000, le_not (sum r.places) r.issued, distinct-is r.places e, sum_is r.places e)
    (none_of (twice (map entry_of r.places)) (ltb r.issued (total (map entry_of r.places))) (ltb 1000000 r.issued))

pub amount-is : (n : ℕ) → amount n ≡ not (outside n)
unfolding amount outside
amount-is n = rw (le_not n 1000000) (neither (ltb n 1) (ltb 1000000 n))
