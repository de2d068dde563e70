-- Working laws: the turns of the register's loops. Assumes nothing.
use Rattle.std.specs.Prelude.{◌≡◌, Bool, true, false, List, ℕ, zero, suc, ◌+◌, ◌-◌, ◌<◌, ◌≤◌, Option, Some, None, Ok, Err, eqb, ltb, leb, get_or, set}
use Rattle.std.proofs.Math.Path.{refl, sym}
use Rattle.std.proofs.Common.{ap, ◌∙◌, lit<, Fits, lt_of_le_of_lt}
use native.Mathlib.Omega.{arith}
use Rattle.std.specs.Int.{w64}
use borrow.Author.Tests.{leb-true, eqb-true, eqb-false, lt-ltb, le-ltb, le-leb, lt-leb, eq-eqb, ne_eqb}
use Rattle.text.specs.Choice.{split, clash}
use Rattle.register.specs.Working.Places.{nobody, find_in, find_from, found, free_from, free_place, worth, sum_in, sum_from, sum, distinct_from, at, sound, amount, moves_at, with_moves, with_new, with_issued, Made, granted, refused, Known, place_in, known_place, credit_of, issue_of, spend_of, pass_at, pass_of, remove_of}
use Rattle.register.specs.declared.Place.{Place}
use Rattle.register.specs.declared.Register.{Register}
use Rattle.register.specs.declared.Reason.{Reason}
use Rattle.register.specs.declared.Reason.TheVariants.{DamagedRegister, AmountOutside, UnknownPrincipal, MoreThanHeld, IssueLimit, NoPlace, MovesLeft}
use Rattle.register.specs.declared.Found.{Found}
use Rattle.register.specs.declared.Found.TheVariants.{At, Missing}

one_more : (i : ℕ) → i < 64 → 64 - i ≡ suc (64 - (i + 1))
one_more i h = omega arith

no_more : (i : ℕ) → 64 ≤ i → 64 - i ≡ zero
no_more i h = omega arith

module _ (l : List Place) (x i w : ℕ) (r : Found) (inv : find_from l x i w ≡ r) where
  pub find-end : 64 ≤ i → Missing w ≡ r
  unfolding find_from
  find-end h = (rw (no_more i h) refl) ∙ inv

  module _ (h : i < 64) where
    pub find-free : (get_or l i nobody).held ≡ false → find_from l x (i + 1) w ≡ r
    unfolding find_from
    find-free f = (rw (one_more i h, f) refl) ∙ inv

    module _ (f : (get_or l i nobody).held ≡ true) where
      pub find-here : (get_or l i nobody).principal ≡ x → At i (w + 1) ≡ r
      unfolding find_from
      find-here e = (rw (one_more i h, f, eq-eqb _ _ e) refl) ∙ inv

      pub find-other : ((get_or l i nobody).principal ≡ x → ⊥) → find_from l x (i + 1) (w + 1) ≡ r
      unfolding find_from
      find-other n = (rw (one_more i h, f, ne_eqb _ _ n) refl) ∙ inv

pub find-whole : (l : List Place) (x : ℕ) (r : Found) → r ≡ find_from l x 0 0 → r ≡ found l x
unfolding found
find-whole l x r e = e

module _ (l : List Place) (i : ℕ) (inv : free_from l i ≡ free_from l 0) where
  free-stop : 64 ≤ i → free_from l i ≡ i
  unfolding free_from
  free-stop h = rw (no_more i h) refl

  free-at : i < 64 → (get_or l i nobody).held ≡ false → free_from l i ≡ i
  unfolding free_from
  free-at h f = rw (one_more i h, f) refl

  pub free-end : 64 ≤ i → None ≡ free_place l
  unfolding free_place
  free-end h = simp (sym inv, free-stop h, le-ltb i 64 h)

  pub free-here : i < 64 → (get_or l i nobody).held ≡ false → Some i ≡ free_place l
  unfolding free_place
  free-here h f = simp (sym inv, free-at h f, lt-ltb i 64 h)

  pub free_more : i < 64 → (get_or l i nobody).held ≡ true → free_from l (i + 1) ≡ free_from l 0
  unfolding free_from
  free_more h f = (rw (one_more i h, f) refl) ∙ inv

pub sum-start : (l : List Place) → 0 + sum_from l 0 ≡ sum l
unfolding sum
sum-start l = omega arith

module _ (l : List Place) (i total issued : ℕ) (inv : total + sum_from l i ≡ sum l) where
  pub sum-end : 64 ≤ i → total ≤ issued → true ≡ leb (sum l) issued
  unfolding sum_from
  sum-end h t =
      let e : sum_in (64 - i) l i ≡ 0 = rw (no_more i h) refl in
      let s : sum l ≤ issued = omega arith in rw (le-leb (sum l) issued s) refl

  module _ (h : i < 64) where
    pub sum-free : (get_or l i nobody).held ≡ false → total + sum_from l (i + 1) ≡ sum l
    unfolding sum_from
    sum-free f = let e : sum_in (64 - i) l i ≡ 0 + sum_in (64 - (i + 1)) l (i + 1) = rw (one_more i h, f) refl in omega arith

    module _ (f : (get_or l i nobody).held ≡ true) where
      entry-sum : sum_from l i ≡ (get_or l i nobody).moves + sum_from l (i + 1)
      unfolding sum_from
      entry-sum = rw (one_more i h, f) refl

      pub sum_over : total ≤ issued → issued - total < (get_or l i nobody).moves → false ≡ leb (sum l) issued
      sum_over t o = let s : issued < sum l = omega (arith, entry-sum) in rw (lt-leb (sum l) issued s) refl

      pub sum_more : total + (get_or l i nobody).moves + sum_from l (i + 1) ≡ sum l
      sum_more = omega (arith, entry-sum)

module _ (l : List Place) (i : ℕ) (r : Bool) (inv : distinct_from l i ≡ r) where
  pub distinct-end : 64 ≤ i → true ≡ r
  unfolding distinct_from
  distinct-end h = (rw (no_more i h) refl) ∙ inv

  module _ (h : i < 64) where
    pub distinct-free : (get_or l i nobody).held ≡ false → distinct_from l (i + 1) ≡ r
    unfolding distinct_from
    distinct-free f = (rw (one_more i h, f) refl) ∙ inv

    module _ (f : (get_or l i nobody).held ≡ true) (q : Found) (qe : q ≡ find_from l (get_or l i nobody).principal (i + 1) 0) where
      pub distinct-twice : (j v : ℕ) → q ≡ At j v → false ≡ r
      unfolding distinct_from
      distinct-twice j v e = (rw (one_more i h, f, sym qe, e) refl) ∙ inv

      pub distinct_more : (v : ℕ) → q ≡ Missing v → distinct_from l (i + 1) ≡ r
      unfolding distinct_from
      distinct_more v e = (rw (one_more i h, f, sym qe, e) refl) ∙ inv

-- what a found place is
pub record Holds (l : List Place) (x j : ℕ) : Type 0 where
  pub within : j < 64
  pub held : (at l j).held ≡ true
  pub named : (at l j).principal ≡ x

missing_at : {P : Type 0} {w j v : ℕ} → Missing w ≡ At j v → P
missing_at h = let z : ◌≡◌ {A = ℕ} 0 1 = cc in let no : ⊥ = omega arith in absurd no

at_place : {i w j v : ℕ} → At i w ≡ At j v → i ≡ j
at_place h = cc

holds-in : (n : ℕ) (l : List Place) (x i w j v : ℕ) → i + n ≤ 64 → find_in n l x i w ≡ At j v → Holds l x j
holds-in zero l x i w j v b h = missing_at h
holds-in (suc n) l x i w j v b h =
    split (at l i).held
    (λ t. split (eqb (at l i).principal x)
    (λ u. let s : i ≡ j = at_place (rw (t, u) at h) in
    let k : j < 64 = omega arith in
    record { within = k; held = rw (sym s) t; named = rw (sym s) (eqb-true (at l i).principal x u) })
    (λ u. holds-in n l x (i + 1) (w + 1) j v (omega arith) (rw (t, u) at h)))
    (λ t. holds-in n l x (i + 1) w j v (omega arith) (rw t at h))

pub holds : (l : List Place) (x j v : ℕ) → found l x ≡ At j v → Holds l x j
unfolding found find_from
holds l x j v h = holds-in 64 l x 0 0 j v (omega arith) h

worth-in : (n : ℕ) (l : List Place) (i j : ℕ) → i ≤ j → j < i + n → worth (at l j) ≤ sum_in n l i
worth-in zero l i j a b = let no : ⊥ = omega arith in absurd no
worth-in (suc n) l i j a b =
    split (eqb i j)
    (λ t. let s : i ≡ j = eqb-true i j t in let e : worth (at l j) ≡ worth (at l i) = ap (λ (k : ℕ). worth (at l k)) (sym s) in omega arith)
    (λ t. let ne : i ≡ j → ⊥ = eqb-false i j t in omega (arith, worth-in n l (i + 1) j (omega arith) (omega arith)))

pub worth-le : (l : List Place) (j : ℕ) → j < 64 → worth (at l j) ≤ sum l
unfolding sum sum_from
worth-le l j h = worth-in 64 l 0 j (omega arith) (omega arith)

-- what a sound register is
pub record Sound (r : Register) : Type 0 where
  pub few : r.issued ≤ 1000000
  pub covers : sum r.places ≤ r.issued
  pub distinct : distinct_from r.places 0 ≡ true

pub sound-facts : (r : Register) → sound r ≡ true → Sound r
unfolding sound
sound-facts r h =
    split (leb r.issued 1000000)
    (λ t. split (leb (sum r.places) r.issued)
    (λ u. record { few = leb-true _ _ t; covers = leb-true _ _ u; distinct = rw (t, u) at h })
    (λ u. clash h (rw (t, u) refl)))
    (λ t. clash h (rw t refl))

module _ (r : Register) where
  pub moves-in : (i : ℕ) → i < 64 → (at r.places i).moves ≡ moves_at r i
  unfolding moves_at
  moves-in i h = simp (lt-ltb _ _ h)

  pub moves_out : (i : ℕ) → 64 ≤ i → 0 ≡ moves_at r i
  unfolding moves_at
  moves_out i h = simp (le-ltb _ _ h)

ok-same : {i j : ℕ} → ◌≡◌ {A = Known} (Ok i) (Ok j) → i ≡ j
ok-same h = cc

err-ok : {P : Type 0} {k : Reason} {j : ℕ} → ◌≡◌ {A = Known} (Err k) (Ok j) → P
err-ok h = let z : ◌≡◌ {A = ℕ} 0 1 = cc in let no : ⊥ = omega arith in absurd no

small : (k : ℕ) → k ≤ 2000000 → Fits w64 k
small k h = record { fits = lt_of_le_of_lt h (lit< tt) }

pub amount-few : (n : ℕ) (t : Bool) → t ≡ amount n → t ≡ true → n ≤ 1000000
unfolding amount
amount-few n t te th =
    split (leb n 1000000) (λ e. leb-true _ _ e)
    (λ e. split (ltb n 1) (λ u. clash th (te ∙ (rw u refl))) (λ u. clash th (te ∙ (rw (u, e) refl))))

pub is-true : (t s : Bool) → t ≡ s → t ≡ true → s ≡ true
is-true t s e h = sym e ∙ h

-- sums that fit
module _ (r : Register) (t : Bool) (te : t ≡ sound r) (th : t ≡ true) where
  pub issued-few : r.issued ≤ 1000000
  issued-few = (sound-facts r (sym te ∙ th)).few

  pub moves-few : (x : ℕ) (f : Found) → f ≡ found r.places x → (i w : ℕ) → f ≡ At i w → (m : ℕ) → m ≡ moves_at r i → m ≤ 1000000
  unfolding moves_at
  moves-few x f fe i w fa m me =
      let s = sound-facts r (sym te ∙ th) in
      let k = holds r.places x i w (sym fe ∙ fa) in
      let e : worth (at r.places i) ≡ (at r.places i).moves = rw k.held refl in
      let g : m ≡ (at r.places i).moves = me ∙ (rw (lt-ltb i 64 k.within) refl) in
      omega (arith, worth-le r.places i k.within, s.few, s.covers)

  pub place-few : (x : ℕ) (f : Known) → f ≡ known_place r x → (i : ℕ) → f ≡ Ok i → moves_at r i ≤ 1000000
  unfolding known_place
  place-few x f fe i fa =
      known-at (found r.places x) i (sym fe ∙ fa) (λ w e. moves-few x (found r.places x) refl i w e (moves_at r i) refl)
    where
      known-at : {P : Type 0} (g : Found) (i : ℕ) → place_in g ≡ Ok i → ((w : ℕ) → g ≡ At i w → P) → P
      known-at (At j w) i h k = k w (ap (λ (z : ℕ). At z w) (ok-same h))
      known-at (Missing w) i h k = err-ok h

  pub issued-fits : (n : ℕ) (u : Bool) → u ≡ amount n → u ≡ true → Fits w64 (r.issued + n)
  issued-fits n u ue uh = small (r.issued + n) (omega (arith, issued-few, amount-few n u ue uh))

pub credit-fits : (r : Register) → sound r ≡ true → (n : ℕ) → n ≤ 1000000 → (x : ℕ) (f : Found) → f ≡ found r.places x → (i w : ℕ) → f ≡ At i w
    → (m : ℕ) → m ≡ moves_at r i → Fits w64 (m + n)
credit-fits r h n k x f fe i w fa m me = small (m + n) (omega (arith, moves-few r (sound r) refl h x f fe i w fa m me))

pub pass_fits : (r : Register) (j n k : ℕ) → moves_at r j ≤ 1000000 → n ≤ 1000000 → k ≡ moves_at r j → Fits w64 (k + n)
pass_fits r j n k a b e = small (k + n) (omega arith)

-- a principal that has to be held
pub known-is : (r : Register) (x : ℕ) (f : Found) → f ≡ found r.places x → (i w : ℕ) → f ≡ At i w → ◌≡◌ {A = Known} (Ok i) (known_place r x)
unfolding known_place
known-is r x f fe i w h = simp (sym fe, h)

pub known-not : (r : Register) (x : ℕ) (f : Found) → f ≡ found r.places x → (w : ℕ) → f ≡ Missing w
    → ◌≡◌ {A = Known} (Err UnknownPrincipal) (known_place r x)
unfolding known_place
known-not r x f fe w h = simp (sym fe, h)

-- more moves at a principal
module _ (r : Register) (x n : ℕ) (f : Found) (fe : f ≡ found r.places x) where
  pub credit-held : (i w : ℕ) → f ≡ At i w → (m : ℕ) → m ≡ moves_at r i → (q : Register) → q ≡ with_moves r i (m + n) → granted q ≡ credit_of r x n
  unfolding credit_of
  credit-held i w fa m me q qe = simp (sym fe, fa, sym me, sym qe)

  module _ (w : ℕ) (fm : f ≡ Missing w) (p : Option ℕ) (pe : p ≡ free_place r.places) where
    pub credit-new : (i : ℕ) → p ≡ Some i → (q : Register) → q ≡ with_new r i (record { held = true; principal = x; moves = n })
        → granted q ≡ credit_of r x n
    unfolding credit_of
    credit-new i h q qe = simp (sym fe, fm, sym pe, h, sym qe)

    pub credit-full : p ≡ None → refused NoPlace ≡ credit_of r x n
    unfolding credit_of
    credit-full h = simp (sym fe, fm, sym pe, h)

-- the ways out of the four operations
module _ (r : Register) (t : Bool) (te : t ≡ sound r) where
  pub issue-unsound : (x n : ℕ) → t ≡ false → refused DamagedRegister ≡ issue_of r x n
  unfolding issue_of
  issue-unsound x n h = simp (sym te, h)

  pub spend-unsound : (x n : ℕ) → t ≡ false → refused DamagedRegister ≡ spend_of r x n
  unfolding spend_of
  spend-unsound x n h = simp (sym te, h)

  pub pass-unsound : (x y n : ℕ) → t ≡ false → refused DamagedRegister ≡ pass_of r x y n
  unfolding pass_of
  pass-unsound x y n h = simp (sym te, h)

  pub remove-unsound : (x : ℕ) → t ≡ false → refused DamagedRegister ≡ remove_of r x
  unfolding remove_of
  remove-unsound x h = simp (sym te, h)

  module _ (th : t ≡ true) (x : ℕ) (f : Known) (fe : f ≡ known_place r x) where
    pub remove-unknown : (k : Reason) → f ≡ Err k → refused k ≡ remove_of r x
    unfolding remove_of
    remove-unknown k h = simp (sym te, th, sym fe, h)

    module _ (i : ℕ) (fa : f ≡ Ok i) (m : ℕ) (me : m ≡ moves_at r i) where
      pub remove-holds : 0 < m → refused MovesLeft ≡ remove_of r x
      unfolding remove_of
      remove-holds h = simp (sym te, th, sym fe, fa, sym me, lt-ltb _ _ h)

      pub remove-done : m ≤ 0 → (q : Register) → q ≡ with_new r i nobody → granted q ≡ remove_of r x
      unfolding remove_of
      remove-done h q qe = simp (sym te, th, sym fe, fa, sym me, le-ltb _ _ h, qe)

  module _ (th : t ≡ true) (n : ℕ) (u : Bool) (ue : u ≡ amount n) where
    pub issue-amount : (x : ℕ) → u ≡ false → refused AmountOutside ≡ issue_of r x n
    unfolding issue_of
    issue-amount x h = simp (sym te, th, sym ue, h)

    pub spend-amount : (x : ℕ) → u ≡ false → refused AmountOutside ≡ spend_of r x n
    unfolding spend_of
    spend-amount x h = simp (sym te, th, sym ue, h)

    pub pass-amount : (x y : ℕ) → u ≡ false → refused AmountOutside ≡ pass_of r x y n
    unfolding pass_of
    pass-amount x y h = simp (sym te, th, sym ue, h)

    module _ (uh : u ≡ true) where
      pub issue-over : (x : ℕ) → 1000000 < r.issued + n → refused IssueLimit ≡ issue_of r x n
      unfolding issue_of
      issue-over x h = simp (sym te, th, sym ue, uh, lt-ltb _ _ h)

      module _ (x : ℕ) (f : Made) (fe : f ≡ credit_of r x n) (o : r.issued + n ≤ 1000000) where
        pub issue-more : (q : Register) → f ≡ Ok q → (s : Register) → s ≡ with_issued q (r.issued + n) → granted s ≡ issue_of r x n
        unfolding issue_of
        issue-more q h s se = simp (sym te, th, sym ue, uh, le-ltb _ _ o, sym fe, h, sym se)

        pub issue-full : (k : Reason) → f ≡ Err k → refused k ≡ issue_of r x n
        unfolding issue_of
        issue-full k h = simp (sym te, th, sym ue, uh, le-ltb _ _ o, sym fe, h)

      module _ (x : ℕ) (f : Known) (fe : f ≡ known_place r x) where
        pub spend-unknown : (k : Reason) → f ≡ Err k → refused k ≡ spend_of r x n
        unfolding spend_of
        spend-unknown k h = simp (sym te, th, sym ue, uh, sym fe, h)

        pub pass-unknown : (y : ℕ) (k : Reason) → f ≡ Err k → refused k ≡ pass_of r x y n
        unfolding pass_of
        pass-unknown y k h = simp (sym te, th, sym ue, uh, sym fe, h)

        module _ (i : ℕ) (fa : f ≡ Ok i) where
          module _ (m : ℕ) (me : m ≡ moves_at r i) where
            pub spend-over : m < n → refused MoreThanHeld ≡ spend_of r x n
            unfolding spend_of
            spend-over h = simp (sym te, th, sym ue, uh, sym fe, fa, sym me, lt-ltb _ _ h)

            pub spend-done : n ≤ m → (q : Register) → q ≡ with_moves r i (m - n) → granted q ≡ spend_of r x n
            unfolding spend_of
            spend-done h q qe = simp (sym te, th, sym ue, uh, sym fe, fa, sym me, le-ltb _ _ h, sym qe)

          module _ (y : ℕ) (g : Known) (ge : g ≡ known_place r y) where
            pub pass-unknown-2 : (k : Reason) → g ≡ Err k → refused k ≡ pass_of r x y n
            unfolding pass_of
            pass-unknown-2 k h = simp (sym te, th, sym ue, uh, sym fe, fa, sym ge, h)

            pub pass-found : (j : ℕ) → g ≡ Ok j → (a : Made) → a ≡ pass_at r i j n → a ≡ pass_of r x y n
            unfolding pass_of
            pass-found j ga a ae = simp (sym te, th, sym ue, uh, sym fe, fa, sym ge, ga) ae

module _ (r : Register) (i j n m : ℕ) (me : m ≡ moves_at r i) where
  pub pass-over : m < n → refused MoreThanHeld ≡ pass_at r i j n
  unfolding pass_at
  pass-over h = simp (sym me, lt-ltb _ _ h)

  module _ (h : n ≤ m) where
    pub pass-self : i ≡ j → granted r ≡ pass_at r i j n
    unfolding pass_at
    pass-self e = simp (sym me, le-ltb _ _ h, eq-eqb _ _ e)

    pub pass-done : (i ≡ j → ⊥) → (k : ℕ) → k ≡ moves_at r j → (q : Register) → q ≡ with_moves r i (m - n)
        → (s : Register) → s ≡ with_moves q j (k + n) → granted s ≡ pass_at r i j n
    unfolding pass_at
    pass-done e k ke q qe s se = simp (sym me, le-ltb _ _ h, ne_eqb _ _ e, sym ke, sym qe, sym se)

module _ (r : Register) (i : ℕ) where
  pub moves_set : (m : ℕ) → i < 64
      → ◌≡◌ {A = Register} (record { places = set r.places i (record { held = (at r.places i).held; principal = (at r.places i).principal; moves = m }); issued = r.issued }) (with_moves r i m)
  unfolding with_moves
  moves_set m h = simp (lt-ltb _ _ h)

  pub moves-kept : (m : ℕ) → 64 ≤ i → r ≡ with_moves r i m
  unfolding with_moves
  moves-kept m h = simp (le-ltb _ _ h)

  pub new-set : (p : Place) → i < 64 → ◌≡◌ {A = Register} (record { places = set r.places i p; issued = r.issued }) (with_new r i p)
  unfolding with_new
  new-set p h = simp (lt-ltb _ _ h)

  pub new-kept : (p : Place) → 64 ≤ i → r ≡ with_new r i p
  unfolding with_new
  new-kept p h = simp (le-ltb _ _ h)
