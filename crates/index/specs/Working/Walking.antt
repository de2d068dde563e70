-- Working definition: the search of the tree, the ways out of `walk_tree`, and what it finds. Assumes nothing.
use Rattle.std.specs.Prelude.{eqb, ◌≡◌, Bool, ◌&&◌, List, length, get_or, Result, Ok, Err}
use Rattle.std.proofs.Math.Path.{refl, sym, ap}
use Rattle.std.proofs.Common.{◌∙◌}
use Rattle.std.proofs.Math.Bool.{true, false}
use Prim.Native.Nat.{ℕ, zero, suc, ◌+◌, ◌-◌, ◌*◌, ◌/◌, ◌%◌, ◌<◌, ◌≤◌}
use native.Mathlib.Omega.{arith}
use Rattle.std.proofs.Math.Dec.{leb, ltb}
use borrow.Author.Tests.{eq-eqb, ne_eqb, le-leb, lt-leb, lt-ltb, le-ltb, ltb-true, ltb-false}
use Rattle.text.specs.Choice.{pick, split}
use Rattle.principal.specs.Principal.{Principal, same}
use Rattle.principal.specs.Tag.{tag}
use Rattle.index.specs.Entry.{is_at, identifier_at, child, linked}
use Rattle.index.specs.Tree.{Reaches, there, onward, Ends, stop, step, reaches-up}
use Rattle.index.specs.declared.Missing.{Missing}

-- the number of its entry, or where the search ends
abbrev pub Walk : Type 0
Walk = Result ℕ Missing

abbrev pub found : ℕ → Walk
found i = Ok i

abbrev pub missing : ℕ → ℕ → Walk
missing i t = Err (record { last = i; rest = t })

-- at most f entries from entry i on
unfoldable pub walked : List ℕ → List ℕ → ℕ → Principal → ℕ → ℕ → ℕ → Walk
walked pool places n p zero i t = missing i t
walked pool places n p (suc f) i t =
    pick (leb (length places) i) (missing i t)
    (pick (is_at pool p (get_or places i 0)) (found i)
    (pick (ltb i (child (get_or places i 0) t) && ltb (child (get_or places i 0) t) n) (walked pool places n p f (child (get_or places i 0) t) (t / 2)) (missing i t)))

-- `is_entry`
module _ (pool : List ℕ) (p : Principal) (e t : ℕ) (te : t ≡ tag p) where
  pub entry_other : (e % 1048576 ≡ t → ⊥) → eqb (e % 1048576) t ≡ is_at pool p e
  unfolding is_at
  entry_other other = rw (ne_eqb (e % 1048576) t other, ne_eqb (e % 1048576) (tag p) (λ z. other (z ∙ sym te)))

  pub entry-held : e % 1048576 ≡ t → (q : List ℕ) → q ≡ identifier_at pool e → (b : Bool) → b ≡ same p q → b ≡ is_at pool p e
  unfolding is_at
  entry-held y q qe b be = be ∙ rw (qe, eq-eqb (e % 1048576) (tag p) (y ∙ te))

-- `child_of`, `with_child`
pub child-even : (e t : ℕ) → t % 2 ≡ 0 → e / 1099511627776 % 4096 ≡ child e t
unfolding child
child-even e t h = rw (eq-eqb (t % 2) 0 h)

pub child-odd : (e t : ℕ) → (t % 2 ≡ 0 → ⊥) → e / 4503599627370496 ≡ child e t
unfolding child
child-odd e t h = rw (ne_eqb (t % 2) 0 h)

pub linked-even : (e t c : ℕ) → t % 2 ≡ 0 → e / 4503599627370496 * 4503599627370496 + c * 1099511627776 + e % 1099511627776 ≡ linked e t c
unfolding linked
linked-even e t c h = rw (eq-eqb (t % 2) 0 h)

pub linked-odd : (e t c : ℕ) → (t % 2 ≡ 0 → ⊥) → c * 4503599627370496 + e % 4503599627370496 ≡ linked e t c
unfolding linked
linked-odd e t c h = rw (ne_eqb (t % 2) 0 h)

-- `is_between`
pub between-up : (a b c : ℕ) → a < b → (r : Bool) → r ≡ ltb b c → r ≡ ltb a b && ltb b c
between-up a b c h r re = re ∙ rw (lt-ltb a b h)

pub between-not : (a b c : ℕ) → b ≤ a → ltb a b ≡ ltb a b && ltb b c
between-not a b c h = rw (le-ltb a b h)

-- `walk_tree`
module _ (pool places : List ℕ) (n : ℕ) (p : Principal) (k i t : ℕ) (r : Walk) (inv : walked pool places n p (n - k) i t ≡ r) where
  pub walk-spent : n ≤ k → missing i t ≡ r
  unfolding walked
  walk-spent h = let z : n - k ≡ 0 = omega arith in rw z at inv

  module _ (some : k < n) where
    more : walked pool places n p (suc (n - (k + 1))) i t ≡ r
    more = let z : n - k ≡ suc (n - (k + 1)) = omega arith in rw z at inv

    pub walk-past : length places ≤ i → missing i t ≡ r
    unfolding walked
    walk-past h = let m = more in rw (le-leb _ _ h) at m

    module _ (in_table : i < length places) (e : ℕ) (ee : e ≡ get_or places i 0) (b : Bool) (be : b ≡ is_at pool p e) where
      pub walk_here : b ≡ true → found i ≡ r
      unfolding walked
      walk_here y = let m = more in let z : is_at pool p (get_or places i 0) ≡ true = ap (is_at pool p) (sym ee) ∙ sym be ∙ y in rw (lt-leb _ _ in_table, z) at m

      module _ (no : b ≡ false) (c : ℕ) (ce : c ≡ child e t) (d : Bool) (de : d ≡ ltb i c && ltb c n) where
        elsewhere : is_at pool p (get_or places i 0) ≡ false
        elsewhere = ap (is_at pool p) (sym ee) ∙ sym be ∙ no

        next : child (get_or places i 0) t ≡ c
        next = ap (λ (x : ℕ). child x t) (sym ee) ∙ sym ce

        pub walk-on : d ≡ true → walked pool places n p (n - (k + 1)) c (t / 2) ≡ r
        unfolding walked
        walk-on y = let m = more in let z : ltb i c && ltb c n ≡ true = sym de ∙ y in rw (lt-leb _ _ in_table, elsewhere, next, z) at m

        pub walk_ends : d ≡ false → missing i t ≡ r
        unfolding walked
        walk_ends y = let m = more in let z : ltb i c && ltb c n ≡ false = sym de ∙ y in rw (lt-leb _ _ in_table, elsewhere, next, z) at m

-- ---- what it finds

module _ (pool places : List ℕ) (n : ℕ) (p : Principal) (room : n ≤ length places) where
  -- an entry that is reached and the only one of the principal
  pub walk-found : {i t j : ℕ} → Reaches places i t j → (f : ℕ) → n ≤ f + i → j < n → is_at pool p (get_or places j 0) ≡ true
      → ((a : ℕ) → a < n → is_at pool p (get_or places a 0) ≡ true → a ≡ j) → walked pool places n p f i t ≡ found j
  unfolding walked
  walk-found {i} {t} {j} (there e) zero h l at one = let no : ⊥ = omega (arith, e, h, l) in absurd no
  walk-found {i} {t} {j} (there e) (suc f) h l at one = rw (e, lt-leb (length places) j (omega (arith, l, room)), at)
  walk-found {i} {t} {j} (onward c e g r) zero h l at one = let no : ⊥ = omega (arith, g, reaches-up r, h, l) in absurd no
  walk-found {i} {t} {j} (onward c e g r) (suc f) h l at one =
      let up : c ≤ j = reaches-up r in
      let below : i < n = omega (arith, g, up, l) in
      rw (lt-leb (length places) i (omega (arith, below, room)))
      (split (is_at pool p (get_or places i 0))
      (λ y. rw y (ap found (one i below y)))
      (λ y. rw (y, ← e, lt-ltb i c g, lt-ltb c n (omega (arith, up, l))) (walk-found r f (omega (arith, h, g)) l at one)))

  -- a principal that has no entry
  pub record Stops (f i t : ℕ) : Type 0 where
    pub last : ℕ
    pub rest : ℕ
    pub gives : walked pool places n p f i t ≡ missing last rest
    pub ends : Ends places n i t last rest

  pub walk-stops : ((a : ℕ) → a < n → is_at pool p (get_or places a 0) ≡ false) → (f i t : ℕ) → i < n → n ≤ f + i → Stops f i t
  unfolding walked
  walk-stops none zero i t h l = let no : ⊥ = omega (arith, h, l) in absurd no
  walk-stops none (suc f) i t h l =
      let k : leb (length places) i ≡ false = lt-leb (length places) i (omega (arith, h, room)) in
      let z : is_at pool p (get_or places i 0) ≡ false = none i h in
      split (ltb i (child (get_or places i 0) t))
      (λ a. split (ltb (child (get_or places i 0) t) n)
      (λ b. let up : i < child (get_or places i 0) t = ltb-true _ _ a in
      let low : child (get_or places i 0) t < n = ltb-true _ _ b in
      let s = walk-stops none f (child (get_or places i 0) t) (t / 2) low (omega (arith, l, up)) in
      record { last = s.last; rest = s.rest; gives = rw (k, z, a, b) s.gives; ends = step (child (get_or places i 0) t) refl up low s.ends })
      (λ b. let far : n ≤ child (get_or places i 0) t = ltb-false _ _ b in
      record { last = i; rest = t; gives = rw (k, z, a, b); ends = stop refl refl (λ u v. let no : ⊥ = omega (arith, far, v) in no) }))
      (λ a. let back : child (get_or places i 0) t ≤ i = ltb-false _ _ a in
      record { last = i; rest = t; gives = rw (k, z, a); ends = stop refl refl (λ u v. let no : ⊥ = omega (arith, back, u) in no) })
