-- The bytes of a pattern, as the code looks at them: one byte, an item of a set, a set, an atom of one byte, and whether it accepts a byte.
-- Assumes nothing.
use Rattle.std.specs.Prelude.{◌≡◌, refl, Bool, true, ◌&&◌, ◌||◌, not, List, [], ◌∷◌, ℕ, ◌+◌, ◌-◌, ◌<◌, ◌≤◌, eqb, ltb, leb, length, get_or, Option, Some, None}
use Rattle.std.specs.List.{list_any}
use Rattle.std.proofs.Math.Path.{sym}
use Rattle.std.proofs.Common.{◌∙◌, arith}
use Rattle.std.proofs.Math.Bool.{false}
use borrow.Author.Tests.{lt-ltb, le-ltb, le-leb, lt-leb, eq-eqb, ne_eqb, eqb-true, eqb-false}
use Rattle.text.specs.Choice.{pick, split}
use Rattle.text.specs.Loop.{Step, next, done, loop, loop-next, loop-done}
use Rattle.pattern.specs.Bytes.{special, stands, opens_name}
use Rattle.pattern.specs.declared.atoms.Taken.{Taken}
use Rattle.pattern.specs.declared.atoms.Taken.TheVariants.{Closed, Item}
use Rattle.pattern.specs.declared.atoms.End.{End}

-- an item of a set, and where an atom ends: `None` where none can stand there
abbrev pub closed : Option Taken
closed = Some Closed

abbrev pub item : ℕ → Bool → Option Taken
item n hit = Some (Item n hit)

abbrev pub Scan : Type 0
Scan = Option End

abbrev pub fits : ℕ → Bool → Scan
fits at hit = Some (record { at = at; hit = hit })

-- the byte at i can end a range
unfoldable pub ends_range : List ℕ → ℕ → Bool
ends_range p i = pick (leb (length p) i) false (pick (eqb (get_or p i 0) 45) false (pick (eqb (get_or p i 0) 93) false (pick (opens_name p i) false true)))

-- the byte at i begins a range
unfoldable pub ranges : List ℕ → ℕ → Bool
ranges p i = pick (leb (length p) i) false (pick (leb (length p) (i + 1)) false (pick (eqb (get_or p (i + 1) 0) 45) (pick (stands p (i + 2) 93) false true) false))

unfoldable pub within : ℕ → ℕ → ℕ → Bool
within low high c = leb low c && leb c high

unfoldable pub range_at : List ℕ → ℕ → ℕ → Option Taken
range_at p i c = pick (leb (length p) i) None (pick (leb (length p - i) 2) None (pick (ends_range p (i + 2))
    (pick (ltb (get_or p (i + 2) 0) (get_or p i 0)) None (item (i + 3) (within (get_or p i 0) (get_or p (i + 2) 0) c))) None))

unfoldable pub byte_at : List ℕ → ℕ → ℕ → Option Taken
byte_at p i c = pick (leb (length p) i) None (pick (ranges p i) (range_at p i c) (item (i + 1) (eqb (get_or p i 0) c)))

unfoldable pub dash_at : List ℕ → ℕ → Bool → ℕ → Option Taken
dash_at p i first c = pick (leb (length p) i) None (pick first (item (i + 1) (eqb 45 c)) (pick (stands p (i + 1) 93) (item (i + 1) (eqb 45 c)) None))

unfoldable pub item_at : List ℕ → ℕ → Bool → ℕ → Option Taken
item_at p i first c = pick (leb (length p) i) None (pick (eqb (get_or p i 0) 93) (pick first (byte_at p i c) closed)
    (pick (eqb (get_or p i 0) 45) (dash_at p i first c) (pick (opens_name p i) None (byte_at p i c))))

abbrev pub on_item : ℕ → Bool → Option Taken → Step (ℕ × Bool × Bool) Scan
on_item i hit None = done None
on_item i hit (Some Closed) = done (fits (i + 1) hit)
on_item i hit (Some (Item n h)) = pick (leb n i) (done None) (next (n, false, hit || h))

abbrev pub set_turn : List ℕ → ℕ → ℕ × Bool × Bool → Step (ℕ × Bool × Bool) Scan
set_turn p c s = pick (leb (length p) s.0) (done None) (on_item s.0 s.2 (item_at p s.0 s.1 c))

unfoldable pub set_rest : List ℕ → ℕ → ℕ → Bool → Bool → Scan
set_rest p c i first hit = loop (λ s. length p - s.0) (λ s. None) (set_turn p c) (i, first, hit)

unfoldable pub negated : Scan → Scan
negated None = None
negated (Some x) = fits x.at (not x.hit)

unfoldable pub hit_of : Scan → Bool
hit_of None = false
hit_of (Some x) = x.hit

-- the set whose "[" stands at q
unfoldable pub set_at : List ℕ → ℕ → ℕ → Scan
set_at p q c = pick (leb (length p) q) None (pick (leb (length p) (q + 1)) None
    (pick (eqb (get_or p (q + 1) 0) 94) (negated (set_rest p c (q + 2) true false)) (set_rest p c (q + 1) true false)))

-- does the atom at q accept the byte c?
unfoldable pub accepts_at : List ℕ → ℕ → ℕ → Bool
accepts_at p q c = pick (leb (length p) q) false (pick (eqb (get_or p q 0) 46) true (pick (eqb (get_or p q 0) 92) (stands p (q + 1) c)
    (pick (eqb (get_or p q 0) 91) (hit_of (set_at p q c)) (eqb (get_or p q 0) c))))

-- where the atom of one byte at i ends
unfoldable pub one_end : List ℕ → ℕ → Scan
one_end p i = pick (leb (length p) i) None (pick (eqb (get_or p i 0) 46) (fits (i + 1) true)
    (pick (eqb (get_or p i 0) 92) (pick (leb (length p) (i + 1)) None (pick (special (get_or p (i + 1) 0)) (fits (i + 2) true) None))
    (pick (eqb (get_or p i 0) 91) (set_at p i 0) (pick (special (get_or p i 0)) None (fits (i + 1) true)))))

-- `special`, as one of a list
one-of : (b k : ℕ) {x y : Bool} → x ≡ y → (eqb k b || y) ≡ pick (eqb b k) true x
one-of b k {x} {y} e = split (eqb b k)
    (λ t. let z : k ≡ b = sym (eqb-true b k t) in rw (t, eq-eqb k b z))
    (λ f. let z : k ≡ b → ⊥ = λ w. eqb-false b k f (sym w) in rw (f, ne_eqb k b z) (sym e))

last-of : (b k : ℕ) → eqb b k ≡ (eqb k b || false)
last-of b k = split (eqb b k)
    (λ t. let z : k ≡ b = sym (eqb-true b k t) in rw (t, eq-eqb k b z))
    (λ f. let z : k ≡ b → ⊥ = λ w. eqb-false b k f (sym w) in rw (f, ne_eqb k b z))

pub way-special : (b : ℕ) → list_any (λ (y : ℕ). eqb y b) (94 ∷ 46 ∷ 91 ∷ 36 ∷ 40 ∷ 41 ∷ 124 ∷ 42 ∷ 43 ∷ 63 ∷ 123 ∷ 92 ∷ []) ≡ special b
unfolding special
way-special b =
    one-of b 94 (one-of' b 46 (one-of' b 91 (one-of' b 36 (one-of' b 40 (one-of' b 41
    (one-of' b 124 (one-of' b 42 (one-of' b 43 (one-of' b 63 (one-of' b 123 (last-of b 92)))))))))))
  where
    one-of' : (b k : ℕ) {x y : Bool} → x ≡ y → pick (eqb b k) true x ≡ (eqb k b || y)
    one-of' b k e = sym (one-of b k e)

-- the ways through the loop of a set
module _ (p : List ℕ) (c i : ℕ) (first hit : Bool) (r : Scan) (inv : set_rest p c i first hit ≡ r) where
  pub way-set-end : length p ≤ i → None ≡ r
  unfolding set_rest
  way-set-end h = sym (loop-done _ _ _ (i, first, hit) None (simp (le-leb _ _ h))) ∙ inv

  module _ (h : i < length p) (x : Option Taken) (e : x ≡ item_at p i first c) where
    pub way-set-wrong : x ≡ None → None ≡ r
    unfolding set_rest
    way-set-wrong w = sym (loop-done _ _ _ (i, first, hit) None (simp (lt-leb _ _ h, sym e, w))) ∙ inv

    pub way-set-closed : (t : Taken) → x ≡ Some t → t ≡ Closed → fits (i + 1) hit ≡ r
    unfolding set_rest
    way-set-closed t v w = sym (loop-done _ _ _ (i, first, hit) (fits (i + 1) hit) (simp (lt-leb _ _ h, sym e, v, w))) ∙ inv

    module _ (t : Taken) (v : x ≡ Some t) (n : ℕ) (g : Bool) (w : t ≡ Item n g) where
      pub way-set-stuck : n ≤ i → None ≡ r
      unfolding set_rest
      way-set-stuck l = sym (loop-done _ _ _ (i, first, hit) None (simp (lt-leb _ _ h, sym e, v, w, le-leb _ _ l))) ∙ inv

      pub way-set-more : i < n → (y : Bool) → y ≡ hit || g → set_rest p c n false y ≡ r
      unfolding set_rest
      way-set-more l y f = sym (loop-next _ _ _ (i, first, hit) (n, false, y) (simp (lt-leb _ _ h, sym e, v, w, lt-leb _ _ l, sym f)) (omega arith)) ∙ inv

-- the ways out of the functions
not-pick : (b : Bool) → not b ≡ pick b false true
not-pick true = refl
not-pick false = refl

module _ (p : List ℕ) (i : ℕ) where
  module _ (h : i < length p) where
    module _ (e : get_or p i 0 ≡ 91) (x : Bool) (xe : x ≡ stands p (i + 1) 46) where
      pub way-opens-1 : x ≡ true → true ≡ opens_name p i
      unfolding opens_name
      way-opens-1 t = simp (lt-leb _ _ h, eq-eqb _ _ e, sym xe, t)

      module _ (f : x ≡ false) (y : Bool) (ye : y ≡ stands p (i + 1) 61) where
        pub way-opens-2 : y ≡ true → true ≡ opens_name p i
        unfolding opens_name
        way-opens-2 t = simp (lt-leb _ _ h, eq-eqb _ _ e, sym xe, f, sym ye, t)

        pub way-opens-3 : y ≡ false → (z : Bool) → z ≡ stands p (i + 1) 58 → z ≡ opens_name p i
        unfolding opens_name
        way-opens-3 t z ze = simp (lt-leb _ _ h, eq-eqb _ _ e, sym xe, f, sym ye, t) ze

    module _ (m : get_or p i 0 ≡ 45 → ⊥) (n : get_or p i 0 ≡ 93 → ⊥) (x : Bool) (xe : x ≡ opens_name p i) where
      pub way-ends : not x ≡ ends_range p i
      unfolding ends_range
      way-ends = simp (lt-leb _ _ h, ne_eqb _ _ m, ne_eqb _ _ n, sym xe) (not-pick x)

    module _ (k : i + 1 < length p) (e : get_or p (i + 1) 0 ≡ 45) (x : Bool) (xe : x ≡ stands p (i + 2) 93) where
      pub way-ranges : not x ≡ ranges p i
      unfolding ranges
      way-ranges = simp (lt-leb _ _ h, lt-leb _ _ k, eq-eqb _ _ e, sym xe) (not-pick x)

    module _ (c : ℕ) where
      module _ (k : 2 < length p - i) (x : Bool) (xe : x ≡ ends_range p (i + 2)) where
        pub way-range-unfit : x ≡ false → None ≡ range_at p i c
        unfolding range_at
        way-range-unfit t = simp (lt-leb _ _ h, lt-leb _ _ k, sym xe, t)

        pub way-range-falls : x ≡ true → get_or p (i + 2) 0 < get_or p i 0 → None ≡ range_at p i c
        unfolding range_at
        way-range-falls t l = simp (lt-leb _ _ h, lt-leb _ _ k, sym xe, t, lt-ltb _ _ l)

        pub way-range : x ≡ true → get_or p i 0 ≤ get_or p (i + 2) 0 → (y : Bool) → y ≡ within (get_or p i 0) (get_or p (i + 2) 0) c → item (i + 3) y ≡ range_at p i c
        unfolding range_at
        way-range t l y ye = simp (lt-leb _ _ h, lt-leb _ _ k, sym xe, t, le-ltb _ _ l, sym ye)

      module _ (x : Bool) (xe : x ≡ ranges p i) where
        pub way-byte-range : x ≡ true → (r : Option Taken) → r ≡ range_at p i c → r ≡ byte_at p i c
        unfolding byte_at
        way-byte-range t r re = simp (lt-leb _ _ h, sym xe, t) re

        pub way-byte-self : x ≡ false → item (i + 1) (eqb (get_or p i 0) c) ≡ byte_at p i c
        unfolding byte_at
        way-byte-self t = simp (lt-leb _ _ h, sym xe, t)

      module _ (first : Bool) where
        pub way-dash-first : first ≡ true → item (i + 1) (eqb 45 c) ≡ dash_at p i first c
        unfolding dash_at
        way-dash-first t = simp (lt-leb _ _ h, t)

        module _ (f : first ≡ false) (x : Bool) (xe : x ≡ stands p (i + 1) 93) where
          pub way-dash-last : x ≡ true → item (i + 1) (eqb 45 c) ≡ dash_at p i first c
          unfolding dash_at
          way-dash-last t = simp (lt-leb _ _ h, f, sym xe, t)

          pub way-dash-wrong : x ≡ false → None ≡ dash_at p i first c
          unfolding dash_at
          way-dash-wrong t = simp (lt-leb _ _ h, f, sym xe, t)

        module _ (e : get_or p i 0 ≡ 93) where
          pub way-item-first : first ≡ true → (r : Option Taken) → r ≡ byte_at p i c → r ≡ item_at p i first c
          unfolding item_at
          way-item-first t r re = simp (lt-leb _ _ h, eq-eqb _ _ e, t) re

          pub way-item-closed : first ≡ false → closed ≡ item_at p i first c
          unfolding item_at
          way-item-closed t = simp (lt-leb _ _ h, eq-eqb _ _ e, t)

        pub way-item-dash : get_or p i 0 ≡ 45 → (r : Option Taken) → r ≡ dash_at p i first c → r ≡ item_at p i first c
        unfolding item_at
        way-item-dash e r re = simp (lt-leb _ _ h, e) re

        module _ (n : get_or p i 0 ≡ 93 → ⊥) where
          module _ (m : get_or p i 0 ≡ 45 → ⊥) (x : Bool) (xe : x ≡ opens_name p i) where
            pub way-item-opens : x ≡ true → None ≡ item_at p i first c
            unfolding item_at
            way-item-opens t = simp (lt-leb _ _ h, ne_eqb _ _ n, ne_eqb _ _ m, sym xe, t)

            pub way-item-byte : x ≡ false → (r : Option Taken) → r ≡ byte_at p i c → r ≡ item_at p i first c
            unfolding item_at
            way-item-byte t r re = simp (lt-leb _ _ h, ne_eqb _ _ n, ne_eqb _ _ m, sym xe, t) re

      module _ (k : i + 1 < length p) where
        pub way-set-other : get_or p (i + 1) 0 ≡ 94 → (x : Scan) → x ≡ set_rest p c (i + 2) true false → (y : Scan) → y ≡ negated x → y ≡ set_at p i c
        unfolding set_at
        way-set-other e x xe y ye = simp (lt-leb _ _ h, lt-leb _ _ k, eq-eqb _ _ e, sym xe) ye

        module _ (e : get_or p (i + 1) 0 ≡ 94) (x : Scan) (xe : x ≡ set_rest p c (i + 2) true false) where
          pub way-not-unfit : x ≡ None → None ≡ set_at p i c
          unfolding negated
          way-not-unfit n = way-set-other e x xe None (rw n)

          pub way-not : (y : End) → x ≡ Some y → fits y.at (not y.hit) ≡ set_at p i c
          unfolding negated
          way-not y n = way-set-other e x xe _ (rw n)

        pub way-set-plain : (get_or p (i + 1) 0 ≡ 94 → ⊥) → (x : Scan) → x ≡ set_rest p c (i + 1) true false → x ≡ set_at p i c
        unfolding set_at
        way-set-plain n x xe = simp (lt-leb _ _ h, lt-leb _ _ k, ne_eqb _ _ n) xe

      pub way-accepts-any : get_or p i 0 ≡ 46 → true ≡ accepts_at p i c
      unfolding accepts_at
      way-accepts-any e = simp (lt-leb _ _ h, e)

      pub way-accepts-escape : get_or p i 0 ≡ 92 → (x : Bool) → x ≡ stands p (i + 1) c → x ≡ accepts_at p i c
      unfolding accepts_at
      way-accepts-escape e x xe = simp (lt-leb _ _ h, e) xe

      module _ (e : get_or p i 0 ≡ 91) (x : Scan) (xe : x ≡ set_at p i c) where
        pub way-accepts-set : (y : End) → x ≡ Some y → y.hit ≡ accepts_at p i c
        unfolding accepts_at hit_of
        way-accepts-set y w = simp (lt-leb _ _ h, e, sym xe, w)

        pub way-accepts-none : x ≡ None → false ≡ accepts_at p i c
        unfolding accepts_at hit_of
        way-accepts-none w = simp (lt-leb _ _ h, e, sym xe, w)

    pub way-end-any : get_or p i 0 ≡ 46 → fits (i + 1) true ≡ one_end p i
    unfolding one_end
    way-end-any e = simp (lt-leb _ _ h, e)

    module _ (e : get_or p i 0 ≡ 92) where
      pub way-end-last : length p ≤ i + 1 → None ≡ one_end p i
      unfolding one_end
      way-end-last k = simp (lt-leb _ _ h, e, le-leb _ _ k)

      module _ (k : i + 1 < length p) (x : Bool) (xe : x ≡ special (get_or p (i + 1) 0)) where
        pub way-end-escape : x ≡ true → fits (i + 2) true ≡ one_end p i
        unfolding one_end
        way-end-escape t = simp (lt-leb _ _ h, e, lt-leb _ _ k, sym xe, t)

        pub way-end-unfit : x ≡ false → None ≡ one_end p i
        unfolding one_end
        way-end-unfit t = simp (lt-leb _ _ h, e, lt-leb _ _ k, sym xe, t)

    pub way-end-set : get_or p i 0 ≡ 91 → (x : Scan) → x ≡ set_at p i 0 → x ≡ one_end p i
    unfolding one_end
    way-end-set e x xe = simp (lt-leb _ _ h, e) xe

    module _ (n : get_or p i 0 ≡ 46 → ⊥) where
      module _ (m : get_or p i 0 ≡ 92 → ⊥) where
        module _ (l : get_or p i 0 ≡ 91 → ⊥) (x : Bool) (xe : x ≡ special (get_or p i 0)) where
          pub way-end-special : x ≡ true → None ≡ one_end p i
          unfolding one_end
          way-end-special t = simp (lt-leb _ _ h, ne_eqb _ _ n, ne_eqb _ _ m, ne_eqb _ _ l, sym xe, t)

          pub way-end-byte : x ≡ false → fits (i + 1) true ≡ one_end p i
          unfolding one_end
          way-end-byte t = simp (lt-leb _ _ h, ne_eqb _ _ n, ne_eqb _ _ m, ne_eqb _ _ l, sym xe, t)
