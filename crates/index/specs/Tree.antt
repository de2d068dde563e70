-- The table as a tree: from the first entry on, each bit of an identifier's tag says which of two further entries comes next. Every further entry has a
-- larger number, so that any front of the table is such a tree too. Assumes nothing.
use Rattle.std.specs.Prelude.{◌≡◌, refl, List, ℕ, ◌+◌, ◌/◌, ◌%◌, ◌<◌, ◌≤◌, eqb, get_or, take}
use Rattle.std.proofs.Common.{sym, ap, ◌∙◌, arith, get_or-take, eqb-true}
use Rattle.std.proofs.lemmas.Bool.{eqb-false}
use Rattle.text.specs.Choice.{split}
use Rattle.index.specs.Entry.{child, linked, plain-tag, linked-plain, linked-here, linked-other, linked-another, child-alike}

-- entry j is reached from entry i by the bits of t
pub data Reaches (places : List ℕ) : ℕ → ℕ → ℕ → Type 0 where
  there : {i t j : ℕ} → i ≡ j → Reaches places i t j
  onward : {i t j : ℕ} (c : ℕ) → c ≡ child (get_or places i 0) t → i < c → Reaches places c (t / 2) j → Reaches places i t j

-- each of the first n entries is reached from the first by its tag
pub record Tree (places : List ℕ) (n : ℕ) : Type 0 where
  pub reached : (j : ℕ) → j < n → Reaches places 0 (get_or places j 0 % 1048576) j

-- by the bits of t nothing follows entry i among the first n
pub data Ends (places : List ℕ) (n : ℕ) : ℕ → ℕ → ℕ → ℕ → Type 0 where
  stop : {i t k u : ℕ} → i ≡ k → t ≡ u → (i < child (get_or places i 0) t → child (get_or places i 0) t < n → ⊥) → Ends places n i t k u
  step : {i t k u : ℕ} (c : ℕ) → c ≡ child (get_or places i 0) t → i < c → c < n → Ends places n c (t / 2) k u → Ends places n i t k u

pub reaches-up : {places : List ℕ} {i t j : ℕ} → Reaches places i t j → i ≤ j
reaches-up (there e) = omega (arith, e)
reaches-up (onward c e h r) = omega (arith, h, reaches-up r)

ends-up : {places : List ℕ} {n i t k u : ℕ} → Ends places n i t k u → i ≤ k
ends-up (stop e f g) = omega (arith, e)
ends-up (step c e h l r) = omega (arith, h, ends-up r)

pub ends_low : {places : List ℕ} {n i t k u : ℕ} → Ends places n i t k u → i < n → k < n
ends_low (stop e f g) h = omega (arith, e, h)
ends_low (step c e h l r) b = ends_low r l

-- a table whose entries have the same further ones, as far as they are reached
reaches_same : {places places' : List ℕ} {n : ℕ} → ((i t : ℕ) → i < n → i < child (get_or places i 0) t → child (get_or places i 0) t < n → child (get_or places' i 0) t ≡ child (get_or places i 0) t)
    → {i t j : ℕ} → Reaches places i t j → j < n → Reaches places' i t j
reaches_same f (there e) h = there e
reaches_same {places} {places'} {n} f {i} {t} {j} (onward c e l r) h =
    let up : c ≤ j = reaches-up r in
    let g : i < child (get_or places i 0) t = omega (arith, e, l) in
    let k : child (get_or places i 0) t < n = omega (arith, e, up, h) in
    onward c (e ∙ sym (f i t (omega (arith, l, up, h)) g k)) l (reaches_same {places = places} {places' = places'} {n = n} f r h)

pub tree-first : (places : List ℕ) → Tree places 1
tree-first places = record { reached = λ j h. let z : 0 ≡ j = omega (arith, h) in there z }

pub tree-none : (places : List ℕ) → Tree places 0
tree-none places = record { reached = λ j h. let no : ⊥ = omega (arith, h) in absurd no }

pub tree-fewer : {places : List ℕ} {n m : ℕ} → Tree places n → m ≤ n → Tree places m
tree-fewer t h = record { reached = λ j l. t.reached j (omega (arith, h, l)) }

-- a tree needs its entries alone
pub tree-front : {places places' : List ℕ} {n : ℕ} → take n places' ≡ take n places → Tree places n → Tree places' n
tree-front {places} {places'} {n} e t =
    let g : (i : ℕ) → i < n → get_or places' i 0 ≡ get_or places i 0
    = λ i h. sym (get_or-take n places' i 0 h) ∙ ap (λ (l : List ℕ). get_or l i 0) e ∙ get_or-take n places i 0 h in
    record { reached = λ j h. rw (g j h) (reaches_same {places = places} {places' = places'} {n = n} (λ i u l a b. rw (g i l)) (t.reached j h) h) }

-- one entry more, put where the search for its tag ended
module _ (places places' : List ℕ) (n k u v e : ℕ) (t : Tree places n) (ends : Ends places n 0 v k u) (some : 0 < n) (low : n < 4096)
    (other : (i : ℕ) → i < n → (i ≡ k → ⊥) → get_or places' i 0 ≡ get_or places i 0)
    (at : get_or places' k 0 ≡ linked (get_or places k 0) u n) (new : get_or places' n 0 ≡ e) (tagged : e % 1048576 ≡ v) where
  below : k < n
  below = ends_low ends some

  -- what followed still follows
  ended : {i t k u : ℕ} → Ends places n i t k u → k < child (get_or places k 0) u → child (get_or places k 0) u < n → ⊥
  ended (stop {i} {t} {k} {u} e f g) a b = g (rw (e, f) a) (rw (e, f) b)
  ended (step c e h l r) a b = ended r a b

  keeps-at : (s : ℕ) → k < child (get_or places k 0) s → child (get_or places k 0) s < n → child (get_or places' k 0) s ≡ child (get_or places k 0) s
  keeps-at s a b =
      let gone : eqb (s % 2) 0 ≡ eqb (u % 2) 0 → child (linked (get_or places k 0) u n) s ≡ child (get_or places k 0) s
      = λ same. let z : child (get_or places k 0) s ≡ child (get_or places k 0) u = child-alike (get_or places k 0) s u same in
      absurd (ended ends (omega (arith, z, a)) (omega (arith, z, b))) in
      rw at
      (split (eqb (s % 2) 0)
      (λ x. split (eqb (u % 2) 0) (λ y. gone (x ∙ sym y)) (λ y. linked-other (get_or places k 0) u n low s x y))
      (λ x. split (eqb (u % 2) 0) (λ y. linked-another (get_or places k 0) u n low s x y) (λ y. gone (x ∙ sym y))))

  keeps : (i s : ℕ) → i < n → i < child (get_or places i 0) s → child (get_or places i 0) s < n → child (get_or places' i 0) s ≡ child (get_or places i 0) s
  keeps i s h a b =
      split (eqb i k)
      (λ e. let z : i ≡ k = eqb-true i k e in rw z (keeps-at s (rw z at a) (rw z at b)))
      (λ e. rw (other i h (eqb-false i k e)))

  -- the new entry follows where the search ended
  follows : {i s : ℕ} → Ends places n i s k u → i < n → Reaches places' i s n
  follows {i} {s} (stop e f g) h =
      let z : child (get_or places' i 0) s ≡ n = rw (e, f, at) (linked-here (get_or places k 0) u n low u refl) in
      onward {t = s} n (sym z) h (there refl)
  follows {i} {s} (step c e h l r) b =
      let up : c ≤ k = ends-up r in
      let z : child (get_or places' i 0) s ≡ child (get_or places i 0) s = ap (λ (x : ℕ). child x s) (other i b (λ w. let no : ⊥ = omega (arith, w, h, up) in no)) in
      onward {t = s} c (e ∙ sym z) h (follows r l)

  tag_stays : (j : ℕ) → j < n → get_or places' j 0 % 1048576 ≡ get_or places j 0 % 1048576
  tag_stays j h =
      split (eqb j k)
      (λ e. let z : j ≡ k = eqb-true j k e in
      rw (z, at) (sym (plain-tag (linked (get_or places k 0) u n)) ∙ ap (λ (x : ℕ). x % 1048576) (linked-plain (get_or places k 0) u n low) ∙ plain-tag (get_or places k 0)))
      (λ e. rw (other j h (eqb-false j k e)))

  pub tree-more : Tree places' (n + 1)
  tree-more = record {
    reached = λ j h. split (eqb j n)
        (λ q. let z : j ≡ n = eqb-true j n q in
        let w : get_or places' n 0 % 1048576 ≡ v = ap (λ (x : ℕ). x % 1048576) new ∙ tagged in
        rw (z, w) (follows ends some))
        (λ q. let l : j < n = ne-lt j (eqb-false j n q) h in rw (tag_stays j l) (reaches_same {places = places} {places' = places'} {n = n} keeps (t.reached j l) l));
  }
    where
      ne-lt : (j : ℕ) → (j ≡ n → ⊥) → j < n + 1 → j < n
      ne-lt j f h = omega (arith, f, h)
