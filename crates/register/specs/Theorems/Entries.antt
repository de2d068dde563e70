-- What adding an entry and replacing one do to the others. Assumes nothing.
use Rattle.std.proofs.Math.Path.{◌≡◌, refl, ap}
use Rattle.std.proofs.Common.{sym, ◌∙◌}
use Rattle.std.specs.Prelude.{Bool, false, eqb, length}
use Rattle.std.proofs.Math.Bool.{true}
use mathlib.Core.List.{List, [], ◌∷◌}
use Prim.Native.Nat.{ℕ, suc, ◌+◌, ◌<◌, ◌≤◌}
use native.Mathlib.Omega.{arith}
use borrow.Author.Tests.{eqb-true, eqb-false, eq-eqb, ne_eqb}
use Rattle.text.specs.Choice.{pick, split, clash}
use Rattle.register.specs.Entries.{Entry, free, held, known, moves_of, total, principals, twice, added, replaced}

-- a principal holds no more than all do
pub moves-total : (x : ℕ) (es : List Entry) → moves_of x es ≤ total es
unfolding moves_of total
moves-total x [] = omega arith
moves-total x (free ∷ es) = moves-total x es
moves-total x (held y m ∷ es) = split (eqb y x) (λ t. rw t (omega arith)) (λ t. rw t (omega (arith, moves-total x es)))

pub principals-most : (es : List Entry) → principals es ≤ length es
unfolding principals
principals-most [] = omega arith
principals-most (free ∷ es) = omega (arith, principals-most es)
principals-most (held y m ∷ es) = omega (arith, principals-most es)

-- other moves for a principal that is held
module _ (x k : ℕ) where
  pub moves-replaced : (es : List Entry) → known x es ≡ true → moves_of x (replaced x (held x k) es) ≡ k
  unfolding known moves_of replaced
  moves-replaced [] h = let z : ◌≡◌ {A = ℕ} 0 1 = cc in let no : ⊥ = omega arith in absurd no
  moves-replaced (free ∷ es) h = moves-replaced es h
  moves-replaced (held y m ∷ es) h =
      split (eqb y x) (λ t. rw (t, eq-eqb x x refl) refl) (λ t. rw (t, t) (moves-replaced es (rw t at h)))

  pub replaced-again : (e : Entry) (es : List Entry) → replaced x e (replaced x (held x k) es) ≡ replaced x e es
  unfolding replaced
  replaced-again e [] = refl
  replaced-again e (free ∷ es) = ap (λ (l : List Entry). free ∷ l) (replaced-again e es)
  replaced-again e (held y m ∷ es) =
      split (eqb y x) (λ t. rw (t, eq-eqb x x refl) refl)
      (λ t. rw (t, t) (ap (λ (l : List Entry). held y m ∷ l) (replaced-again e es)))

  pub moves-other : (y : ℕ) → (x ≡ y → ⊥) → (es : List Entry) → moves_of y (replaced x (held x k) es) ≡ moves_of y es
  unfolding moves_of replaced
  moves-other y d [] = refl
  moves-other y d (free ∷ es) = moves-other y d es
  moves-other y d (held z m ∷ es) =
      split (eqb z x)
      (λ t. let o : z ≡ y → ⊥ = λ s. d (sym (eqb-true z x t) ∙ s) in rw (t, ne_eqb x y d, ne_eqb z y o) refl)
      (λ t. rw t (ap (λ (n : ℕ). pick (eqb z y) m n) (moves-other y d es)))

  pub known-replaced : (y : ℕ) (es : List Entry) → known y (replaced x (held x k) es) ≡ known y es
  unfolding known replaced
  known-replaced y [] = refl
  known-replaced y (free ∷ es) = known-replaced y es
  known-replaced y (held z m ∷ es) =
      split (eqb z x) (λ t. let s : z ≡ x = eqb-true z x t in rw t (rw s refl))
      (λ t. rw t (ap (λ (b : Bool). pick (eqb z y) true b) (known-replaced y es)))

  pub twice-replaced : (es : List Entry) → twice (replaced x (held x k) es) ≡ twice es
  unfolding twice replaced
  twice-replaced [] = refl
  twice-replaced (free ∷ es) = twice-replaced es
  twice-replaced (held z m ∷ es) =
      split (eqb z x) (λ t. let s : z ≡ x = eqb-true z x t in rw t (rw s refl))
      (λ t. rw (t, known-replaced z es, twice-replaced es) refl)

  pub total-replaced : (es : List Entry) → known x es ≡ true → total (replaced x (held x k) es) + moves_of x es ≡ total es + k
  unfolding known moves_of total replaced
  total-replaced [] h = let z : ◌≡◌ {A = ℕ} 0 1 = cc in let no : ⊥ = omega arith in absurd no
  total-replaced (free ∷ es) h = total-replaced es h
  total-replaced (held z m ∷ es) h =
      split (eqb z x) (λ t. rw t (omega arith)) (λ t. rw t (omega (arith, total-replaced es (rw t at h))))

-- the same moves again
pub replaced-same : (x : ℕ) (es : List Entry) → replaced x (held x (moves_of x es)) es ≡ es
unfolding moves_of replaced
replaced-same x es = go (moves_of x es) es refl
  where
    go : (n : ℕ) (es : List Entry) → moves_of x es ≡ n → replaced x (held x n) es ≡ es
    go n [] h = refl
    go n (free ∷ es) h = ap (λ (l : List Entry). free ∷ l) (go n es h)
    go n (held y m ∷ es) h =
        split (eqb y x) (λ t. let s : y ≡ x = eqb-true y x t in let k : m ≡ n = rw t at h in rw t (rw (s, k) refl))
        (λ t. rw t (ap (λ (l : List Entry). held y m ∷ l) (go n es (rw t at h))))

pub length-replaced : (x : ℕ) (e : Entry) (es : List Entry) → length (replaced x e es) ≡ length es
unfolding replaced
length-replaced x e [] = refl
length-replaced x e (free ∷ es) = ap suc (length-replaced x e es)
length-replaced x e (held y m ∷ es) = split (eqb y x) (λ t. rw t refl) (λ t. rw t (ap suc (length-replaced x e es)))

-- a place freed
module _ (x : ℕ) where
  pub total-freed : (es : List Entry) → known x es ≡ true → total (replaced x free es) + moves_of x es ≡ total es
  unfolding known moves_of total replaced
  total-freed [] h = let z : ◌≡◌ {A = ℕ} 0 1 = cc in let no : ⊥ = omega arith in absurd no
  total-freed (free ∷ es) h = total-freed es h
  total-freed (held z m ∷ es) h =
      split (eqb z x) (λ t. rw t (omega arith)) (λ t. rw t (omega (arith, total-freed es (rw t at h))))

  pub known-freed : (y : ℕ) (es : List Entry) → known y es ≡ false → known y (replaced x free es) ≡ false
  unfolding known replaced
  known-freed y [] h = refl
  known-freed y (free ∷ es) h = known-freed y es h
  known-freed y (held z m ∷ es) h =
      split (eqb z y) (λ u. clash (rw u refl) h)
      (λ u. split (eqb z x) (λ t. rw t (rw u at h)) (λ t. rw (t, u) (known-freed y es (rw u at h))))

  pub twice-freed : (es : List Entry) → twice es ≡ false → twice (replaced x free es) ≡ false
  unfolding twice replaced
  twice-freed [] h = refl
  twice-freed (free ∷ es) h = twice-freed es h
  twice-freed (held z m ∷ es) h =
      split (known z es) (λ u. clash (rw u refl) h)
      (λ u. split (eqb z x) (λ t. rw t (rw u at h)) (λ t. rw (t, known-freed z es u) (twice-freed es (rw u at h))))

-- a principal added
module _ (x n : ℕ) where
  pub total-added : (es : List Entry) → principals es < length es → total (added x n es) ≡ total es + n
  unfolding principals total added
  total-added [] h = let no : ⊥ = omega arith in absurd no
  total-added (free ∷ es) h = omega arith
  total-added (held y m ∷ es) h = omega (arith, total-added es (omega arith))

  pub length-added : (es : List Entry) → length (added x n es) ≡ length es
  unfolding added
  length-added [] = refl
  length-added (free ∷ es) = refl
  length-added (held y m ∷ es) = ap suc (length-added es)

  pub known-added : (y : ℕ) → (x ≡ y → ⊥) → (es : List Entry) → known y (added x n es) ≡ known y es
  unfolding known added
  known-added y d [] = refl
  known-added y d (free ∷ es) = rw (ne_eqb x y d) refl
  known-added y d (held z m ∷ es) = ap (λ (b : Bool). pick (eqb z y) true b) (known-added y d es)

  pub twice-added : (es : List Entry) → known x es ≡ false → twice es ≡ false → twice (added x n es) ≡ false
  unfolding known twice added
  twice-added [] h g = refl
  twice-added (free ∷ es) h g = rw h g
  twice-added (held z m ∷ es) h g =
      split (eqb z x) (λ t. clash (rw t refl) h)
      (λ t. let d : x ≡ z → ⊥ = λ s. eqb-false z x t (sym s) in
      split (known z es) (λ u. clash (rw u refl) g)
      (λ u. rw (known-added z d es, u) (twice-added es (rw t at h) (rw u at g))))
