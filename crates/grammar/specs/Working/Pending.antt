-- Operators that wait for their right operand, each with its level and what it will make of it: how precedence groups. Assumes nothing.
use Rattle.std.specs.Prelude.{◌≡◌, refl, true, List, [], ◌∷◌, ℕ, ◌≤◌, ◌<◌, leb}
use Rattle.std.proofs.Common.{sym, ap, ◌∙◌, arith, leb-true, le-leb}
use Rattle.std.proofs.lemmas.Bool.{lt-leb}
use Rattle.text.specs.Choice.{pick, split}

-- an operator, or an open bracket
pub data Entry (A : Type 0) : Type 0 where
  pending : ℕ → (A → A) → Entry A
  opening : Entry A

module _ {A : Type 0} where
  -- what the operators of that level or a tighter one make of an operand
  abbrev pub reduce : ℕ → A → List (Entry A) → A × List (Entry A)
  reduce l v [] = (v, [])
  reduce l v (opening ∷ P) = (v, opening ∷ P)
  reduce l v (pending m f ∷ P) = pick (leb l m) (reduce l (f v) P) (v, pending m f ∷ P)

  pub reduce-twice : (l m : ℕ) (v : A) (P : List (Entry A)) → l ≤ m → reduce l (reduce m v P).0 (reduce m v P).1 ≡ reduce l v P
  reduce-twice l m v [] h = refl
  reduce-twice l m v (opening ∷ P) h = refl
  reduce-twice l m v (pending k f ∷ P) h =
      split (leb m k) (λ e. let g : leb l k ≡ true = le-leb l k (omega (arith, h, leb-true m k e)) in rw (e, g) (reduce-twice l m (f v) P h)) (λ e. rw e refl)

  -- what comes to the same at a level does so at a looser one
  pub reduce-same : (l m : ℕ) (v w : A) (P Q : List (Entry A)) → l ≤ m → reduce m v P ≡ reduce m w Q → reduce l v P ≡ reduce l w Q
  reduce-same l m v w P Q h e = sym (reduce-twice l m v P h) ∙ ap (λ (x : A × List (Entry A)). reduce l x.0 x.1) e ∙ reduce-twice l m w Q h

  -- no operator of that level or a tighter one waits on top
  pub data Stops (l : ℕ) : List (Entry A) → Type 0 where
    stops_end : Stops l []
    stops-open : (P : List (Entry A)) → Stops l (opening ∷ P)
    stops-low : (m : ℕ) (f : A → A) (P : List (Entry A)) → m < l → Stops l (pending m f ∷ P)

  pub stops-up : (l m : ℕ) (P : List (Entry A)) → l ≤ m → Stops l P → Stops m P
  stops-up l m _ h stops_end = stops_end
  stops-up l m _ h (stops-open P) = stops-open P
  stops-up l m _ h (stops-low k f P i) = stops-low k f P (omega (arith, h, i))

  pub stops-is : (l : ℕ) (v : A) (P : List (Entry A)) → Stops l P → reduce l v P ≡ (v, P)
  stops-is l v _ stops_end = refl
  stops-is l v _ (stops-open P) = refl
  stops-is l v _ (stops-low m f P h) = rw (lt-leb l m h) refl

  -- an operator of the level itself is reduced
  pub reduce-own : (l : ℕ) (f : A → A) (v : A) (P : List (Entry A)) → reduce l v (pending l f ∷ P) ≡ reduce l (f v) P
  reduce-own l f v P = rw (le-leb l l (omega arith)) refl
