-- What a reader has written: the code below is as it was, and while room is left what stands above it is the code of what was read. Assumes nothing.
use Rattle.std.specs.Prelude.{◌≡◌, refl, List, [], ◌∷◌, ◌++◌, ℕ, zero, suc, ◌<◌, ◌≤◌, leb, length, set}
use Rattle.std.proofs.Common.{sym, ap, ◌∙◌, arith, not-suc-le-zero, add-one, length-set, take-take}
use Rattle.std.proofs.Math.ListN.{take}
use borrow.Author.Tests.{leb-true, leb-false, lt-leb}
use Rattle.text.specs.Choice.{split}
use Rattle.syntax.specs.Code.{entry}
use Rattle.conditions.specs.Working.Emit.{slot_of, above, put}

pub append_assoc : (a b c : List ℕ) → (a ++ b) ++ c ≡ a ++ (b ++ c)
append_assoc [] b c = refl
append_assoc (x ∷ a) b c = ap (λ (l : List ℕ). x ∷ l) (append_assoc a b c)

append-none : (a : List ℕ) → a ++ [] ≡ a
append-none [] = refl
append-none (x ∷ a) = ap (λ (l : List ℕ). x ∷ l) (append-none a)

take-set : (m : List ℕ) (top x : ℕ) → top < length m → take (suc top) (set m top x) ≡ take top m ++ (x ∷ [])
take-set [] top x h = absurd (not-suc-le-zero h)
take-set (y ∷ m) zero x h = refl
take-set (y ∷ m) (suc top) x h = ap (λ (l : List ℕ). y ∷ l) (take-set m top x (omega (arith, h)))

-- the length and all below top as they were
pub data Keeps (m : List ℕ) (top : ℕ) (b : List ℕ) : Type 0 where
  keeps : length b ≡ length m → take top b ≡ take top m → Keeps m top b

pub keeps_self : (m : List ℕ) (top : ℕ) → Keeps m top m
keeps_self m top = keeps refl refl

keeps_then : (m : List ℕ) (top : ℕ) (b : List ℕ) (u : ℕ) (b' : List ℕ) → top ≤ u → Keeps m top b → Keeps b u b' → Keeps m top b'
keeps_then m top b u b' h (keeps l e) (keeps k f) = keeps (k ∙ l) (sym (take-take top u b' h) ∙ ap (λ (x : List ℕ). take top x) f ∙ take-take top u b h ∙ e)

take_below : (m : List ℕ) (top x : ℕ) → take top (set m top x) ≡ take top m
take_below [] top x = refl
take_below (y ∷ m) zero x = refl
take_below (y ∷ m) (suc top) x = ap (λ (l : List ℕ). y ∷ l) (take_below m top x)

-- from top to u stands code of which P holds
pub data Wrote (m : List ℕ) (top : ℕ) (b : List ℕ) (u : ℕ) (P : List ℕ → Type 0) : Type 0 where
  wrote : (c : List ℕ) → take u b ≡ take top m ++ c → P c → Wrote m top b u P

pub data Grown (m : List ℕ) (top : ℕ) (b : List ℕ) (u : ℕ) (P : List ℕ → Type 0) : Type 0 where
  grown : Keeps m top b → top ≤ u → (u < length m → Wrote m top b u P) → Grown m top b u P

pub kept : {m : List ℕ} {top : ℕ} {b : List ℕ} {u : ℕ} {P : List ℕ → Type 0} → Grown m top b u P → Keeps m top b
kept (grown k t w) = k

pub under : {m : List ℕ} {top : ℕ} {b : List ℕ} {u : ℕ} {P : List ℕ → Type 0} {b' : List ℕ} → Grown m top b u P → Keeps b u b' → Keeps m top b'
under (grown k t w) h = keeps_then _ _ _ _ _ t k h

-- a list that ends with x, and the front of which Q holds
pub data Then (Q : List ℕ → Type 0) (x : ℕ) : List ℕ → Type 0 where
  then : (d : List ℕ) → Q d → Then Q x (d ++ (x ∷ []))

module _ (m : List ℕ) (top : ℕ) (b : List ℕ) (u : ℕ) where
  pub grown-as : (P Q : List ℕ → Type 0) → ((c : List ℕ) → P c → Q c) → Grown m top b u P → Grown m top b u Q
  grown-as P Q f (grown l t w) = grown l t (λ h. as-wrote (w h))
    where
      as-wrote : Wrote m top b u P → Wrote m top b u Q
      as-wrote (wrote c e p) = wrote c e (f c p)

  module _ (b' : List ℕ) (u' : ℕ) (P Q R : List ℕ → Type 0) (f : (c d : List ℕ) → P c → Q d → R (c ++ d)) where
    join-wrote : Wrote m top b u P → Wrote b u b' u' Q → Wrote m top b' u' R
    join-wrote (wrote c e p) (wrote d g q) = wrote (c ++ d) (g ∙ ap (λ (l : List ℕ). l ++ d) e ∙ append_assoc (take top m) c d) (f c d p q)

    -- one after the other
    pub grown-then : Grown m top b u P → Grown b u b' u' Q → Grown m top b' u' R
    grown-then (grown (keeps l e) t w) (grown k s v) =
        grown (keeps_then m top b u b' t (keeps l e) k) (omega (arith, t, s)) (λ h. join-wrote (w (omega (arith, s, h))) (v (omega (arith, h, l))))

-- nothing
pub grown-none : (m : List ℕ) (top : ℕ) (P : List ℕ → Type 0) → P [] → Grown m top m top P
grown-none m top P p = grown (keeps_self m top) (omega arith) (λ h. wrote [] (sym (append-none (take top m))) p)

module _ (m : List ℕ) (top op at : ℕ) (small : op < 64) (near : at < 65536) where
  slot-entry : slot_of op at ≡ entry op at
  unfolding slot_of
  slot-entry = simp (lt-leb _ _ near, lt-leb _ _ small)

  -- one entry
  pub grown-put : Grown m top (put m top op at) (above m top) (λ c. c ≡ entry op at ∷ [])
  unfolding put above
  grown-put =
      split (leb (length m) top)
      (λ e. rw e (grown (keeps_self m top) (omega arith) (λ h. absurd (let no : ⊥ = omega (arith, h, leb-true (length m) top e) in no))))
      (λ e. rw (e, slot-entry) (grown (keeps (length-set m top (entry op at)) (take_below m top (entry op at))) (omega arith)
      (λ h. wrote (entry op at ∷ []) (ap (λ (k : ℕ). take k (set m top (entry op at))) (add-one top) ∙ take-set m top (entry op at) (leb-false (length m) top e)) refl)))
