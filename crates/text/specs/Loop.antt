-- A `while` loop as a definition. `f` is one turn: it goes on at a new state, or is done with an answer. `μ` is the measure: a turn
-- that does not make it less ends the loop with `out`. So no loop needs a proof that it ends, and three laws are all that a proof uses.
-- Assumes nothing.
use Rattle.std.specs.Prelude.{◌≡◌, Bool, true, false, ltb}
use Rattle.std.proofs.Math.Path.{refl}
use Rattle.std.proofs.Common.{arith, not-suc-le-zero}
use Prim.Native.Nat.{ℕ, zero, suc, ◌<◌, ◌≤◌}
use borrow.Author.Tests.{ltb-true, lt-ltb, le-ltb}
use Rattle.text.specs.Choice.{pick, pick-if}

pub data Step (X R : Type 0) : Type 0 where
  next : X → Step X R
  done : R → Step X R

module _ {X R : Type 0} (μ : X → ℕ) (out : X → R) (f : X → Step X R) where
  abbrev pub after : (X → R) → X → Step X R → R
  after k x (next y) = pick (ltb (μ y) (μ x)) (k y) (out x)
  after k x (done r) = r

  unfoldable pub turns : ℕ → X → R
  turns zero x = out x
  turns (suc n) x = after (turns n) x (f x)

  unfoldable pub loop : X → R
  loop x = turns (suc (μ x)) x

  after_same : (n m : ℕ) (x : X) (st : Step X R) → ((y : X) → μ y < μ x → turns n y ≡ turns m y) → after (turns n) x st ≡ after (turns m) x st
  after_same n m x (done r) h = refl
  after_same n m x (next y) h = pick-if (ltb (μ y) (μ x)) (out x) (λ e. h y (ltb-true _ _ e))

  same : (n m : ℕ) (x : X) → μ x < n → μ x < m → turns n x ≡ turns m x
  unfolding turns
  same zero m x h k = absurd (not-suc-le-zero h)
  same (suc n) zero x h k = absurd (not-suc-le-zero k)
  same (suc n) (suc m) x h k = after_same n m x (f x) (λ y l. same n m y (omega arith) (omega arith))

  pub loop-next : (x y : X) → f x ≡ next y → μ y < μ x → loop x ≡ loop y
  unfolding loop turns
  loop-next x y e l = rw (e, lt-ltb _ _ l) (same (μ x) (suc (μ y)) y l (omega arith))

  pub loop-done : (x : X) (r : R) → f x ≡ done r → loop x ≡ r
  unfolding loop turns
  loop-done x r e = rw e

  pub loop-stuck : (x y : X) → f x ≡ next y → μ x ≤ μ y → loop x ≡ out x
  unfolding loop turns
  loop-stuck x y e l = rw (e, le-ltb _ _ l)

  -- what holds of each answer holds of the loop's
  module _ (P : X → R → Type 0) (p-out : (x : X) → P x (out x)) (p-done : (x : X) (r : R) → f x ≡ done r → P x r)
      (p-next : (x y : X) (r : R) → f x ≡ next y → μ y < μ x → P y r → P x r) where
    ind-pick : (n : ℕ) (x y : X) → f x ≡ next y → ((z : X) → P z (turns n z)) → (b : Bool) → ltb (μ y) (μ x) ≡ b → P x (pick b (turns n y) (out x))
    ind-pick n x y e h true l = p-next x y _ e (ltb-true _ _ l) (h y)
    ind-pick n x y e h false l = p-out x

    ind-after : (n : ℕ) (x : X) (st : Step X R) → f x ≡ st → ((z : X) → P z (turns n z)) → P x (after (turns n) x st)
    ind-after n x (next y) e h = ind-pick n x y e h (ltb (μ y) (μ x)) refl
    ind-after n x (done r) e h = p-done x r e

    ind-turns : (n : ℕ) (x : X) → P x (turns n x)
    unfolding turns
    ind-turns zero x = p-out x
    ind-turns (suc n) x = ind-after n x (f x) refl (ind-turns n)

    pub loop-ind : (x : X) → P x (loop x)
    unfolding loop
    loop-ind x = ind-turns (suc (μ x)) x
