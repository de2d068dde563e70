-- What a loop keeps. Assumes nothing.
use Rattle.std.specs.Prelude.{◌≡◌, Bool, true, false, ℕ}
use Rattle.std.proofs.Common.{subst, arith}
use Rattle.text.specs.Choice.{pick}
use Rattle.text.specs.Loop.{Step, next, done, loop, loop-ind}

module _ {X R : Type 0} (I : X → Type 0) (Q : R → Type 0) where
  pub data Keeps : Step X R → Type 0 where
    k-next : (y : X) → I y → Keeps (next y)
    k-done : (r : R) → Q r → Keeps (done r)

  pub keeps-pick : (b : Bool) {x y : Step X R} → Keeps x → Keeps y → Keeps (pick b x y)
  keeps-pick true f g = f
  keeps-pick false f g = g

  keeps-done : {st : Step X R} → Keeps st → (r : R) → st ≡ done r → Q r
  keeps-done (k-next y i) r e = let z : ◌≡◌ {A = ℕ} 0 1 = cc in absurd (omega arith)
  keeps-done (k-done r' q) r e = let z : r' ≡ r = cc in subst Q z q

  keeps-next : {st : Step X R} → Keeps st → (y : X) → st ≡ next y → I y
  keeps-next (k-next y' i) y e = let z : y' ≡ y = cc in subst I z i
  keeps-next (k-done r q) y e = let z : ◌≡◌ {A = ℕ} 0 1 = cc in absurd (omega arith)

  pub loop-keeps : (μ : X → ℕ) (out : X → R) (f : X → Step X R) → ((x : X) → I x → Q (out x)) → ((x : X) → I x → Keeps (f x)) → (x : X) → I x → Q (loop μ out f x)
  loop-keeps μ out f o k = loop-ind μ out f (λ x r. I x → Q r) o (λ x r e i. keeps-done (k x i) r e) (λ x y r e l h i. h (keeps-next (k x i) y e))
