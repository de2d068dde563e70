-- A loop whose turns keep what holds. Assumes nothing.
use Rattle.std.specs.Prelude.{ℕ}
use Rattle.text.specs.Loop.{Step, next, done, loop, loop-ind}

pub data Kept {X R : Type 0} (I : X → Type 0) (T : R → Type 0) : Step X R → Type 0 where
  kept_next : (y : X) → I y → Kept I T (next y)
  kept-done : (r : R) → T r → Kept I T (done r)

module _ {X R : Type 0} (μ : X → ℕ) (out : X → R) (f : X → Step X R) (I : X → Type 0) (T : R → Type 0) (outs : (x : X) → T (out x)) (turn : (x : X) → I x → Kept I T (f x)) where
  kept_at : (y : X) → Kept I T (next y) → I y
  kept_at y (kept_next _ h) = h

  kept-with : (r : R) → Kept I T (done r) → T r
  kept-with r (kept-done _ h) = h

  pub loop-keeps : (x : X) → I x → T (loop μ out f x)
  loop-keeps =
      loop-ind μ out f (λ x r. I x → T r) (λ x i. outs x) (λ x r e i. let k : Kept I T (f x) = turn x i in kept-with r (rw e at k))
      (λ x y r e l g i. let k : Kept I T (f x) = turn x i in g (kept_at y (rw e at k)))
