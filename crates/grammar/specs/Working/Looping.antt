-- An induction for loops each of whose turns comes nearer to the end, and paths of tokens. Assumes nothing.
use Rattle.std.proofs.Common.{subst, arith, not-suc-le-zero, lt-ltb}
use Rattle.std.specs.Prelude.{List, [], ◌∷◌, ◌++◌}
use Prim.Native.Nat.{ℕ, zero, suc, ◌<◌}
use Rattle.text.specs.Loop.{Step, next, done, after, turns, loop, loop-ind}
use Rattle.lexical.specs.Line.{token_at}
use Rattle.lexical.specs.declared.token.Token.{Token}
use Rattle.grammar.specs.Viable.{Kinds, here, further}

module _ {X R : Type 0} (μ : X → ℕ) (out : X → R) (f : X → Step X R) (P : X → R → Type 0) where
  -- a turn from x: what holds behind it holds at x
  pub data Turned (x : X) : Step X R → Type 0 where
    turned-next : (y : X) → μ y < μ x → ((r : R) → P y r → P x r) → Turned x (next y)
    turned-done : (r : R) → P x r → Turned x (done r)

  turned-after : (n : ℕ) (x : X) (st : Step X R) → Turned x st → ((z : X) → μ z < μ x → P z (turns μ out f n z)) → P x (after μ out f (turns μ out f n) x st)
  turned-after n x _ (turned-next y l h) ih = rw (lt-ltb (μ y) (μ x) l) (h _ (ih y l))
  turned-after n x _ (turned-done r p) ih = p

  module _ (each : (x : X) → Turned x (f x)) where
    turned-turns : (n : ℕ) (x : X) → μ x < n → P x (turns μ out f n x)
    unfolding turns
    turned-turns zero x h = absurd (not-suc-le-zero h)
    turned-turns (suc n) x h = turned-after n x (f x) (each x) (λ z l. turned-turns n z (omega (arith, h, l)))

    pub loop-turned : (x : X) → P x (loop μ out f x)
    unfolding loop
    loop-turned x = turned-turns (suc (μ x)) x (omega arith)

-- the same for loops that may stop short with an answer of which it holds anyway
module _ {X R : Type 0} (μ : X → ℕ) (out : X → R) (f : X → Step X R) (P : X → R → Type 0) where
  pub data Went (x : X) : Step X R → Type 0 where
    went-next : (y : X) → ((r : R) → P y r → P x r) → Went x (next y)
    went-done : (r : R) → P x r → Went x (done r)

  went_on : (x y : X) → Went x (next y) → (r : R) → P y r → P x r
  went_on x y (went-next _ h) = h

  went-out : (x : X) (r : R) → Went x (done r) → P x r
  went-out x r (went-done _ p) = p

  pub loop-went : ((x : X) → P x (out x)) → ((x : X) → Went x (f x)) → (x : X) → P x (loop μ out f x)
  loop-went outs each = loop-ind μ out f P outs (λ x r e. went-out x r (subst (Went x) e (each x))) (λ x y r e l p. went_on x y (subst (Went x) e (each x)) r p)

module _ (s : List ℕ) (mode : ℕ) where
  pub kinds-append : (t u n : Token) (ks ls : List ℕ) → Kinds s mode t ks u → Kinds s mode u ls n → Kinds s mode t (ks ++ ls) n
  kinds-append t _ n _ ls (here _) q = q
  kinds-append t u n _ ls (further _ _ ks p) q = further t n (ks ++ ls) (kinds-append (token_at s mode t.end) u n ks ls p q)

  -- one token more
  pub kinds-one : (t u : Token) (ks : List ℕ) → Kinds s mode t ks u → Kinds s mode t (ks ++ u.kind ∷ []) (token_at s mode u.end)
  kinds-one t u ks p = kinds-append t u (token_at s mode u.end) ks (u.kind ∷ []) p (further u (token_at s mode u.end) [] (here (token_at s mode u.end)))
