-- Each refusal is given exactly where its reason is there and none tested before it is; else the call is granted. Assumes nothing.
use Rattle.std.specs.Prelude.{◌≡◌, refl, true, false, List, [], ◌∷◌, ℕ, eqb}
use Rattle.std.proofs.Common.{sym, ap, ◌∙◌, arith}
use Rattle.text.specs.Choice.{pick, split}
use Rattle.register.specs.Entries.{Contents}
use Rattle.register.specs.declared.Reason.{Reason}
use Rattle.register.specs.declared.Reason.TheVariants.{DamagedRegister, AmountOutside, UnknownPrincipal, MoreThanHeld, IssueLimit, NoPlace, MovesLeft}
use Rattle.register.specs.Calls.{Call, number, applies, effect, granted, refused, tested, order, called}

-- a reason that is there, while none before it in a list of reasons is
pub data First (r : Contents) (c : Call) (k : Reason) : List Reason → Type 0 where
  here : {j : Reason} {ks : List Reason} → j ≡ k → applies r c k ≡ true → First r c k (j ∷ ks)
  later : {j : Reason} {ks : List Reason} → applies r c j ≡ false → First r c k ks → First r c k (j ∷ ks)

-- none of the reasons is there
pub data None (r : Contents) (c : Call) : List Reason → Type 0 where
  nil : None r c []
  cons : {j : Reason} {ks : List Reason} → applies r c j ≡ false → None r c ks → None r c (j ∷ ks)

-- "Refusals .. have place 0"
pub record Refusal (r : Contents) (c : Call) (ks : List Reason) (n p : ℕ) : Type 0 where
  pub reason : Reason
  pub numbered : n ≡ number reason
  pub place : p ≡ 0
  pub first : First r c reason ks

differ : {P : Type 0} {q : Contents} {n p : ℕ} → granted q ≡ refused n p → P
differ h = let z : ◌≡◌ {A = ℕ} 0 1 = cc in let no : ⊥ = omega arith in absurd no

number_of : {m n p : ℕ} → refused m 0 ≡ refused n p → n ≡ m
number_of h = cc

place_of : {m n p : ℕ} → refused m 0 ≡ refused n p → p ≡ 0
place_of h = cc

granted-of : {q s : Contents} → granted q ≡ granted s → s ≡ q
granted-of h = cc

module _ (r : Contents) (c : Call) where
  further : (j : Reason) (ks : List Reason) (n p : ℕ) → applies r c j ≡ false → Refusal r c ks n p → Refusal r c (j ∷ ks) n p
  further j ks n p f a = record { reason = a.reason; numbered = a.numbered; place = a.place; first = later f a.first }

  refused-tested : (ks : List Reason) (n p : ℕ) → tested ks r c ≡ refused n p → Refusal r c ks n p
  refused-tested [] n p h = differ h
  refused-tested (k ∷ ks) n p h =
      split (applies r c k)
      (λ t. let g : refused (number k) 0 ≡ refused n p = rw t at h in
      record { reason = k; numbered = number_of g; place = place_of g; first = here refl t })
      (λ t. further k ks n p t (refused-tested ks n p (rw t at h)))

  first-tested : (k : Reason) (ks : List Reason) → First r c k ks → tested ks r c ≡ refused (number k) 0
  first-tested k [] x' = elim x' [ ]
  first-tested k (j ∷ ks) (here e t) = rw (e, t) refl
  first-tested k (j ∷ ks) (later t f) = rw t (first-tested k ks f)

  granted-tested : (ks : List Reason) (q : Contents) → tested ks r c ≡ granted q → None r c ks × (q ≡ effect r c)
  granted-tested [] q h = (nil, granted-of h)
  granted-tested (k ∷ ks) q h =
      split (applies r c k) (λ t. let g : refused (number k) 0 ≡ granted q = rw t at h in differ (sym g))
      (λ t. let a = granted-tested ks q (rw t at h) in (cons t a.0, a.1))

  none-tested : (ks : List Reason) → None r c ks → tested ks r c ≡ granted (effect r c)
  none-tested [] nil = refl
  none-tested (k ∷ ks) (cons t a) = rw t (none-tested ks a)

  -- a refusal has a reason, and it is the first that is there
  pub refused-first : (n p : ℕ) → called r c ≡ refused n p → Refusal r c order n p
  unfolding called
  refused-first n p h = refused-tested order n p h

  -- the first reason that is there refuses
  pub first-refused : (k : Reason) → First r c k order → called r c ≡ refused (number k) 0
  unfolding called
  first-refused k f = first-tested k order f

  -- "None is given otherwise"
  pub granted-none : (q : Contents) → called r c ≡ granted q → None r c order × (q ≡ effect r c)
  unfolding called
  granted-none q h = granted-tested order q h

  pub none-granted : None r c order → called r c ≡ granted (effect r c)
  unfolding called
  none-granted a = none-tested order a

-- a number has one reason
unfoldable pub reason_of : ℕ → Reason
reason_of n =
    pick (eqb n 14) AmountOutside
    (pick (eqb n 15) UnknownPrincipal
    (pick (eqb n 16) MoreThanHeld
    (pick (eqb n 17) IssueLimit (pick (eqb n 18) NoPlace (pick (eqb n 19) MovesLeft DamagedRegister)))))

pub reason-of : (k : Reason) → reason_of (number k) ≡ k
unfolding reason_of
reason-of DamagedRegister = refl
reason-of AmountOutside = refl
reason-of UnknownPrincipal = refl
reason-of MoreThanHeld = refl
reason-of IssueLimit = refl
reason-of NoPlace = refl
reason-of MovesLeft = refl

pub one-reason : (j k : Reason) → number j ≡ number k → j ≡ k
one-reason j k e = sym (reason-of j) ∙ ap reason_of e ∙ reason-of k
