-- Tables that represent a system: their flags are the reach. Assumes nothing.
use Rattle.std.specs.Prelude.{◌≡◌, Bool, eqb, get_or, set, replicate}
use Rattle.std.proofs.Math.Path.{refl, ap}
use Rattle.std.proofs.Common.{sym, ◌∙◌, arith}
use Rattle.std.proofs.Math.Bool.{true, false}
use Rattle.std.proofs.Math.Option.{some}
use mathlib.Core.List.Memᴰ.{head as here}
use mathlib.Core.List.Memᴰ.{tail as there}
use mathlib.Core.List.{List, [], ◌∷◌, ◌++◌, map, Memᴰ as Mem}
use Prim.Native.Nat.{ℕ, zero, suc, ◌+◌, ◌≤◌, ◌<◌}
use Rattle.std.proofs.Math.ListN.{length, get_elem?}
use borrow.Author.Tests.{eqb-true, eqb-false, le-ltb}
use Rattle.text.specs.Choice.{pick, split, clash, bool_iff}
use Rattle.principal.specs.Principal.{Principal}
use Rattle.principal.specs.Members.{member, member-same}
use Rattle.compliance.specs.Licensees.{Rank}
use Rattle.compliance.specs.System.{Assertion}
use Rattle.compliance.specs.Codes.{top_code}
use Rattle.compliance.specs.Theorems.Index.{Even, map_same}
use Rattle.compliance.specs.Working.Reach.{marked, marked_all, open_at, open_from}
use Rattle.compliance.specs.Working.Solve.{blank}

-- ---- elements by their number

pub at_mem : (l : List Assertion) (j : ℕ) (a : Assertion) → get_elem? l j ≡ some a → Mem a l
at_mem [] j a e = absurd (let z : ◌≡◌ {A = ℕ} 0 1 = cc in omega arith)
at_mem (x ∷ l) zero a e = let z : a ≡ x = cc in here z
at_mem (x ∷ l) (suc j) a e = there (at_mem l j a e)

pub at_some : {X : Type 0} (l : List Assertion) (j : ℕ) → j < length l → ((a : Assertion) → get_elem? l j ≡ some a → X) → X
at_some [] j h k = absurd (omega arith)
at_some (x ∷ l) zero h k = k x refl
at_some (x ∷ l) (suc j) h k = at_some l j (omega arith) k

pub mem-at : {X : Type 0} {l : List Assertion} {a : Assertion} → Mem a l → ((j : ℕ) → get_elem? l j ≡ some a → j < length l → X) → X
mem-at {X = X} {l = l} {a = a} m k = go l m k
  where
    go : (l : List Assertion) → Mem a l → ((j : ℕ) → get_elem? l j ≡ some a → j < length l → X) → X
    go l (here e) k = k 0 (ap some (sym e)) (omega arith)
    go l (there {xs = n} m) k = go n m (λ j e h. k (suc j) e (omega arith))

-- ---- flags

-- 1 for each principal of the list
unfoldable pub flagged : List Principal → Rank
flagged l q = pick (member q l) 1 0

pub flag-on : (l : List Principal) (p : Principal) → member p l ≡ true → flagged l p ≡ 1
unfolding flagged
flag-on l p e = rw e

pub flag_off : (l : List Principal) (p : Principal) → eqb (flagged l p) 1 ≡ true → member p l ≡ true
unfolding flagged
flag_off l p e = split (member p l) (λ h. h) (λ h. clash (rw h at e) refl)

pub flagged-even : (l : List Principal) → Even (flagged l)
unfolding flagged
flagged-even l p q e = rw (member-same p q l e)

pub flagged-same : (l m names : List Principal) → ((q : Principal) → member q l ≡ true → member q m ≡ true) → ((q : Principal) → member q m ≡ true → member q l ≡ true)
    → map (flagged l) names ≡ map (flagged m) names
unfolding flagged
flagged-same l m names f g = map_same _ _ names (λ q k. rw (bool_iff (member q l) (member q m) (f q) (g q)))

marked-none : (op : ℕ) (f : List ℕ) → top_code ≤ op → marked op f ≡ f
unfolding marked
marked-none op f h = rw (le-ltb op top_code h)

pub marked_append : (a b f : List ℕ) → marked_all (a ++ b) f ≡ marked_all b (marked_all a f)
unfolding marked_all
marked_append [] b f = refl
marked_append (op ∷ a) b f = marked_append a b (marked op f)

-- an instruction at the end that names nobody
pub marked-last : (a : List ℕ) (op : ℕ) (f : List ℕ) → top_code ≤ op → marked_all (a ++ (op ∷ [])) f ≡ marked_all a f
unfolding marked_all
marked-last a op f h = marked_append a (op ∷ []) f ∙ marked-none op (marked_all a f) h

-- ---- how many assertions are still to be expanded

unfoldable pub undone : List Bool → ℕ
undone [] = 0
undone (x ∷ xs) = pick x 0 1 + undone xs

pub undone-set : (d : List Bool) (j : ℕ) → j < length d → get_or d j false ≡ false → suc (undone (set d j true)) ≡ undone d
unfolding undone
undone-set [] j h e = absurd (omega arith)
undone-set (x ∷ d) zero h e = rw e (omega arith)
undone-set (x ∷ d) (suc j) h e = omega (arith, undone-set d j (omega arith) e)

pub undone-none : (d : List Bool) (j : ℕ) → undone d ≡ 0 → j < length d → get_or d j false ≡ true
unfolding undone
undone-none [] j e h = absurd (omega arith)
undone-none (x ∷ d) zero e h = split x (λ t. t) (λ t. let z : 1 + undone d ≡ 0 = rw t at e in absurd (omega arith))
undone-none (x ∷ d) (suc j) e h = undone-none d j (omega arith) (omega arith)

pub undone-blank : (m : ℕ) → undone (replicate m false) ≡ m
unfolding undone
undone-blank zero = refl
undone-blank (suc m) = omega (arith, undone-blank m)

pub blank-length : (m : ℕ) → length (blank m) ≡ m
blank-length zero = refl
blank-length (suc m) = ap suc (blank-length m)

pub blank-at : (m j : ℕ) → get_or (replicate m false) j false ≡ false
blank-at zero j = refl
blank-at (suc m) zero = refl
blank-at (suc m) (suc j) = blank-at m j

pub no_flag : (q : Principal) → flagged [] q ≡ 0
unfolding flagged member
no_flag q = refl

module _ (authors : List ℕ) (done : List Bool) (flags : List ℕ) where
  pub open-found : (k j : ℕ) → open_from authors done flags k j < j + k → open_at authors done flags (open_from authors done flags k j) ≡ true
  unfolding open_from
  open-found zero j h = absurd (omega arith)
  open-found (suc k) j h = split (open_at authors done flags j)
      (λ e. rw (e, e))
      (λ e. let h' : open_from authors done flags k (suc j) < j + suc k = rw e at h in rw e (open-found k (suc j) (omega arith)))

  pub open-rest : (k j : ℕ) → j + k ≤ open_from authors done flags k j → (i : ℕ) → j ≤ i → i < j + k → open_at authors done flags i ≡ false
  unfolding open_from
  open-rest zero j h i l u = absurd (omega arith)
  open-rest (suc k) j h i l u = split (open_at authors done flags j)
      (λ e. let h' : j + suc k ≤ j = rw e at h in absurd (omega arith))
      (λ e. let h' : j + suc k ≤ open_from authors done flags k (suc j) = rw e at h in
      split (eqb j i) (λ q. rw (← eqb-true j i q) e) (λ q. open-rest k (suc j) (omega arith) i (omega (arith, eqb-false j i q)) (omega arith)))

  pub open-parts : (j : ℕ) → open_at authors done flags j ≡ true → (get_or done j false ≡ false) × (eqb (get_or flags (get_or authors j 0) 0) 1 ≡ true)
  unfolding open_at
  open-parts j e = split (get_or done j false) (λ d. clash (rw d at e) refl) (λ d. (d, rw d at e))

  pub open-intro : (j : ℕ) → get_or done j false ≡ false → get_or flags (get_or authors j 0) 0 ≡ 1 → open_at authors done flags j ≡ true
  unfolding open_at
  open-intro j d f = rw (d, f)

  pub open_done : (j : ℕ) → get_or done j false ≡ true → open_at authors done flags j ≡ false
  unfolding open_at
  open_done j e = rw e
