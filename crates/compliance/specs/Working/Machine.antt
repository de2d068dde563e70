-- The stack machine that runs compiled licensees, in the code's shape, and the ways of its functions. Assumes nothing.
use Rattle.std.specs.Prelude.{◌≡◌, refl, List, [], ◌∷◌, ◌++◌, ℕ, zero, suc, ◌+◌, ◌-◌, ◌/◌, ◌%◌, ◌≤◌, ◌<◌, eqb, ltb, get_or, set, take, drop}
use Rattle.std.proofs.Common.{sym, ap, ◌∙◌, arith, add-one, drop_of_length-le, drop-cons, get_or-take}
use Rattle.std.proofs.Math.ListN.{length, length-set}
use Rattle.std.proofs.Math.Seq.{take-suc-set, length-take-le, take-take}
use borrow.Author.Tests.{lt-ltb, le-ltb, eq-eqb, ne_eqb}
use Rattle.text.specs.Choice.{pick}
use Rattle.compliance.specs.Highest.{highest}
use Rattle.compliance.specs.Codes.{top_code, k_of_base, span}

-- the first sp numbers of the stack are the list
pub record Live (stack : List ℕ) (sp : ℕ) (live : List ℕ) : Type 0 where
  pub within : sp ≤ length stack
  pub holds : take sp stack ≡ live

-- v put on top, where there is room
unfoldable pub pushed : ℕ → List ℕ → ℕ → List ℕ
pushed depth live v = pick (ltb (length live) depth) (live ++ (v ∷ [])) live

-- the topmost n give way to their k-th highest
unfoldable pub combined : ℕ → ℕ → ℕ → List ℕ → List ℕ
combined depth k n live = pushed depth (take (length live - n) live) (highest k (drop (length live - n) live))

-- one instruction
unfoldable pub stepped : List ℕ → ℕ → ℕ → ℕ → List ℕ → List ℕ
stepped ranks top depth op live =
    pick (ltb op top_code) (pushed depth live (get_or ranks op 0))
    (pick (eqb op top_code) (pushed depth live top) (combined depth ((op - k_of_base) / span) ((op - k_of_base) % span) live))

-- a program
unfoldable pub exec : List ℕ → ℕ → ℕ → List ℕ → List ℕ → List ℕ
exec ranks top depth [] live = live
exec ranks top depth (op ∷ ops) live = exec ranks top depth ops (stepped ranks top depth op live)

-- the topmost number
unfoldable pub last_of : List ℕ → ℕ
last_of live = get_or live (length live - 1) 0

-- what a program leaves on top
unfoldable pub worth : List ℕ → ℕ → ℕ → List ℕ → ℕ
worth ranks top depth prog = last_of (exec ranks top depth prog [])

-- ---- the ways

module _ (st : List ℕ) (sp v : ℕ) (w : sp ≤ length st) where
  pub push-in : sp < length st → Live (set st sp v) (sp + 1) (pushed (length st) (take sp st) v)
  unfolding pushed
  push-in h = record {
    within = rw length-set (omega arith);
    holds = rw (add-one sp, take-suc-set st sp v h, length-take-le sp st w, lt-ltb sp (length st) h);
  }

  pub push-full : length st ≤ sp → Live st sp (pushed (length st) (take sp st) v)
  unfolding pushed
  push-full h = record { within = w; holds = rw (length-take-le sp st w, le-ltb sp (length st) h) }

drop-take : (b n : ℕ) (l : List ℕ) → drop b (take n l) ≡ take (n - b) (drop b l)
drop-take zero n l = let e : n - 0 ≡ n = omega arith in rw e
drop-take (suc b) zero l = let e : 0 - suc b ≡ 0 = omega arith in rw e
drop-take (suc b) (suc n) [] = sym (take_none (suc n - suc b))
  where
    take_none : (m : ℕ) → ◌≡◌ {A = List ℕ} (take m []) []
    take_none zero = refl
    take_none (suc m) = refl
drop-take (suc b) (suc n) (x ∷ l) = let e : suc n - suc b ≡ n - b = omega arith in rw e (drop-take b n l)

module _ (st : List ℕ) (sp k n : ℕ) (w : sp ≤ length st) (b : ℕ) (be : b ≡ sp - n) (v : ℕ) (ve : v ≡ highest k (take (sp - b) (drop b st))) where
  pub combine-is : (st' : List ℕ) (r : ℕ) → Live st' r (pushed (length st) (take b st) v) → Live st' r (combined (length st) k n (take sp st))
  unfolding combined
  combine-is st' r l =
      let e : length (take sp st) ≡ sp = length-take-le sp st w in
      record { within = l.within; holds = l.holds ∙ rw (e, ← be, take-take b sp st (omega arith), drop-take b sp st, ← ve) }

module _ (ranks : List ℕ) (top depth op : ℕ) (live : List ℕ) (st : List ℕ) (r : ℕ) where
  pub step-rank : op < top_code → (i v : ℕ) → i ≡ op → v ≡ get_or ranks i 0 → Live st r (pushed depth live v) → Live st r (stepped ranks top depth op live)
  unfolding stepped
  step-rank h i v ie ve l = rw (lt-ltb op top_code h) (rw (ve, ie) at l)

  pub step-top : top_code ≤ op → op ≡ top_code → Live st r (pushed depth live top) → Live st r (stepped ranks top depth op live)
  unfolding stepped
  step-top h e l = rw (le-ltb op top_code h, eq-eqb op top_code e) l

  pub step-combine : top_code ≤ op → (op ≡ top_code → ⊥) → (k n : ℕ) → k ≡ (op - k_of_base) / span → n ≡ (op - k_of_base) % span
      → Live st r (combined depth k n live) → Live st r (stepped ranks top depth op live)
  unfolding stepped
  step-combine h e k n ke ne l = rw (le-ltb op top_code h, ne_eqb op top_code e, ← ke, ← ne) l

-- what is left of a program from i on
unfoldable pub exec_from : List ℕ → ℕ → ℕ → List ℕ → ℕ → List ℕ → List ℕ
exec_from ranks top depth code i live = exec ranks top depth (drop i code) live

pub exec-start : (ranks : List ℕ) (top depth : ℕ) (code st : List ℕ) → exec_from ranks top depth code 0 (take 0 st) ≡ exec ranks top depth code []
unfolding exec_from
exec-start ranks top depth code st = refl

module _ (ranks : List ℕ) (top depth : ℕ) (code : List ℕ) (i : ℕ) (st : List ℕ) (sp : ℕ) (a : List ℕ)
    (inv : exec_from ranks top depth code i (take sp st) ≡ a) where
  pub exec-more : i < length code → length st ≡ depth → (st' : List ℕ) (r : ℕ) → Live st' r (stepped ranks top (length st) (get_or code i 0) (take sp st))
      → exec_from ranks top depth code (i + 1) (take r st') ≡ a
  unfolding exec_from exec
  exec-more h d st' r l = rw (add-one i, l.holds, d) (rw (drop-cons code i 0 h) at inv)

  pub exec-end : length code ≤ i → take sp st ≡ a
  unfolding exec_from exec
  exec-end h = rw (drop_of_length-le code h) at inv

pub worth-is : (ranks : List ℕ) (top depth : ℕ) (code st : List ℕ) (sp i v : ℕ) → sp ≤ length st
    → exec_from ranks top depth code i (take sp st) ≡ exec ranks top depth code [] → length code ≤ i
    → v ≡ last_of (take sp st) → v ≡ worth ranks top depth code
unfolding worth
worth-is ranks top depth code st sp i v w inv h ve = ve ∙ ap last_of (exec-end ranks top depth code i st sp _ inv h)

pub last_none : (st : List ℕ) (sp : ℕ) → sp ≡ 0 → 0 ≡ last_of (take sp st)
unfolding last_of
last_none st sp e = rw e

pub last_some : (st : List ℕ) (sp : ℕ) → sp ≤ length st → (sp ≡ 0 → ⊥) → get_or st (sp - 1) 0 ≡ last_of (take sp st)
unfolding last_of
last_some st sp w n =
    let e : length (take sp st) ≡ sp = length-take-le sp st w in
    let p : sp - 1 < sp = positive sp n in
    rw e (sym (get_or-take sp st (sp - 1) 0 p))
  where
    positive : (m : ℕ) → (m ≡ 0 → ⊥) → m - 1 < m
    positive zero n = absurd (n refl)
    positive (suc m) n = omega arith

-- a program of one principal leaves its rank
pub worth-alone : (ranks : List ℕ) (top depth : ℕ) (code : List ℕ) (i v : ℕ) → length code ≡ 1 → 0 < depth → get_or code 0 0 < top_code
    → i ≡ get_or code 0 0 → v ≡ get_or ranks i 0 → v ≡ worth ranks top depth code
unfolding worth exec stepped pushed last_of
worth-alone ranks top depth [] i v e d h ie ve = absurd (omega arith)
worth-alone ranks top depth (x ∷ []) i v e d h ie ve = rw (lt-ltb x top_code h, lt-ltb 0 depth d) (ve ∙ rw ie)
worth-alone ranks top depth (x ∷ y ∷ xs) i v e d h ie ve = absurd (omega arith)
