-- Over any sequence of calls from an empty register, the moves held are those issued less those spent, and number 20 is never given.
-- Assumes nothing.
use Rattle.std.specs.Prelude.{◌≡◌, refl, Bool, not, ◌&&◌, List, [], ◌∷◌, ℕ, ◌+◌, ◌≤◌, ltb}
use Rattle.std.proofs.Math.Bool.{true, false}
use native.Mathlib.Omega.{arith}
use Rattle.std.proofs.Math.ListN.{length}
use Rattle.std.proofs.lemmas.List.{length-replicate}
use borrow.Author.Tests.{ltb-false, le-ltb}
use Rattle.text.specs.Choice.{split, clash}
use Rattle.register.specs.Limits.{most_principals, most_moves}
use Rattle.register.specs.Entries.{free, Contents, empty, total, twice}
use Rattle.register.specs.Calls.{Call, issues, passes, spends, removes, damaged, Outcome, granted, refused, called, left}

-- the moves that a call issued and spent: none where it was refused
abbrev pub if_granted : Outcome → ℕ → ℕ
if_granted (granted q) n = n
if_granted (refused k p) n = 0

unfoldable pub issued_by : Contents → Call → ℕ
issued_by r (issues x n) = if_granted (called r (issues x n)) n
issued_by r (passes x y n) = 0
issued_by r (spends x n) = 0
issued_by r (removes x) = 0

unfoldable pub spent_by : Contents → Call → ℕ
spent_by r (issues x n) = 0
spent_by r (passes x y n) = 0
spent_by r (spends x n) = if_granted (called r (spends x n)) n
spent_by r (removes x) = 0

-- "both summed over the granted calls"
unfoldable pub issued_over : Contents → List Call → ℕ
issued_over r [] = 0
issued_over r (c ∷ cs) = issued_by r c + issued_over (left r (called r c)) cs

unfoldable pub spent_over : Contents → List Call → ℕ
spent_over r [] = 0
spent_over r (c ∷ cs) = spent_by r c + spent_over (left r (called r c)) cs

-- a register that number 20's test passes, with 64 places
pub record Sound (r : Contents) : Type 0 where
  pub long : length r.entries ≡ most_principals
  pub once : twice r.entries ≡ false
  pub covered : total r.entries ≤ r.issued
  pub few : r.issued ≤ most_moves

pub sound-passes : (r : Contents) → Sound r → damaged r ≡ false
unfolding damaged
sound-passes r s = rw (s.once, le-ltb _ _ s.covered, le-ltb _ _ s.few) refl

pub passes-sound : (r : Contents) → length r.entries ≡ most_principals → damaged r ≡ false → Sound r
unfolding damaged
passes-sound r e h =
    split (twice r.entries) (λ t. clash (rw t refl) h)
    (λ t. split (ltb r.issued (total r.entries)) (λ u. clash (rw (t, u) refl) h)
    (λ u. split (ltb most_moves r.issued) (λ v. clash (rw (t, u, v) refl) h)
    (λ v. record { long = e; once = t; covered = ltb-false _ _ u; few = ltb-false _ _ v })))

-- what a call that is granted keeps: it passes 20's test again, k more were issued and m spent
pub record Kept (r q : Contents) (k m : ℕ) : Type 0 where
  pub sound : Sound q
  pub balance : total q.entries + m ≡ total r.entries + k
  pub counted : q.issued ≡ r.issued + k

-- a test that failed: what is known then
known-if : (b : Bool) → not b ≡ false → b ≡ true
known-if true h = refl
known-if false h = let z : ◌≡◌ {A = ℕ} 0 1 = cc in let no : ⊥ = omega arith in absurd no

pub room-if : (a b : Bool) → (not a && b) ≡ false → a ≡ false → b ≡ false
room-if true b h e = let z : ◌≡◌ {A = ℕ} 0 1 = cc in let no : ⊥ = omega arith in absurd no
room-if false b h e = h

-- "an empty register"
pub empty-sound : Sound empty
unfolding empty twice total
empty-sound = record { long = length-replicate 64 free; once = refl; covered = omega arith; few = omega arith }

pub empty-total : total empty.entries ≡ 0
unfolding empty total
empty-total = refl

pub empty-issued : empty.issued ≡ 0
unfolding empty
empty-issued = refl
