-- The labels that are left when one is used up, how many principals are entered, and that POLICY is the first. Assumes nothing.
use Rattle.std.specs.Prelude.{◌≡◌, refl, true, List, [], ◌∷◌, ℕ, zero, suc, ◌+◌, ◌≤◌, length, get_or, set}
use Rattle.std.proofs.Common.{◌∙◌, arith}
use Rattle.lexical.specs.Kind
use Rattle.principal.specs.Principal.{Principal, policy, same_refl}
use Rattle.principal.specs.Members.{member, member-none, member-here, member-left}
use Rattle.principal.specs.Places.{place}
use Rattle.compliance.specs.Theorems.Fill.{place-stays}
use Rattle.index.specs.Index.{enter, enter_all}
use Rattle.index.specs.EnterLaws.{enter-length, fresh_all, enter-all-is}
use Rattle.assertion.specs.Labels.{without}

clear-most : (l : List ℕ) (i j : ℕ) → get_or (set l i 0) j 0 ≤ get_or l j 0
clear-most [] i j = omega arith
clear-most (x ∷ l) zero zero = omega arith
clear-most (x ∷ l) zero (suc j) = omega arith
clear-most (x ∷ l) (suc i) zero = omega arith
clear-most (x ∷ l) (suc i) (suc j) = clear-most l i j

pub clear_none : (l : List ℕ) (i : ℕ) → get_or (set l i 0) i 0 ≡ 0
clear_none [] i = refl
clear_none (x ∷ l) zero = refl
clear_none (x ∷ l) (suc i) = clear_none l i

-- no label is left that was not
pub without-most : (free : List ℕ) (k j : ℕ) → get_or (without free k) j 0 ≤ get_or free j 0
unfolding without
without-most free k j = omega (arith, clear-most (set free Kind.KEYNOTE_VERSION 0) k j, clear-most free Kind.KEYNOTE_VERSION j)

-- nor the one that is used up
pub without-none : (free : List ℕ) (k : ℕ) → get_or (without free k) k 0 ≡ 0
unfolding without
without-none free k = clear_none (set free Kind.KEYNOTE_VERSION 0) k

-- at most one more for each that is entered
pub enter-all-length : (names ps : List Principal) → length (enter_all names ps) ≤ length names + length ps
unfolding enter_all
enter-all-length names [] = omega arith
enter-all-length names (p ∷ ps) = omega (arith, enter-all-length (enter names p) ps, enter-length names p)

-- POLICY is first, and stays first
pub record First (names : List Principal) : Type 0 where
  pub known : member policy names ≡ true
  pub at : place names policy ≡ 0

pub first_alone : First (policy ∷ [])
unfolding place
first_alone = record { known = member-here policy policy [] (same_refl policy); at = rw (same_refl policy) }

pub first_more : (names ps : List Principal) → First names → First (enter_all names ps)
first_more names ps f =
    rw (enter-all-is names ps)
    (record { known = member-left policy names (fresh_all names ps) f.known; at = place-stays names (fresh_all names ps) policy f.known ∙ f.at })

-- which it isn't where another one is
pub not_first : First [] → ⊥
not_first f = member-none policy f.known
