-- What entering principals does to the list of them: those that were there stay in front, and each one entered is there. Assumes nothing.
use Rattle.std.specs.Prelude.{◌≡◌, refl, true, ◌+◌, ◌<◌, ◌≤◌, length, get_or}
use Rattle.std.proofs.Common.{sym, ap, ◌∙◌, arith, length-append}
use mathlib.Core.List.Memᴰ.{head as here}
use mathlib.Core.List.Memᴰ.{tail as there}
use mathlib.Core.List.{List, [], ◌∷◌, ◌++◌, append_assoc, append-nil, Memᴰ as Mem}
use Rattle.text.specs.Choice.{pick, split, clash}
use Rattle.principal.specs.Principal.{Principal, same, same_refl}
use Rattle.principal.specs.Members.{member, member-here, member-left, member_right}
use Rattle.principal.specs.Places.{place}
use Rattle.index.specs.Index.{enter, enter_all}

-- what is put behind the others
unfoldable pub fresh : List Principal → Principal → List Principal
fresh names p = pick (member p names) [] (p ∷ [])

pub enter-is : (names : List Principal) (p : Principal) → enter names p ≡ names ++ fresh names p
unfolding enter fresh
enter-is names p = split (member p names) (λ e. rw e (sym (append-nil names))) (λ e. rw e)

unfoldable pub fresh_all : List Principal → List Principal → List Principal
fresh_all names [] = []
fresh_all names (p ∷ ps) = fresh names p ++ fresh_all (enter names p) ps

pub enter-all-is : (names ps : List Principal) → enter_all names ps ≡ names ++ fresh_all names ps
unfolding enter_all fresh_all
enter-all-is names [] = sym (append-nil names)
enter-all-is names (p ∷ ps) =
    enter-all-is (enter names p) ps ∙ ap (λ (x : List Principal). x ++ fresh_all (enter names p) ps) (enter-is names p)
    ∙ append_assoc names (fresh names p) (fresh_all (enter names p) ps)

pub enter-all-append : (names ps qs : List Principal) → enter_all names (ps ++ qs) ≡ enter_all (enter_all names ps) qs
unfolding enter_all
enter-all-append names [] qs = refl
enter-all-append names (p ∷ ps) qs = enter-all-append (enter names p) ps qs

pub enter-length : (names : List Principal) (p : Principal) → length (enter names p) ≤ length names + 1
unfolding enter
enter-length names p = split (member p names) (λ e. rw e (omega arith)) (λ e. rw e (omega (arith, length-append names (p ∷ []))))

pub enter-member : (names : List Principal) (p : Principal) → member p (enter names p) ≡ true
unfolding enter
enter-member names p = split (member p names) (λ e. rw e e) (λ e. rw e (member_right p names (p ∷ []) (member-here p p [] (same_refl p))))

pub enter-all-keeps : (names ps : List Principal) (p : Principal) → member p names ≡ true → member p (enter_all names ps) ≡ true
enter-all-keeps names ps p m = rw (enter-all-is names ps) (member-left p names (fresh_all names ps) m)

-- each one that was entered is a member
pub enter-all-member : (names ps : List Principal) (p : Principal) → Mem p ps → member p (enter_all names ps) ≡ true
unfolding enter_all
enter-all-member names [] p x = elim x [ ]
enter-all-member names (q ∷ ps) p (here e) = rw e (enter-all-keeps (enter names q) ps q (enter-member names q))
enter-all-member names (q ∷ ps) p (there m) = enter-all-member (enter names q) ps p m

-- at the place of a member stands the same principal
pub place_same : (names : List Principal) (p d : Principal) → member p names ≡ true → same p (get_or names (place names p) d) ≡ true
unfolding place member
place_same [] p d e = clash e refl
place_same (q ∷ names) p d e = split (same p q) (λ h. rw (h, h)) (λ h. rw h (place_same names p d (rw h at e)))

pub place-below : (names : List Principal) (p : Principal) → member p names ≡ true → place names p < length names
unfolding place member
place-below [] p e = clash e refl
place-below (q ∷ names) p e =
    split (same p q) (λ h. rw h (omega arith)) (λ h. rw h (let k : member p names ≡ true = rw h at e in omega (arith, place-below names p k)))
