-- Principals and their one equality: that of their canonical forms. What is said of principals elsewhere goes by `same` and its laws, never by
-- equality of bytes. Assumes nothing.
use Rattle.std.specs.Prelude.{◌≡◌, refl, Bool, true, List, [], ◌∷◌, ℕ, length}
use Rattle.std.proofs.Common.{sym, ◌∙◌}
use Rattle.text.specs.Choice.{bool_iff}
use Rattle.text.specs.Equal.{equal, equal-refl, equal-true}
use Rattle.principal.specs.Canonical.{front, behind, canonical_with, canonical}

-- an identifier's bytes
abbrev pub Principal : Type 0
Principal = List ℕ

-- "keys [are] compared in canonical form"
unfoldable pub same : Principal → Principal → Bool
same p q = equal (canonical p) (canonical q)

-- POLICY, the root of every delegation
unfoldable pub policy : Principal
policy = 80 ∷ 79 ∷ 76 ∷ 73 ∷ 67 ∷ 89 ∷ []

pub same_refl : (p : Principal) → same p p ≡ true
unfolding same
same_refl p = equal-refl (canonical p)

pub same-canonical : (p q : Principal) → same p q ≡ true → canonical p ≡ canonical q
unfolding same
same-canonical p q e = equal-true (canonical p) (canonical q) e

pub canonical-same : (p q : Principal) → canonical p ≡ canonical q → same p q ≡ true
unfolding same
canonical-same p q e = rw e (equal-refl (canonical q))

pub same-sym : (p q : Principal) → same p q ≡ true → same q p ≡ true
same-sym p q e = canonical-same q p (sym (same-canonical p q e))

pub same-trans : (p q r : Principal) → same p q ≡ true → same q r ≡ true → same p r ≡ true
same-trans p q r e f = canonical-same p r (same-canonical p q e ∙ same-canonical q r f)

-- POLICY equals only itself
pub policy-plain : canonical policy ≡ policy
unfolding policy canonical canonical_with front behind
policy-plain = refl

pub policy-front : length (front policy) ≡ 6
unfolding policy front
policy-front = refl

pub policy-long : length policy ≡ 6
unfolding policy
policy-long = refl

-- one side of a comparison may be replaced by a principal equal to it
pub same_left : (p q r : Principal) → same p q ≡ true → same p r ≡ same q r
same_left p q r e = bool_iff _ _ (same-trans q p r (same-sym p q e)) (same-trans p q r e)

pub same-right : (p q r : Principal) → same p q ≡ true → same r p ≡ same r q
same-right p q r e = bool_iff _ _ (λ h. same-trans r p q h e) (λ h. same-trans r q p h (same-sym p q e))
