-- Principals and their one equality: that of their canonical forms. What is said of principals elsewhere goes by `same` and its laws, never by
-- equality of bytes. Assumes nothing.
use Rattle.std.specs.Prelude.{◌≡◌, true, List, ℕ, length}
use Rattle.std.proofs.Common.{sym, ap, ◌∙◌, arith}
use Rattle.principal.specs.Canonical.{front, canonical}
use Rattle.principal.specs.Theorems.Canonical.{behind-cases, canonical-plain, parts-long}
use Rattle.principal.proofs.Theorems.Canonical.{canonical-front, canonical-long}
use Rattle.principal.specs.Principal.{Principal, policy, policy-front, policy-long, policy-plain, same, same-canonical}

pub policy-alone : (p : Principal) → same policy p ≡ true → p ≡ policy
policy-alone p e =
    let c : policy ≡ canonical p = sym policy-plain ∙ same-canonical policy p e in
    behind-cases p
    (λ h. sym (c ∙ canonical-plain p h))
    (λ r h.
    let f : length (front policy) ≡ length (front p) = ap (λ (x : List ℕ). length (front x)) c ∙ canonical-front p in
    let l : length policy ≡ length p = ap length c ∙ canonical-long p in
    let no : ⊥ = omega (arith, f, l, policy-front, policy-long, parts-long p, ap length h) in absurd no)
