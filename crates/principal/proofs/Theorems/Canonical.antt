-- Laws of folding and of the canonical form: it has the identifier's length and its first ":" where that has it. Assumes nothing.
use Rattle.std.specs.Prelude.{◌≡◌, List, ◌++◌, ℕ, ◌+◌, length}
use Rattle.std.proofs.Common.{sym, ap, ◌∙◌, arith, length-append}
use Rattle.text.specs.Choice.{pick}
use Rattle.principal.specs.Canonical.{folded, front, behind, is_hex, canonical}
use Rattle.principal.specs.Theorems.Canonical.{behind-cases, canonical-key, canonical-plain, folded-append, folded-folded, folded-long, front-behind, front-join, parts-long, tail, tail-folded, tail-long, tail-starts}

pub canonical-front : (p : List ℕ) → length (front (canonical p)) ≡ length (front p)
canonical-front p = behind-cases p
    (λ e. ap (λ (x : List ℕ). length (front x)) (canonical-plain p e))
    (λ r e. ap (λ (x : List ℕ). length (front x)) (canonical-key p r e ∙ ap (λ (x : List ℕ). folded (front p) ++ x) (tail-starts p r e))
    ∙ ap length (front-join p (pick (is_hex (folded (front p))) (folded r) r)) ∙ folded-long (front p))

pub canonical-long : (p : List ℕ) → length (canonical p) ≡ length p
canonical-long p = behind-cases p
    (λ e. ap length (canonical-plain p e))
    (λ r e. ap length (canonical-key p r e) ∙ length-append (folded (front p)) (tail p) ∙ (let z : length (folded (front p)) + length (tail p) ≡ length p = omega (arith, folded-long (front p), tail-long p, parts-long p) in z))

-- folding forgets all that the canonical form does
pub folded-canonical : (p : List ℕ) → folded (canonical p) ≡ folded p
folded-canonical p = behind-cases p
    (λ e. ap folded (canonical-plain p e))
    (λ r e. ap folded (canonical-key p r e) ∙ folded-append (folded (front p)) (tail p)
    ∙ ap (λ (x : List ℕ). x ++ folded (tail p)) (folded-folded (front p)) ∙ ap (λ (x : List ℕ). folded (front p) ++ x) (tail-folded p)
    ∙ sym (folded-append (front p) (behind p)) ∙ ap folded (front-behind p))
