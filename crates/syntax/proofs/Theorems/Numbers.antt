-- The numbers of the operations differ and fit an entry. Assumes nothing.
use Rattle.std.specs.Prelude.{◌≡◌, ℕ, get_or}
use Rattle.std.proofs.Common.{sym, ap, ◌∙◌}
use Rattle.syntax.specs.Operation.{Operation, literal, number_of}
use Rattle.syntax.specs.Theorems.Numbers.{listed, operations}

-- operations with one number are one operation
pub numbers-differ : (o p : Operation) → number_of o ≡ number_of p → o ≡ p
numbers-differ o p e = sym (listed o) ∙ ap (λ (n : ℕ). get_or operations n literal) e ∙ listed p
