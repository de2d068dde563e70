-- Passing to oneself within what is held changes nothing. Assumes nothing.
use Rattle.std.specs.Prelude.{◌≡◌, true, List, ℕ, ◌+◌, ◌-◌, ◌≤◌}
use Rattle.std.proofs.Common.{ap, ◌∙◌, arith}
use Rattle.register.specs.Entries.{Entry, held, Contents, known, moves_of, replaced, gained, lost}
use Rattle.register.specs.Calls.{passes, effect}
use Rattle.register.specs.Theorems.Entries.{moves-replaced, replaced-again, replaced-same}

pub gained-lost : (x n : ℕ) (es : List Entry) → known x es ≡ true → n ≤ moves_of x es → gained x n (lost x n es) ≡ es
gained-lost x n es h b =
    let m : moves_of x (lost x n es) + n ≡ moves_of x es = omega (arith, moves-replaced x (moves_of x es - n) es h) in
    ap (λ (k : ℕ). replaced x (held x k) (lost x n es)) m ∙ replaced-again x (moves_of x es - n) (held x (moves_of x es)) es
    ∙ replaced-same x es

-- "passing to oneself within what is held changes nothing"
pub pass-oneself : (r : Contents) (x n : ℕ) → known x r.entries ≡ true → n ≤ moves_of x r.entries → effect r (passes x x n) ≡ r
unfolding effect
pass-oneself r x n h b = ap (λ (l : List Entry). record { entries = l; issued = r.issued }) (gained-lost x n r.entries h b)
