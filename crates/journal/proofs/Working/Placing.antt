-- What stores do to a page, place by place. Assumes nothing.
use Rattle.std.specs.Prelude.{◌≡◌, List, ℕ, zero, suc, ◌+◌, ◌-◌, ◌<◌, ◌≤◌, length, get_or, set, take, ltb}
use Rattle.std.proofs.Common.{◌∙◌, arith, length-set, get_or-set_same, ltb-true, ltb-false}
use Rattle.text.specs.Choice.{split}
use Rattle.journal.specs.Stores.{stored, cleared}
use Rattle.journal.specs.Working.Placing.{cleared-high}

pub cleared-in : (p : List ℕ) (k n at i : ℕ) → k ≤ n → at + n ≤ length p → at + n - k ≤ i → i < at + n
    → get_or (stored p (take k (cleared n at))) i 0 ≡ 0
unfolding stored cleared
cleared-in p zero n at i h l a b = let no : ⊥ = omega arith in absurd no
cleared-in p (suc k) zero at i h l a b = let no : ⊥ = omega arith in absurd no
cleared-in p (suc k) (suc n) at i h l a b =
    let m : at + n ≤ length (set p (at + n) 0) = rw (length-set p (at + n) 0) (omega arith) in
    split (ltb i (at + n))
    (λ e. cleared-in (set p (at + n) 0) k n at i (omega arith) m (omega arith) (ltb-true i (at + n) e))
    (λ e. let g : i ≡ at + n = omega (arith, ltb-false i (at + n) e) in
    cleared-high (set p (at + n) 0) k n at i (omega arith) ∙ (rw g (get_or-set_same p (at + n) 0 0 (omega arith))))
