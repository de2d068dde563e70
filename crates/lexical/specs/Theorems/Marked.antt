-- A test of bytes and the table of its answers: what `end_marked` gives is the end by either. Assumes nothing.
use Rattle.std.specs.Prelude.{◌≡◌, refl, Bool, true, false, List, [], ◌∷◌, ℕ, zero, suc, ◌+◌, ◌<◌, get_or, drop, eqb, leb}
use Rattle.std.proofs.Common.{ap, ◌∙◌, sym, arith, get_or-drop}
use borrow.Author.Tests.{ne_eqb}
use Rattle.text.specs.Scan.{run, past}

elements-alike : (p q : ℕ → Bool) (xs : List ℕ) → ((i : ℕ) → p (get_or xs i 0) ≡ q (get_or xs i 0)) → run p xs ≡ run q xs
elements-alike p q [] h = refl
elements-alike p q (x ∷ xs) h = rw (h 0, elements-alike p q xs (λ i. h (suc i))) refl

-- where the table has the test's answer for each byte, runs of bytes end alike
pub marked-alike : (p : ℕ → Bool) (m : List Bool) → ((b : ℕ) → b < 256 → get_or m b false ≡ p b) → (s : List ℕ) → ((i : ℕ) → get_or s i 0 < 256) → (at : ℕ)
    → past (λ b. get_or m b false) s at ≡ past p s at
unfolding past
marked-alike p m f s h at =
    ap (λ (k : ℕ). at + k)
    (elements-alike (λ b. get_or m b false) p (drop at s) (λ i. ap (λ (b : ℕ). get_or m b false) (get_or-drop at s i 0) ∙ f (get_or s (at + i) 0) (h (at + i)) ∙ ap p (sym (get_or-drop at s i 0))))

-- an instance: 0 is marked, and 0 passes
zero-alone : (b : ℕ) → b < 256 → get_or (true ∷ []) b false ≡ eqb b 0
zero-alone zero l = refl
zero-alone (suc b) l = sym (ne_eqb (suc b) 0 (λ z. omega (arith, z)))

bytes : (i : ℕ) → get_or (0 ∷ 0 ∷ 7 ∷ []) i 0 < 256
bytes zero = omega arith
bytes (suc zero) = omega arith
bytes (suc (suc zero)) = omega arith
bytes (suc (suc (suc i))) = omega arith

zeros-marked : past (λ b. get_or (true ∷ []) b false) (0 ∷ 0 ∷ 7 ∷ []) 0 ≡ past (λ b. eqb b 0) (0 ∷ 0 ∷ 7 ∷ []) 0
zeros-marked = marked-alike (λ b. eqb b 0) (true ∷ []) zero-alone (0 ∷ 0 ∷ 7 ∷ []) bytes 0

zeros-end : past (λ b. eqb b 0) (0 ∷ 0 ∷ 7 ∷ []) 0 ≡ 2
unfolding past
zeros-end = refl

-- it fails without the first premise, where the table has no answer for 7, and without the second, where the text has an element that is no byte
seven-lacking : (past (λ b. get_or [] b false) (7 ∷ 7 ∷ []) 0 ≡ 0) × (past (λ b. eqb b 7) (7 ∷ 7 ∷ []) 0 ≡ 2)
unfolding past
seven-lacking = (refl, refl)

no-byte : (past (λ b. get_or [] b false) (300 ∷ []) 0 ≡ 0) × (past (λ b. leb 256 b) (300 ∷ []) 0 ≡ 1)
unfolding past
no-byte = (refl, refl)
