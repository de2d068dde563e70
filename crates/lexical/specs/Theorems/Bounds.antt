-- The elements of a run, bytes read behind the end, and what holds of a choice. Assumes nothing.
use Rattle.std.specs.Prelude.{◌≡◌, refl, Bool, true, false, List, ℕ, zero, suc, ◌+◌, ◌-◌, ◌≤◌, ◌<◌, ltb, length, get_or}
use Rattle.std.proofs.Common.{sym, arith, ltb-true, ltb-false}
use Rattle.std.proofs.Math.ListN.{get_or-eq_default}
use Rattle.text.specs.Choice.{pick, split}
use Rattle.text.specs.Scan.{past, past_more, past_stop, past_end}

-- what holds of both answers holds of a choice between them
pub chosen : {A : Type 0} (P : A → Type 0) (t : Bool) (a b : A) → (t ≡ true → P a) → (t ≡ false → P b) → P (pick t a b)
chosen P true a b f g = f refl
chosen P false a b f g = g refl

-- each element of a run passes
module _ (p : ℕ → Bool) (s : List ℕ) where
  begun : (i : ℕ) → i < past p s i → (i < length s) × (p (get_or s i 0) ≡ true)
  begun i u =
      split (ltb i (length s))
      (λ e. split (p (get_or s i 0)) (λ t. (ltb-true _ _ e, t)) (λ t. let no : ⊥ = omega (arith, u, past_stop p s i (ltb-true _ _ e) t) in absurd no))
      (λ e. let no : ⊥ = omega (arith, u, past_end p s i (ltb-false _ _ e)) in absurd no)

  inside : (n i k : ℕ) → i + n ≡ k → k < past p s i → p (get_or s k 0) ≡ true
  inside zero i k e u = let z : i ≡ k = omega (arith, e) in rw (sym z) (begun i (omega (arith, u, z))).1
  inside (suc n) i k e u =
      let f : (i < length s) × (p (get_or s i 0) ≡ true) = begun i (omega (arith, e, u)) in
      inside n (i + 1) k (omega (arith, e)) (omega (arith, u, past_more p s i f.0 f.1))

  pub past-inside : (i k : ℕ) → i ≤ k → k < past p s i → p (get_or s k 0) ≡ true
  past-inside i k h u = inside (k - i) i k (omega (arith, h)) u

-- a byte that is not 0 stands within the text
pub byte-within : (s : List ℕ) (i : ℕ) → (get_or s i 0 ≡ 0 → ⊥) → i < length s
byte-within s i n =
    split (ltb i (length s)) (λ e. ltb-true _ _ e) (λ e. absurd (n (get_or-eq_default s 0 (ltb-false _ _ e))))
