-- Working laws: the largest float up to x / c, with the rest, says which pattern is nearest: it stays (`keeps`) or goes one up (`steps`). Assumes nothing.
use Rattle.std.specs.Prelude.{◌≡◌, ◌⊎◌, ℕ, ◌+◌, ◌-◌, ◌*◌, ◌%◌, ◌^◌, ◌≤◌, ◌<◌}
use Rattle.std.proofs.Common.{sym, ap, ◌∙◌, subst, inl, inr, mul-lt-mul_of_pos_right, add-mul, one-mul, le_of_lt, arith}
use Rattle.float.specs.Working.Patterns.{val_at, val-lt, split}
use Rattle.float.specs.Nearest.{val, apart, Nearest}

-- q * 2 ^ k is the largest float up to x / c, and the next one is (q + 1) * 2 ^ k
module _ (x c k q : ℕ) (C : 0 < c) (few : q < 16777216) (full : (8388608 ≤ q) ⊎ (k ≡ 0)) (lo : q * 2 ^ k * c ≤ x) (hi : x < (q + 1) * 2 ^ k * c) where
  this : val (k * 8388608 + q) * c ≡ q * 2 ^ k * c
  this = ap (λ (v : ℕ). v * c) (val_at k q (le_of_lt few) full)

  still : (8388608 ≤ q) ⊎ (k ≡ 0) → (8388608 ≤ q + 1) ⊎ (k ≡ 0)
  still (inl l) = inl (omega arith)
  still (inr z) = inr z

  next-b : k * 8388608 + (q + 1) ≡ k * 8388608 + q + 1
  next-b = omega arith

  next : val (k * 8388608 + q + 1) * c ≡ (q + 1) * 2 ^ k * c
  next = ap (λ (v : ℕ). val v * c) (sym next-b) ∙ ap (λ (v : ℕ). v * c) (val_at k (q + 1) (omega arith) (still full))

  gap : (q + 1) * 2 ^ k * c ≡ q * 2 ^ k * c + 2 ^ k * c
  gap = ap (λ (v : ℕ). v * c) (add-mul q 1 (2 ^ k)) ∙ add-mul (q * 2 ^ k) (1 * 2 ^ k) c ∙ ap (λ (v : ℕ). q * 2 ^ k * c + v * c) (one-mul (2 ^ k))

  -- where another pattern's value lies
  data At (d : ℕ) : Type 0 where
    less : d < k * 8388608 + q → val d * c < q * 2 ^ k * c → At d
    here : d ≡ k * 8388608 + q → val d * c ≡ q * 2 ^ k * c → At d
    there : d ≡ k * 8388608 + q + 1 → val d * c ≡ (q + 1) * 2 ^ k * c → At d
    more : k * 8388608 + q + 1 < d → (q + 1) * 2 ^ k * c < val d * c → At d

  at : (d : ℕ) → At d
  at d = elim (split d (k * 8388608 + q)) [
    | inl h ↦ less h (subst (λ (v : ℕ). val d * c < v) this (mul-lt-mul_of_pos_right (val-lt d (k * 8388608 + q) h) C))
    | inr g ↦ elim (split (k * 8388608 + q + 1) d) [
      | inl h ↦ more h (subst (λ (v : ℕ). v < val d * c) next (mul-lt-mul_of_pos_right (val-lt (k * 8388608 + q + 1) d h) C))
      | inr l ↦ elim (split (k * 8388608 + q) d) [
        | inl h ↦ let e : d ≡ k * 8388608 + q + 1 = omega arith in there e (ap (λ (v : ℕ). val v * c) e ∙ next)
        | inr h ↦ let e : d ≡ k * 8388608 + q = omega arith in here e (ap (λ (v : ℕ). val v * c) e ∙ this)
      ]
    ]
  ]

  -- the pattern q stays where the rest is below half, or half with q even
  pub keeps : ((x - q * 2 ^ k * c) * 2 < 2 ^ k * c) ⊎ (((x - q * 2 ^ k * c) * 2 ≡ 2 ^ k * c) × (q % 2 ≡ 0)) → Nearest x c (k * 8388608 + q)
  keeps r = record { near = λ d. n d (at d) r; even = λ d ne e. v d (at d) r ne e }
    where
      n : (d : ℕ) → At d → ((x - q * 2 ^ k * c) * 2 < 2 ^ k * c) ⊎ (((x - q * 2 ^ k * c) * 2 ≡ 2 ^ k * c) × (q % 2 ≡ 0)) → apart x (val (k * 8388608 + q) * c) ≤ apart x (val d * c)
      n d (less a b) r = omega (arith, this, gap)
      n d (here a b) r = omega (arith, this, gap)
      n d (there a b) (inl r) = omega (arith, this, gap)
      n d (there a b) (inr r) = omega (arith, this, gap, r.0)
      n d (more a b) (inl r) = omega (arith, this, gap)
      n d (more a b) (inr r) = omega (arith, this, gap, r.0)

      v : (d : ℕ) → At d → ((x - q * 2 ^ k * c) * 2 < 2 ^ k * c) ⊎ (((x - q * 2 ^ k * c) * 2 ≡ 2 ^ k * c) × (q % 2 ≡ 0)) → (d ≡ k * 8388608 + q → ⊥) → apart x (val (k * 8388608 + q) * c) ≡ apart x (val d * c) → (k * 8388608 + q) % 2 ≡ 0
      v d w (inr r) ne e = let p : q % 2 ≡ 0 = r.1 in omega arith
      v d (less a b) (inl r) ne e = let no : ⊥ = omega (arith, this, gap) in absurd no
      v d (here a b) (inl r) ne e = absurd (ne a)
      v d (there a b) (inl r) ne e = let no : ⊥ = omega (arith, this, gap) in absurd no
      v d (more a b) (inl r) ne e = let no : ⊥ = omega (arith, this, gap) in absurd no

  -- and the next one is nearest where it is above half, or half with q odd
  pub steps : (2 ^ k * c < (x - q * 2 ^ k * c) * 2) ⊎ (((x - q * 2 ^ k * c) * 2 ≡ 2 ^ k * c) × (q % 2 ≡ 1)) → Nearest x c (k * 8388608 + (q + 1))
  steps r = subst (λ (b : ℕ). Nearest x c b) (sym next-b) (record { near = λ d. n d (at d) r; even = λ d ne e. v d (at d) r ne e })
    where
      n : (d : ℕ) → At d → (2 ^ k * c < (x - q * 2 ^ k * c) * 2) ⊎ (((x - q * 2 ^ k * c) * 2 ≡ 2 ^ k * c) × (q % 2 ≡ 1)) → apart x (val (k * 8388608 + q + 1) * c) ≤ apart x (val d * c)
      n d (less a b) (inl r) = omega (arith, next, gap)
      n d (less a b) (inr r) = omega (arith, next, gap, r.0)
      n d (here a b) (inl r) = omega (arith, next, gap)
      n d (here a b) (inr r) = omega (arith, next, gap, r.0)
      n d (there a b) r = omega (arith, next, gap)
      n d (more a b) r = omega (arith, next, gap)

      v : (d : ℕ) → At d → (2 ^ k * c < (x - q * 2 ^ k * c) * 2) ⊎ (((x - q * 2 ^ k * c) * 2 ≡ 2 ^ k * c) × (q % 2 ≡ 1)) → (d ≡ k * 8388608 + q + 1 → ⊥) → apart x (val (k * 8388608 + q + 1) * c) ≡ apart x (val d * c) → (k * 8388608 + q + 1) % 2 ≡ 0
      v d w (inr r) ne e = let p : q % 2 ≡ 1 = r.1 in omega arith
      v d (less a b) (inl r) ne e = let no : ⊥ = omega (arith, next, gap) in absurd no
      v d (here a b) (inl r) ne e = let no : ⊥ = omega (arith, next, gap) in absurd no
      v d (there a b) (inl r) ne e = absurd (ne a)
      v d (more a b) (inl r) ne e = let no : ⊥ = omega (arith, next, gap) in absurd no
