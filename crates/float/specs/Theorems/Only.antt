-- One pattern at most is nearest. Assumes nothing.
use Rattle.std.specs.Prelude.{◌≡◌, ℕ, ◌+◌, ◌*◌, ◌≤◌, ◌<◌}
use Rattle.std.proofs.Common.{sym, inl, inr, mul-lt-mul_of_pos_right, le_antisymm, arith}
use Rattle.float.specs.Working.Patterns.{val-lt, val-up, split}
use Rattle.float.specs.Nearest.{val, apart, Nearest}

module _ (x c : ℕ) (C : 0 < c) where
  between : (y m z : ℕ) → y < m → m < z → apart x y ≡ apart x z → apart x y ≤ apart x m → ⊥
  between y m z a b e n = omega arith

  apart-two : (b d : ℕ) → Nearest x c b → Nearest x c d → b < d → ⊥
  apart-two b d n m h =
      let e : apart x (val b * c) ≡ apart x (val d * c) = le_antisymm (n.near d) (m.near b) in
      let p = n.even d (λ z. lose z) e in
      let r = m.even b (λ z. lose (sym z)) (sym e) in
      let g : b + 1 < d = omega arith in
      between (val b * c) (val (b + 1) * c) (val d * c) (mul-lt-mul_of_pos_right (val-up b) C) (mul-lt-mul_of_pos_right (val-lt (b + 1) d g) C) e (n.near (b + 1))
    where
      lose : d ≡ b → ⊥
      lose z = omega arith

  pub only : (b d : ℕ) → Nearest x c b → Nearest x c d → b ≡ d
  only b d n m = elim (split b d) [
    | inl h ↦ absurd (apart-two b d n m h)
    | inr g ↦ elim (split d b) [ inl h ↦ absurd (apart-two d b m n h) | inr l ↦ le_antisymm l g ]
  ]
