-- Working laws: the ways out of `pair_at` and `counted`. Assumes nothing.
use Rattle.std.specs.Prelude.{◌≡◌, List, [], ℕ, ◌+◌, ◌-◌, ◌*◌, ◌<◌, ◌≤◌, get_or, take, drop}
use Rattle.std.proofs.Math.Path.{sym}
use native.Mathlib.Omega.{arith}
use Rattle.std.proofs.Math.ListN.{length, get_or-eq_default}
use borrow.Author.Tests.{lt-ltb, le-ltb}
use Rattle.text.specs.Counted.{part, pair_at, counted}

module _ (s : List ℕ) (at : ℕ) where
  pub pair-none : length s ≤ at → 0 ≡ pair_at s at
  unfolding pair_at
  pair-none h =
      let z : length s ≤ at + 1 = omega arith in
      rw (get_or-eq_default s 0 h, get_or-eq_default s 0 z)

  module _ (h : at < length s) (a : ℕ) (ae : a ≡ get_or s at 0) where
    pub pair-half : length s - at ≤ 1 → a * 256 ≡ pair_at s at
    unfolding pair_at
    pair-half k =
        let z : length s ≤ at + 1 = omega arith in
        rw (ae, get_or-eq_default s 0 z) (omega arith)

    pub pair-whole : (b : ℕ) → b ≡ get_or s (at + 1) 0 → a * 256 + b ≡ pair_at s at
    unfolding pair_at
    pair-whole b be = rw (ae, be)

  pub counted-low : at < 2 → [] ≡ counted s at
  unfolding counted
  counted-low h = simp (lt-ltb _ _ h)

  module _ (two : 2 ≤ at) where
    pub counted-past : length s < at → [] ≡ counted s at
    unfolding counted
    counted-past h = simp (le-ltb _ _ two, lt-ltb _ _ h)

    module _ (in-s : at ≤ length s) (n : ℕ) (ne : n ≡ pair_at s (at - 2)) where
      pub counted-short : length s - at < n → [] ≡ counted s at
      unfolding counted
      counted-short h = simp (le-ltb _ _ two, le-ltb _ _ in-s, sym ne, lt-ltb _ _ h)

      pub counted-whole : n ≤ length s - at → take (at + n - at) (drop at s) ≡ counted s at
      unfolding counted part
      counted-whole h =
          let z : at + n - at ≡ n = omega arith in
          rw z (simp (le-ltb _ _ two, le-ltb _ _ in-s, sym ne, le-ltb _ _ h))
