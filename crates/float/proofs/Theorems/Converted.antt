-- Digits over a power of ten become the nearest float. Assumes nothing.
use Rattle.std.proofs.Common.{sym, ◌∙◌, subst, lt_of_lt_of_le, zero-add, lit≤}
use Rattle.std.specs.Prelude.{false, ℕ, ◌*◌, ◌^◌, ◌<◌}
use Rattle.std.specs.Float.{binary32}
use Rattle.std.specs.Float.Ieee.{to_bits}
use Rattle.float.specs.Nearest.{Nearest}
use Rattle.float.specs.Decimal.{decimal}
use Rattle.float.proofs.Theorems.Rounded.{nearest_bits, nearest-is, nearest-small, round-bits}
use Rattle.float.specs.Working.Converting.{ten-pos}

-- "the nearest 32-bit float, ties to even": of the pattern of `decimal false digits scale`, with the sign's bit off and on
pub decimal-nearest : (digits scale : ℕ) → digits < 1000000000000000000 → Nearest (digits * 2 ^ 149) (10 ^ scale) (to_bits binary32 (decimal false digits scale))
unfolding decimal
decimal-nearest digits scale h =
    let C = ten-pos scale in
    let b = nearest_bits digits (10 ^ scale) C in
    let n : Nearest (digits * 2 ^ 149) (10 ^ scale) b = nearest-is digits (10 ^ scale) C in
    let f : b < 2139095040 = nearest-small digits (10 ^ scale) C (lt_of_lt_of_le h (lit≤ tt)) in
    subst (λ (z : ℕ). Nearest (digits * 2 ^ 149) (10 ^ scale) z) (sym (round-bits false digits (10 ^ scale) b C n f ∙ zero-add b)) n
