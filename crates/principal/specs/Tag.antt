-- A number that a principal has however it is written, and few others have, so that a search can pass those by. Assumes nothing.
use Rattle.std.specs.Prelude.{◌≡◌, leb, length}
use Rattle.std.proofs.Math.Path.{refl}
use Rattle.std.proofs.Common.{arith, leb-true}
use mathlib.Core.List.{[], ◌∷◌}
use Prim.Native.Nat.{ℕ, zero, suc, ◌+◌, ◌-◌, ◌*◌, ◌/◌, ◌%◌, ◌<◌, ◌≤◌}
use Rattle.std.proofs.Math.ListN.{get_or}
use Rattle.text.specs.Choice.{pick, split}
use Rattle.principal.specs.Canonical.{fold, folded}
use Rattle.principal.specs.Principal.{Principal}

-- a byte without the bit in which a capital letter differs from its small one
unfoldable pub plain : ℕ → ℕ
plain b = b % 32 + 32 * (b / 64 % 4)

-- the byte at i without case; 0 behind the end
unfoldable pub caseless : Principal → ℕ → ℕ
caseless p i = plain (get_or p i 0)

-- four bytes as one number
unfoldable pub group : Principal → ℕ → ℕ
group p i = caseless p i + 128 * caseless p (i + 1) + 16384 * caseless p (i + 2) + 2097152 * caseless p (i + 3)

-- a number mixed with one more
unfoldable pub mixed : ℕ → ℕ → ℕ
mixed h v = (h * 2654435761 + v) % 4294967296

-- with k groups from byte i on
unfoldable pub mixed_with : Principal → ℕ → ℕ → ℕ → ℕ
mixed_with p zero i h = h
mixed_with p (suc k) i h = mixed_with p k (i + 4) (mixed h (group p i))

-- the length and the bytes; of more than 64 the first and the last 32
unfoldable pub bulk : Principal → ℕ
bulk p =
    pick (leb (length p) 64) (mixed_with p (length p / 4) 0 (length p % 4294967296))
    (mixed_with p 8 (length p - 32) (mixed_with p 8 0 (length p % 4294967296)))

-- 20 bits of it and the last four bytes; a part of the canonical form may keep its case, and then two that differ in it only share a tag
unfoldable pub tag : Principal → ℕ
tag p = mixed (bulk p) (group p (length p - 4)) * 2654435761 / 16777216 % 1048576

pub folded-at : (p : Principal) (i : ℕ) → get_or (folded p) i 0 ≡ fold (get_or p i 0)
unfolding folded fold
folded-at [] i = refl
folded-at (b ∷ p) zero = refl
folded-at (b ∷ p) (suc i) = folded-at p i

pub fold-plain : (b : ℕ) → plain (fold b) ≡ plain b
unfolding fold plain
fold-plain b =
    split (leb 65 b)
    (λ h. split (leb b 90)
    (λ k. let low : 65 ≤ b = leb-true 65 b h in let high : b ≤ 90 = leb-true b 90 k in rw (h, k) (omega (arith, low, high)))
    (λ k. rw (h, k)))
    (λ h. rw h)

pub tag-low : (p : Principal) → tag p < 1048576
unfolding tag
tag-low p = omega arith
