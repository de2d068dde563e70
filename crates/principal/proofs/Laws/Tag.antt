-- A number that a principal has however it is written, and few others have, so that a search can pass those by. Assumes nothing.
use Rattle.std.specs.Prelude.{◌≡◌, true, length}
use Rattle.std.proofs.Math.Path.{refl, sym, ap}
use Rattle.std.proofs.Common.{◌∙◌}
use mathlib.Core.List.{List}
use Prim.Native.Nat.{ℕ, zero, suc, ◌+◌, ◌-◌, ◌/◌, ◌%◌}
use Rattle.std.proofs.Math.ListN.{get_or}
use Rattle.principal.specs.Canonical.{folded, canonical}
use Rattle.principal.specs.Theorems.Canonical.{folded-long}
use Rattle.principal.proofs.Theorems.Canonical.{folded-canonical}
use Rattle.principal.specs.Principal.{Principal, same, same-canonical}
use Rattle.principal.specs.Tag.{bulk, caseless, fold-plain, folded-at, group, mixed, mixed_with, plain, tag}

-- what the folded bytes have in common
module _ (p q : Principal) (e : folded p ≡ folded q) where
  same_length : length p ≡ length q
  same_length = sym (folded-long p) ∙ ap length e ∙ folded-long q

  caseless-folded : (i : ℕ) → caseless p i ≡ caseless q i
  unfolding caseless
  caseless-folded i =
      sym (fold-plain (get_or p i 0)) ∙ ap plain (sym (folded-at p i) ∙ ap (λ (x : List ℕ). get_or x i 0) e ∙ folded-at q i) ∙ fold-plain (get_or q i 0)

  group-folded : (i : ℕ) → group p i ≡ group q i
  unfolding group
  group-folded i = rw (caseless-folded i, caseless-folded (i + 1), caseless-folded (i + 2), caseless-folded (i + 3))

  mixed-folded : (k i h : ℕ) → mixed_with p k i h ≡ mixed_with q k i h
  unfolding mixed_with
  mixed-folded zero i h = refl
  mixed-folded (suc k) i h = rw (group-folded i) (mixed-folded k (i + 4) (mixed h (group q i)))

  bulk-folded : bulk p ≡ bulk q
  unfolding bulk
  bulk-folded =
      rw (
        same_length,
        mixed-folded (length q / 4) 0 (length q % 4294967296),
        mixed-folded 8 0 (length q % 4294967296),
        mixed-folded 8 (length q - 32) (mixed_with q 8 0 (length q % 4294967296)),
      )

  tag-folded : tag p ≡ tag q
  unfolding tag
  tag-folded = rw (bulk-folded, same_length, group-folded (length q - 4))

-- and so it is a tag of the canonical form
pub tag-canonical : (p : Principal) → tag (canonical p) ≡ tag p
tag-canonical p = tag-folded (canonical p) p (folded-canonical p)

-- equal principals share the tag
pub same_tag : (p q : Principal) → same p q ≡ true → tag p ≡ tag q
same_tag p q e = sym (tag-canonical p) ∙ ap tag (same-canonical p q e) ∙ tag-canonical q
