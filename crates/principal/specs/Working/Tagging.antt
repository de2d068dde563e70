-- The ways out of the functions that make a tag. Assumes nothing.
use Rattle.std.specs.Prelude.{◌≡◌, refl, get_or}
use Rattle.std.proofs.Math.Path.{subst}
use Rattle.std.proofs.Common.{◌∙◌}
use Prim.Native.Nat.{ℕ, suc, ◌+◌, ◌-◌, ◌*◌, ◌/◌, ◌%◌, ◌<◌, ◌≤◌}
use native.Mathlib.Omega.{arith}
use Rattle.std.proofs.Math.ListN.{length, get_or-eq_default}
use borrow.Author.Tests.{le-leb, lt-leb}
use Rattle.principal.specs.Principal.{Principal}
use Rattle.principal.specs.Tag.{plain, caseless, group, mixed, mixed_with, bulk, tag}

-- `caseless_byte`
pub plain-is : (b : ℕ) → b % 32 + 32 * (b / 64 % 4) ≡ plain b
unfolding plain
plain-is b = refl

pub plain-low : (b : ℕ) → b % 32 + 32 * (b / 64 % 4) < 128
plain-low b = omega arith

-- `byte_or_none`, `byte_at`
pub byte_past : (p : Principal) (i : ℕ) → length p ≤ i → 0 ≡ caseless p i
unfolding caseless plain
byte_past p i h = rw (get_or-eq_default p 0 h)

pub byte-here : (p : Principal) (i x r : ℕ) → x ≡ get_or p i 0 → r ≡ plain x → r ≡ caseless p i
unfolding caseless
byte-here p i x r e re = re ∙ rw e

-- `group_at`
pub group-here : (p : Principal) (i a b c d r : ℕ) → a ≡ caseless p i → b ≡ caseless p (i + 1) → c ≡ caseless p (i + 2) → d ≡ caseless p (i + 3)
    → r ≡ a + 128 * b + 16384 * c + 2097152 * d → r ≡ group p i
unfolding group
group-here p i a b c d r ae be ce de re = re ∙ rw (ae, be, ce, de)

-- `mix`
pub mixed-is : (h v : ℕ) → (h * 2654435761 + v) % 4294967296 ≡ mixed h v
unfolding mixed
mixed-is h v = refl

-- `mix_groups`
module _ (p : Principal) (left i sum r : ℕ) where
  pub groups-done : mixed_with p left i sum ≡ r → left ≤ 0 → sum ≡ r
  unfolding mixed_with
  groups-done inv h = let z : left ≡ 0 = omega arith in rw z at inv

  pub groups-on : mixed_with p left i sum ≡ r → 0 < left → (v : ℕ) → v ≡ group p i → (s : ℕ) → s ≡ mixed sum v → mixed_with p (left - 1) (i + 4) s ≡ r
  unfolding mixed_with
  groups-on inv h v ve s se =
      let z : left ≡ suc (left - 1) = omega arith in
      let w : mixed_with p (suc (left - 1)) i sum ≡ r = subst (λ (k : ℕ). mixed_with p k i sum ≡ r) z inv in
      rw (se, ve) w

-- the loop over k groups, at group j
module _ (p : Principal) (k j i sum r : ℕ) (inv : mixed_with p (k - j) (i + 4 * j) sum ≡ r) where
  pub groups-end : k ≤ j → sum ≡ r
  groups-end h = groups-done p (k - j) (i + 4 * j) sum r inv (omega arith)

  pub groups-step : j < k → (v : ℕ) → v ≡ group p (i + 4 * j) → (s : ℕ) → s ≡ mixed sum v → mixed_with p (k - (j + 1)) (i + 4 * (j + 1)) s ≡ r
  groups-step h v ve s se =
      let a : k - (j + 1) ≡ k - j - 1 = omega arith in
      let b : i + 4 * (j + 1) ≡ i + 4 * j + 4 = omega arith in
      rw (a, b) (groups-on p (k - j) (i + 4 * j) sum r inv (omega arith) v ve s se)

-- `short_tag`
pub short-is : (p : Principal) → length p < 4 → (a b c d v m r : ℕ) → a ≡ caseless p 0 → b ≡ caseless p 1 → c ≡ caseless p 2 → d ≡ caseless p 3
    → v ≡ a + 128 * b + 16384 * c + 2097152 * d → m ≡ mixed (length p) v → r ≡ m * 2654435761 / 16777216 % 1048576 → r ≡ tag p
unfolding tag bulk group mixed_with
short-is p h a b c d v m r ae be ce de ve me re =
    let z : length p - 4 ≡ 0 = omega arith in
    let q : length p / 4 ≡ 0 = omega arith in
    let n : length p % 4294967296 ≡ length p = omega arith in
    re ∙ rw (me, ve, ae, be, ce, de, z, le-leb (length p) 64 (omega arith), q, n)

-- `tag_of`
module _ (p : Principal) (last : ℕ) (le : last ≡ group p (length p - 4)) where
  pub tag-all : length p ≤ 64 → (s : ℕ) → s ≡ mixed_with p (length p / 4) 0 (length p) → (m r : ℕ) → m ≡ mixed s last → r ≡ m * 2654435761 / 16777216 % 1048576 → r ≡ tag p
  unfolding tag bulk
  tag-all h s se m r me re =
      let n : length p % 4294967296 ≡ length p = omega arith in
      re ∙ rw (me, se, le, le-leb (length p) 64 h, n)

  pub tag-ends : 64 < length p → (f b : ℕ) → f ≡ mixed_with p 8 0 (length p % 4294967296) → b ≡ mixed_with p 8 (length p - 32) f
      → (m r : ℕ) → m ≡ mixed b last → r ≡ m * 2654435761 / 16777216 % 1048576 → r ≡ tag p
  unfolding tag bulk
  tag-ends h f b fe be m r me re = re ∙ rw (me, be, fe, le, lt-leb (length p) 64 h)
