-- What a literal gives: no NUL, bytes only, and no more of them than it has between its quotes. Assumes nothing.
use Rattle.std.specs.Prelude.{◌≡◌, refl, false, eqb, length, get_or}
use mathlib.Core.List.{List, [], ◌∷◌}
use Prim.Native.Nat.{ℕ, zero, suc, ◌+◌, ◌-◌, ◌≤◌, ◌<◌}
use Rattle.std.proofs.Common.{arith, eqb-true, leb-true, leb-false, ne_eqb}
use Rattle.text.specs.Choice.{pick}
use Rattle.lexical.specs.Theorems.Bounds.{chosen}
use Rattle.lexical.specs.declared.unit.Unit.{Unit}
use Rattle.lexical.specs.Unit.{GIVES, CLOSES, kind, width, byte, unit_at}
use Rattle.lexical.specs.Theorems.UnitLaws.{Bytes, unit-moves, unit-solid, unit-byte}
use Rattle.lexical.specs.Literal.{inside, units, units_at, closing, given, literal_end, decoded_at}

-- each element has the property P
data Each (P : ℕ → Type 0) : List ℕ → Type 0 where
  none : Each P []
  also : (x : ℕ) (xs : List ℕ) → P x → Each P xs → Each P (x ∷ xs)

each_at : (P : ℕ → Type 0) (xs : List ℕ) → Each P xs → (j : ℕ) → j < length xs → P (get_or xs j 0)
each_at P [] e j h = let no : ⊥ = omega (arith, h) in absurd no
each_at P (x ∷ xs) (also _ _ p e) zero h = p
each_at P (x ∷ xs) (also _ _ p e) (suc j) h = each_at P xs e j (omega (arith, h))

-- what holds of each byte that a unit gives holds of each byte given
module _ (P : ℕ → Type 0) (s : List ℕ) (p : (i : ℕ) → kind (unit_at s i) ≡ GIVES → P (byte (unit_at s i))) where
  each-given : (n i : ℕ) → Each P (given (units n s i))
  unfolding units
  each-given zero i = none
  each-given (suc n) i =
      let rest : Each P (given (pick (inside (unit_at s i)) (units n s (i + width (unit_at s i))) [])) =
      chosen (λ (us : List Unit). Each P (given us)) (inside (unit_at s i)) _ [] (λ e. each-given n (i + width (unit_at s i))) (λ e. none) in
      chosen (Each P) (eqb (kind (unit_at s i)) GIVES) _ _ (λ e. also _ _ (p i (eqb-true _ _ e)) rest) (λ e. rest)

  each-decoded : (start : ℕ) → Each P (decoded_at s start)
  unfolding decoded_at units_at
  each-decoded start = each-given (suc (length s - (start + 1))) (start + 1)

-- No literal gives a NUL.
pub decoded-solid : (s : List ℕ) (start j : ℕ) → j < length (decoded_at s start) → get_or (decoded_at s start) j 0 ≡ 0 → ⊥
decoded-solid s start = each_at (λ b. b ≡ 0 → ⊥) (decoded_at s start) (each-decoded (λ b. b ≡ 0 → ⊥) s (unit-solid s) start)

-- A literal of bytes gives bytes.
pub decoded-bytes : (s : List ℕ) (start j : ℕ) → Bytes s → j < length (decoded_at s start) → get_or (decoded_at s start) j 0 < 256
decoded-bytes s start j all = each_at (λ b. b < 256) (decoded_at s start) (each-decoded (λ b. b < 256) s (λ i e. unit-byte s i all) start) j

-- What is given before the closing quote is no longer than what stands there.
Shorter : ℕ → List Unit → Type 0
Shorter i us = (closing i us ≡ 0 → ⊥) → i + length (given us) < closing i us

pub given-cons : (u : Unit) (us : List Unit) → length (given (u ∷ us)) ≤ suc (length (given us))
given-cons u us = chosen (λ (xs : List ℕ). length xs ≤ suc (length (given us))) (eqb (kind u) GIVES) _ _ (λ e. omega arith) (λ e. omega arith)

shorter-last : (i : ℕ) (u : Unit) → GIVES < kind u → Shorter i (u ∷ [])
unfolding Shorter
shorter-last i u h =
    let g : eqb (kind u) GIVES ≡ false = ne_eqb (kind u) GIVES (λ e. let no : ⊥ = omega (arith, h, e) in no) in
    rw g
    (chosen (λ (e : ℕ). (e ≡ 0 → ⊥) → i + 0 < e) (eqb (kind u) CLOSES) (i + 1) 0 (λ e z. omega arith) (λ e z. absurd (z refl)))

shorter-more : (i : ℕ) (u : Unit) (us : List Unit) → kind u ≤ GIVES → 1 ≤ width u → Shorter (i + width u) us → Shorter i (u ∷ us)
unfolding Shorter
shorter-more i u us k w h =
    let c : eqb (kind u) CLOSES ≡ false = ne_eqb (kind u) CLOSES (λ e. let no : ⊥ = omega (arith, k, e) in no) in
    rw c (λ z. omega (arith, w, h z, given-cons u us))

given-shorter : (n : ℕ) (s : List ℕ) (i : ℕ) → Shorter i (units n s i)
unfolding units Shorter
given-shorter zero s i = λ z. absurd (z refl)
given-shorter (suc n) s i =
    chosen (λ (us : List Unit). Shorter i (unit_at s i ∷ us)) (inside (unit_at s i)) (units n s (i + width (unit_at s i))) []
    (λ e. shorter-more i (unit_at s i) (units n s (i + width (unit_at s i))) (leb-true _ _ e) (unit-moves s i (leb-true _ _ e)).0 (given-shorter n s (i + width (unit_at s i))))
    (λ e. shorter-last i (unit_at s i) (leb-false _ _ e))

-- A literal gives at most as many bytes as it has between its quotes.
pub decoded-shorter : (s : List ℕ) (start : ℕ) → (literal_end s (start + 1) ≡ 0 → ⊥) → start + 2 + length (decoded_at s start) ≤ literal_end s (start + 1)
unfolding decoded_at literal_end units_at Shorter
decoded-shorter s start h = omega (arith, given-shorter (suc (length s - (start + 1))) s (start + 1) h)
