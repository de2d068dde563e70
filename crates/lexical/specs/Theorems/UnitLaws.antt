-- What holds of every unit of a literal: it moves on within the text, and gives no NUL and no number above 255. Assumes nothing.
use Rattle.std.specs.Prelude.{◌≡◌, Bool, true, false, List, ℕ, ◌+◌, ◌-◌, ◌≤◌, ◌<◌, eqb, leb, ltb, length, get_or}
use Rattle.std.proofs.Math.Path.{refl}
use Rattle.std.proofs.Common.{sym, ap, ◌∙◌, arith}
use borrow.Author.Tests.{ltb-false, eq-eqb, leb-true, leb-false, eqb-true, eqb-false}
use Rattle.text.specs.Choice.{pick, split, clash}
use Rattle.text.specs.Scan.{past, past-from, past-within}
use Rattle.lexical.specs.Theorems.Bounds.{chosen, past-inside, byte-within}
use Rattle.lexical.specs.Class.{within, class_of}
use Rattle.lexical.specs.Run.{has_class, in_run, WHITE}
use Rattle.lexical.specs.declared.unit.Unit.{Unit}
use Rattle.lexical.specs.Unit.{GIVES, CLOSES, gives, drops, closes, spoils, bare, octal, control, coded, octal_unit, escape_unit, barred, kind, width, byte, unit_at}

within-true : (lo hi b : ℕ) → within lo hi b ≡ true → (lo ≤ b) × (b ≤ hi)
within-true lo hi b =
    chosen (λ (t : Bool). t ≡ true → (lo ≤ b) × (b ≤ hi)) (leb lo b) (leb b hi) false
    (λ e h. (leb-true _ _ e, leb-true _ _ h)) (λ e h. clash h refl)

octal-digit : (b : ℕ) → octal b ≡ true → (48 ≤ b) × (b ≤ 55)
unfolding octal
octal-digit b h = within-true 48 55 b h

control-small : (b : ℕ) → control b < 256
unfolding control
control-small b =
    chosen Small (eqb b 110) 10 _ (λ e. omega arith)
    (λ e. chosen Small (eqb b 114) 13 _ (λ f. omega arith)
    (λ f. chosen Small (eqb b 116) 9 _ (λ g. omega arith) (λ g. chosen Small (eqb b 102) 12 0 (λ h. omega arith) (λ h. omega arith))))
  where
    Small : ℕ → Type 0
    Small n = n < 256

-- each element is a byte
abbrev pub Bytes : List ℕ → Type 0
Bytes s = (j : ℕ) → get_or s j 0 < 256

-- no quote among w bytes from i on but one behind a backslash
unfoldable pub Quoteless : List ℕ → ℕ → ℕ → Type 0
Quoteless s i w = (get_or s i 0 ≡ 34 → ⊥) × (1 < w → get_or s i 0 ≡ 92) × ((k : ℕ) → 1 < k → k < w → get_or s (i + k) 0 ≡ 34 → ⊥)

octal-quote : (b : ℕ) → octal b ≡ true → b ≡ 34 → ⊥
octal-quote b o z = let no : ⊥ = omega (arith, (octal-digit b o).0, z) in no

-- What holds of each kind of unit holds of the unit at i.
module _ (s : List ℕ) (i : ℕ) (P : Unit → Type 0) (on-spoils : P spoils) (on-closes : i < length s → get_or s i 0 ≡ 34 → P closes)
    (on-drops : (w : ℕ) → 1 ≤ w → i + w ≤ length s → Quoteless s i w → P (drops w))
    (on-gives : (w b : ℕ) → 1 ≤ w → i + w ≤ length s → (b ≡ 0 → ⊥) → (Bytes s → b < 256) → Quoteless s i w → P (gives w b)) where
  module _ (slash : get_or s i 0 ≡ 92) where
    slashed : (w : ℕ) → ((k : ℕ) → 1 < k → k < w → get_or s (i + k) 0 ≡ 34 → ⊥) → Quoteless s i w
    unfolding Quoteless
    slashed w f = (λ z. let no : ⊥ = omega (arith, slash, z) in no, λ l. slash, f)

    module _ (b c d : ℕ) (be : b ≡ get_or s (i + 1) 0) (ce : c ≡ get_or s (i + 2) 0) (de : d ≡ get_or s (i + 3) 0) where
      two : (b ≡ 0 → ⊥) → i + 2 ≤ length s
      two bz = let h : i + 1 < length s = byte-within s (i + 1) (λ z. bz (be ∙ z)) in omega arith

      three : octal c ≡ true → i + 3 ≤ length s
      three o = let h : i + 2 < length s = byte-within s (i + 2) (λ z. let no : ⊥ = omega (arith, (octal-digit c o).0, ce, z) in no) in omega arith

      four : octal d ≡ true → i + 4 ≤ length s
      four o = let h : i + 3 < length s = byte-within s (i + 3) (λ z. let no : ⊥ = omega (arith, (octal-digit d o).0, de, z) in no) in omega arith

      at-two : octal c ≡ true → (k : ℕ) → k ≡ 2 → get_or s (i + k) 0 ≡ 34 → ⊥
      at-two o k e z = octal-quote c o (ce ∙ ap (λ (j : ℕ). get_or s (i + j) 0) (sym e) ∙ z)

      at-three : octal d ≡ true → (k : ℕ) → k ≡ 3 → get_or s (i + k) 0 ≡ 34 → ⊥
      at-three o k e z = octal-quote d o (de ∙ ap (λ (j : ℕ). get_or s (i + j) 0) (sym e) ∙ z)

      on-two : (x : ℕ) → (b ≡ 0 → ⊥) → (x ≡ 0 → ⊥) → (Bytes s → x < 256) → P (gives 2 x)
      on-two x bz xz xs = on-gives 2 x (omega arith) (two bz) xz xs (slashed 2 (λ k l u z. let no : ⊥ = omega (arith, l, u) in no))

      on-bare : (b ≡ 0 → ⊥) → P (bare b)
      on-bare bz = on-two b bz bz (λ all. omega (arith, be, all (i + 1)))

      on-coded : (b ≡ 0 → ⊥) → (v w : ℕ) → 1 ≤ w → i + w ≤ length s → Quoteless s i w → P (coded v w b)
      unfolding coded
      on-coded bz v w h k n =
          chosen P (eqb v 0) (bare b) _ (λ e. on-bare bz)
          (λ e. chosen P (ltb 255 v) spoils (gives w v) (λ f. on-spoils)
          (λ f. on-gives w v h k (eqb-false _ _ e) (λ all. omega (arith, ltb-false 255 v f)) n))

      on-octal : (b ≡ 0 → ⊥) → P (octal_unit b c d)
      unfolding octal_unit
      on-octal bz =
          chosen P (octal c) _ (bare b)
          (λ o. chosen P (octal d) _ _
          (λ p. on-coded bz _ 4 (omega arith) (four p)
          (slashed 4 (λ k l u. split (eqb k 2) (λ e. at-two o k (eqb-true k 2 e)) (λ e. at-three p k (omega (arith, l, u, eqb-false k 2 e))))))
          (λ p. chosen P (eqb b 48) _ (bare b) (λ z. on-coded bz _ 3 (omega arith) (three o) (slashed 3 (λ k l u. at-two o k (omega (arith, l, u))))) (λ z. on-bare bz)))
          (λ o. on-bare bz)

      on-escape : P (escape_unit b c d)
      unfolding escape_unit
      on-escape =
          chosen P (eqb b 0) spoils _ (λ z. on-spoils)
          (λ z. chosen P (eqb (control b) 0) _ _
          (λ k. chosen P (octal b) (octal_unit b c d) (bare b) (λ o. on-octal (eqb-false _ _ z)) (λ o. on-bare (eqb-false _ _ z)))
          (λ k. on-two (control b) (eqb-false _ _ z) (eqb-false _ _ k) (λ all. control-small b)))

    no-white : (j : ℕ) → in_run WHITE (get_or s j 0) ≡ true → get_or s j 0 ≡ 34 → ⊥
    unfolding in_run has_class class_of
    no-white j t z = clash t (rw z refl)

    on-newline : get_or s (i + 1) 0 ≡ 10 → P (drops (past (in_run WHITE) s (i + 2) - i))
    on-newline e =
        let h : i + 1 < length s = byte-within s (i + 1) (λ z. let no : ⊥ = omega (arith, e, z) in no) in
        let l : i + 2 ≤ past (in_run WHITE) s (i + 2) = past-from (in_run WHITE) s (i + 2) in
        let m : i + 2 ≤ length s = omega arith in
        let k : past (in_run WHITE) s (i + 2) ≤ length s = past-within (in_run WHITE) s (i + 2) m in
        on-drops (past (in_run WHITE) s (i + 2) - i) (omega arith) (omega arith)
        (slashed _ (λ j u v. no-white (i + j) (past-inside (in_run WHITE) s (i + 2) (i + j) (omega (arith, u)) (omega (arith, v, l)))))

  on-plain : i < length s → (get_or s i 0 ≡ 34 → ⊥) → P (pick (barred (get_or s i 0)) spoils (gives 1 (get_or s i 0)))
  unfolding barred Quoteless
  on-plain h q =
      chosen P (barred (get_or s i 0)) spoils _ (λ z. on-spoils)
      (λ z. on-gives 1 (get_or s i 0) (omega arith) (omega arith) (λ e. clash (simp (eq-eqb _ _ e)) z) (λ all. all i)
      (q, λ l. let no : ⊥ = omega (arith, l) in absurd no, λ k l u y. let no : ⊥ = omega (arith, l, u) in no))

  pub unit-case : P (unit_at s i)
  unfolding unit_at
  unit-case =
      chosen P (leb (length s) i) spoils _ (λ z. on-spoils)
      (λ z. chosen P (eqb (get_or s i 0) 34) closes _ (λ q. on-closes (leb-false _ _ z) (eqb-true _ _ q))
      (λ q. chosen P (eqb (get_or s i 0) 92) _ _
      (λ b. chosen P (eqb (get_or s (i + 1) 0) 10) _ _ (λ n. on-newline (eqb-true _ _ b) (eqb-true _ _ n)) (λ n. on-escape (eqb-true _ _ b) _ _ _ refl refl refl))
      (λ b. on-plain (leb-false _ _ z) (eqb-false _ _ q))))

-- A unit that is neither closing nor illegal takes a byte at least, and ends within the text.
pub unit-moves : (s : List ℕ) (i : ℕ) → kind (unit_at s i) ≤ GIVES → (1 ≤ width (unit_at s i)) × (i + width (unit_at s i) ≤ length s)
unit-moves s i =
    unit-case s i (λ u. kind u ≤ GIVES → (1 ≤ width u) × (i + width u ≤ length s))
    (λ h. let no : ⊥ = omega (arith, h) in absurd no) (λ l q h. let no : ⊥ = omega (arith, h) in absurd no) (λ w h k u z. (h, k)) (λ w b h k n m u z. (h, k))

-- No unit gives a NUL.
pub unit-solid : (s : List ℕ) (i : ℕ) → kind (unit_at s i) ≡ GIVES → byte (unit_at s i) ≡ 0 → ⊥
unit-solid s i =
    unit-case s i (λ u. kind u ≡ GIVES → byte u ≡ 0 → ⊥)
    (λ h. let no : ⊥ = omega (arith, h) in absurd no) (λ l q h. let no : ⊥ = omega (arith, h) in absurd no)
    (λ w h k u z. let no : ⊥ = omega (arith, z) in absurd no) (λ w b h k n m u z. n)

-- A unit of bytes gives a byte.
pub unit-byte : (s : List ℕ) (i : ℕ) → Bytes s → byte (unit_at s i) < 256
unit-byte s i all = unit-case s i (λ u. byte u < 256) (omega arith) (λ l q. omega arith) (λ w h k u. omega arith) (λ w b h k n m u. m all)

-- A closing quote is a quote of the text.
pub unit-closing : (s : List ℕ) (i : ℕ) → kind (unit_at s i) ≡ CLOSES → (i < length s) × (get_or s i 0 ≡ 34)
unit-closing s i =
    unit-case s i (λ u. kind u ≡ CLOSES → (i < length s) × (get_or s i 0 ≡ 34))
    (λ h. let no : ⊥ = omega (arith, h) in absurd no) (λ l q h. (l, q))
    (λ w h k u z. let no : ⊥ = omega (arith, z) in absurd no) (λ w b h k n m u z. let no : ⊥ = omega (arith, z) in absurd no)
