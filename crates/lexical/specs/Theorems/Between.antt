-- What a literal gives is what the bytes between its quotes give. Assumes nothing.
use Rattle.std.specs.Prelude.{◌≡◌, Bool, List, ◌∷◌, ltb, take, drop}
use Rattle.std.proofs.Math.Path.{refl, ap}
use Rattle.std.proofs.Common.{sym, ◌∙◌, subst, add-one, length-drop, get_or-take, drop-drop, length-take-le}
use Rattle.std.proofs.Math.Bool.{false}
use Prim.Native.Nat.{ℕ, zero, suc, ◌+◌, ◌-◌, ◌≤◌, ◌<◌}
use native.Mathlib.Omega.{arith}
use Rattle.std.proofs.Math.Dec.{eqb, leb}
use Rattle.std.proofs.Math.ListN.{length, get_or, get_or-eq_default}
use Rattle.std.proofs.Math.Seq.{slice, get_or-drop}
use borrow.Author.Tests.{le-leb, lt-leb, ne_eqb, eqb-true, leb-true, ltb-true, ltb-false}
use Rattle.text.specs.Choice.{split, bool_iff}
use Rattle.text.specs.Scan.{past, past_more, past_stop, past_end, past-from}
use Rattle.lexical.specs.Theorems.Bounds.{chosen}
use Rattle.lexical.specs.Run.{in_run, WHITE}
use Rattle.lexical.specs.declared.unit.Unit.{Unit}
use Rattle.lexical.specs.Unit.{GIVES, CLOSES, gives, drops, spoils, closes, bare, octal, control, coded, octal_unit, escape_unit, barred, kind, width, unit_at}
use Rattle.lexical.specs.Theorems.UnitLaws.{unit-closing}
use Rattle.lexical.specs.Literal.{inside, units, units_at, closing, given, literal_end, decoded_at, decode}
use Rattle.lexical.specs.Theorems.LiteralLaws.{Closed, closing-within, units-more, units-end}

-- The text from k on, read from j.
module _ (s : List ℕ) (k : ℕ) where
  past-drop : (p : ℕ → Bool) (m : ℕ) → k + past p (drop k s) m ≡ past p s (k + m)
  unfolding past
  past-drop p m = rw (drop-drop m k s) (omega arith)

  end-drop : (j : ℕ) → leb (length (drop k s)) j ≡ leb (length s) (k + j)
  end-drop j =
      bool_iff (leb (length (drop k s)) j) (leb (length s) (k + j))
      (λ e. le-leb (length s) (k + j) (omega (arith, leb-true (length (drop k s)) j e, length-drop k s)))
      (λ e. le-leb (length (drop k s)) j (omega (arith, leb-true (length s) (k + j) e, length-drop k s)))

  byte-drop : (j m : ℕ) → get_or (drop k s) (j + m) 0 ≡ get_or s (k + j + m) 0
  byte-drop j m = get_or-drop k s (j + m) 0 ∙ ap (λ (n : ℕ). get_or s n 0) (let e : k + (j + m) ≡ k + j + m = omega arith in e)

  gap-drop : (j : ℕ) → past (in_run WHITE) (drop k s) (j + 2) - j ≡ past (in_run WHITE) s (k + j + 2) - (k + j)
  gap-drop j =
      let e : k + (j + 2) ≡ k + j + 2 = omega arith in
      let q : past (in_run WHITE) s (k + (j + 2)) ≡ past (in_run WHITE) s (k + j + 2) = ap (past (in_run WHITE) s) e in
      omega (arith, past-drop (in_run WHITE) (j + 2), q)

  unit-drop : (j : ℕ) → unit_at (drop k s) j ≡ unit_at s (k + j)
  unfolding unit_at
  unit-drop j = rw (end-drop j, get_or-drop k s j 0, byte-drop j 1, byte-drop j 2, byte-drop j 3, gap-drop j) refl

  units-drop : (n j : ℕ) → units n (drop k s) j ≡ units n s (k + j)
  unfolding units
  units-drop zero j = refl
  units-drop (suc n) j =
      let e : k + (j + width (unit_at s (k + j))) ≡ k + j + width (unit_at s (k + j)) = omega arith in
      rw (unit-drop j, units-drop n (j + width (unit_at s (k + j))), e) refl

-- an escape that is legal takes two bytes at least
Two : Unit → Type 0
Two u = kind u ≤ GIVES → 2 ≤ width u

two-spoils : Two spoils
unfolding Two
two-spoils h = let no : ⊥ = omega (arith, h) in absurd no

two-gives : (w b : ℕ) → 2 ≤ w → Two (gives w b)
unfolding Two
two-gives w b l h = l

two-coded : (v w b : ℕ) → 2 ≤ w → Two (coded v w b)
unfolding coded
two-coded v w b l =
    chosen Two (eqb v 0) (bare b) _ (λ e. two-gives 2 b (omega arith)) (λ e. chosen Two (ltb 255 v) spoils _ (λ f. two-spoils) (λ f. two-gives w v l))

two-octal : (b c d : ℕ) → Two (octal_unit b c d)
unfolding octal_unit
two-octal b c d =
    chosen Two (octal c) _ (bare b)
    (λ o. chosen Two (octal d) _ _ (λ p. two-coded _ 4 b (omega arith))
    (λ p. chosen Two (eqb b 48) _ (bare b) (λ z. two-coded _ 3 b (omega arith)) (λ z. two-gives 2 b (omega arith))))
    (λ o. two-gives 2 b (omega arith))

escape-two : (b c d : ℕ) → kind (escape_unit b c d) ≤ GIVES → 2 ≤ width (escape_unit b c d)
unfolding escape_unit Two
escape-two b c d =
    chosen Two (eqb b 0) spoils _ (λ z. two-spoils)
    (λ z. chosen Two (eqb (control b) 0) _ _ (λ k. chosen Two (octal b) (octal_unit b c d) (bare b) (λ o. two-octal b c d) (λ o. two-gives 2 b (omega arith)))
    (λ k. two-gives 2 (control b) (omega arith)))

-- a quote behind an escape ends its digits, as the end of the text does
escape-second : (b d e : ℕ) → escape_unit b 0 e ≡ escape_unit b 34 d
unfolding escape_unit octal_unit octal
escape-second b d e = refl

escape-third : (b c : ℕ) → escape_unit b c 0 ≡ escape_unit b c 34
unfolding escape_unit octal_unit octal
escape-third b c = refl

-- The text up to the place n of a quote.
module _ (s : List ℕ) (n : ℕ) (within : n ≤ length s) where
  cut-length : length (take n s) ≡ n
  cut-length = length-take-le n s within

  -- nothing stands behind the cut
  cut-byte : (j : ℕ) → n ≤ j → get_or (take n s) j 0 ≡ 0
  cut-byte j h = get_or-eq_default (take n s) 0 (omega (arith, h, cut-length))

  cut-past : (p : ℕ → Bool) (d m : ℕ) → m + d ≡ n → past p s m ≤ n → past p (take n s) m ≡ past p s m
  cut-past p zero m e h =
      let z : past p (take n s) m ≡ m = past_end p (take n s) m (omega (arith, e, cut-length)) in
      omega (arith, z, h, e, past-from p s m)
  cut-past p (suc d) m e h =
      let l : m < n = omega (arith, e) in
      let lt : m < length (take n s) = omega (arith, l, cut-length) in
      let ls : m < length s = omega (arith, l, within) in
      let b : get_or (take n s) m 0 ≡ get_or s m 0 = get_or-take n s m 0 l in
      split (p (get_or s m 0))
      (λ t.
      let u : past p s m ≡ past p s (m + 1) = past_more p s m ls t in
      let v : past p (take n s) m ≡ past p (take n s) (m + 1) = past_more p (take n s) m lt (rw b t) in
      v ∙ cut-past p d (m + 1) (omega (arith, e)) (omega (arith, h, u)) ∙ sym u)
      (λ t. past_stop p (take n s) m lt (rw b t) ∙ sym (past_stop p s m ls t))

  -- a unit that ends before the cut, at which a quote stands, is the same unit of the text up to there
  module _ (quote : get_or s n 0 ≡ 34) (i : ℕ) where
    abbrev Kept : Unit → Type 0
    Kept u = kind u ≤ GIVES → i + width u ≤ n → unit_at (take n s) i ≡ u

    not-kept : (u : Unit) → GIVES < kind u → Kept u
    not-kept u h k = let no : ⊥ = omega (arith, h, k) in absurd no

    first : i < n → leb (length (take n s)) i ≡ false
    first l = lt-leb (length (take n s)) i (omega (arith, l, cut-length))

    same_byte : (j : ℕ) → j < n → get_or (take n s) j 0 ≡ get_or s j 0
    same_byte j l = get_or-take n s j 0 l

    kept-plain : (a : ℕ) → get_or s i 0 ≡ a → eqb a 34 ≡ false → eqb a 92 ≡ false → barred a ≡ false → Kept (gives 1 a)
    unfolding unit_at
    kept-plain a e q b r k l = let h : i < n = omega (arith, l) in rw (first h, same_byte i h, e, q, b, r) refl

    kept-drops : get_or s i 0 ≡ 92 → get_or s (i + 1) 0 ≡ 10 → Kept (drops (past (in_run WHITE) s (i + 2) - i))
    unfolding unit_at
    kept-drops a b k l =
        let f : i + 2 ≤ past (in_run WHITE) s (i + 2) = past-from (in_run WHITE) s (i + 2) in
        let h : i + 2 ≤ n = omega (arith, l, f) in
        let c : past (in_run WHITE) (take n s) (i + 2) ≡ past (in_run WHITE) s (i + 2) =
        cut-past (in_run WHITE) (n - (i + 2)) (i + 2) (omega (arith, h)) (omega (arith, l, f)) in
        rw (first (omega (arith, h)), same_byte i (omega (arith, h)), same_byte (i + 1) (omega (arith, h)), a, b, c) refl

    kept-escape : get_or s i 0 ≡ 92 → eqb (get_or s (i + 1) 0) 10 ≡ false → Kept (escape_unit (get_or s (i + 1) 0) (get_or s (i + 2) 0) (get_or s (i + 3) 0))
    unfolding unit_at
    kept-escape a b k l =
        let w : 2 ≤ width (escape_unit (get_or s (i + 1) 0) (get_or s (i + 2) 0) (get_or s (i + 3) 0)) = escape-two _ _ _ k in
        let h : i + 1 < n = omega (arith, l, w) in
        rw (first (omega (arith, h)), same_byte i (omega (arith, h)), a, same_byte (i + 1) h, b)
        (split (ltb (i + 2) n)
        (λ e.
        let p : i + 2 < n = ltb-true _ _ e in
        split (ltb (i + 3) n) (λ f. rw (same_byte (i + 2) p, same_byte (i + 3) (ltb-true _ _ f)) refl)
        (λ f.
        let m : n ≡ i + 3 = omega (arith, p, ltb-false (i + 3) n f) in
        let q : get_or s (i + 3) 0 ≡ 34 = ap (λ (j : ℕ). get_or s j 0) (sym m) ∙ quote in
        rw (same_byte (i + 2) p, cut-byte (i + 3) (omega (arith, m)), q) (escape-third _ _)))
        (λ e.
        let m : n ≡ i + 2 = omega (arith, h, ltb-false (i + 2) n e) in
        let q : get_or s (i + 2) 0 ≡ 34 = ap (λ (j : ℕ). get_or s j 0) (sym m) ∙ quote in
        rw (cut-byte (i + 2) (omega (arith, m)), q) (escape-second _ _ _)))

    kept-unit : Kept (unit_at s i)
    unfolding unit_at
    kept-unit =
        chosen Kept (leb (length s) i) spoils _ (λ z. not-kept spoils (omega arith))
        (λ z. chosen Kept (eqb (get_or s i 0) 34) closes _ (λ q. not-kept closes (omega arith))
        (λ q. chosen Kept (eqb (get_or s i 0) 92) _ _
        (λ b. chosen Kept (eqb (get_or s (i + 1) 0) 10) _ _ (λ e. kept-drops (eqb-true _ _ b) (eqb-true _ _ e)) (λ e. kept-escape (eqb-true _ _ b) e))
        (λ b. chosen Kept (barred (get_or s i 0)) spoils _ (λ r. not-kept spoils (omega arith)) (λ r. kept-plain (get_or s i 0) refl q b r))))

  units-cut : get_or s n 0 ≡ 34 → (g i : ℕ) → closing i (units g s i) ≡ suc n → given (units_at (take n s) i) ≡ given (units g s i)
  unfolding units Closed
  units-cut quote zero i h = let no : ⊥ = omega (arith, h) in absurd no
  units-cut quote (suc g) i h =
      split (eqb (kind (unit_at s i)) CLOSES)
      (λ c.
      let k : kind (unit_at s i) ≡ CLOSES = eqb-true _ _ c in
      let e : i + 1 ≡ suc n = rw c at h in
      let p : length (take n s) ≤ i = omega (arith, e, cut-length) in
      let m : eqb (kind (unit_at s i)) GIVES ≡ false = ne_eqb (kind (unit_at s i)) GIVES (λ z. let no : ⊥ = omega (arith, k, z) in no) in
      let o : leb (kind (unit_at s i)) GIVES ≡ false = lt-leb (kind (unit_at s i)) GIVES (omega (arith, k)) in
      rw (units-end (take n s) i p, m, o) refl)
      (λ c. split (inside (unit_at s i))
      (λ f.
      let k : kind (unit_at s i) ≤ GIVES = leb-true _ _ f in
      let r : closing (i + width (unit_at s i)) (units g s (i + width (unit_at s i))) ≡ suc n = rw (c, f) at h in
      let l : i + width (unit_at s i) < closing (i + width (unit_at s i)) (units g s (i + width (unit_at s i))) =
      (closing-within g s (i + width (unit_at s i)) (λ z. let no : ⊥ = omega (arith, r, z) in no)).0 in
      let u : unit_at (take n s) i ≡ unit_at s i = kept-unit quote i k (omega (arith, l, r)) in
      let v : units_at (take n s) i ≡ unit_at (take n s) i ∷ units_at (take n s) (i + width (unit_at (take n s) i)) = units-more (take n s) i (rw u k) in
      rw (v, u, f, units-cut quote g (i + width (unit_at s i)) r) refl)
      (λ f. let r : 0 ≡ suc n = rw (c, f) at h in let no : ⊥ = omega (arith, r) in absurd no))

-- the byte before the end of a literal is a quote of the text
closing-quote : (s : List ℕ) (n g i : ℕ) → closing i (units g s i) ≡ suc n → (n < length s) × (get_or s n 0 ≡ 34)
unfolding units
closing-quote s n zero i h = let no : ⊥ = omega (arith, h) in absurd no
closing-quote s n (suc g) i h =
    split (eqb (kind (unit_at s i)) CLOSES)
    (λ c. let e : i + 1 ≡ suc n = rw c at h in let z : i ≡ n = omega (arith, e) in subst (λ (j : ℕ). (j < length s) × (get_or s j 0 ≡ 34)) z (unit-closing s i (eqb-true _ _ c)))
    (λ c. split (inside (unit_at s i))
    (λ f. closing-quote s n g (i + width (unit_at s i)) (rw (c, f) at h))
    (λ f. let r : 0 ≡ suc n = rw (c, f) at h in let no : ⊥ = omega (arith, r) in absurd no))

units-slice : (s : List ℕ) (k n : ℕ) → units_at (slice k n s) 0 ≡ units_at (take n s) k
unfolding units_at
units-slice s k n =
    let e : length (drop k (take n s)) - 0 ≡ length (take n s) - k = omega (arith, length-drop k (take n s)) in
    let z : k + 0 ≡ k = omega arith in
    units-drop (take n s) k (suc (length (drop k (take n s)) - 0)) 0 ∙ rw (e, z) refl

-- A literal gives what the bytes between its quotes give.
pub decode-between : (s : List ℕ) (start n : ℕ) → literal_end s (start + 1) ≡ n + 1 → decoded_at s start ≡ decode (slice (start + 1) n s)
unfolding literal_end decoded_at decode units_at
decode-between s start n h =
    let e : closing (start + 1) (units (suc (length s - (start + 1))) s (start + 1)) ≡ suc n = h ∙ add-one n in
    let q : (n < length s) × (get_or s n 0 ≡ 34) = closing-quote s n (suc (length s - (start + 1))) (start + 1) e in
    rw (units-slice s (start + 1) n) (sym (units-cut s n (omega (arith, q.0)) q.1 (suc (length s - (start + 1))) (start + 1) e))
