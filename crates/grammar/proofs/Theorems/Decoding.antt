-- What lexical's reader decodes from a legal literal is what document 01's list of escapes gives. Assumes nothing.
use Rattle.std.specs.Prelude.{◌≡◌, Bool, true, leb, ltb, length, get_or}
use Rattle.std.proofs.Math.Path.{refl}
use Rattle.std.proofs.Common.{sym, ◌∙◌}
use Rattle.std.proofs.Math.Bool.{false}
use mathlib.Core.List.{List, [], ◌∷◌}
use Prim.Native.Nat.{ℕ, zero, suc, ◌+◌, ◌-◌, ◌≤◌, ◌<◌}
use native.Mathlib.Omega.{arith}
use Rattle.std.proofs.Math.Dec.{eqb}
use borrow.Author.Tests.{eqb-true, eqb-false, leb-true, ltb-true, ltb-false, ne_eqb, eq-eqb}
use Rattle.text.specs.Choice.{pick, split, clash}
use Rattle.text.specs.Scan.{past, past_more, past_stop, past-from}
use Rattle.lexical.specs.Theorems.Bounds.{chosen}
use Rattle.lexical.specs.Class.{class_of}
use Rattle.lexical.specs.Run.{in_run, WHITE}
use Rattle.lexical.specs.declared.unit.Unit.{Unit}
use Rattle.lexical.specs.Unit as U
use Rattle.lexical.specs.Literal.{inside, units, units_at, closing, given, literal_end, decoded_at}
use Rattle.lexical.specs.Theorems.UnitLaws.{unit-closing}
use Rattle.lexical.specs.Theorems.LiteralLaws.{Closed, closing-within}
use Rattle.grammar.specs.Escape.{octal, white, two_octal, Dropped, stopped, dropped, Other, other_byte, plain_byte, octal_value, Gives, ends, plain, control, joined, one_more, three, zero-1, zero-2, zero-3, other}
use Rattle.grammar.specs.Theorems.Decoding.{Began, began, between, between-four, between-one, between-three, between-two, between_none, class-not, class-other, control-is, controls, leads-not, marked, no-control, octal-is, octal-range, octal-zero, plain-began, two-not, two-not-second, white-not, white-three}

pub white-is : (b : ℕ) → in_run WHITE b ≡ white b
white-is b =
    split (eqb b 32) (λ h. rw (eqb-true b 32 h) white-three.0)
    (λ h. split (eqb b 9) (λ k. rw (eqb-true b 9 k) white-three.1.0)
    (λ k. split (eqb b 10) (λ l. rw (eqb-true b 10 l) white-three.1.1)
    (λ l. class-not b (marked (class_of b) (class-other b h k l)) ∙ sym (white-not b h k l))))

-- whitespace is dropped up to where the scan stops
dropped-past : (s : List ℕ) (e : ℕ) → e ≤ length s → (n i : ℕ) → e - i ≤ n → past (in_run WHITE) s i ≤ e → Dropped (between s i e) (between s (past (in_run WHITE) s i) e)
dropped-past s e k zero i h l =
    let f : i ≤ past (in_run WHITE) s i = past-from (in_run WHITE) s i in
    let z : i ≡ e = omega (arith, h, l, f) in
    let p : past (in_run WHITE) s i ≡ e = omega (arith, l, f, h) in
    rw (p, z, between_none s e) (stopped [] refl)
dropped-past s e k (suc n) i h l =
    split (ltb i e)
    (λ b. let m : i < e = ltb-true _ _ b in
    split (in_run WHITE (get_or s i 0))
    (λ w. let q : past (in_run WHITE) s i ≡ past (in_run WHITE) s (i + 1) = past_more (in_run WHITE) s i (omega (arith, m, k)) w in
    rw (q, between-one s i e m k) (dropped (get_or s i 0) _ _ (sym (white-is (get_or s i 0)) ∙ w) (dropped-past s e k n (i + 1) (omega (arith, h, m)) (rw q at l))))
    (λ w. let q : past (in_run WHITE) s i ≡ i = past_stop (in_run WHITE) s i (omega (arith, m, k)) w in
    rw q (stopped (between s i e) (leads-not s white i e (omega (arith, m)) k (sym (white-is (get_or s i 0)) ∙ w)))))
    (λ b.
    let g : e ≤ i = ltb-false _ _ b in
    let f : i ≤ past (in_run WHITE) s i = past-from (in_run WHITE) s i in
    let z : i ≡ e = omega (arith, l, f, g) in
    let p : past (in_run WHITE) s i ≡ e = omega (arith, l, f, g) in
    rw (p, z, between_none s e) (stopped [] refl))

-- one unit: what the bytes behind it give, and what it gives before that
module _ (s : List ℕ) (i e : ℕ) (k : e ≤ length s) (quote : get_or s e 0 ≡ 34) (ys : List ℕ) where
  abbrev Stepped : Unit → Type 0
  Stepped u = leb (U.kind u) 1 ≡ true → i + (U.width u) ≤ e → Gives (between s (i + (U.width u)) e) ys → Gives (between s i e) (pick (eqb (U.kind u) 1) ((U.byte u) ∷ ys) ys)

  -- an octal digit is no closing quote
  digit-before : (j : ℕ) → j ≤ e → octal (get_or s j 0) ≡ true → j + 1 ≤ e
  digit-before j h o =
      split (eqb j e)
      (λ z. let w : j ≡ e = eqb-true _ _ z in let v : octal (get_or s e 0) ≡ true = rw w at o in let r : 48 ≤ get_or s e 0 = (octal-range (get_or s e 0) v).0 in let no : ⊥ = omega (arith, r, quote) in absurd no)
      (λ z. let n : j ≡ e → ⊥ = eqb-false _ _ z in omega (arith, n, h))

  module _ (slash : get_or s i 0 ≡ 92) (b c d : ℕ) (be : get_or s (i + 1) 0 ≡ b) (ce : get_or s (i + 2) 0 ≡ c) (de : get_or s (i + 3) 0 ≡ d) where
    two_is : i + 2 ≤ e → between s i e ≡ 92 ∷ b ∷ between s (i + 2) e
    two_is h = rw (← slash, ← be) (between-two s e k i h)

    three-is : i + 3 ≤ e → between s i e ≡ 92 ∷ b ∷ c ∷ between s (i + 3) e
    three-is h = rw (← slash, ← be, ← ce) (between-three s e k i h)

    four_is : i + 4 ≤ e → between s i e ≡ 92 ∷ b ∷ c ∷ d ∷ between s (i + 4) e
    four_is h = rw (← slash, ← be, ← ce, ← de) (between-four s e k i h)

    step-control : eqb (U.control b) 0 ≡ false → Stepped (U.gives 2 (U.control b))
    step-control f l h g = rw (two_is h) (control b (U.control b) _ ys (control-is b f) g)

    step_other : (i + 2 ≤ e → Other b (between s (i + 2) e)) → Stepped (U.gives 2 b)
    step_other o l h g = rw (two_is h) (other b _ ys (o h) g)

    module _ (nul : b ≡ 0 → ⊥) (line : b ≡ 10 → ⊥) (none : U.control b ≡ 0) where
      others : (xs : List ℕ) → (b ≡ 48 → ⊥) → pick (octal b) (two_octal xs) false ≡ false → Other b xs
      others xs z o =
          other_byte nul line (no-control b 110 10 none controls.0 (omega arith)) (no-control b 114 13 none controls.1.0 (omega arith))
          (no-control b 116 9 none controls.1.1.0 (omega arith)) (no-control b 102 12 none controls.1.1.1 (omega arith)) z o

      -- no octal digit
      step-word : octal b ≡ false → Stepped (U.bare b)
      step-word f = step_other (λ h. others _ (λ z. clash (rw z octal-zero) f) (rw f))

      -- fewer than two octal digits behind it
      step-few : octal c ≡ false → Stepped (U.bare b)
      step-few f =
          split (eqb b 48)
          (λ z l h g. let w : b ≡ 48 = eqb-true _ _ z in rw (two_is h, w) (zero-1 _ ys (leads-not s octal (i + 2) e h k (rw ce f)) g))
          (λ z. step_other (λ h. others _ (eqb-false _ _ z)
          (chosen (λ (t : Bool). t ≡ false) (octal b) _ false (λ o. two-not s e k (i + 2) h (rw ce f)) (λ o. refl))))

      -- one octal digit behind it, which is not "0"
      step-one : octal d ≡ false → (b ≡ 48 → ⊥) → Stepped (U.bare b)
      step-one f z =
          step_other (λ h. others _ z
          (chosen (λ (t : Bool). t ≡ false) (octal b) _ false
          (λ o. two-not-second s e k (i + 2) h (let w : i + 2 + 1 ≡ i + 3 = omega arith in rw (w, de) f)) (λ o. refl)))

    module _ (bz : b ≡ 48) (cz : c ≡ 48) where
      three-before : i + 2 ≤ e → i + 3 ≤ e
      three-before h = let m : i + 2 + 1 ≤ e = digit-before (i + 2) h (rw (ce, cz) octal-zero) in omega (arith, m)

      third-is : i + 2 ≤ e → between s (i + 2) e ≡ 48 ∷ between s (i + 3) e
      third-is h =
          let z : i + 2 + 1 ≡ i + 3 = omega arith in
          let p : between s (i + 2) e ≡ get_or s (i + 2) 0 ∷ between s (i + 2 + 1) e = between-one s (i + 2) e (omega (arith, three-before h)) k in
          rw (z, ce, cz) at p

      -- "\00"
      step-zero-2 : octal d ≡ false → Stepped (U.bare b)
      step-zero-2 f l h g =
          after (plain-began (between s (i + 2) e) ys g 48 (between s (i + 3) e) (third-is h) (λ z. let no : ⊥ = omega (arith, z) in no))
        where
          after : Began 48 (between s (i + 3) e) ys → Gives (between s i e) (b ∷ ys)
          after (began zs ye q) =
              rw (three-is (three-before h), bz, cz, ye) (zero-2 (between s (i + 3) e) zs (leads-not s octal (i + 3) e (three-before h) k (rw de f)) q)

      module _ (dz : d ≡ 48) where
        four-before : i + 3 ≤ e → i + 4 ≤ e
        four-before h = let m : i + 3 + 1 ≤ e = digit-before (i + 3) h (rw (de, dz) octal-zero) in omega (arith, m)

        fourth-is : i + 3 ≤ e → between s (i + 3) e ≡ 48 ∷ between s (i + 4) e
        fourth-is h =
            let z : i + 3 + 1 ≡ i + 4 = omega arith in
            let p : between s (i + 3) e ≡ get_or s (i + 3) 0 ∷ between s (i + 3 + 1) e = between-one s (i + 3) e (omega (arith, four-before h)) k in
            rw (z, de, dz) at p

        -- "\000"
        step-zero-3 : Stepped (U.bare b)
        step-zero-3 l h g =
            after (plain-began (between s (i + 2) e) ys g 48 (between s (i + 3) e) (third-is h) (λ z. let no : ⊥ = omega (arith, z) in no))
          where
            last : (zs : List ℕ) → ys ≡ 48 ∷ zs → Began 48 (between s (i + 4) e) zs → Gives (between s i e) (b ∷ ys)
            last zs ye (began us ze q) = rw (four_is (four-before (three-before h)), bz, cz, dz, ye, ze) (zero-3 (between s (i + 4) e) us q)

            after : Began 48 (between s (i + 3) e) ys → Gives (between s i e) (b ∷ ys)
            after (began zs ye q) =
                last zs ye (plain-began (between s (i + 3) e) zs q 48 (between s (i + 4) e) (fourth-is (three-before h)) (λ z. let no : ⊥ = omega (arith, z) in no))

    step-spoils : Stepped U.spoils
    step-spoils l h g = clash l refl

    -- ""\0" with one more octal digit"
    step-coded-3 : b ≡ 48 → octal c ≡ true → octal d ≡ false → Stepped (U.coded (c - 48) 3 b)
    unfolding U.coded
    step-coded-3 bz o f =
        chosen Stepped (eqb (c - 48) 0) (U.bare b) _
        (λ z. let w : c - 48 ≡ 0 = eqb-true _ _ z in let r : 48 ≤ c = (octal-range c o).0 in step-zero-2 bz (omega (arith, w, r)) f)
        (λ z. chosen Stepped (ltb 255 (c - 48)) U.spoils (U.gives 3 (c - 48)) (λ y. step-spoils)
        (λ y l h g. let n : c - 48 ≡ 0 → ⊥ = eqb-false _ _ z in
        rw (three-is h, bz) (one_more c (between s (i + 3) e) ys o (λ w. n (omega (arith, w))) (leads-not s octal (i + 3) e h k (rw de f)) g)))

    -- three octal digits
    step-coded-4 : octal b ≡ true → octal c ≡ true → octal d ≡ true → Stepped (U.coded (octal_value b c d) 4 b)
    unfolding U.coded
    step-coded-4 o p q =
        chosen Stepped (eqb (octal_value b c d) 0) (U.bare b) _
        (λ z.
        let w : octal_value b c d ≡ 0 = eqb-true _ _ z in
        let rb : 48 ≤ b = (octal-range b o).0 in
        let rc : 48 ≤ c = (octal-range c p).0 in
        let rd : 48 ≤ d = (octal-range d q).0 in
        step-zero-3 (omega (arith, w, rb)) (omega (arith, w, rc)) (omega (arith, w, rd)))
        (λ z. chosen Stepped (ltb 255 (octal_value b c d)) U.spoils (U.gives 4 (octal_value b c d)) (λ y. step-spoils)
        (λ y l h g.
        let n : octal_value b c d ≡ 0 → ⊥ = eqb-false _ _ z in
        rw (four_is h) (three b c d (between s (i + 4) e) ys o p q (omega (arith, n)) (ltb-false _ _ y) g)))

    step-octal : (b ≡ 0 → ⊥) → (b ≡ 10 → ⊥) → U.control b ≡ 0 → octal b ≡ true → Stepped (U.octal_unit b c d)
    unfolding U.octal_unit
    step-octal n l z o =
        chosen Stepped (U.octal c) _ (U.bare b)
        (λ p. chosen Stepped (U.octal d) _ _
        (λ q. step-coded-4 o (sym (octal-is c) ∙ p) (sym (octal-is d) ∙ q))
        (λ q. chosen Stepped (eqb b 48) _ (U.bare b)
        (λ y. step-coded-3 (eqb-true _ _ y) (sym (octal-is c) ∙ p) (sym (octal-is d) ∙ q))
        (λ y. step-one n l z (sym (octal-is d) ∙ q) (eqb-false _ _ y))))
        (λ p. step-few n l z (sym (octal-is c) ∙ p))

    step-escape : (b ≡ 10 → ⊥) → Stepped (U.escape_unit b c d)
    unfolding U.escape_unit
    step-escape l =
        chosen Stepped (eqb b 0) U.spoils _ (λ n. step-spoils)
        (λ n. chosen Stepped (eqb (U.control b) 0) _ _
        (λ z. chosen Stepped (U.octal b) _ (U.bare b)
        (λ o. step-octal (eqb-false _ _ n) l (eqb-true _ _ z) (sym (octal-is b) ∙ o))
        (λ o. step-word (eqb-false _ _ n) l (eqb-true _ _ z) (sym (octal-is b) ∙ o)))
        (λ z. step-control z))

  step-drops : get_or s i 0 ≡ 92 → get_or s (i + 1) 0 ≡ 10 → Stepped (U.drops (past (in_run WHITE) s (i + 2) - i))
  step-drops slash b l h g =
      let f : i + 2 ≤ past (in_run WHITE) s (i + 2) = past-from (in_run WHITE) s (i + 2) in
      let w : i + (past (in_run WHITE) s (i + 2) - i) ≡ past (in_run WHITE) s (i + 2) = omega (arith, f) in
      let m : past (in_run WHITE) s (i + 2) ≤ e = rw w at h in
      let g' : Gives (between s (past (in_run WHITE) s (i + 2)) e) ys = rw w at g in
      let t : between s i e ≡ 92 ∷ 10 ∷ between s (i + 2) e = two_is slash 10 (get_or s (i + 2) 0) (get_or s (i + 3) 0) b refl refl (omega (arith, f, m)) in
      rw t (joined (between s (i + 2) e) (between s (past (in_run WHITE) s (i + 2)) e) ys (dropped-past s e k (e - (i + 2)) (i + 2) (omega arith) m) g')

  not-barred : U.barred (get_or s i 0) ≡ false → (get_or s i 0 ≡ 0 → ⊥) × ((get_or s i 0 ≡ 10 → ⊥) × (get_or s i 0 ≡ 13 → ⊥))
  unfolding U.barred
  not-barred f = ((λ z. clash (simp (eq-eqb _ _ z)) f), ((λ z. clash (rw z refl) f), (λ z. clash (rw z refl) f)))

  step-plain : (get_or s i 0 ≡ 34 → ⊥) → (get_or s i 0 ≡ 92 → ⊥) → Stepped (pick (U.barred (get_or s i 0)) U.spoils (U.gives 1 (get_or s i 0)))
  step-plain q b =
      chosen Stepped (U.barred (get_or s i 0)) U.spoils _ (λ z l h g. clash l refl)
      (λ z l h g.
      let n : (get_or s i 0 ≡ 0 → ⊥) × ((get_or s i 0 ≡ 10 → ⊥) × (get_or s i 0 ≡ 13 → ⊥)) = not-barred z in
      rw (between-one s i e (omega (arith, h)) k) (plain (get_or s i 0) _ ys (plain_byte q b n.0 n.1.0 n.1.1) g))

  step-unit : Stepped (U.unit_at s i)
  unfolding U.unit_at
  step-unit =
      chosen Stepped (leb (length s) i) U.spoils _ (λ z l h g. clash l refl)
      (λ z. chosen Stepped (eqb (get_or s i 0) 34) U.closes _ (λ q l h g. clash l refl)
      (λ q. chosen Stepped (eqb (get_or s i 0) 92) _ _
      (λ b. chosen Stepped (eqb (get_or s (i + 1) 0) 10) _ _ (λ n. step-drops (eqb-true _ _ b) (eqb-true _ _ n))
      (λ n. step-escape (eqb-true _ _ b) (get_or s (i + 1) 0) (get_or s (i + 2) 0) (get_or s (i + 3) 0) refl refl refl (eqb-false _ _ n)))
      (λ b. step-plain (eqb-false _ _ q) (eqb-false _ _ b))))

-- the units of a literal
module _ (s : List ℕ) where
  abbrev Quoted : ℕ → Type 0
  Quoted c = (c ≡ 0 → ⊥) → get_or s (c - 1) 0 ≡ 34

  closing-quote : (n i : ℕ) → Quoted (closing i (units n s i))
  unfolding units
  closing-quote zero i = λ z. absurd (z refl)
  closing-quote (suc n) i =
      chosen Quoted (eqb (U.kind (U.unit_at s i)) 2) (i + 1) _
      (λ e z. let w : i + 1 - 1 ≡ i = omega arith in rw w (unit-closing s i (eqb-true _ _ e)).1)
      (λ e. chosen (λ (us : List Unit). Quoted (closing (i + (U.width (U.unit_at s i))) us)) (inside (U.unit_at s i)) (units n s (i + (U.width (U.unit_at s i)))) []
      (λ f. closing-quote n (i + (U.width (U.unit_at s i)))) (λ f z. absurd (z refl)))

  closed-within : (n i : ℕ) → (closing i (units n s i) ≡ 0 → ⊥) → (i < closing i (units n s i)) × (closing i (units n s i) ≤ length s)
  unfolding Closed
  closed-within n i = closing-within n s i

  abbrev Decodes : ℕ → List Unit → Type 0
  Decodes i us = (closing i us ≡ 0 → ⊥) → Gives (between s i (closing i us - 1)) (given us)

  -- the closing quote
  decodes-last : (i : ℕ) (u : Unit) (us : List Unit) → (U.kind u) ≡ 2 → given us ≡ [] → Decodes i (u ∷ us)
  decodes-last i u us h g =
      let c : eqb (U.kind u) 2 ≡ true = eq-eqb _ _ h in
      let d : eqb (U.kind u) 1 ≡ false = ne_eqb (U.kind u) 1 (λ e. let no : ⊥ = omega (arith, h, e) in no) in
      let w : i + 1 - 1 ≡ i = omega arith in
      rw (c, d, w, g) (λ z. rw (between_none s i) ends)

  -- a unit before it
  decodes-more : (n i : ℕ) → inside (U.unit_at s i) ≡ true → eqb (U.kind (U.unit_at s i)) 2 ≡ false
      → Decodes (i + (U.width (U.unit_at s i))) (units n s (i + (U.width (U.unit_at s i)))) → Decodes i (U.unit_at s i ∷ units n s (i + (U.width (U.unit_at s i))))
  decodes-more n i f c h =
      rw c (λ z.
      let m : (i + (U.width (U.unit_at s i)) < closing (i + (U.width (U.unit_at s i))) (units n s (i + (U.width (U.unit_at s i))))) × (closing (i + (U.width (U.unit_at s i))) (units n s (i + (U.width (U.unit_at s i)))) ≤ length s)
      = closed-within n (i + (U.width (U.unit_at s i))) z in
      step-unit s i (closing (i + (U.width (U.unit_at s i))) (units n s (i + (U.width (U.unit_at s i)))) - 1) (omega (arith, m.1)) (closing-quote n (i + (U.width (U.unit_at s i))) z)
      (given (units n s (i + (U.width (U.unit_at s i))))) f (omega (arith, m.0)) (h z))

  decodes-units : (n i : ℕ) → Decodes i (units n s i)
  unfolding units
  decodes-units zero i = λ z. absurd (z refl)
  decodes-units (suc n) i =
      split (inside (U.unit_at s i))
      (λ f. let l : (U.kind (U.unit_at s i)) ≤ 1 = leb-true _ _ f in
      let c : eqb (U.kind (U.unit_at s i)) 2 ≡ false = ne_eqb (U.kind (U.unit_at s i)) 2 (λ e. let no : ⊥ = omega (arith, l, e) in no) in
      rw f (decodes-more n i f c (decodes-units n (i + (U.width (U.unit_at s i))))))
      (λ f. split (eqb (U.kind (U.unit_at s i)) 2) (λ c. rw f (decodes-last i (U.unit_at s i) [] (eqb-true _ _ c) refl))
      (λ c. rw (f, c) (λ z. absurd (z refl))))

-- What lexical decodes from a legal literal, one that its reader finds an end to, is what the list of escapes gives for the bytes between its quotes.
pub decoded-gives : (s : List ℕ) (start : ℕ) → (literal_end s (start + 1) ≡ 0 → ⊥) → Gives (between s (start + 1) (literal_end s (start + 1) - 1)) (decoded_at s start)
unfolding literal_end decoded_at units_at
decoded-gives s start h = decodes-units s (suc (length s - (start + 1))) (start + 1) h
