-- What the list of escapes gives is one thing only: the bytes in quotes are a legal literal, and it is what lexical decodes from it. Assumes nothing.
use Rattle.std.specs.Prelude.{◌≡◌, refl, Bool, true, false, List, [], ◌∷◌, ◌++◌, ℕ, ◌-◌, ◌≤◌}
use Rattle.std.proofs.Common.{◌∙◌, arith}
use Rattle.std.proofs.Math.ListN.{get_or}
use borrow.Author.Tests.{ne_eqb, le-ltb}
use Rattle.text.specs.Choice.{pick, split}
use Rattle.lexical.specs.Theorems.Bounds.{chosen}
use Rattle.lexical.specs.Unit as U
use Rattle.grammar.specs.Escape.{octal, white, leads, two_octal, Control, newline, return, tab, feed, Other, other_byte, octal_value}
use Rattle.grammar.specs.Theorems.Decoding.{octal-is, octal-range, octal-zero}

-- the list with a closing quote behind it, and more
abbrev pub quoted : List ℕ → List ℕ → List ℕ
quoted xs post = xs ++ 34 ∷ post

pub quote-plain : (octal 34 ≡ false) × (white 34 ≡ false)
unfolding octal white
quote-plain = (refl, refl)

pub head-not : (p : ℕ → Bool) → p 34 ≡ false → (xs post : List ℕ) → leads p xs ≡ false → p (get_or (quoted xs post) 0 0) ≡ false
head-not p q [] post h = q
head-not p q (x ∷ xs) post h = h

heads-not : (xs post : List ℕ) → two_octal xs ≡ false → pick (octal (get_or (quoted xs post) 0 0)) (octal (get_or (quoted xs post) 1 0)) false ≡ false
heads-not [] post h = rw quote-plain.0
heads-not (x ∷ []) post h = chosen (λ (t : Bool). t ≡ false) (octal x) (octal 34) false (λ o. quote-plain.0) (λ o. refl)
heads-not (x ∷ y ∷ xs) post h = h

-- escapes, as lexical reads them
u-octal : (b : ℕ) (t : Bool) → octal b ≡ t → U.octal b ≡ t
u-octal b t h = octal-is b ∙ h

no-letter : (b : ℕ) → (b ≡ 110 → ⊥) → (b ≡ 114 → ⊥) → (b ≡ 116 → ⊥) → (b ≡ 102 → ⊥) → U.control b ≡ 0
unfolding U.control
no-letter b n r t f = rw (ne_eqb b 110 n, ne_eqb b 114 r, ne_eqb b 116 t, ne_eqb b 102 f)

digit-letter : (b : ℕ) → octal b ≡ true → U.control b ≡ 0
digit-letter b o =
    let r : b ≤ 55 = (octal-range b o).1 in
    no-letter b (λ e. let no : ⊥ = omega (arith, r, e) in no) (λ e. let no : ⊥ = omega (arith, r, e) in no) (λ e. let no : ⊥ = omega (arith, r, e) in no) (λ e. let no : ⊥ = omega (arith, r, e) in no)

pub read-control : (b v c d : ℕ) → Control b v → U.escape_unit b c d ≡ U.gives 2 v
unfolding U.escape_unit U.control
read-control _ _ c d newline = refl
read-control _ _ c d return = refl
read-control _ _ c d tab = refl
read-control _ _ c d feed = refl

pub read-octal : (b c d : ℕ) → octal b ≡ true → U.escape_unit b c d ≡ U.octal_unit b c d
unfolding U.escape_unit
read-octal b c d o =
    let r : 48 ≤ b = (octal-range b o).0 in
    rw (ne_eqb b 0 (λ e. let no : ⊥ = omega (arith, r, e) in no), digit-letter b o, u-octal b true o)

pub read_one : (c d : ℕ) → octal c ≡ true → (c ≡ 48 → ⊥) → octal d ≡ false → U.octal_unit 48 c d ≡ U.gives 3 (c - 48)
unfolding U.octal_unit U.coded
read_one c d o n f =
    let r : (48 ≤ c) × (c ≤ 55) = octal-range c o in
    rw (u-octal c true o, u-octal d false f, ne_eqb (c - 48) 0 (λ e. n (omega (arith, r.0, e))), le-ltb 255 (c - 48) (omega (arith, r.1)))

pub read-three : (b c d : ℕ) → octal c ≡ true → octal d ≡ true → 1 ≤ octal_value b c d → octal_value b c d ≤ 255 → U.octal_unit b c d ≡ U.gives 4 (octal_value b c d)
unfolding U.octal_unit U.coded
read-three b c d o p h k =
    rw (u-octal c true o, u-octal d true p, ne_eqb (octal_value b c d) 0 (λ e. let no : ⊥ = omega (arith, h, e) in no), le-ltb 255 (octal_value b c d) k)

pub read-few : (b c d : ℕ) → octal c ≡ false → U.octal_unit b c d ≡ U.bare b
unfolding U.octal_unit
read-few b c d f = rw (u-octal c false f)

pub read-zero-2 : (d : ℕ) → octal d ≡ false → U.octal_unit 48 48 d ≡ U.bare 48
unfolding U.octal_unit U.coded
read-zero-2 d f = rw (u-octal 48 true octal-zero, u-octal d false f)

pub read-zero-3 : U.octal_unit 48 48 48 ≡ U.bare 48
unfolding U.octal_unit U.coded
read-zero-3 = rw (u-octal 48 true octal-zero)

read-two : (b c d : ℕ) → octal c ≡ true → octal d ≡ false → (b ≡ 48 → ⊥) → U.octal_unit b c d ≡ U.bare b
unfolding U.octal_unit
read-two b c d o f n = rw (u-octal c true o, u-octal d false f, ne_eqb b 48 n)

read_word : (b c d : ℕ) → (b ≡ 0 → ⊥) → U.control b ≡ 0 → octal b ≡ false → U.escape_unit b c d ≡ U.bare b
unfolding U.escape_unit
read_word b c d n z f = rw (ne_eqb b 0 n, z, u-octal b false f)

pub read-other : (b : ℕ) (xs post : List ℕ) → Other b xs → U.escape_unit b (get_or (quoted xs post) 0 0) (get_or (quoted xs post) 1 0) ≡ U.bare b
read-other b xs post (other_byte nz nl nn nr nt nf n0 o) =
    split (octal b)
    (λ p. let two : two_octal xs ≡ false = rw p at o in
    let both : pick (octal (get_or (quoted xs post) 0 0)) (octal (get_or (quoted xs post) 1 0)) false ≡ false = heads-not xs post two in
    read-octal b _ _ p ∙ split (octal (get_or (quoted xs post) 0 0)) (λ q. read-two b _ _ q (rw q at both) n0) (λ q. read-few b _ _ q))
    (λ p. read_word b _ _ nz (no-letter b nn nr nt nf) p)
