-- The ways out of the functions of `token`. Assumes nothing.
use mathlib.Core.Path.{◌≡◌, refl, sym, ap, ◌∙◌}
use mathlib.Core.Bool.{Bool, true, false}
use mathlib.Core.List.{List}
use Prim.Native.Nat.{ℕ, ◌+◌, ◌≤◌, ◌<◌, ◌^◌}
use native.Mathlib.Omega.{arith}
use native.Mathlib.Nat.{add-zero, lt_of_le_of_lt}
use mir.Syntax.{w64}
use mir.Val.{Fits}
use lib.Dec.{eqb, ltb}
use lib.ListN.{length, get_or}
use borrow.Author.Tests.{lt-ltb, eq-eqb, ne_eqb, eqb-true, ltb-true, ltb-false}
use Rattle.text.specs.Choice.{split, clash}
use Rattle.text.specs.Scan.{past, past_more, past-from, past-alike}
use Rattle.text.specs.Class.{is_word}
use Rattle.lexical.specs.Kind
use Rattle.lexical.specs.Class.{class_of, LETTER, DIGIT, QUOTE, NUL}
use Rattle.lexical.specs.declared.scan.Run.{Run}
use Rattle.lexical.specs.Run.{in_run, has_class, WORD, NUMERALS}
use Rattle.lexical.specs.Working.Runs.{word_same}
use Rattle.lexical.specs.Operator.{operator_kind}
use Rattle.lexical.specs.Literal.{literal_end}
use Rattle.lexical.specs.declared.token.Token.{Token}
use Rattle.lexical.specs.Token.{token, illegal_at, width_of, operator_at, operator_token, literal_token, float_end, number_token, token_from}
use Rattle.lexical.specs.Working.Plain.{plain, end-plain}
use Rattle.lexical.specs.Theorems.TokenLaws.{operator-next}
use Rattle.lexical.specs.Working.Open.{literal_from, completed, completed-other, completed-open, number-other}
use Rattle.lexical.specs.Theorems.Bounds.{byte-within}
use Rattle.lexical.specs.Working.Lone.{lone, lone-kind, lone-width}
use Rattle.lexical.specs.Working.Common.{common_pair, common-kind, common-width, common-mark}
use Rattle.lexical.specs.Theorems.KindLaws.{Wide, operator-wide}
use Rattle.lexical.specs.Theorems.LiteralLaws.{units-end}
use Rattle.lexical.proofs.LiteralWays.{end-found, quote-fits}

-- the end of a token whose kind settles its width is a place
pub wide_fits : (s : List ℕ) (i k w : ℕ) → Wide s i k → w ≡ width_of k → length s < 2 ^ 64 → Fits w64 i → Fits w64 (i + w)
unfolding width_of
wide_fits s i k w h e l f =
    split (ltb Kind.BAD_LINE k)
    (λ t. let m : i + w ≤ length s = omega (arith, e, h (ltb-true _ _ t)) in record { fits = lt_of_le_of_lt m l })
    (λ t. let n : k < 4 = omega (arith, ltb-false Kind.BAD_LINE k t) in let z : w ≡ 0 = e ∙ simp (lt-ltb k 4 n) in rw (z, add-zero i) f)

operator-here : (s : List ℕ) (mode i b c d r : ℕ) → r ≡ operator_kind mode c b d → c ≡ class_of (get_or s i 0)
    → b ≡ get_or s (i + 1) 0 → d ≡ get_or s (i + 2) 0 → r ≡ operator_at s mode i
unfolding operator_at
operator-here s mode i b c d r e ce be de = simp (sym ce, sym be, sym de) e

module _ (s : List ℕ) (mode i k w : ℕ) (ke : k ≡ operator_at s mode i) (we : w ≡ width_of k) where
  pub operator-fits : length s < 2 ^ 64 → Fits w64 i → Fits w64 (i + w)
  operator-fits l f = wide_fits s i k w (rw ke (operator-wide s mode i)) we l f

  operator-made : token k i (i + w) ≡ operator_token s mode i
  unfolding operator_token
  operator-made = simp (sym ke, we)

-- the byte at i, as it was read
pub first_byte : (s : List ℕ) (i b : ℕ) → b ≡ get_or s (i + 0) 0 → b ≡ get_or s i 0
first_byte s i b be = be ∙ ap (λ (j : ℕ). get_or s j 0) (add-zero i)

pub class-passed : (s : List ℕ) (i b c : ℕ) → c ≡ class_of b → b ≡ get_or s i 0 → c ≡ class_of (get_or s i 0)
class-passed s i b c ce be = ce ∙ ap class_of be

-- an operator that begins no longer one
module _ (s : List ℕ) (i b c : ℕ) (be : b ≡ get_or s i 0) (ce : c ≡ class_of b) (l : Bool) (le : l ≡ lone c) (ly : l ≡ true) where
  lone-here : lone (class_of (get_or s i 0)) ≡ true
  lone-here = rw (sym (class-passed s i b c ce be)) (sym le ∙ ly)

  pub lone-fits : length s < 2 ^ 64 → Fits w64 (i + 1)
  unfolding lone class_of
  lone-fits n =
      let k : i < length s = byte-within s i (λ z. clash lone-here (rw z refl)) in
      let m : i + 1 ≤ length s = omega arith in
      record { fits = lt_of_le_of_lt m n }

  pub lone-made : (mode : ℕ) (r : Token) → r ≡ token c i (i + 1) → r ≡ operator_token s mode i
  unfolding operator_token operator_at
  lone-made mode r re =
      let k : class_of (get_or s i 0) ≡ operator_kind mode (class_of (get_or s i 0)) (get_or s (i + 1) 0) (get_or s (i + 2) 0)
      = lone-kind (class_of (get_or s i 0)) lone-here mode (get_or s (i + 1) 0) (get_or s (i + 2) 0) in
      re ∙ simp (class-passed s i b c ce be, sym k, lone-width (class_of (get_or s i 0)) lone-here)

-- a common operator of two bytes
module _ (s : List ℕ) (i k b x : ℕ) (ke : k ≡ common_pair b x) (kn : k ≡ Kind.ILLEGAL → ⊥) (be : b ≡ get_or s (i + 0) 0) (xe : x ≡ get_or s (i + 1) 0) where
  pair_found : common_pair b x ≡ Kind.ILLEGAL → ⊥
  pair_found z = kn (ke ∙ z)

  pair-here : (mode : ℕ) → k ≡ operator_at s mode i
  pair-here mode =
      operator-here s mode i x (class_of b) (get_or s (i + 2) 0) k (ke ∙ common-kind b x pair_found mode (get_or s (i + 2) 0))
      (ap class_of (first_byte s i b be)) xe refl

  pair-width : 2 ≡ width_of k
  pair-width = common-width b x pair_found ∙ ap width_of (sym ke)

  pub pair_fits : length s < 2 ^ 64 → Fits w64 i → Fits w64 (i + 2)
  pair_fits = operator-fits s 0 i k 2 (pair-here 0) pair-width

  pub from-pair : (mode : ℕ) (r : Token) → r ≡ token k i (i + 2) → completed s r ≡ token_from s mode i
  unfolding token_from operator_token
  from-pair mode r re =
      let m : (eqb (class_of b) LETTER ≡ false) × (eqb (class_of b) DIGIT ≡ false) × (eqb (class_of b) QUOTE ≡ false) = common-mark b x pair_found in
      let l : eqb (class_of b) LETTER ≡ false = m.0 in
      let d : eqb (class_of b) DIGIT ≡ false = m.1 in
      let q : eqb (class_of b) QUOTE ≡ false = m.2 in
      ap (completed s) re ∙ completed-other s (token k i (i + 2)) (rw (pair-here mode) (operator-next s mode i))
      ∙ simp (sym (first_byte s i b be), l, d, q) (operator-made s mode i k 2 (pair-here mode) pair-width)

-- a byte of a class below NUL's stands within the text, and begins its run
module _ (s : List ℕ) (i k : ℕ) (e : class_of (get_or s i 0) ≡ k) (l : k < NUL) where
  first-within : i < length s
  unfolding class_of
  first-within = byte-within s i (λ z. let q : NUL ≡ k = rw z at e in let no : ⊥ = omega (arith, l, q) in no)

  first_fits : length s < 2 ^ 64 → Fits w64 (i + 1)
  first_fits n = let m : i + 1 ≤ length s = omega (arith, first-within) in record { fits = lt_of_le_of_lt m n }

  first_more : (w : Run) → in_run w (get_or s i 0) ≡ true → past (in_run w) s i ≡ past (in_run w) s (i + 1)
  first_more w h = past_more (in_run w) s i first-within h

module _ (s : List ℕ) (mode i b : ℕ) (be : b ≡ get_or s (i + 0) 0) (t : Bool) (te : t ≡ eqb (class_of b) LETTER) where
  at_i : b ≡ get_or s i 0
  at_i = first_byte s i b be

  module _ (h : t ≡ true) where
    letter-here : class_of (get_or s i 0) ≡ LETTER
    letter-here = rw (sym at_i) (eqb-true (class_of b) LETTER (sym te ∙ h))

    pub name-fits : length s < 2 ^ 64 → Fits w64 (i + 1)
    name-fits n = first_fits s i LETTER letter-here (omega arith) n

    name-more : past (in_run WORD) s i ≡ past (in_run WORD) s (i + 1)
    unfolding in_run has_class
    name-more = first_more s i LETTER letter-here (omega arith) WORD (simp letter-here)

    pub from-name : (e : ℕ) → e ≡ past is_word s (i + 1) → (r : Token) → r ≡ token Kind.NAME i e → completed s r ≡ token_from s mode i
    unfolding token_from
    from-name e ee r re =
        ap (completed s) re ∙ completed-other s (token Kind.NAME i e) (λ z. let no : ⊥ = omega (arith, z) in no)
        ∙ simp (letter-here, name-more, past-alike (in_run WORD) is_word word_same s (i + 1), sym ee)

  module _ (tn : t ≡ false) (u : Bool) (ue : u ≡ eqb (class_of b) DIGIT) where
    pub digit-passed : u ≡ true → class_of (get_or s i 0) ≡ DIGIT
    digit-passed h = rw (sym at_i) (eqb-true (class_of b) DIGIT (sym ue ∙ h))

    pub from-number : (r : Token) → u ≡ true → r ≡ number_token s i → completed s r ≡ token_from s mode i
    unfolding token_from
    from-number r h re = completed-other s r (rw re (number-other s i)) ∙ simp (sym at_i, sym te, tn, sym ue, h) re

    module _ (un : u ≡ false) (v : Bool) (ve : v ≡ eqb (class_of b) QUOTE) where
      pub from-literal : (r : Token) → v ≡ true → completed s r ≡ literal_token s i → completed s r ≡ token_from s mode i
      unfolding token_from
      from-literal r h re = simp (sym at_i, sym te, tn, sym ue, un, sym ve, h) re

      module _ (vn : v ≡ false) where
        pub from-operator : (r : Token) → r ≡ operator_token s mode i → completed s r ≡ token_from s mode i
        unfolding token_from operator_token
        from-operator r re = completed-other s r (rw re (operator-next s mode i)) ∙ simp (sym at_i, sym te, tn, sym ue, un, sym ve, vn) re

module _ (s : List ℕ) (i : ℕ) (r : Token) where
  pub literal-past : length s ≤ i → r ≡ illegal_at i → completed s r ≡ literal_token s i
  unfolding literal_token completed literal_end
  literal-past h re =
      let l : length s ≤ i + 1 = omega arith in
      let z : literal_end s (i + 1) ≡ 0 = rw (units-end s (i + 1) l) refl in
      rw re (simp (eq-eqb _ _ z))

  module _ (e : ℕ) (ee : e ≡ past plain s (i + 1)) where
    pub literal-closed : (t : Bool) → t ≡ eqb (get_or s e 0) 34 → t ≡ true → r ≡ token Kind.LITERAL i (e + 1) → completed s r ≡ literal_token s i
    unfolding literal_token completed
    literal-closed t te h re =
        let z : e + 1 ≡ literal_end s (i + 1) = end-found s (i + 1) e ee t te h in
        rw re (simp (sym z, ne_eqb (e + 1) 0 (λ q. let no : ⊥ = omega (arith, q) in no)))

    pub literal-open : r ≡ token Kind.NEXT i e → completed s r ≡ literal_token s i
    unfolding literal_token literal_from
    literal-open re =
        let n : i ≡ e → ⊥ = λ q. let no : ⊥ = omega (arith, q, ee, past-from plain s (i + 1)) in no in
        let z : literal_end s e ≡ literal_end s (i + 1) = ap (literal_end s) ee ∙ sym (end-plain s (i + 1)) in
        rw re (completed-open s (token Kind.NEXT i e) refl n ∙ simp (sym z))

module _ (s : List ℕ) (i : ℕ) (d : class_of (get_or s i 0) ≡ DIGIT) where
  pub number_fits : length s < 2 ^ 64 → Fits w64 (i + 1)
  number_fits n = first_fits s i DIGIT d (omega arith) n

  number_more : past (in_run NUMERALS) s i ≡ past (in_run NUMERALS) s (i + 1)
  unfolding in_run has_class
  number_more = first_more s i DIGIT d (omega arith) NUMERALS (simp d)

  module _ (e : ℕ) (ee : e ≡ past (in_run NUMERALS) s (i + 1)) (f : ℕ) (fe : f ≡ float_end s e) (r : Token) where
    pub number_digits : f ≡ e → r ≡ token Kind.DIGITS i e → r ≡ number_token s i
    unfolding number_token
    number_digits h re = re ∙ simp (number_more, sym ee, sym fe, eq-eqb _ _ h)

    pub number-float : (f ≡ e → ⊥) → r ≡ token Kind.FLOAT i f → r ≡ number_token s i
    unfolding number_token
    number-float h re = re ∙ simp (number_more, sym ee, sym fe, ne_eqb _ _ h)

pub ruleset operator = (operator-fits)

pub ruleset mark = (lone-fits, lone-made, class-passed)

pub ruleset literal = (quote-fits, literal-past, literal-closed, literal-open)

pub ruleset number = (number_fits, number_digits, number-float)

pub ruleset from = (name-fits, pair_fits, first_byte, digit-passed, from-name, from-number, from-literal, from-pair, from-operator)
