-- F01: what reason 7 counts in a float literal are its digits before and behind the point. Assumes nothing.
use Rattle.std.specs.Prelude.{◌≡◌, Bool, true, false, List, ℕ, ◌+◌, ◌-◌, ◌≤◌, ◌<◌, eqb, leb, ltb, get_or, drop}
use Rattle.std.proofs.Math.Path.{refl}
use Rattle.std.proofs.Common.{sym, ap, ◌∙◌, subst, arith, eq-eqb, ne_eqb, lt-ltb, le-ltb, leb-true, ltb-false}
use Rattle.std.proofs.Math.ListN.{length}
use Rattle.std.proofs.lemmas.Bool.{lt-leb}
use Rattle.text.specs.Choice.{pick, split, clash}
use Rattle.text.specs.Class.{in_class, digit, is_digit}
use Rattle.text.specs.Loop.{Step, next, done, loop-ind}
use Rattle.text.specs.Scan.{run, past, past-alike}
use Rattle.lexical.specs.Kind
use Rattle.lexical.specs.Theorems.Bounds.{chosen}
use Rattle.lexical.specs.Class.{or, within, mark_of, class_of, BAR, TILDE, LETTER, DIGIT, QUOTE, BLANK, NEWLINE, HASH}
use Rattle.lexical.specs.Run.{in_run, has_class, BLANKS, FREE, NUMERALS}
use Rattle.lexical.specs.Label.{label_kind, word_keynote_version, word_local_constants, word_authorizer, word_licensees, word_conditions, word_comment, word_signature}
use Rattle.lexical.specs.Word.{stands}
use Rattle.lexical.specs.Literal.{literal_end}
use Rattle.lexical.specs.Operator.{equal_pair, pair_of, mark_kind, is_of, operator_kind}
use Rattle.lexical.specs.Token.{end_of, operator_at, operator_token, literal_token, float_end, number_token, token_from}
use Rattle.lexical.specs.Line.{rest_of_line, visible, in_line, blank_to, indented, line_at, line_turn, lines_from, token_at}
use Rattle.lexical.specs.declared.token.Token.{Token}
use Rattle.syntax.specs.Operator.{a-float}
use Rattle.syntax.specs.Expr.{decimal}
use Rattle.syntax.specs.Code.{decimal_at}
use Rattle.syntax.specs.Parsed.{ok, aside}
use Rattle.conditions.specs.Table.{sorted}
use Rattle.conditions.specs.Parsed.{part}
use Rattle.conditions.specs.Word.{next_at}
use Rattle.conditions.specs.Operand.{read_float}
use Rattle.limits.specs.Limits.{most_float}

-- the digits at a place, and "every digit before and behind the point" of the literal there
abbrev pub digits_at : List ℕ → ℕ → ℕ
digits_at s i = run (in_class digit) (drop i s)

abbrev pub all_digits : List ℕ → ℕ → ℕ
all_digits s i = digits_at s i + digits_at s (i + digits_at s i + 1)

-- the lexer's digits are these
other : (f : Bool) (x y : ℕ) → eqb x DIGIT ≡ false → eqb y DIGIT ≡ false → eqb (pick f x y) DIGIT ≡ false
other f x y h k = chosen (λ (n : ℕ). eqb n DIGIT ≡ false) f x y (λ e. h) (λ e. k)

mark-other : (b : ℕ) → eqb (mark_of b) DIGIT ≡ false
mark-other b =
    other (eqb b 40) _ _ refl (other (eqb b 41) _ _ refl (other (eqb b 123) _ _ refl (other (eqb b 125) _ _ refl
    (other (eqb b 44) _ _ refl (other (eqb b 59) _ _ refl (other (eqb b 61) _ _ refl (other (eqb b 33) _ _ refl
    (other (eqb b 60) _ _ refl (other (eqb b 62) _ _ refl (other (eqb b 46) _ _ refl (other (eqb b 36) _ _ refl
    (other (eqb b 64) _ _ refl (other (eqb b 38) _ _ refl (other (eqb b 43) _ _ refl (other (eqb b 45) _ _ refl
    (other (eqb b 42) _ _ refl (other (eqb b 47) _ _ refl (other (eqb b 37) _ _ refl (other (eqb b 94) _ _ refl refl)))))))))))))))))))

no_digit : (b : ℕ) → within 48 57 b ≡ false → eqb (class_of b) DIGIT ≡ false
unfolding class_of
no_digit b h =
    rw h (other (or (eqb b 32) (eqb b 9)) _ _ refl (other (eqb b 10) _ _ refl (other (or (within 97 122 b) (or (within 65 90 b) (eqb b 95))) _ _ refl
    (other (eqb b 34) _ _ refl (other (eqb b 35) _ _ refl (other (eqb b 0) _ _ refl (other (eqb b 124) _ _ refl (other (eqb b 126) _ _ refl (mark-other b)))))))))

digit-bounds : (b : ℕ) → within 48 57 b ≡ true → (48 ≤ b) × (b ≤ 57)
digit-bounds b h = split (leb 48 b) (λ e. (leb-true 48 b e, leb-true b 57 (rw e at h))) (λ e. clash h (rw e))

a-digit : (b : ℕ) → within 48 57 b ≡ true → eqb (class_of b) DIGIT ≡ true
unfolding class_of
a-digit b h = is_digit_lem (digit-bounds b h).0 (digit-bounds b h).1
  where
    is_digit_lem : 48 ≤ b → b ≤ 57 → eqb (class_of b) DIGIT ≡ true
    is_digit_lem l m =
        simp (
          ne_eqb b 32 (λ z. let no : ⊥ = omega (arith, l, z) in no),
          ne_eqb b 9 (λ z. let no : ⊥ = omega (arith, l, z) in no),
          ne_eqb b 10 (λ z. let no : ⊥ = omega (arith, l, z) in no),
          ne_eqb b 95 (λ z. let no : ⊥ = omega (arith, m, z) in no),
          lt-leb 97 b (omega (arith, m)),
          lt-leb 65 b (omega (arith, m)),
          h,
        )

digit-same : (b : ℕ) → in_run NUMERALS b ≡ in_class digit b
unfolding in_run has_class in_class is_digit
digit-same b = split (within 48 57 b) (λ e. a-digit b e ∙ sym e) (λ e. no_digit b e ∙ sym e)

past-digits : (s : List ℕ) (i : ℕ) → past (in_run NUMERALS) s i ≡ i + digits_at s i
unfolding past
past-digits s i = past-alike (in_run NUMERALS) (in_class digit) digit-same s i

-- a token that is a float literal ends behind its digits and the point
abbrev Wide : List ℕ → Token → Type 0
Wide s t = t.kind ≡ Kind.FLOAT → t.end ≡ t.start + (all_digits s t.start + 1)

abbrev Apart : ℕ → Type 0
Apart k = k ≡ Kind.FLOAT → ⊥

apart : (f : Bool) (x y : ℕ) → Apart x → Apart y → Apart (pick f x y)
apart f x y h k = chosen Apart f x y (λ e. h) (λ e. k)

point-end : (s : List ℕ) (e : ℕ) → eqb (float_end s e) e ≡ false → float_end s e ≡ past (in_run NUMERALS) s (e + 1)
unfolding float_end
point-end s e =
    chosen Ends (leb (length s) e) e _ (λ h k. clash (eq-eqb e e refl) k)
    (λ h. chosen Ends (eqb (get_or s e 0) 46) _ e
    (λ f. chosen Ends (leb (past (in_run NUMERALS) s (e + 1)) (e + 1)) e _ (λ g k. clash (eq-eqb e e refl) k) (λ g k. refl))
    (λ f k. clash (eq-eqb e e refl) k))
  where
    Ends : ℕ → Type 0
    Ends n = eqb n e ≡ false → n ≡ past (in_run NUMERALS) s (e + 1)

number-wide : (s : List ℕ) (i : ℕ) → Wide s (number_token s i)
unfolding number_token
number-wide s i =
    chosen (Wide s) (eqb (float_end s e) e) _ _ (λ q z. absurd (let no : ⊥ = omega (arith, z) in no))
    (λ q z. point-end s e q ∙ past-digits s (e + 1) ∙ ap (λ (k : ℕ). k + 1 + digits_at s (k + 1)) (past-digits s i) ∙ sums i (digits_at s i) (digits_at s (i + digits_at s i + 1)))
  where
    e : ℕ
    e = past (in_run NUMERALS) s i

    sums : (i a b : ℕ) → i + a + 1 + b ≡ i + (a + b + 1)
    sums i a b = omega arith

equal-apart : (c : ℕ) → Apart (equal_pair c)
unfolding equal_pair
equal-apart c =
    apart (eqb c Kind.ASSIGN) _ _ (λ z. omega (arith, z)) (apart (eqb c Kind.NOT) _ _ (λ z. omega (arith, z)) (apart (eqb c Kind.LESS) _ _ (λ z. omega (arith, z))
    (apart (eqb c Kind.GREATER) _ _ (λ z. omega (arith, z)) (apart (eqb c TILDE) _ _ (λ z. omega (arith, z)) (λ z. omega (arith, z))))))

pair-apart : (c b : ℕ) → Apart (pair_of c b)
unfolding pair_of
pair-apart c b =
    apart (eqb b 61) _ _ (equal-apart c)
    (apart (eqb b 62) _ _ (apart (eqb c Kind.MINUS) _ _ (λ z. omega (arith, z)) (λ z. omega (arith, z)))
    (apart (eqb b 38) _ _ (apart (eqb c Kind.AMPERSAND) _ _ (λ z. omega (arith, z)) (λ z. omega (arith, z)))
    (apart (eqb b 124) _ _ (apart (eqb c BAR) _ _ (λ z. omega (arith, z)) (λ z. omega (arith, z))) (λ z. omega (arith, z)))))

mark-apart : (c : ℕ) → Apart (mark_kind c)
unfolding mark_kind
mark-apart c = chosen Apart (ltb c Kind.OPEN) _ _ (λ e z. omega (arith, z)) (λ e z. let l : Kind.OPEN ≤ c = ltb-false c Kind.OPEN e in omega (arith, l, z))

operator-apart : (mode c b d : ℕ) → Apart (operator_kind mode c b d)
unfolding operator_kind
operator-apart mode c b d = apart (is_of mode c b d) _ _ (λ z. omega (arith, z)) (apart (eqb (pair_of c b) Kind.ILLEGAL) _ _ (mark-apart c) (pair-apart c b))

label-apart : (s : List ℕ) (i : ℕ) → Apart (label_kind s i)
unfolding label_kind
label-apart s i =
    apart (stands s i word_keynote_version) _ _ (λ z. omega (arith, z)) (apart (stands s i word_local_constants) _ _ (λ z. omega (arith, z)) (apart (stands s i word_authorizer) _ _ (λ z. omega (arith, z))
    (apart (stands s i word_licensees) _ _ (λ z. omega (arith, z)) (apart (stands s i word_conditions) _ _ (λ z. omega (arith, z)) (apart (stands s i word_comment) _ _ (λ z. omega (arith, z))
    (apart (stands s i word_signature) _ _ (λ z. omega (arith, z)) (λ z. omega (arith, z))))))))

module _ (s : List ℕ) where
  -- any other token is none
  off : (t : Token) → Apart t.kind → Wide s t
  off t h z = absurd (h z)

  from-wide : (mode i : ℕ) → Wide s (token_from s mode i)
  unfolding token_from literal_token operator_token operator_at
  from-wide mode i =
      chosen (Wide s) (eqb (class_of (get_or s i 0)) LETTER) _ _ (λ e. off _ (λ z. omega (arith, z)))
      (λ e. chosen (Wide s) (eqb (class_of (get_or s i 0)) DIGIT) _ _ (λ f. number-wide s i)
      (λ f. chosen (Wide s) (eqb (class_of (get_or s i 0)) QUOTE) _ _
      (λ g. chosen (Wide s) (eqb (literal_end s (i + 1)) 0) _ _ (λ h. off _ (λ z. omega (arith, z))) (λ h. off _ (λ z. omega (arith, z))))
      (λ g. off _ (operator-apart mode (class_of (get_or s i 0)) (get_or s (i + 1) 0) (get_or s (i + 2) 0)))))

  rest-wide : (i : ℕ) → Wide s (rest_of_line s i)
  unfolding rest_of_line
  rest-wide i =
      chosen (Wide s) (leb (length s) (past (in_run FREE) s i)) _ _ (λ e. off _ (λ z. omega (arith, z)))
      (λ e. chosen (Wide s) (eqb (get_or s (past (in_run FREE) s i) 0) 0) _ _ (λ f. off _ (λ z. omega (arith, z))) (λ f. off _ (λ z. omega (arith, z))))

  visible-wide : (mode i : ℕ) → Wide s (visible s mode i)
  unfolding visible
  visible-wide mode i =
      chosen (Wide s) (leb (length s) i) _ _ (λ e. off _ (λ z. omega (arith, z)))
      (λ e. chosen (Wide s) (eqb (class_of (get_or s i 0)) NEWLINE) _ _ (λ f. off _ (λ z. omega (arith, z)))
      (λ f. chosen (Wide s) (eqb (class_of (get_or s i 0)) HASH) _ _ (λ g. rest-wide i) (λ g. from-wide mode i)))

  in-line-wide : (mode i : ℕ) → Wide s (in_line s mode i)
  unfolding in_line
  in-line-wide mode i = chosen (Wide s) (eqb mode Kind.IN_COMMENT) _ _ (λ e. rest-wide i) (λ e. visible-wide mode (past (in_run BLANKS) s i))

  indented-wide : (mode i e : ℕ) → Wide s (indented s mode i e)
  unfolding indented
  indented-wide mode i e =
      chosen (Wide s) (eqb mode Kind.BEFORE) _ _ (λ f. chosen (Wide s) (eqb (class_of (get_or s e 0)) HASH) _ _ (λ g. rest-wide e) (λ g. off _ (λ z. omega (arith, z)))) (λ f. in-line-wide mode i)

  line-wide : (mode i : ℕ) → Wide s (line_at s mode i)
  unfolding line_at
  line-wide mode i =
      chosen (Wide s) (leb (length s) i) _ _ (λ e. off _ (λ z. omega (arith, z)))
      (λ e. chosen (Wide s) (blank_to s (past (in_run BLANKS) s i)) _ _ (λ f. off _ (λ z. omega (arith, z)))
      (λ f. chosen (Wide s) (eqb (class_of (get_or s i 0)) HASH) _ _ (λ g. rest-wide i)
      (λ g. chosen (Wide s) (eqb (class_of (get_or s i 0)) BLANK) _ _ (λ h. indented-wide mode i (past (in_run BLANKS) s i)) (λ h. off _ (label-apart s i)))))

  data Turns : Step ℕ Token → Type 0 where
    turns-on : (j : ℕ) → Turns (next j)
    turns-out : (t : Token) → Wide s t → Turns (done t)

  line-turn : (mode i : ℕ) → Turns (line_turn s mode i)
  line-turn mode i =
      chosen Turns (leb (length s) i) _ _ (λ e. turns-out (end_of s) (off _ (λ z. omega (arith, z))))
      (λ e. chosen Turns (eqb (line_at s mode i).kind Kind.NEXT) _ _ (λ f. turns-on (line_at s mode i).end) (λ f. turns-out (line_at s mode i) (line-wide mode i)))

  turned-out : (t : Token) → Turns (done t) → Wide s t
  turned-out t (turns-out _ h) = h

  lines-wide : (mode i : ℕ) → Wide s (lines_from s mode i)
  unfolding lines_from
  lines-wide mode i =
      loop-ind (λ j. length s - j) (λ j. end_of s) (line_turn s mode) (λ j t. Wide s t) (λ j. off _ (λ z. omega (arith, z))) (λ j t e. turned-out t (subst Turns e (line-turn mode j))) (λ j k t e l h. h) i

  token-wide : (mode at : ℕ) → Wide s (token_at s mode at)
  unfolding token_at
  token-wide mode at =
      chosen (Wide s) (eqb at 0) _ _ (λ e. lines-wide mode 0)
      (λ e. chosen (Wide s) (eqb (in_line s mode at).kind Kind.NEXT) _ _ (λ f. lines-wide mode (in_line s mode at).end) (λ f. in-line-wide mode at))

  -- a float literal of more than 18 digits has reason 7, at its start
  module _ (at : ℕ) (float : (next_at s at).kind ≡ Kind.FLOAT) where
    width : (next_at s at).end - (next_at s at).start ≡ all_digits s (next_at s at).start + 1
    width = let e : (next_at s at).end ≡ (next_at s at).start + (all_digits s (next_at s at).start + 1) = token-wide Kind.IN_FIELD at float in omega (arith, e)

    pub longer : 18 < all_digits s (next_at s at).start → read_float s (next_at s at) ≡ aside 7 (next_at s at).start
    unfolding read_float
    longer h = rw (lt-ltb most_float ((next_at s at).end - (next_at s at).start) (omega (arith, width, h))) refl

    -- any other is read
    pub short-enough : all_digits s (next_at s at).start ≤ 18
        → read_float s (next_at s at) ≡ ok (part (sorted a-float) (decimal (decimal_at s (next_at s at).start))) (next_at s (next_at s at).end)
    unfolding read_float
    short-enough h = rw (le-ltb most_float ((next_at s at).end - (next_at s at).start) (omega (arith, width, h))) refl
