-- A name in the text is the run of its letters, digits and underscores. Assumes nothing.
use Rattle.std.specs.Prelude.{◌≡◌, refl, List, [], ◌∷◌, ℕ, ◌+◌, ◌-◌, ◌<◌, eqb, leb, ltb, get_or, drop}
use Rattle.std.proofs.Common.{sym, subst, ◌∙◌, arith, ltb-false}
use Rattle.std.proofs.Math.ListN.{length}
use Rattle.std.proofs.lemmas.Bool.{eqb-false}
use Rattle.text.specs.Choice.{pick}
use Rattle.text.specs.Class.{in_class, is_digit, is_letter, is_word}
use Rattle.text.specs.Counted.{part}
use Rattle.text.specs.Loop.{Step, next, done, loop-ind}
use Rattle.text.specs.Scan.{run, past, past-alike}
use Rattle.lexical.specs.Theorems.Bounds.{chosen}
use Rattle.lexical.specs.Kind
use Rattle.lexical.specs.Theorems.KindLaws.{pair-width}
use Rattle.lexical.specs.Class.{class_of, LETTER, DIGIT, QUOTE, BLANK, NEWLINE, HASH}
use Rattle.lexical.specs.Run.{has_class, in_run, WORD, NUMERALS, BLANKS, FREE}
use Rattle.lexical.specs.Working.Runs.{word_same}
use Rattle.lexical.specs.Word.{stands}
use Rattle.lexical.specs.Label.{label_kind}
use Rattle.lexical.specs.Operator.{pair_of, mark_kind, is_of, operator_kind}
use Rattle.lexical.specs.Literal.{literal_end}
use Rattle.lexical.specs.Token.{token, end_of, operator_at, operator_token, literal_token, float_end, number_token, token_from}
use Rattle.lexical.specs.Line.{rest_of_line, visible, in_line, blank_to, indented, line_at, line_turn, lines_from, token_at}
use Rattle.lexical.specs.declared.token.Token.{Token}
use Rattle.syntax.specs.Code.{name_at}
use Rattle.syntax.specs.Stood.{Stood}
use Rattle.fields.specs.Working.Word.{word_of}

-- a kind other than a name's
Other : ℕ → Type 0
Other k = k ≡ Kind.NAME → ⊥

low : (k : ℕ) → k < Kind.NAME → Other k
unfolding Other
low k h e = omega (arith, h, e)

high : (k : ℕ) → Kind.NAME < k → Other k
unfolding Other
high k h e = omega (arith, h, e)

label-other : (s : List ℕ) (i : ℕ) → Other (label_kind s i)
unfolding label_kind
label-other s i =
    one _ Kind.KEYNOTE_VERSION _ (omega arith)
    (one _ Kind.LOCAL_CONSTANTS _ (omega arith)
    (one _ Kind.AUTHORIZER _ (omega arith)
    (one _ Kind.LICENSEES _ (omega arith)
    (one _ Kind.CONDITIONS _ (omega arith)
    (one _ Kind.COMMENT _ (omega arith)
    (one _ Kind.SIGNATURE Kind.BAD_LINE (omega arith) (low Kind.BAD_LINE (omega arith))))))))
  where
    one : (w : List ℕ) (k r : ℕ) → k < Kind.NAME → Other r → Other (pick (stands s i w) k r)
    one w k r h m = chosen Other (stands s i w) k r (λ e. low k h) (λ e. m)

operator-other : (s : List ℕ) (mode i : ℕ) → Other (operator_at s mode i)
unfolding operator_at operator_kind mark_kind
operator-other s mode i =
    chosen Other (is_of mode (class_of (get_or s i 0)) (get_or s (i + 1) 0) (get_or s (i + 2) 0)) Kind.OF _ (λ e. high Kind.OF (omega arith))
    (λ e. chosen Other (eqb (pair_of (class_of (get_or s i 0)) (get_or s (i + 1) 0)) Kind.ILLEGAL) _ _
    (λ f. chosen Other (ltb (class_of (get_or s i 0)) Kind.OPEN) Kind.ILLEGAL _ (λ g. low Kind.ILLEGAL (omega arith))
    (λ g. high (class_of (get_or s i 0)) (omega (arith, ltb-false (class_of (get_or s i 0)) Kind.OPEN g))))
    (λ f. let p : Kind.OF < pair_of (class_of (get_or s i 0)) (get_or s (i + 1) 0) = (pair-width (class_of (get_or s i 0)) (get_or s (i + 1) 0) (eqb-false _ _ f)).1 in
    high _ (omega (arith, p))))

module _ (s : List ℕ) where
  -- a token that is a name ends with its run
  data Spelt : Token → Type 0 where
    spelt : (k i e : ℕ) → (k ≡ Kind.NAME → e ≡ past (in_run WORD) s i) → Spelt (token k i e)

  no_name : (k i e : ℕ) → Other k → Spelt (token k i e)
  unfolding Other
  no_name k i e h = spelt k i e (λ n. absurd (h n))

  low-spelt : (k i e : ℕ) → k < Kind.NAME → Spelt (token k i e)
  low-spelt k i e h = no_name k i e (low k h)

  number-spelt : (i : ℕ) → Spelt (number_token s i)
  unfolding number_token
  number-spelt i =
      chosen Spelt (eqb (float_end s (past (in_run NUMERALS) s i)) (past (in_run NUMERALS) s i)) _ _ (λ f. no_name _ _ _ (high Kind.DIGITS (omega arith)))
      (λ f. no_name _ _ _ (high Kind.FLOAT (omega arith)))

  literal-spelt : (i : ℕ) → Spelt (literal_token s i)
  unfolding literal_token
  literal-spelt i = chosen Spelt (eqb (literal_end s (i + 1)) 0) _ _ (λ e. low-spelt Kind.ILLEGAL _ _ (omega arith)) (λ e. low-spelt Kind.LITERAL _ _ (omega arith))

  operator-spelt : (mode i : ℕ) → Spelt (operator_token s mode i)
  unfolding operator_token
  operator-spelt mode i = no_name _ _ _ (operator-other s mode i)

  token-spelt : (mode i : ℕ) → Spelt (token_from s mode i)
  unfolding token_from
  token-spelt mode i =
      chosen Spelt (eqb (class_of (get_or s i 0)) LETTER) _ _ (λ e. spelt Kind.NAME i (past (in_run WORD) s i) (λ n. refl))
      (λ e. chosen Spelt (eqb (class_of (get_or s i 0)) DIGIT) _ _ (λ f. number-spelt i)
      (λ f. chosen Spelt (eqb (class_of (get_or s i 0)) QUOTE) _ _ (λ g. literal-spelt i) (λ g. operator-spelt mode i)))

  end-spelt : Spelt (end_of s)
  end-spelt = low-spelt Kind.END _ _ (omega arith)

  rest-spelt : (i : ℕ) → Spelt (rest_of_line s i)
  unfolding rest_of_line
  rest-spelt i =
      chosen Spelt (leb (length s) (past (in_run FREE) s i)) _ _ (λ e. end-spelt)
      (λ e. chosen Spelt (eqb (get_or s (past (in_run FREE) s i) 0) 0) _ _ (λ f. low-spelt Kind.ILLEGAL _ _ (omega arith)) (λ f. low-spelt Kind.NEXT _ _ (omega arith)))

  visible-spelt : (mode i : ℕ) → Spelt (visible s mode i)
  unfolding visible
  visible-spelt mode i =
      chosen Spelt (leb (length s) i) _ _ (λ e. end-spelt)
      (λ e. chosen Spelt (eqb (class_of (get_or s i 0)) NEWLINE) _ _ (λ f. low-spelt Kind.NEXT _ _ (omega arith))
      (λ f. chosen Spelt (eqb (class_of (get_or s i 0)) HASH) _ _ (λ g. rest-spelt i) (λ g. token-spelt mode i)))

  in-line-spelt : (mode i : ℕ) → Spelt (in_line s mode i)
  unfolding in_line
  in-line-spelt mode i = chosen Spelt (eqb mode Kind.IN_COMMENT) _ _ (λ e. rest-spelt i) (λ e. visible-spelt mode (past (in_run BLANKS) s i))

  bad-spelt : (i : ℕ) → Spelt (token Kind.BAD_LINE i i)
  bad-spelt i = low-spelt Kind.BAD_LINE _ _ (omega arith)

  indented-spelt : (mode i e : ℕ) → Spelt (indented s mode i e)
  unfolding indented
  indented-spelt mode i e =
      chosen Spelt (eqb mode Kind.BEFORE) _ _ (λ b. chosen Spelt (eqb (class_of (get_or s e 0)) HASH) _ _ (λ f. rest-spelt e) (λ f. bad-spelt i)) (λ b. in-line-spelt mode i)

  line-spelt : (mode i : ℕ) → Spelt (line_at s mode i)
  unfolding line_at
  line-spelt mode i =
      chosen Spelt (leb (length s) i) _ _ (λ e. end-spelt)
      (λ e. chosen Spelt (blank_to s (past (in_run BLANKS) s i)) _ _ (λ f. bad-spelt i)
      (λ f. chosen Spelt (eqb (class_of (get_or s i 0)) HASH) _ _ (λ g. rest-spelt i)
      (λ g. chosen Spelt (eqb (class_of (get_or s i 0)) BLANK) _ _ (λ k. indented-spelt mode i (past (in_run BLANKS) s i)) (λ k. no_name _ _ _ (label-other s i)))))

  data Turn : Step ℕ Token → Type 0 where
    goes : (j : ℕ) → Turn (next j)
    stops : (t : Token) → Spelt t → Turn (done t)

  turn-case : (mode i : ℕ) → Turn (line_turn s mode i)
  turn-case mode i =
      chosen Turn (leb (length s) i) _ _ (λ e. stops (end_of s) end-spelt)
      (λ e. chosen Turn (eqb (line_at s mode i).kind Kind.NEXT) _ _ (λ f. goes (line_at s mode i).end) (λ f. stops (line_at s mode i) (line-spelt mode i)))

  turn-done : (t : Token) → Turn (done t) → Spelt t
  turn-done t (stops _ f) = f

  lines-spelt : (mode i : ℕ) → Spelt (lines_from s mode i)
  unfolding lines_from
  lines-spelt mode i =
      loop-ind (λ j. length s - j) (λ j. end_of s) (line_turn s mode) (λ j t. Spelt t) (λ j. end-spelt)
      (λ j t e. turn-done t (subst Turn e (turn-case mode j))) (λ j k t e l f. f) i

  at-spelt : (mode at : ℕ) → Spelt (token_at s mode at)
  unfolding token_at
  at-spelt mode at =
      chosen Spelt (eqb at 0) _ _ (λ e. lines-spelt mode 0)
      (λ e. chosen Spelt (eqb (in_line s mode at).kind Kind.NEXT) _ _ (λ f. lines-spelt mode (in_line s mode at).end) (λ f. in-line-spelt mode at))

  spelt-end : (t : Token) → Spelt t → t.kind ≡ Kind.NAME → t.end ≡ past (in_run WORD) s t.start
  spelt-end _ (spelt k i e h) n = h n

-- the bytes of a name are the name that starts there
pub word-is : {s : List ℕ} {t : Token} → Stood s t → t.kind ≡ Kind.NAME → word_of s t ≡ name_at s t.start
unfolding word_of part name_at past in_class
word-is {s} {t} st n =
    let e : t.end ≡ past (in_run WORD) s t.start = spelt-end s t (subst (Spelt s) (sym st.is) (at-spelt s st.mode st.at)) n in
    let f : t.end ≡ t.start + run is_word (drop t.start s) = e ∙ past-alike (in_run WORD) is_word word_same s t.start in
    let k : t.end - t.start ≡ run is_word (drop t.start s) = omega (arith, f) in
    rw k

-- worked: in " ab+" the token behind 1 is a name, and both are "ab"
abbrev summed : List ℕ
summed = 32 ∷ 97 ∷ 98 ∷ 43 ∷ []

name-found : token_at summed Kind.IN_FIELD 1 ≡ token Kind.NAME 1 3
unfolding token_at in_line visible token_from class_of has_class in_run past
name-found = refl

name-whole : (word_of summed (token Kind.NAME 1 3) ≡ 97 ∷ 98 ∷ []) × (name_at summed 1 ≡ 97 ∷ 98 ∷ [])
unfolding word_of part name_at in_class is_word is_letter is_digit
name-whole = (refl, refl)

-- a token of that kind that isn't found there: "a" of "ab"
name-cut : word_of summed (token Kind.NAME 1 2) ≡ 97 ∷ []
unfolding word_of part
name-cut = refl

-- a token that is no name: " 1.5" is found whole, and "1" is the word that starts there
abbrev fraction : List ℕ
fraction = 32 ∷ 49 ∷ 46 ∷ 53 ∷ []

other-found : token_at fraction Kind.IN_FIELD 1 ≡ token Kind.FLOAT 1 4
unfolding token_at in_line visible token_from number_token float_end class_of has_class in_run past
other-found = refl

other-apart : (word_of fraction (token Kind.FLOAT 1 4) ≡ 49 ∷ 46 ∷ 53 ∷ []) × (name_at fraction 1 ≡ 49 ∷ [])
unfolding word_of part name_at in_class is_word is_letter is_digit
other-apart = (refl, refl)
