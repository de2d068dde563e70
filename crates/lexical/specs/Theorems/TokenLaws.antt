-- Where tokens lie: what is found lies within the text, not before the place from which it was looked for. Assumes nothing.
use Rattle.std.specs.Prelude.{◌≡◌, refl, Bool, true, List, ℕ, ◌+◌, ◌≤◌, ◌<◌, eqb, leb, ltb, get_or}
use Rattle.std.proofs.Common.{sym, subst, arith}
use Rattle.std.proofs.Math.ListN.{length}
use borrow.Author.Tests.{eqb-true, eqb-false, ltb-true, ltb-false, lt-ltb, leb-false}
use Rattle.text.specs.Choice.{pick, split}
use Rattle.text.specs.Scan.{past, past_more, past-from, past-within}
use Rattle.lexical.specs.Theorems.Bounds.{chosen}
use Rattle.lexical.specs.Kind
use Rattle.lexical.specs.Class.{class_of, LETTER, DIGIT, QUOTE}
use Rattle.lexical.specs.declared.scan.Run.{Run}
use Rattle.lexical.specs.Run.{has_class, in_run, WORD, NUMERALS}
use Rattle.lexical.specs.Word.{stands}
use Rattle.lexical.specs.Label.{label_kind}
use Rattle.lexical.specs.Operator.{pair_of, mark_kind, is_of, operator_kind}
use Rattle.lexical.specs.Literal.{literal_end}
use Rattle.lexical.specs.Theorems.LiteralLaws.{end-within}
use Rattle.lexical.specs.Token.{token, end_of, illegal_at, bad_line, next_line, width_of, fixed, operator_at, operator_token, literal_token, float_end, number_token, token_from}
use Rattle.lexical.specs.Theorems.KindLaws.{Wide, label-wide, operator-wide, pair-width}
use Rattle.lexical.specs.declared.token.Token.{Token}

-- what may be found from `at` on
pub data Fine (s : List ℕ) (at : ℕ) : Token → Type 0 where
  ended : Fine s at (end_of s)
  fault : (k p : ℕ) → (k ≡ Kind.END → ⊥) → (k ≡ Kind.NEXT → ⊥) → k ≤ Kind.BAD_LINE → at ≤ p → p < length s → Fine s at (token k p p)
  further : (p : ℕ) → at < p → p ≤ length s → Fine s at (next_line p)
  real : (k i e : ℕ) → Kind.BAD_LINE < k → at ≤ i → i < e → e ≤ length s → (k ≡ Kind.LITERAL → literal_end s (i + 1) ≡ e) → Fine s at (token k i e)

width-fault : (k : ℕ) → k ≤ Kind.BAD_LINE → width_of k ≡ 0
unfolding width_of
width-fault k h = simp (lt-ltb k 4 (omega (arith, h)))

-- the end, the next line and a literal are no kinds of labels and operators
data Some : ℕ → Type 0 where
  some : (k : ℕ) → (k ≡ Kind.END → ⊥) → (k ≡ Kind.NEXT → ⊥) → (k ≡ Kind.LITERAL → ⊥) → Some k

some-low : (k : ℕ) → Kind.NEXT < k → k < Kind.LITERAL → Some k
some-low k h l =
    some k (λ e. let no : ⊥ = omega (arith, h, e) in no) (λ e. let no : ⊥ = omega (arith, h, e) in no) (λ e. let no : ⊥ = omega (arith, l, e) in no)

some-high : (k : ℕ) → Kind.LITERAL < k → Some k
some-high k h =
    some k (λ e. let no : ⊥ = omega (arith, h, e) in no) (λ e. let no : ⊥ = omega (arith, h, e) in no) (λ e. let no : ⊥ = omega (arith, h, e) in no)

some-illegal : Some Kind.ILLEGAL
some-illegal =
    some Kind.ILLEGAL (λ e. let no : ⊥ = omega (arith, e) in no) (λ e. let no : ⊥ = omega (arith, e) in no) (λ e. let no : ⊥ = omega (arith, e) in no)

label-some : (s : List ℕ) (i : ℕ) → Some (label_kind s i)
unfolding label_kind
label-some s i =
    one _ Kind.KEYNOTE_VERSION _ (omega arith) (omega arith)
    (one _ Kind.LOCAL_CONSTANTS _ (omega arith) (omega arith)
    (one _ Kind.AUTHORIZER _ (omega arith) (omega arith)
    (one _ Kind.LICENSEES _ (omega arith) (omega arith)
    (one _ Kind.CONDITIONS _ (omega arith) (omega arith)
    (one _ Kind.COMMENT _ (omega arith) (omega arith)
    (one _ Kind.SIGNATURE Kind.BAD_LINE (omega arith) (omega arith) (some-low Kind.BAD_LINE (omega arith) (omega arith))))))))
  where
    one : (w : List ℕ) (k r : ℕ) → Kind.NEXT < k → k < Kind.LITERAL → Some r → Some (pick (stands s i w) k r)
    one w k r h l m = chosen Some (stands s i w) k r (λ e. some-low k h l) (λ e. m)

operator-some : (s : List ℕ) (mode i : ℕ) → Some (operator_at s mode i)
unfolding operator_at operator_kind mark_kind
operator-some s mode i =
    chosen Some (is_of mode (class_of (get_or s i 0)) (get_or s (i + 1) 0) (get_or s (i + 2) 0)) Kind.OF _ (λ e. some-high Kind.OF (omega arith))
    (λ e. chosen Some (eqb (pair_of (class_of (get_or s i 0)) (get_or s (i + 1) 0)) Kind.ILLEGAL) _ _
    (λ f. chosen Some (ltb (class_of (get_or s i 0)) Kind.OPEN) Kind.ILLEGAL _ (λ g. some-illegal)
    (λ g. some-high (class_of (get_or s i 0)) (omega (arith, ltb-false (class_of (get_or s i 0)) Kind.OPEN g))))
    (λ f.
    let p : Kind.OF < pair_of (class_of (get_or s i 0)) (get_or s (i + 1) 0) = (pair-width (class_of (get_or s i 0)) (get_or s (i + 1) 0) (eqb-false _ _ f)).1 in
    some-high _ (omega (arith, p))))

some_next : (k : ℕ) → Some k → k ≡ Kind.NEXT → ⊥
some_next _ (some k a b c) = b

pub operator-next : (s : List ℕ) (mode i : ℕ) → operator_at s mode i ≡ Kind.NEXT → ⊥
operator-next s mode i = some_next _ (operator-some s mode i)

-- a number is above n
data Above (n : ℕ) : ℕ → Type 0 where
  above : (k : ℕ) → n < k → Above n k

is-above : (n k : ℕ) → Above n k → n < k
is-above n k (above _ h) = h

width_some : (k : ℕ) → Kind.BAD_LINE < k → Above 0 (width_of k)
unfolding width_of
width_some k h =
    chosen (Above 0) (ltb k 4) 0 _ (λ e. let no : ⊥ = omega (arith, h, ltb-true k 4 e) in absurd no)
    (λ e. one (ltb k 6) 16 _ (omega arith)
    (one (eqb k 6) 11 _ (omega arith)
    (one (eqb k 7) 10 _ (omega arith)
    (one (eqb k 8) 11 _ (omega arith)
    (one (eqb k 9) 8 _ (omega arith)
    (one (eqb k 10) 10 _ (omega arith) (one (eqb k 15) 3 _ (omega arith) (one (ltb k 24) 2 1 (omega arith) (above 1 (omega arith))))))))))
  where
    one : (t : Bool) (k r : ℕ) → 0 < k → Above 0 r → Above 0 (pick t k r)
    one t k r h l = chosen (Above 0) t k r (λ e. above k h) (λ e. l)

-- a float literal goes on from its digits, and ends within the text
Between : ℕ → ℕ → ℕ → Type 0
Between a b n = (a ≤ n) × (n ≤ b)

float-between : (s : List ℕ) (e : ℕ) → e ≤ length s → Between e (length s) (float_end s e)
unfolding float_end Between
float-between s e h =
    let here : Between e (length s) e = (omega arith, h) in
    chosen (Between e (length s)) (leb (length s) e) e _ (λ l. here)
    (λ l. chosen (Between e (length s)) (eqb (get_or s e 0) 46) _ e
    (λ p. chosen (Between e (length s)) (leb (past (in_run NUMERALS) s (e + 1)) (e + 1)) e _ (λ f. here)
    (λ f. (omega (arith, past-from (in_run NUMERALS) s (e + 1)), past-within (in_run NUMERALS) s (e + 1) (omega (arith, leb-false (length s) e l)))))
    (λ p. here))

float-from : (s : List ℕ) (e : ℕ) → e ≤ length s → (e ≤ float_end s e) × (float_end s e ≤ length s)
unfolding Between
float-from s e h = float-between s e h

module _ (s : List ℕ) (at i : ℕ) (from : at ≤ i) (in-s : i < length s) where
  fixed-fine : (k : ℕ) → Some k → Wide s i k → Fine s at (fixed k i)
  fixed-fine k (some _ n m o) w =
      split (ltb Kind.BAD_LINE k)
      (λ e. let h : Kind.BAD_LINE < k = ltb-true _ _ e in real k i (i + width_of k) h from (omega (arith, is-above 0 (width_of k) (width_some k h))) (w h) (λ e. absurd (o e)))
      (λ e.
      let h : k ≤ Kind.BAD_LINE = ltb-false _ _ e in
      let z : i + width_of k ≡ i = omega (arith, width-fault k h) in
      subst (λ (j : ℕ). Fine s at (token k i j)) (sym z) (fault k i n m h from in-s))

  pub illegal-fine : Fine s at (illegal_at i)
  illegal-fine = fault Kind.ILLEGAL i (λ z. let no : ⊥ = omega (arith, z) in no) (λ z. let no : ⊥ = omega (arith, z) in no) (omega arith) from in-s

  pub bad-fine : Fine s at (bad_line i)
  bad-fine = fault Kind.BAD_LINE i (λ z. let no : ⊥ = omega (arith, z) in no) (λ z. let no : ⊥ = omega (arith, z) in no) (omega arith) from in-s

  pub label-fine : Fine s at (fixed (label_kind s i) i)
  label-fine = fixed-fine (label_kind s i) (label-some s i) (label-wide s i)

  operator-fine : (mode : ℕ) → Fine s at (operator_token s mode i)
  unfolding operator_token
  operator-fine mode = fixed-fine (operator_at s mode i) (operator-some s mode i) (operator-wide s mode i)

  literal-fine : Fine s at (literal_token s i)
  unfolding literal_token
  literal-fine =
      chosen (Fine s at) (eqb (literal_end s (i + 1)) 0) (illegal_at i) _ (λ e. illegal-fine)
      (λ e.
      let p : (i + 1 < literal_end s (i + 1)) × (literal_end s (i + 1) ≤ length s) = end-within s (i + 1) (eqb-false _ _ e) in
      real Kind.LITERAL i (literal_end s (i + 1)) (omega arith) from (omega (arith, p.0)) p.1 (λ z. refl))

  -- a run whose first byte belongs to it
  run-fine : (k : Run) (n : ℕ) → Kind.LITERAL < n → in_run k (get_or s i 0) ≡ true → Fine s at (token n i (past (in_run k) s i))
  run-fine k n h e =
      real n i (past (in_run k) s i) (omega (arith, h)) from
      (omega (arith, past_more (in_run k) s i in-s e, past-from (in_run k) s (i + 1)))
      (past-within (in_run k) s i (omega (arith, in-s))) (λ z. let no : ⊥ = omega (arith, h, z) in absurd no)

  name-fine : class_of (get_or s i 0) ≡ LETTER → Fine s at (token Kind.NAME i (past (in_run WORD) s i))
  unfolding in_run has_class
  name-fine e = run-fine WORD Kind.NAME (omega arith) (simp e)

  number-fine : class_of (get_or s i 0) ≡ DIGIT → Fine s at (number_token s i)
  unfolding number_token in_run has_class
  number-fine e =
      let d : Fine s at (token Kind.DIGITS i (past (in_run NUMERALS) s i)) = run-fine NUMERALS Kind.DIGITS (omega arith) (simp e) in
      let l : past (in_run NUMERALS) s i ≤ length s = past-within (in_run NUMERALS) s i (omega (arith, in-s)) in
      chosen (Fine s at) (eqb (float_end s (past (in_run NUMERALS) s i)) (past (in_run NUMERALS) s i)) _ _ (λ f. d)
      (λ f. real Kind.FLOAT i (float_end s (past (in_run NUMERALS) s i)) (omega arith) from
      (omega (arith, past-from (in_run NUMERALS) s i, (float-from s (past (in_run NUMERALS) s i) l).0, eqb-false (float_end s (past (in_run NUMERALS) s i)) (past (in_run NUMERALS) s i) f))
      (float-from s (past (in_run NUMERALS) s i) l).1 (λ z. let no : ⊥ = omega (arith, z) in absurd no))

  pub token-fine : (mode : ℕ) → Fine s at (token_from s mode i)
  unfolding token_from
  token-fine mode =
      chosen (Fine s at) (eqb (class_of (get_or s i 0)) LETTER) _ _ (λ e. name-fine (eqb-true _ _ e))
      (λ e. chosen (Fine s at) (eqb (class_of (get_or s i 0)) DIGIT) _ _ (λ f. number-fine (eqb-true _ _ f))
      (λ f. chosen (Fine s at) (eqb (class_of (get_or s i 0)) QUOTE) _ _ (λ g. literal-fine) (λ g. operator-fine mode)))
