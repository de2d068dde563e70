-- Where lines lie, and the laws of the token that comes next. Assumes nothing.
use Rattle.std.specs.Prelude.{◌≡◌, refl, List, ℕ, ◌+◌, ◌-◌, ◌≤◌, ◌<◌, eqb, leb, get_or}
use Rattle.std.proofs.Common.{sym, subst, arith}
use Rattle.std.proofs.Math.ListN.{length}
use borrow.Author.Tests.{eqb-true, eqb-false, leb-false}
use Rattle.text.specs.Loop.{Step, next, done, loop-ind}
use Rattle.text.specs.Scan.{past, past-from}
use Rattle.lexical.specs.Theorems.Bounds.{chosen}
use Rattle.lexical.specs.Kind
use Rattle.lexical.specs.Class.{class_of, BLANK, NEWLINE, HASH}
use Rattle.lexical.specs.Run.{in_run, BLANKS, FREE}
use Rattle.lexical.specs.Literal.{literal_end}
use Rattle.lexical.specs.Token.{end_of}
use Rattle.lexical.specs.Theorems.TokenLaws.{Fine, ended, fault, further, real, illegal-fine, bad-fine, label-fine, token-fine}
use Rattle.lexical.specs.Line.{rest_of_line, visible, in_line, blank_to, indented, line_at, line_turn, lines_from, token_at}
use Rattle.lexical.specs.declared.token.Token.{Token}

module _ (s : List ℕ) (at i : ℕ) (from : at ≤ i) where
  rest-fine : Fine s at (rest_of_line s i)
  unfolding rest_of_line
  rest-fine =
      let l : at ≤ past (in_run FREE) s i = omega (arith, past-from (in_run FREE) s i) in
      chosen (Fine s at) (leb (length s) (past (in_run FREE) s i)) (end_of s) _ (λ e. ended)
      (λ e.
      let h : past (in_run FREE) s i < length s = leb-false _ _ e in
      chosen (Fine s at) (eqb (get_or s (past (in_run FREE) s i) 0) 0) _ _ (λ f. illegal-fine s at (past (in_run FREE) s i) l h)
      (λ f. further (past (in_run FREE) s i + 1) (omega (arith, l)) (omega (arith, h))))

  visible-fine : (mode : ℕ) → Fine s at (visible s mode i)
  unfolding visible
  visible-fine mode =
      chosen (Fine s at) (leb (length s) i) (end_of s) _ (λ e. ended)
      (λ e.
      let h : i < length s = leb-false _ _ e in
      chosen (Fine s at) (eqb (class_of (get_or s i 0)) NEWLINE) _ _ (λ f. further (i + 1) (omega (arith, from)) (omega (arith, h)))
      (λ f. chosen (Fine s at) (eqb (class_of (get_or s i 0)) HASH) _ _ (λ g. rest-fine) (λ g. token-fine s at i from h mode)))

in-line-fine : (s : List ℕ) (mode at : ℕ) → Fine s at (in_line s mode at)
unfolding in_line
in-line-fine s mode at =
    chosen (Fine s at) (eqb mode Kind.IN_COMMENT) _ _ (λ e. rest-fine s at at (omega arith))
    (λ e. visible-fine s at (past (in_run BLANKS) s at) (past-from (in_run BLANKS) s at) mode)

indented-fine : (s : List ℕ) (mode i e : ℕ) → i ≤ e → i < length s → Fine s i (indented s mode i e)
unfolding indented
indented-fine s mode i e l h =
    chosen (Fine s i) (eqb mode Kind.BEFORE) _ _
    (λ b. chosen (Fine s i) (eqb (class_of (get_or s e 0)) HASH) _ _ (λ f. rest-fine s i e l) (λ f. bad-fine s i i (omega arith) h))
    (λ b. in-line-fine s mode i)

pub line-fine : (s : List ℕ) (mode i : ℕ) → Fine s i (line_at s mode i)
unfolding line_at
line-fine s mode i =
    chosen (Fine s i) (leb (length s) i) (end_of s) _ (λ e. ended)
    (λ e.
    let h : i < length s = leb-false _ _ e in
    chosen (Fine s i) (blank_to s (past (in_run BLANKS) s i)) _ _ (λ f. bad-fine s i i (omega arith) h)
    (λ f. chosen (Fine s i) (eqb (class_of (get_or s i 0)) HASH) _ _ (λ g. rest-fine s i i (omega arith))
    (λ g. chosen (Fine s i) (eqb (class_of (get_or s i 0)) BLANK) _ _ (λ k. indented-fine s mode i (past (in_run BLANKS) s i) (past-from (in_run BLANKS) s i) h)
    (λ k. label-fine s i i (omega arith) h))))

-- a further line starts behind the place, within the text
pub fine-next : (s : List ℕ) (at : ℕ) (t : Token) → Fine s at t → t.kind ≡ Kind.NEXT → (at < t.end) × (t.end ≤ length s)
fine-next s at _ ended h = let no : ⊥ = omega (arith, h) in absurd no
fine-next s at _ (fault k p n m l f g) h = absurd (m h)
fine-next s at _ (further p f g) h = (f, g)
fine-next s at _ (real k i e l f g m o) h = let no : ⊥ = omega (arith, h, l) in absurd no

-- what is found from a later place is found from an earlier one
fine-from : (s : List ℕ) (at from : ℕ) (t : Token) → at ≤ from → Fine s from t → Fine s at t
fine-from s at from _ a ended = ended
fine-from s at from _ a (fault k p n m l f g) = fault k p n m l (omega (arith, a, f)) g
fine-from s at from _ a (further p f g) = further p (omega (arith, a, f)) g
fine-from s at from _ a (real k i e l f g m o) = real k i e l (omega (arith, a, f)) g m o

-- what is found, and is more than a further line
pub data Found (s : List ℕ) (at : ℕ) (t : Token) : Type 0 where
  found : Fine s at t → (t.kind ≡ Kind.NEXT → ⊥) → Found s at t

data Turn (s : List ℕ) (at : ℕ) : Step ℕ Token → Type 0 where
  goes : (j : ℕ) → at < j → Turn s at (next j)
  stops : (t : Token) → Found s at t → Turn s at (done t)

end-found : (s : List ℕ) (at : ℕ) → Found s at (end_of s)
end-found s at = found ended (λ z. let no : ⊥ = omega (arith, z) in no)

turn-case : (s : List ℕ) (mode at : ℕ) → Turn s at (line_turn s mode at)
turn-case s mode at =
    chosen (Turn s at) (leb (length s) at) _ _ (λ e. stops (end_of s) (end-found s at))
    (λ e. chosen (Turn s at) (eqb (line_at s mode at).kind Kind.NEXT) _ _
    (λ f. goes (line_at s mode at).end (fine-next s at (line_at s mode at) (line-fine s mode at) (eqb-true _ _ f)).0)
    (λ f. stops (line_at s mode at) (found (line-fine s mode at) (eqb-false _ _ f))))

turn-done : (s : List ℕ) (at : ℕ) (t : Token) → Turn s at (done t) → Found s at t
turn-done s at t (stops _ f) = f

turn-next : (s : List ℕ) (at j : ℕ) → Turn s at (next j) → at < j
turn-next s at j (goes _ h) = h

found_from : (s : List ℕ) (at from : ℕ) (t : Token) → at ≤ from → Found s from t → Found s at t
found_from s at from t a (found f n) = found (fine-from s at from t a f) n

lines-found : (s : List ℕ) (mode at : ℕ) → Found s at (lines_from s mode at)
unfolding lines_from
lines-found s mode at =
    loop-ind (λ j. length s - j) (λ j. end_of s) (line_turn s mode) (Found s) (end-found s)
    (λ j t e. turn-done s j t (subst (Turn s j) e (turn-case s mode j)))
    (λ j k t e l f. found_from s j k t (omega (arith, turn-next s j k (subst (Turn s j) e (turn-case s mode j)))) f) at

token-found : (s : List ℕ) (mode at : ℕ) → Found s at (token_at s mode at)
unfolding token_at
token-found s mode at =
    chosen (Found s at) (eqb at 0) _ _ (λ e. subst (λ (j : ℕ). Found s j (lines_from s mode 0)) (sym (eqb-true _ _ e)) (lines-found s mode 0))
    (λ e. chosen (Found s at) (eqb (in_line s mode at).kind Kind.NEXT) _ _
    (λ f. found_from s at (in_line s mode at).end _ (omega (arith, (fine-next s at (in_line s mode at) (in-line-fine s mode at) (eqb-true _ _ f)).0)) (lines-found s mode (in_line s mode at).end))
    (λ f. found (in-line-fine s mode at) (eqb-false _ _ f)))

module _ (s : List ℕ) (at : ℕ) where
  found-real : (t : Token) → Found s at t → Kind.BAD_LINE < t.kind → (at ≤ t.start) × (t.start < t.end) × (t.end ≤ length s)
  found-real _ (found ended n) h = let no : ⊥ = omega (arith, h) in absurd no
  found-real _ (found (fault k p a b l f g) n) h = let no : ⊥ = omega (arith, h, l) in absurd no
  found-real _ (found (further p f g) n) h = absurd (n refl)
  found-real _ (found (real k i e l f g m o) n) h = (f, g, m)

  found-fault : (t : Token) → Found s at t → (t.kind ≡ Kind.END → ⊥) → t.kind ≤ Kind.BAD_LINE → (at ≤ t.start) × (t.start < length s) × (t.end ≡ t.start)
  found-fault _ (found ended n) z h = absurd (z refl)
  found-fault _ (found (fault k p a b l f g) n) z h = (f, g, refl)
  found-fault _ (found (further p f g) n) z h = absurd (n refl)
  found-fault _ (found (real k i e l f g m o) n) z h = let no : ⊥ = omega (arith, h, l) in absurd no

  found-end : (t : Token) → Found s at t → t.kind ≡ Kind.END → t ≡ end_of s
  found-end _ (found ended n) h = refl
  found-end _ (found (fault k p a b l f g) n) h = absurd (a h)
  found-end _ (found (further p f g) n) h = absurd (n refl)
  found-end _ (found (real k i e l f g m o) n) h = let no : ⊥ = omega (arith, h, l) in absurd no

  found-literal : (t : Token) → Found s at t → t.kind ≡ Kind.LITERAL → literal_end s (t.start + 1) ≡ t.end
  found-literal _ (found ended n) h = let no : ⊥ = omega (arith, h) in absurd no
  found-literal _ (found (fault k p a b l f g) n) h = let no : ⊥ = omega (arith, h, l) in absurd no
  found-literal _ (found (further p f g) n) h = absurd (n refl)
  found-literal _ (found (real k i e l f g m o) n) h = o h

  found-more : (t : Token) → Found s at t → t.kind ≡ Kind.NEXT → ⊥
  found-more t (found f n) = n

module _ (s : List ℕ) (mode at : ℕ) where
  -- A token lies within the text, not before the end of the one before it, and has a byte at least.
  pub token-real : Kind.BAD_LINE < (token_at s mode at).kind
      → (at ≤ (token_at s mode at).start) × ((token_at s mode at).start < (token_at s mode at).end) × ((token_at s mode at).end ≤ length s)
  token-real h = found-real s at (token_at s mode at) (token-found s mode at) h

  -- A fault's place is a byte of the text.
  pub token-fault : ((token_at s mode at).kind ≡ Kind.END → ⊥) → (token_at s mode at).kind ≤ Kind.BAD_LINE
      → (at ≤ (token_at s mode at).start) × ((token_at s mode at).start < length s) × ((token_at s mode at).end ≡ (token_at s mode at).start)
  token-fault z h = found-fault s at (token_at s mode at) (token-found s mode at) z h

  -- "the end of text is a token at the text's length"
  pub token_end : (token_at s mode at).kind ≡ Kind.END → token_at s mode at ≡ end_of s
  token_end h = found-end s at (token_at s mode at) (token-found s mode at) h

  -- The next line is no token.
  pub token-next : (token_at s mode at).kind ≡ Kind.NEXT → ⊥
  token-next = found-more s at (token_at s mode at) (token-found s mode at)

  -- A literal ends behind its closing quote.
  pub token-literal : (token_at s mode at).kind ≡ Kind.LITERAL → literal_end s ((token_at s mode at).start + 1) ≡ (token_at s mode at).end
  token-literal h = found-literal s at (token_at s mode at) (token-found s mode at) h
