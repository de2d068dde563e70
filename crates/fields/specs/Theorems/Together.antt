-- Two readers that belong together: choices by one test, loops whose turns belong together, and tokens one behind the other. Assumes nothing.
use Rattle.std.specs.Prelude.{◌≡◌, refl, Bool, true, false, List, ℕ, zero, suc, ◌+◌, ◌-◌, ◌<◌, ◌≤◌, eqb, ltb, length, drop}
use Rattle.std.proofs.Common.{sym, ap, arith, not-suc-le-zero, length-take, ltb-true, ltb-false, eqb-true}
use Rattle.std.proofs.lemmas.Bool.{eqb-false}
use Rattle.text.specs.Choice.{pick, split}
use Rattle.text.specs.Counted.{part}
use Rattle.text.specs.Loop.{Step, next, done, loop, loop-next, loop-done}
use Rattle.lexical.specs.Kind
use Rattle.lexical.specs.Literal.{decoded_at}
use Rattle.lexical.specs.Line.{token_at}
use Rattle.lexical.specs.Theorems.LineLaws.{token-real, token-fault, token_end}
use Rattle.lexical.specs.Theorems.TokensLaws.{token-shorter}
use Rattle.lexical.specs.declared.token.Token.{Token}
use Rattle.syntax.specs.Parsed.{refusal}
use Rattle.syntax.specs.Stood.{Stood}
use Rattle.fields.specs.Working.Word.{word_of}

-- what holds of two choices by one test
pub both : {A B : Type 0} (T : A → B → Type 0) (f : Bool) (a b : A) (c d : B) → (f ≡ true → T a c) → (f ≡ false → T b d) → T (pick f a b) (pick f c d)
both T true a b c d h k = h refl
both T false a b c d h k = k refl

-- two loops whose turns belong together, and go on only where each measure gets less
module _ {X R Y Q : Type 0} (μ : X → ℕ) (out : X → R) (f : X → Step X R) (ν : Y → ℕ) (tuo : Y → Q) (g : Y → Step Y Q) (S : X → Y → Type 0) (T : R → Q → Type 0) where
  pub data Steps (x : X) (y : Y) : Step X R → Step Y Q → Type 0 where
    both-next : (a : X) (b : Y) → S a b → μ a < μ x → ν b < ν y → Steps x y (next a) (next b)
    both-done : (r : R) (q : Q) → T r q → Steps x y (done r) (done q)

  module _ (steps : (x : X) (y : Y) → S x y → Steps x y (f x) (g y)) where
    one-turn : (x : X) (y : Y) → ((a : X) (b : Y) → μ a < μ x → S a b → T (loop μ out f a) (loop ν tuo g b)) → (i : Step X R) (j : Step Y Q) → f x ≡ i → g y ≡ j → Steps x y i j
        → T (loop μ out f x) (loop ν tuo g y)
    one-turn x y ih _ _ e k (both-next a b t l m) = rw (loop-next μ out f x a e l, loop-next ν tuo g y b k m) (ih a b l t)
    one-turn x y ih _ _ e k (both-done r q t) = rw (loop-done μ out f x r e, loop-done ν tuo g y q k) t

    loop-to : (n : ℕ) (x : X) (y : Y) → μ x < n → S x y → T (loop μ out f x) (loop ν tuo g y)
    loop-to zero x y h r = absurd (not-suc-le-zero h)
    loop-to (suc n) x y h r = one-turn x y (λ a b l t. loop-to n a b (omega (arith, h, l)) t) (f x) (g y) refl refl (steps x y r)

    pub loop-same : (x : X) (y : Y) → S x y → T (loop μ out f x) (loop ν tuo g y)
    loop-same x y r = loop-to (suc (μ x)) x y (omega arith) r

-- a reason is never 0
pub refusal-some : (k : ℕ) → refusal k ≡ 0 → ⊥
unfolding refusal
refusal-some k h =
    split (eqb k Kind.ILLEGAL)
    (λ e. let z : ◌≡◌ {A = ℕ} 1 0 = rw e at h in let no : ⊥ = omega (arith, z) in no)
    (λ e. split (eqb k Kind.BAD_LINE)
    (λ f. let z : ◌≡◌ {A = ℕ} 3 0 = rw (e, f) at h in let no : ⊥ = omega (arith, z) in no)
    (λ f. let z : ◌≡◌ {A = ℕ} 2 0 = rw (e, f) at h in let no : ⊥ = omega (arith, z) in no))

-- the token behind a place of the text starts there or later, and in the text
token-start : (s : List ℕ) (mode at : ℕ) → (at ≤ length s → at ≤ (token_at s mode at).start) × ((token_at s mode at).start ≤ length s)
token-start s mode at =
    split (ltb Kind.BAD_LINE (token_at s mode at).kind)
    (λ e. let p : (at ≤ (token_at s mode at).start) × ((token_at s mode at).start < (token_at s mode at).end) × ((token_at s mode at).end ≤ length s) = token-real s mode at (ltb-true _ _ e) in
    ((λ h. p.0), omega (arith, p.1, p.2)))
    (λ e. split (eqb (token_at s mode at).kind Kind.END)
    (λ f. let q : (token_at s mode at).start ≡ length s = ap (λ (t : Token). t.start) (token_end s mode at (eqb-true _ _ f)) in ((λ h. omega (arith, q, h)), omega (arith, q)))
    (λ f. let p : (at ≤ (token_at s mode at).start) × ((token_at s mode at).start < length s) × ((token_at s mode at).end ≡ (token_at s mode at).start) = token-fault s mode at (eqb-false _ _ f) (ltb-false _ _ e) in
    ((λ h. p.0), omega (arith, p.1))))

pub behind-from : (s : List ℕ) (mode at : ℕ) → at ≤ length s → at ≤ (token_at s mode at).start
behind-from s mode at h = (token-start s mode at).0 h

pub stood-start : {s : List ℕ} {t : Token} → Stood s t → t.start ≤ length s
stood-start {s} {t} st = rw st.is (token-start s st.mode st.at).1

pub stood-wide : {s : List ℕ} {t : Token} → Stood s t → Kind.BAD_LINE < t.kind → t.start < t.end
stood-wide {s} {t} st real = wide s st.mode st.at t st.is real
  where
    wide : (s : List ℕ) (mode at : ℕ) (t : Token) → t ≡ token_at s mode at → Kind.BAD_LINE < t.kind → t.start < t.end
    wide s mode at t te h = rw te (token-real s mode at (rw (sym te) h)).1

-- a literal is longer than what it gives by its quotes
pub stood-literal : {s : List ℕ} {t : Token} → Stood s t → t.kind ≡ Kind.LITERAL → t.start + 2 + length (decoded_at s t.start) ≤ t.end
stood-literal {s} {t} st h = shorter s st.mode st.at t st.is h
  where
    shorter : (s : List ℕ) (mode at : ℕ) (t : Token) → t ≡ token_at s mode at → t.kind ≡ Kind.LITERAL → t.start + 2 + length (decoded_at s t.start) ≤ t.end
    shorter s mode at t te h = rw te (token-shorter s mode at (rw (sym te) h))

-- a word is no longer than its token
pub word-short : (s : List ℕ) (t : Token) → t.start ≤ t.end → t.start + length (word_of s t) ≤ t.end
unfolding word_of part
word-short s t h = omega (arith, length-take (t.end - t.start) (drop t.start s))
