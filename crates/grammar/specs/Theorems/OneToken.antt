-- KeyNote-Version and Signature: their readers give reason 2 where the grammar allows no continuation, and else read a sentence.
-- Assumes nothing.
use Rattle.std.specs.Prelude.{◌≡◌, Bool, true, false, List, [], ◌∷◌, ◌++◌, ℕ, ◌≤◌, ◌<◌, eqb, ltb, length}
use Rattle.std.proofs.Math.Path.{refl}
use Rattle.std.proofs.Common.{arith, eqb-true}
use Rattle.std.proofs.lemmas.Bool.{eqb-false}
use Rattle.text.specs.Choice.{pick, split}
use Rattle.lexical.specs.Kind
use Rattle.lexical.specs.Kind.{ending}
use Rattle.lexical.specs.Theorems.Bounds.{chosen}
use Rattle.lexical.specs.Literal.{decoded_at}
use Rattle.lexical.specs.declared.token.Token.{Token}
use Rattle.syntax.specs.Parsed.{Parsed, ok, aside, refusal}
use Rattle.limits.specs.Limits.{most_literal}
use Rattle.fields.specs.Signature as Sign
use Rattle.grammar.specs.Fields.{Ends, end-of-text, next-version, next-constants, next-authorizer, next-licensees, next-conditions, next-comment, next-signature, Version, version-integer, version-literal, Signature, signature}
use Rattle.grammar.specs.Viable.{Viable, viable, Open, opens, KindsBy, JudgedBy, no-continuation, another}

-- the reader's test of what ends a field
pub ends-ending : (k : ℕ) → Ends k → ending k ≡ true
unfolding ending
ends-ending _ end-of-text = refl
ends-ending _ next-version = refl
ends-ending _ next-constants = refl
ends-ending _ next-authorizer = refl
ends-ending _ next-licensees = refl
ends-ending _ next-conditions = refl
ends-ending _ next-comment = refl
ends-ending _ next-signature = refl

above : (k m : ℕ) → m ≤ k → eqb k m ≡ false → m < k
above k m h e = let n : k ≡ m → ⊥ = eqb-false k m e in omega (arith, h, n)

pub label-ends : (k : ℕ) → 4 ≤ k → k ≤ 10 → Ends k
label-ends k h l =
    split (eqb k 4) (λ e. rw (eqb-true k 4 e) next-version)
    (λ a. split (eqb k 5) (λ e. rw (eqb-true k 5 e) next-constants)
    (λ b. split (eqb k 6) (λ e. rw (eqb-true k 6 e) next-authorizer)
    (λ c. split (eqb k 7) (λ e. rw (eqb-true k 7 e) next-licensees)
    (λ d. split (eqb k 8) (λ e. rw (eqb-true k 8 e) next-conditions)
    (λ f. split (eqb k 9) (λ e. rw (eqb-true k 9 e) next-comment)
    (λ g.
    let m : 9 < k = above k 9 (above k 8 (above k 7 (above k 6 (above k 5 (above k 4 h a) b) c) d) f) g in
    let z : k ≡ 10 = omega (arith, m, l) in
    rw z next-signature))))))

-- a token that the reader does not expect, and after which the grammar allows no continuation
pub judged-stop : {A : Type 0} (kind : Token → ℕ) (G : List ℕ → Type 0) (s : List ℕ) (mode : ℕ) (t : Token) (ks : List ℕ) (n : Token) → KindsBy kind s mode t ks n → Open G ks
    → (Viable G (ks ++ kind n ∷ []) → ⊥) → (r : ℕ) → r ≡ refusal n.kind → JudgedBy {A = A} kind G s mode t (aside r n.start)
unfolding refusal
judged-stop {A} kind G s mode t ks n path v nv r e =
    rw e
    (chosen (λ (x : ℕ). JudgedBy {A = A} kind G s mode t (aside x n.start)) (eqb n.kind Kind.ILLEGAL) 1 _ (λ f. another 1 n.start (λ z. let bad : ⊥ = omega (arith, z) in bad))
    (λ f. chosen (λ (x : ℕ). JudgedBy {A = A} kind G s mode t (aside x n.start)) (eqb n.kind Kind.BAD_LINE) 3 2 (λ g. another 3 n.start (λ z. let bad : ⊥ = omega (arith, z) in bad))
    (λ g. no-continuation ks n path v nv)))

-- a sentence's tail and the end of text behind it
pub opens-end : (G : List ℕ → Type 0) (ks rest : List ℕ) → G (ks ++ (rest ++ Kind.END ∷ [])) → Open G ks
opens-end G ks [] g = opens Kind.END [] g
opens-end G ks (k ∷ rest) g = opens k (rest ++ Kind.END ∷ []) g

-- KeyNote-Version
unfoldable pub version_first : ℕ → Bool
version_first k = pick (eqb k Kind.DIGITS) true (eqb k Kind.LITERAL)

pub version-holds : (k : ℕ) → version_first k ≡ true → Version (k ∷ [])
unfolding version_first
version-holds k h =
    split (eqb k Kind.DIGITS) (λ e. rw (eqb-true k Kind.DIGITS e) version-integer)
    (λ e. let f : eqb k Kind.LITERAL ≡ true = rw e at h in rw (eqb-true k Kind.LITERAL f) version-literal)

pub version-digits : (k : ℕ) → eqb k Kind.DIGITS ≡ true → version_first k ≡ true
unfolding version_first
version-digits k e = rw e

pub version-string : (k : ℕ) → eqb k Kind.LITERAL ≡ true → version_first k ≡ true
unfolding version_first
version-string k e = chosen (λ (b : Bool). b ≡ true) (eqb k Kind.DIGITS) true _ (λ f. refl) (λ f. e)

pub version-neither : (k : ℕ) → eqb k Kind.DIGITS ≡ false → eqb k Kind.LITERAL ≡ false → version_first k ≡ false
unfolding version_first
version-neither k e f = rw (e, f)

-- Signature. Nothing after its literal is read: where the reader gets through, the literal is the sentence, and it is the token handed back.
pub data SignatureJudged (s : List ℕ) (t : Token) : Parsed (List ℕ) → Type 0 where
  signed : (b : List ℕ) → Signature (t.kind ∷ []) → SignatureJudged s t (ok b t)
  unsigned : (Viable Signature (t.kind ∷ []) → ⊥) → SignatureJudged s t (aside 2 t.start)
  else-signed : (r p : ℕ) → (r ≡ 2 → ⊥) → SignatureJudged s t (aside r p)

signature-first : (ks : List ℕ) → Signature ks → (k : ℕ) (rest : List ℕ) → ks ≡ k ∷ rest → k ≡ Kind.LITERAL
signature-first _ signature k rest e = cc

not-signature : (k : ℕ) → eqb k Kind.LITERAL ≡ false → Viable Signature (k ∷ []) → ⊥
not-signature k h (viable rest g) = eqb-false k Kind.LITERAL h (signature-first (k ∷ rest) g k rest refl)

pub signature-judged : (s : List ℕ) (t : Token) → SignatureJudged s t (Sign.signature s t)
unfolding Sign.signature refusal
signature-judged s t =
    chosen (SignatureJudged s t) (eqb t.kind Kind.LITERAL) _ _
    (λ e. chosen (SignatureJudged s t) (ltb most_literal (length (decoded_at s t.start))) _ _ (λ f. else-signed 7 t.start (λ z. let bad : ⊥ = omega (arith, z) in bad))
    (λ f. signed (decoded_at s t.start) (rw (eqb-true t.kind Kind.LITERAL e) signature)))
    (λ e. chosen (λ (x : ℕ). SignatureJudged s t (aside x t.start)) (eqb t.kind Kind.ILLEGAL) 1 _ (λ f. else-signed 1 t.start (λ z. let bad : ⊥ = omega (arith, z) in bad))
    (λ f. chosen (λ (x : ℕ). SignatureJudged s t (aside x t.start)) (eqb t.kind Kind.BAD_LINE) 3 2 (λ g. else-signed 3 t.start (λ z. let bad : ⊥ = omega (arith, z) in bad))
    (λ g. unsigned (not-signature t.kind e))))
