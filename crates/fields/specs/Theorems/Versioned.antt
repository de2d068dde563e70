-- What KeyNote-Version and Signature give: a reason that is not 0, or the token behind. Assumes nothing.
use Rattle.std.specs.Prelude.{◌≡◌, List, ℕ, ◌≤◌, eqb, leb, ltb, length}
use Rattle.std.proofs.Common.{sym, ◌∙◌, arith, eqb-true, ltb-false}
use Rattle.text.specs.Equal.{equal}
use Rattle.lexical.specs.Kind
use Rattle.lexical.specs.Kind.{ending}
use Rattle.lexical.specs.Theorems.Bounds.{chosen}
use Rattle.lexical.specs.Literal.{decoded_at}
use Rattle.lexical.specs.Number.{LIMIT, number_at}
use Rattle.lexical.specs.declared.token.Token.{Token}
use Rattle.syntax.specs.Parsed.{Parsed, ok, aside}
use Rattle.syntax.specs.Stood.{Stood, stood-at}
use Rattle.limits.specs.Limits.{most_literal}
use Rattle.fields.specs.Parsed.{behind, ended}
use Rattle.fields.specs.Version.{two, version_number, version_literal, version}
use Rattle.fields.specs.Signature.{signature}
use Rattle.fields.specs.Theorems.Together.{refusal-some}

-- KeyNote-Version: a fault, or 2 and a token of the text
pub data VersionRead (s : List ℕ) : Parsed ℕ → Type 0 where
  version-aside : (r p : ℕ) → (r ≡ 0 → ⊥) → VersionRead s (aside r p)
  version-on : (n : Token) → Stood s n → VersionRead s (ok 2 n)

module _ (s : List ℕ) (t : Token) where
  end_read : VersionRead s (ended 2 (behind s Kind.IN_FIELD t))
  end_read =
      chosen (VersionRead s) (ending (behind s Kind.IN_FIELD t).kind) _ _ (λ e. version-on (behind s Kind.IN_FIELD t) (stood-at s Kind.IN_FIELD t.end))
      (λ e. version-aside _ _ (refusal-some (behind s Kind.IN_FIELD t).kind))

  number_read : (n : ℕ) → VersionRead s (version_number s t n)
  unfolding version_number
  number_read n =
      chosen (VersionRead s) (leb LIMIT n) _ _ (λ e. version-aside 5 t.start (λ z. omega (arith, z)))
      (λ e. chosen (VersionRead s) (eqb n 2) _ _ (λ f. end_read) (λ f. version-aside 6 t.start (λ z. omega (arith, z))))

  literal-read : (value : List ℕ) → VersionRead s (version_literal s t value)
  unfolding version_literal
  literal-read value = chosen (VersionRead s) (equal value two) _ _ (λ e. end_read) (λ e. version-aside 6 t.start (λ z. omega (arith, z)))

  pub version-read : VersionRead s (version s t)
  unfolding version
  version-read =
      chosen (VersionRead s) (eqb t.kind Kind.DIGITS) _ _ (λ e. number_read (number_at s t.start t.end))
      (λ e. chosen (VersionRead s) (eqb t.kind Kind.LITERAL) _ _ (λ f. literal-read (decoded_at s t.start)) (λ f. version-aside _ _ (refusal-some t.kind)))

read-stood : {s : List ℕ} {v : ℕ} {n : Token} (x : Parsed ℕ) → VersionRead s x → x ≡ ok v n → Stood s n
read-stood {s} {v} {n} _ (version-aside r p h) e = let z : ◌≡◌ {A = ℕ} 0 1 = cc in let no : ⊥ = omega (arith, z) in absurd no
read-stood {s} {v} {n} _ (version-on m st) e = let z : m ≡ n = cc in rw (← z) st

read_some : {s : List ℕ} {r p : ℕ} (x : Parsed ℕ) → VersionRead s x → x ≡ aside r p → r ≡ 0 → ⊥
read_some {s} {r} {p} _ (version-aside q o h) e k = h (let z : q ≡ r = cc in z ∙ k)
read_some {s} {r} {p} _ (version-on m st) e k = let z : ◌≡◌ {A = ℕ} 0 1 = cc in let no : ⊥ = omega (arith, z) in no

pub version-stood : (s : List ℕ) (t : Token) (v : ℕ) (n : Token) → version s t ≡ ok v n → Stood s n
version-stood s t v n e = read-stood (version s t) (version-read s t) e

pub version-some : (s : List ℕ) (t : Token) (r p : ℕ) → version s t ≡ aside r p → r ≡ 0 → ⊥
version-some s t r p e k = read_some (version s t) (version-read s t) e k

-- Signature: a fault, or the literal that t is
pub data SignatureRead (s : List ℕ) (t : Token) : Parsed (List ℕ) → Type 0 where
  signature-aside : (r p : ℕ) → (r ≡ 0 → ⊥) → SignatureRead s t (aside r p)
  signature-on : t.kind ≡ Kind.LITERAL → length (decoded_at s t.start) ≤ most_literal → SignatureRead s t (ok (decoded_at s t.start) t)

pub signature-read : (s : List ℕ) (t : Token) → SignatureRead s t (signature s t)
unfolding signature
signature-read s t =
    chosen (SignatureRead s t) (eqb t.kind Kind.LITERAL) _ _
    (λ e. chosen (SignatureRead s t) (ltb most_literal (length (decoded_at s t.start))) _ _ (λ f. signature-aside 7 t.start (λ z. omega (arith, z)))
    (λ f. signature-on (eqb-true _ _ e) (ltb-false _ _ f)))
    (λ e. signature-aside _ _ (refusal-some t.kind))

signed-token : {s : List ℕ} {t : Token} {b : List ℕ} {n : Token} (x : Parsed (List ℕ)) → SignatureRead s t x → x ≡ ok b n → n ≡ t
signed-token {s} {t} {b} {n} _ (signature-aside r p h) e = let z : ◌≡◌ {A = ℕ} 0 1 = cc in let no : ⊥ = omega (arith, z) in absurd no
signed-token {s} {t} {b} {n} _ (signature-on k h) e = let z : t ≡ n = cc in sym z

signed-some : {s : List ℕ} {t : Token} {r p : ℕ} (x : Parsed (List ℕ)) → SignatureRead s t x → x ≡ aside r p → r ≡ 0 → ⊥
signed-some {s} {t} {r} {p} _ (signature-aside q o h) e k = h (let z : q ≡ r = cc in z ∙ k)
signed-some {s} {t} {r} {p} _ (signature-on j h) e k = let z : ◌≡◌ {A = ℕ} 0 1 = cc in let no : ⊥ = omega (arith, z) in no

pub signature-token : (s : List ℕ) (t : Token) (b : List ℕ) (n : Token) → signature s t ≡ ok b n → n ≡ t
signature-token s t b n e = signed-token (signature s t) (signature-read s t) e

pub signature-some : (s : List ℕ) (t : Token) (r p : ℕ) → signature s t ≡ aside r p → r ≡ 0 → ⊥
signature-some s t r p e k = signed-some (signature s t) (signature-read s t) e k
