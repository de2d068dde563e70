-- A reason against the small fields is from 1 to 8, and its place lies in the text or at its end. Assumes nothing.
use Rattle.std.specs.Prelude.{◌≡◌, refl, Bool, true, false, List, [], ◌∷◌, ◌++◌, ℕ, zero, suc, ◌≤◌, ◌<◌, eqb, leb, ltb, length}
use Rattle.std.proofs.Common.{sym, subst, le_refl, arith, eqb-true, leb-true, leb-false}
use Rattle.std.proofs.lemmas.Bool.{eqb-false}
use Rattle.text.specs.Choice.{pick, split}
use Rattle.text.specs.Equal.{equal}
use Rattle.record.specs.Query.{Attribute}
use Rattle.limits.specs.Limits.{most_constants, most_literal}
use Rattle.lexical.specs.Kind
use Rattle.lexical.specs.Kind.{ending}
use Rattle.lexical.specs.Line.{token_at}
use Rattle.lexical.specs.Theorems.LineLaws.{token-real, token-fault, token_end}
use Rattle.lexical.specs.Literal.{decoded_at}
use Rattle.lexical.specs.Number.{number_at, LIMIT}
use Rattle.lexical.specs.Token.{end_of}
use Rattle.lexical.specs.declared.token.Token.{Token}
use Rattle.syntax.specs.Code.{name_at}
use Rattle.syntax.specs.Parsed.{Parsed, ok, aside, and_then, refusal, unexpected}
use Rattle.fields.specs.Parsed.{behind, ended}
use Rattle.fields.specs.Version.{two, version_number, version_literal, version}
use Rattle.fields.specs.Constants.{is_set, reserved, constant_value, assigned, name_fault as constant_fault, constant, on_constant, constants_turn, constants_from}
use Rattle.fields.specs.Signature.{signature}
use Rattle.keynote.specs.Theorems.Keeping.{Keeps, k-next, k-done, keeps-pick, loop-keeps}

-- ---- tokens

-- a token lies in the text
pub record In (s : List ℕ) (t : Token) : Type 0 where
  pub starts : t.start ≤ length s
  pub ends : t.end ≤ length s

end-in : (s : List ℕ) → In s (end_of s)
end-in s = record { starts = le_refl _; ends = le_refl _ }

pub token-in : (s : List ℕ) (mode at : ℕ) → In s (token_at s mode at)
token-in s mode at = split (eqb (token_at s mode at).kind Kind.END)
    (λ e. subst (In s) (sym (token_end s mode at (eqb-true _ _ e))) (end-in s))
    (λ e. split (leb (token_at s mode at).kind Kind.BAD_LINE)
    (λ f. fault (token-fault s mode at (eqb-false _ _ e) (leb-true _ _ f)))
    (λ f. real (token-real s mode at (leb-false _ _ f))))
  where
    fault : (at ≤ (token_at s mode at).start) × ((token_at s mode at).start < length s) × ((token_at s mode at).end ≡ (token_at s mode at).start) → In s (token_at s mode at)
    fault (a, b, c) = record { starts = omega (arith, b); ends = omega (arith, b, c) }

    real : (at ≤ (token_at s mode at).start) × ((token_at s mode at).start < (token_at s mode at).end) × ((token_at s mode at).end ≤ length s) → In s (token_at s mode at)
    real (a, b, c) = record { starts = omega (arith, b, c); ends = c }

-- ---- what is read

-- what is read ends at a token of the text; else the reason is from `low` to 8, and its place lies there
pub data Placed (s : List ℕ) (low : ℕ) {A : Type 0} : Parsed A → Type 0 where
  p-ok : (a : A) (t : Token) → In s t → Placed s low (ok a t)
  p-aside : (r p : ℕ) → low ≤ r → r ≤ 8 → p ≤ length s → Placed s low (aside r p)

pub refusal-small : (kind : ℕ) → refusal kind ≤ 8
unfolding refusal
refusal-small kind = split (eqb kind Kind.ILLEGAL) (λ e. rw e (omega arith)) (λ e. rw e (split (eqb kind Kind.BAD_LINE) (λ f. rw f (omega arith)) (λ f. rw f (omega arith))))

pub refusal-some : (kind : ℕ) → 1 ≤ refusal kind
unfolding refusal
refusal-some kind = split (eqb kind Kind.ILLEGAL) (λ e. rw e (omega arith)) (λ e. rw e (split (eqb kind Kind.BAD_LINE) (λ f. rw f (omega arith)) (λ f. rw f (omega arith))))

small-pick : (b : Bool) {x y : ℕ} → x ≤ 8 → y ≤ 8 → pick b x y ≤ 8
small-pick true h k = h
small-pick false h k = k

module _ {s : List ℕ} {low : ℕ} where
  pub placed-pick : {A : Type 0} (b : Bool) {x y : Parsed A} → Placed s low x → Placed s low y → Placed s low (pick b x y)
  placed-pick true f g = f
  placed-pick false f g = g

  pub placed-then : {A B : Type 0} {x : Parsed A} (k : A → Token → Parsed B) → Placed s low x → ((a : A) (t : Token) → In s t → Placed s low (k a t)) → Placed s low (and_then x k)
  placed-then k (p-ok a t i) f = f a t i
  placed-then k (p-aside r p h g l) f = p-aside r p h g l

  -- a reason at a token
  pub at-token : {A : Type 0} (r : ℕ) (t : Token) → In s t → low ≤ r → r ≤ 8 → Placed s low {A = A} (aside r t.start)
  at-token r t i h k = p-aside r t.start h k i.starts

module _ {s : List ℕ} where
  pub not-here : {A : Type 0} (t : Token) → In s t → Placed s 1 {A = A} (unexpected t)
  not-here t i = at-token (refusal t.kind) t i (refusal-some t.kind) (refusal-small t.kind)

  pub ended-placed : {A : Type 0} (a : A) (t : Token) → In s t → Placed s 1 (ended a t)
  ended-placed a t i = placed-pick (ending t.kind) (p-ok a t i) (not-here t i)

-- ---- the small fields

some-fault : (n : ℕ) → eqb n 0 ≡ false → 1 ≤ n
some-fault n e = above n (eqb-false n 0 e)
  where
    above : (n : ℕ) → (n ≡ 0 → ⊥) → 1 ≤ n
    above zero h = absurd (h refl)
    above (suc n) h = omega arith

module _ (s : List ℕ) where
  pub version-placed : (t : Token) → In s t → Placed s 1 (version s t)
  unfolding version version_number version_literal
  version-placed t i =
      placed-pick (eqb t.kind Kind.DIGITS)
      (placed-pick (leb LIMIT (number_at s t.start t.end)) (at-token 5 t i (omega arith) (omega arith)) (placed-pick (eqb (number_at s t.start t.end) 2) (ended-placed 2 _ (token-in s Kind.IN_FIELD t.end)) (at-token 6 t i (omega arith) (omega arith))))
      (placed-pick (eqb t.kind Kind.LITERAL)
      (placed-pick (equal (decoded_at s t.start) two) (ended-placed 2 _ (token-in s Kind.IN_FIELD t.end)) (at-token 6 t i (omega arith) (omega arith)))
      (not-here t i))

  pub signature-placed : (t : Token) → In s t → Placed s 1 (signature s t)
  unfolding signature
  signature-placed t i = placed-pick (eqb t.kind Kind.LITERAL) (placed-pick (ltb most_literal (length (decoded_at s t.start))) (at-token 7 t i (omega arith) (omega arith)) (p-ok _ t i)) (not-here t i)

  value-placed : (n : List ℕ) (t : Token) → In s t → Placed s 1 (constant_value s n t)
  unfolding constant_value
  value-placed n t i = placed-pick (eqb t.kind Kind.LITERAL) (placed-pick (ltb most_literal (length (decoded_at s t.start))) (at-token 7 t i (omega arith) (omega arith)) (p-ok _ _ (token-in s Kind.IN_FIELD t.end))) (not-here t i)

  constant-small : (constants : List Attribute) (t : Token) → constant_fault s constants t ≤ 8
  unfolding constant_fault
  constant-small constants t = small-pick (eqb t.kind Kind.NAME) (small-pick (reserved (name_at s t.start)) (omega arith) (small-pick (is_set constants (name_at s t.start)) (omega arith) (omega arith))) (refusal-small t.kind)

  constant-placed : (constants : List Attribute) (t : Token) → In s t → Placed s 1 (constant s constants t)
  unfolding constant assigned
  constant-placed constants t i =
      let n : In s (behind s Kind.IN_FIELD t) = token-in s Kind.IN_FIELD t.end in
      split (eqb (constant_fault s constants t) 0)
      (λ e. rw e (placed-pick (leb most_constants (length constants)) (at-token 7 t i (omega arith) (omega arith))
      (placed-pick (eqb (behind s Kind.IN_FIELD t).kind Kind.ASSIGN) (value-placed (name_at s t.start) _ (token-in s Kind.IN_FIELD (behind s Kind.IN_FIELD t).end)) (not-here (behind s Kind.IN_FIELD t) n))))
      (λ e. rw e (at-token (constant_fault s constants t) t i (some-fault (constant_fault s constants t) e) (constant-small constants t)))

  abbrev ConstantsIn : List Attribute × Token → Type 0
  ConstantsIn x = In s x.1

  on-constant : (constants : List Attribute) {r : Parsed Attribute} → Placed s 1 r → Keeps ConstantsIn (Placed s 1) (on_constant constants r)
  on-constant constants (p-ok a t i) = k-next (constants ++ (a ∷ []), t) i
  on-constant constants (p-aside r p h g l) = k-done (aside r p) (p-aside r p h g l)

  pub constants-placed : (constants : List Attribute) (t : Token) → In s t → Placed s 1 (constants_from s constants t)
  unfolding constants_from
  constants-placed constants t i = loop-keeps ConstantsIn (Placed s 1) _ _ (constants_turn s) (λ x k. not-here x.1 k)
      (λ x k. keeps-pick _ _ (ending x.1.kind) (k-done _ (p-ok x.0 x.1 k)) (on-constant x.0 (constant-placed x.0 x.1 k))) (constants, t) i
