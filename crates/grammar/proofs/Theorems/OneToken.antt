-- KeyNote-Version and Signature: their readers give reason 2 where the grammar allows no continuation, and else read a sentence.
-- Assumes nothing.
use Rattle.std.specs.Prelude.{◌≡◌, Bool, true, false, List, [], ◌∷◌, ◌++◌, ℕ, eqb, leb, ltb}
use Rattle.std.proofs.Math.Path.{refl}
use Rattle.std.proofs.Common.{ap, ◌∙◌, arith, eqb-true, ltb-false, leb-true}
use Rattle.text.specs.Choice.{pick, split, clash}
use Rattle.text.specs.Equal.{equal}
use Rattle.lexical.specs.Kind
use Rattle.lexical.specs.Kind.{ending}
use Rattle.lexical.specs.Theorems.Bounds.{chosen}
use Rattle.lexical.specs.Literal.{decoded_at}
use Rattle.lexical.specs.Number.{LIMIT, number_at}
use Rattle.lexical.specs.declared.token.Token.{Token}
use Rattle.syntax.specs.Parsed.{Parsed, aside, refusal}
use Rattle.fields.specs.Parsed.{behind, ended}
use Rattle.fields.specs.Version as Vers
use Rattle.grammar.specs.Fields.{Ends, end-of-text, Field, field, Version, version-integer, version-literal}
use Rattle.grammar.specs.Viable.{Viable, opens, here, further, Judged, plainly, through, another}
use Rattle.grammar.specs.Working.Automaton.{run, not-viable, not-longer}
use Rattle.grammar.specs.Theorems.OneToken.{ends-ending, judged-stop, label-ends, version-digits, version-holds, version-neither, version-string, version_first}

pub ending-ends : (k : ℕ) → ending k ≡ true → Ends k
unfolding ending
ending-ends k h =
    split (eqb k 0) (λ e. rw (eqb-true k 0 e) end-of-text)
    (λ e. split (ltb k 4) (λ f. clash h (rw (e, f)))
    (λ f. label-ends k (ltb-false k 4 f) (leb-true k 10 (rw (e, f) at h))))

-- a field of one token: states 1 before it, 2 behind it, 3 behind the token that ends the field, 0 none
module _ (first : ℕ → Bool) where
  unfoldable one_step : ℕ → ℕ → ℕ
  one_step q k = pick (eqb q 1) (pick (first k) 2 0) (pick (eqb q 2) (pick (ending k) 3 0) 0)

  -- what a grammar of one token has
  pub data Single : List ℕ → Type 0 where
    single : (k : ℕ) → first k ≡ true → Single (k ∷ [])

  one-stays : (k : ℕ) → one_step 0 k ≡ 0
  unfolding one_step
  one-stays k = refl

  one-first : (k : ℕ) (b : Bool) → first k ≡ b → one_step 1 k ≡ pick b 2 0
  unfolding one_step
  one-first k b h = rw h

  one-second : (k : ℕ) (b : Bool) → ending k ≡ b → one_step 2 k ≡ pick b 3 0
  unfolding one_step
  one-second k b h = rw h

  module _ (G : List ℕ → Type 0) (shape : (ks : List ℕ) → G ks → Single ks) (holds : (k : ℕ) → first k ≡ true → G (k ∷ [])) (some : ℕ) (some-first : first some ≡ true) where
    single-run : (ks : List ℕ) (e : ℕ) → Single ks → Ends e → run one_step 1 (ks ++ e ∷ []) ≡ 3
    single-run _ e (single k h) en = rw (one-first k true h, one-second e true (ends-ending e en))

    one-alive : (ks : List ℕ) → Field G ks → run one_step 1 ks ≡ 0 → ⊥
    one-alive _ (field ks e g en) z = let w : run one_step 1 (ks ++ e ∷ []) ≡ 3 = single-run ks e (shape ks g) en in omega (arith, w, z)

    one-dead : (ks : List ℕ) → run one_step 1 ks ≡ 0 → Viable (Field G) ks → ⊥
    one-dead = not-viable one_step 0 one-stays (Field G) 1 one-alive

    one-over : (ks : List ℕ) → Field G ks → run one_step 1 ks ≡ 3
    one-over _ (field ks e g en) = single-run ks e (shape ks g) en

    pub one-whole : (ks : List ℕ) (k : ℕ) (more : List ℕ) → Field G ks → Field G (ks ++ k ∷ more) → ⊥
    unfolding one_step
    one-whole = not-longer one_step 0 one-stays (Field G) 1 3 one-over (λ k. refl) (λ z. let bad : ⊥ = omega (arith, z) in bad)

    module _ {A : Type 0} (s : List ℕ) (mode : ℕ) (t : Token) where
      pub one-wrong : first t.kind ≡ false → (r : ℕ) → r ≡ refusal t.kind → Judged {A = A} (Field G) s mode t (aside r t.start)
      one-wrong h r e =
          judged-stop plainly (Field G) s mode t [] t (here t) (opens some (Kind.END ∷ []) (field (some ∷ []) Kind.END (holds some some-first) end-of-text))
          (one-dead (t.kind ∷ []) (one-first t.kind false h)) r e

      pub one_right : (a : A) → first t.kind ≡ true → Judged {A = A} (Field G) s mode t (ended a (behind s mode t))
      one_right a h =
          chosen (Judged (Field G) s mode t) (ending (behind s mode t).kind) _ _
          (λ e. through (t.kind ∷ []) (behind s mode t) a (further t (behind s mode t) [] (here (behind s mode t))) (field (t.kind ∷ []) (behind s mode t).kind (holds t.kind h) (ending-ends _ e)))
          (λ e.
          judged-stop plainly (Field G) s mode t (t.kind ∷ []) (behind s mode t) (further t (behind s mode t) [] (here (behind s mode t)))
          (opens Kind.END [] (field (t.kind ∷ []) Kind.END (holds t.kind h) end-of-text))
          (one-dead (t.kind ∷ (behind s mode t).kind ∷ []) (ap (λ (q : ℕ). one_step q (behind s mode t).kind) (one-first t.kind true h) ∙ one-second (behind s mode t).kind false e))
          (refusal (behind s mode t).kind) refl)

version-shape : (ks : List ℕ) → Version ks → Single version_first ks
unfolding version_first
version-shape _ version-integer = single Kind.DIGITS refl
version-shape _ version-literal = single Kind.LITERAL refl

module _ (s : List ℕ) (t : Token) where
  abbrev VersionJudged : Parsed ℕ → Type 0
  VersionJudged r = Judged (Field Version) s Kind.IN_FIELD t r

  version-right : version_first t.kind ≡ true → VersionJudged (ended 2 (behind s Kind.IN_FIELD t))
  version-right h = one_right version_first Version version-shape version-holds Kind.LITERAL (version-string Kind.LITERAL refl) s Kind.IN_FIELD t 2 h

  version-number : (n : ℕ) → version_first t.kind ≡ true → VersionJudged (Vers.version_number s t n)
  unfolding Vers.version_number
  version-number n h =
      chosen VersionJudged (leb LIMIT n) _ _ (λ e. another 5 t.start (λ z. let bad : ⊥ = omega (arith, z) in bad))
      (λ e. chosen VersionJudged (eqb n 2) _ _ (λ f. version-right h) (λ f. another 6 t.start (λ z. let bad : ⊥ = omega (arith, z) in bad)))

  version-text : (v : List ℕ) → version_first t.kind ≡ true → VersionJudged (Vers.version_literal s t v)
  unfolding Vers.version_literal
  version-text v h =
      chosen VersionJudged (equal v Vers.two) _ _ (λ f. version-right h) (λ f. another 6 t.start (λ z. let bad : ⊥ = omega (arith, z) in bad))

  pub version-judged : Judged (Field Version) s Kind.IN_FIELD t (Vers.version s t)
  unfolding Vers.version
  version-judged =
      chosen VersionJudged (eqb t.kind Kind.DIGITS) _ _ (λ e. version-number (number_at s t.start t.end) (version-digits t.kind e))
      (λ e. chosen VersionJudged (eqb t.kind Kind.LITERAL) _ _ (λ f. version-text (decoded_at s t.start) (version-string t.kind f))
      (λ f. one-wrong version_first Version version-shape version-holds Kind.LITERAL (version-string Kind.LITERAL refl) s Kind.IN_FIELD t (version-neither t.kind e f) (refusal t.kind) refl))

-- no sentence of the field goes on as another
pub version-whole : (ks : List ℕ) (k : ℕ) (more : List ℕ) → Field Version ks → Field Version (ks ++ k ∷ more) → ⊥
version-whole = one-whole version_first Version version-shape version-holds Kind.LITERAL (version-string Kind.LITERAL refl)
