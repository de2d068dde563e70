-- The tokens of a text one after the other, and what its literals give. Assumes nothing.
use Rattle.std.specs.Prelude.{◌≡◌, ℕ, zero, suc, ◌+◌, ◌-◌, ◌≤◌, ◌<◌, ltb}
use Rattle.std.proofs.Common.{ap, sym, ◌∙◌, arith, not-suc-le-zero, ltb-true, lt-ltb, le-ltb}
use mathlib.Core.List.{List, [], ◌∷◌}
use Rattle.std.proofs.Math.ListN.{length}
use Rattle.std.proofs.Math.Seq.{slice}
use Rattle.text.specs.Choice.{pick-if}
use Rattle.lexical.specs.Kind.{BAD_LINE, LITERAL, mode_after}
use Rattle.lexical.specs.Literal.{literal_end, decoded_at, decode}
use Rattle.lexical.specs.Theorems.Decoded.{decoded-shorter}
use Rattle.lexical.specs.Theorems.Between.{decode-between}
use Rattle.lexical.specs.Line.{token_at}
use Rattle.lexical.specs.Theorems.LineLaws.{token-real, token-literal}
use Rattle.lexical.specs.Tokens.{tokens_to, tokens_from}
use Rattle.lexical.specs.declared.token.Token.{Token}

-- more fuel than needed changes nothing
tokens-same : (n m : ℕ) (s : List ℕ) (mode at : ℕ) → length s - at < n → length s - at < m → tokens_to n s mode at ≡ tokens_to m s mode at
unfolding tokens_to
tokens-same zero m s mode at h k = absurd (not-suc-le-zero h)
tokens-same (suc n) zero s mode at h k = absurd (not-suc-le-zero k)
tokens-same (suc n) (suc m) s mode at h k =
    ap (λ (ts : List Token). token_at s mode at ∷ ts)
    (pick-if (ltb BAD_LINE (token_at s mode at).kind) []
    (λ e.
    let p : (at ≤ (token_at s mode at).start) × ((token_at s mode at).start < (token_at s mode at).end) × ((token_at s mode at).end ≤ length s) = token-real s mode at (ltb-true _ _ e) in
    tokens-same n m s (mode_after mode (token_at s mode at).kind) (token_at s mode at).end (omega (arith, h, p.0, p.1, p.2)) (omega (arith, k, p.0, p.1, p.2))))

module _ (s : List ℕ) (mode at : ℕ) where
  pub tokens-more : BAD_LINE < (token_at s mode at).kind
      → tokens_from s mode at ≡ token_at s mode at ∷ tokens_from s (mode_after mode (token_at s mode at).kind) (token_at s mode at).end
  unfolding tokens_from tokens_to
  tokens-more h =
      let p : (at ≤ (token_at s mode at).start) × ((token_at s mode at).start < (token_at s mode at).end) × ((token_at s mode at).end ≤ length s) = token-real s mode at h in
      rw (lt-ltb _ _ h) (ap (λ (ts : List Token). token_at s mode at ∷ ts)
      (tokens-same (length s - at) (suc (length s - (token_at s mode at).end)) s (mode_after mode (token_at s mode at).kind) (token_at s mode at).end (omega (arith, p.0, p.1, p.2)) (omega arith)))

  pub tokens-last : (token_at s mode at).kind ≤ BAD_LINE → tokens_from s mode at ≡ token_at s mode at ∷ []
  unfolding tokens_from tokens_to
  tokens-last h = rw (le-ltb _ _ h)

  module _ (h : (token_at s mode at).kind ≡ LITERAL) where
    real : (at ≤ (token_at s mode at).start) × ((token_at s mode at).start < (token_at s mode at).end) × ((token_at s mode at).end ≤ length s)
    real = token-real s mode at (omega (arith, h))

    -- A literal token gives what the bytes between its quotes give.
    pub token-decoded : decoded_at s (token_at s mode at).start ≡ decode (slice ((token_at s mode at).start + 1) ((token_at s mode at).end - 1) s)
    token-decoded =
        decode-between s (token_at s mode at).start ((token_at s mode at).end - 1)
        (token-literal s mode at h ∙ (let e : (token_at s mode at).end ≡ (token_at s mode at).end - 1 + 1 = omega (arith, real.1) in e))

    -- It gives at most as many bytes as it has between its quotes.
    pub token-shorter : (token_at s mode at).start + 2 + length (decoded_at s (token_at s mode at).start) ≤ (token_at s mode at).end
    token-shorter =
        let e : literal_end s ((token_at s mode at).start + 1) ≡ (token_at s mode at).end = token-literal s mode at h in
        omega (arith, e, decoded-shorter s (token_at s mode at).start (λ z. let no : ⊥ = omega (arith, z, e, real.1) in no))

-- The same of a token at hand: a reader that steps from token to token moves on, and ends.
module _ (s : List ℕ) (mode at : ℕ) (t : Token) (te : t ≡ token_at s mode at) (h : BAD_LINE < t.kind) where
  at-hand : (at ≤ t.start) × (t.start < t.end) × (t.end ≤ length s)
  at-hand = rw te (token-real s mode at (rw (sym te) h))

  pub token-on : at < t.end
  token-on = omega (arith, at-hand.0, at-hand.1)

  pub token-within : t.end ≤ length s
  token-within = at-hand.2

  pub token-less : length s - t.end < length s - at
  token-less = omega (arith, token-on, token-within)
