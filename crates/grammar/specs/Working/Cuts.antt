-- The tokens of a text cut at a token of a kind, as their kinds are cut. Assumes nothing.
use Rattle.std.specs.Prelude.{◌≡◌, refl, false, List, [], ◌∷◌, ◌++◌, ℕ, eqb, length}
use Rattle.std.proofs.Common.{sym, ap, ◌∙◌, subst, arith, eqb-true, eq-eqb}
use Rattle.text.specs.Choice.{split, clash}
use Rattle.lexical.specs.Kind
use Rattle.lexical.specs.Line.{token_at}
use Rattle.lexical.specs.declared.token.Token.{Token}
use Rattle.grammar.specs.Conditions.{TRUTH, Name, any_name, truth-name}
use Rattle.grammar.specs.Spelled.{kind_in, kinds_in}
use Rattle.grammar.specs.Viable.{TokensIn, at_once, and-on}
use Rattle.grammar.specs.Theorems.Shadow.{kind-other}
use Rattle.grammar.specs.Working.Joints.{test-kind}
use Rattle.grammar.specs.Working.Known.{token-real}
use Rattle.grammar.specs.Working.Reading.{Real, real-token}

-- tokens whose kinds the lexer gives
pub data Lexed : List Token → Type 0 where
  lexed-none : Lexed []
  lexed-more : (t : Token) (ts : List Token) → (t.kind ≡ TRUTH → ⊥) → Lexed ts → Lexed (t ∷ ts)

no_truth : (s : List ℕ) (t : Token) → Real s t → t.kind ≡ TRUTH → ⊥
no_truth s t (real-token x h) = h

-- the tokens of a text are such
pub tokens-lexed : (s : List ℕ) (mode : ℕ) (t n : Token) (ts : List Token) → TokensIn s mode t ts n → Real s t → Lexed ts
tokens-lexed s mode t _ _ (at_once _) r = lexed-none
tokens-lexed s mode t n _ (and-on _ _ ts p) r =
    lexed-more t ts (no_truth s t r) (tokens-lexed s mode (token_at s mode t.end) n ts p (token-real s mode t.end))

no-kinds : {P : Type 0} (k : ℕ) (ks : List ℕ) → [] ≡ k ∷ ks → P
no-kinds k ks e = let z : length {A = ℕ} [] ≡ length (k ∷ ks) = ap length e in absurd (let no : ⊥ = omega (arith, z) in no)

no_name : (k : ℕ) → Name k → eqb k Kind.NAME ≡ false → (k ≡ TRUTH → ⊥) → ⊥
no_name _ any_name e h = clash refl e
no_name _ truth-name e h = h refl

module _ (s : List ℕ) where
  -- a token of a mark's kind is that mark
  pub of-mark : (t : Token) (k : ℕ) → kind_in s t ≡ k → eqb TRUTH k ≡ false → eqb Kind.NAME k ≡ false → t.kind ≡ k
  of-mark t k e a b = eqb-true t.kind k (sym (test-kind s t k a b) ∙ eq-eqb (kind_in s t) k e)

  -- a token of a name's kind is a name
  pub of-name : (t : Token) → Name (kind_in s t) → (t.kind ≡ TRUTH → ⊥) → t.kind ≡ Kind.NAME
  of-name t n h =
      split (eqb t.kind Kind.NAME) (λ e. eqb-true t.kind Kind.NAME e) (λ e. absurd (no_name t.kind (subst Name (kind-other s t e) n) e h))

  -- a first token of that kind, and tokens of those kinds
  pub data Led (k : ℕ) (ks : List ℕ) : List Token → Type 0 where
    led : (t : Token) (ts : List Token) → kind_in s t ≡ k → kinds_in s ts ≡ ks → (t.kind ≡ TRUTH → ⊥) → Lexed ts → Led k ks (t ∷ ts)

  pub led-by : (k : ℕ) (ks : List ℕ) (ts : List Token) → Lexed ts → kinds_in s ts ≡ k ∷ ks → Led k ks ts
  led-by k ks _ lexed-none e = no-kinds k ks e
  led-by k ks _ (lexed-more t ts h l) e = led t ts (cc e) (cc e) h l

  -- tokens of those kinds, one of that kind, and tokens of these kinds
  pub data Cut (ks : List ℕ) (k : ℕ) (ls : List ℕ) : List Token → Type 0 where
    cut : (ts : List Token) (t : Token) (us : List Token) → kinds_in s ts ≡ ks → kind_in s t ≡ k → kinds_in s us ≡ ls → Lexed ts → (t.kind ≡ TRUTH → ⊥) → Lexed us
        → Cut ks k ls (ts ++ t ∷ us)

  cut-more : (x : ℕ) (t : Token) (ks : List ℕ) (k : ℕ) (ls : List ℕ) (ts : List Token) → kind_in s t ≡ x → (t.kind ≡ TRUTH → ⊥) → Cut ks k ls ts → Cut (x ∷ ks) k ls (t ∷ ts)
  cut-more x t ks k ls _ e h (cut ts u us a b c l m n) = cut (t ∷ ts) u us (cc (e, a)) b c (lexed-more t ts h l) m n

  cut-led : (k : ℕ) (ls : List ℕ) (ts : List Token) → Led k ls ts → Cut [] k ls ts
  cut-led k ls _ (led t ts a b h l) = cut [] t ts refl a b lexed-none h l

  pub cut_by : (ks : List ℕ) (k : ℕ) (ls : List ℕ) (ts : List Token) → Lexed ts → kinds_in s ts ≡ ks ++ k ∷ ls → Cut ks k ls ts
  cut_by [] k ls ts l e = cut-led k ls ts (led-by k ls ts l e)
  cut_by (x ∷ ks) k ls _ lexed-none e = no-kinds x (ks ++ k ∷ ls) e
  cut_by (x ∷ ks) k ls _ (lexed-more t ts h l) e = cut-more x t ks k ls ts (cc e) h (cut_by ks k ls ts l (cc e))

  -- the same where the token is the last one
  pub data Last (ks : List ℕ) (k : ℕ) : List Token → Type 0 where
    last : (ts : List Token) (t : Token) → kinds_in s ts ≡ ks → kind_in s t ≡ k → Lexed ts → (t.kind ≡ TRUTH → ⊥) → Last ks k (ts ++ t ∷ [])

  last-of : (ks : List ℕ) (k : ℕ) (ts : List Token) → Cut ks k [] ts → Last ks k ts
  last-of ks k _ (cut ts t [] a b c l m n) = last ts t a b l m
  last-of ks k _ (cut ts t (u ∷ us) a b c l m n) = no-kinds (kind_in s u) (kinds_in s us) (sym c)

  pub last-by : (ks : List ℕ) (k : ℕ) (ts : List Token) → Lexed ts → kinds_in s ts ≡ ks ++ k ∷ [] → Last ks k ts
  last-by ks k ts l e = last-of ks k ts (cut_by ks k [] ts l e)

  -- a token of that kind and no other
  pub data Single (k : ℕ) : List Token → Type 0 where
    single : (t : Token) → kind_in s t ≡ k → (t.kind ≡ TRUTH → ⊥) → Single k (t ∷ [])

  single_of : (k : ℕ) (ts : List Token) → Led k [] ts → Single k ts
  single_of k _ (led t [] a b h l) = single t a h
  single_of k _ (led t (u ∷ us) a b h l) = no-kinds (kind_in s u) (kinds_in s us) (sym b)

  pub single-by : (k : ℕ) (ts : List Token) → Lexed ts → kinds_in s ts ≡ k ∷ [] → Single k ts
  single-by k ts l e = single_of k ts (led-by k [] ts l e)
