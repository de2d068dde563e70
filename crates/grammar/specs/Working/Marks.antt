-- Lists of tokens: their kinds, the marks in them, and paths along a text. Assumes nothing.
use Rattle.std.specs.Prelude.{◌≡◌, refl, Bool, List, [], ◌∷◌, ◌++◌, map, ℕ, eqb}
use Rattle.std.proofs.Common.{sym, ap, subst}
use Rattle.lexical.specs.Line.{token_at}
use Rattle.lexical.specs.declared.token.Token.{Token}
use Rattle.grammar.specs.Viable.{TokensIn, at_once, and-on}

-- a token of a kind, wherever it stands
abbrev pub mark : ℕ → Token
mark k = record { kind = k; start = 0; end = 0 }

-- a token's kind in a test
pub at-kind : (t : Token) (k x : ℕ) (b : Bool) → t.kind ≡ k → eqb k x ≡ b → eqb t.kind x ≡ b
at-kind t k x b z h = subst (λ (y : ℕ). eqb y x ≡ b) (sym z) h

module _ (kind : Token → ℕ) where
  pub kinds-append : (ts us : List Token) → map kind (ts ++ us) ≡ map kind ts ++ map kind us
  kinds-append [] us = refl
  kinds-append (t ∷ ts) us = ap (λ (l : List ℕ). kind t ∷ l) (kinds-append ts us)

  -- tokens on both sides of a mark, and behind one
  pub around : (G : List ℕ → Type 0) (t : Token) (ts us : List Token) (k : ℕ) → kind t ≡ k → G (map kind ts ++ k ∷ map kind us) → G (map kind (ts ++ t ∷ us))
  around G t ts us k e g = subst G (sym (kinds-append ts (t ∷ us))) (subst (λ (x : ℕ). G (map kind ts ++ x ∷ map kind us)) (sym e) g)

  pub before : (G : List ℕ → Type 0) (t : Token) (ts : List Token) (k : ℕ) → kind t ≡ k → G (k ∷ map kind ts) → G (map kind (t ∷ ts))
  before G t ts k e g = subst (λ (x : ℕ). G (x ∷ map kind ts)) (sym e) g

module _ (s : List ℕ) (mode : ℕ) where
  pub tokens_append : (t u n : Token) (ts us : List Token) → TokensIn s mode t ts u → TokensIn s mode u us n → TokensIn s mode t (ts ++ us) n
  tokens_append t _ n _ us (at_once _) q = q
  tokens_append t u n _ us (and-on _ _ ts p) q = and-on t n (ts ++ us) (tokens_append (token_at s mode t.end) u n ts us p q)

  -- one token more
  pub tokens-one : (t u : Token) (ts : List Token) → TokensIn s mode t ts u → TokensIn s mode t (ts ++ u ∷ []) (token_at s mode u.end)
  tokens-one t u ts p = tokens_append t u (token_at s mode u.end) ts (u ∷ []) p (and-on u (token_at s mode u.end) [] (at_once (token_at s mode u.end)))
