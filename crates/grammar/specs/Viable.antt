-- What begins a sentence, the kinds of a text's tokens, and what a reader of a field owes to the field's grammar. Assumes nothing.
use Rattle.std.specs.Prelude.{◌≡◌, List, [], ◌∷◌, ◌++◌, ℕ}
use Rattle.lexical.specs.Line.{token_at}
use Rattle.lexical.specs.declared.token.Token.{Token}
use Rattle.syntax.specs.Parsed.{Parsed, ok, aside}

-- the kinds begin some sentence: its tail may be as long as it likes
pub data Viable (G : List ℕ → Type 0) (ks : List ℕ) : Type 0 where
  viable : (rest : List ℕ) → G (ks ++ rest) → Viable G ks

-- they begin some sentence and are not all of it
pub data Open (G : List ℕ → Type 0) (ks : List ℕ) : Type 0 where
  opens : (k : ℕ) (rest : List ℕ) → G (ks ++ k ∷ rest) → Open G ks

-- the tokens from the first up to before the second, in a field of that mode
pub data TokensIn (s : List ℕ) (mode : ℕ) : Token → List Token → Token → Type 0 where
  at_once : (t : Token) → TokensIn s mode t [] t
  and-on : (t n : Token) (ts : List Token) → TokensIn s mode (token_at s mode t.end) ts n → TokensIn s mode t (t ∷ ts) n

-- the kinds of the tokens from the first up to before the second, in a field of that mode; `kind` says what kind a token is of
pub data KindsBy (kind : Token → ℕ) (s : List ℕ) (mode : ℕ) : Token → List ℕ → Token → Type 0 where
  here : (t : Token) → KindsBy kind s mode t [] t
  further : (t n : Token) (ks : List ℕ) → KindsBy kind s mode (token_at s mode t.end) ks n → KindsBy kind s mode t (kind t ∷ ks) n

-- Of a reader that starts at t. Where it gets through, the kinds it read and the kind of the token behind are a sentence. Reason 2 is at
-- "token after which the field's grammar [..] allows no continuation": the kinds before it begin a sentence, those up to it begin none.
-- Any other reason is not the grammar's.
pub data JudgedBy {A : Type 0} (kind : Token → ℕ) (G : List ℕ → Type 0) (s : List ℕ) (mode : ℕ) (t : Token) : Parsed A → Type 0 where
  through : (ks : List ℕ) (n : Token) (a : A) → KindsBy kind s mode t ks n → G (ks ++ kind n ∷ []) → JudgedBy kind G s mode t (ok a n)
  no-continuation : (ks : List ℕ) (n : Token) → KindsBy kind s mode t ks n → Open G ks → (Viable G (ks ++ kind n ∷ []) → ⊥) → JudgedBy kind G s mode t (aside 2 n.start)
  another : (r p : ℕ) → (r ≡ 2 → ⊥) → JudgedBy kind G s mode t (aside r p)

-- the kind that the lexer gives
abbrev pub plainly : Token → ℕ
plainly t = t.kind

abbrev pub Kinds : List ℕ → ℕ → Token → List ℕ → Token → Type 0
Kinds s mode t ks n = KindsBy plainly s mode t ks n

abbrev pub Judged : {A : Type 0} → (List ℕ → Type 0) → List ℕ → ℕ → Token → Parsed A → Type 0
Judged G s mode t r = JudgedBy plainly G s mode t r
