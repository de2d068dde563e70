-- The reader of a principal's string expression against its trees and the automaton. Assumes nothing.
use Rattle.std.specs.Prelude.{◌≡◌, refl, true, false, List, [], ◌∷◌, ◌++◌, ℕ, eqb}
use Rattle.std.proofs.Common.{sym, ap, ◌∙◌, subst, eqb-true}
use Rattle.text.specs.Choice.{split, clash}
use Rattle.lexical.specs.Kind
use Rattle.lexical.specs.Kind.{ending}
use Rattle.lexical.specs.Line.{token_at}
use Rattle.lexical.specs.declared.token.Token.{Token}
use Rattle.syntax.specs.Operator.{a-string}
use Rattle.conditions.specs.Table.{PartSort, sorted, want-string}
use Rattle.conditions.specs.Table
use Rattle.grammar.specs.Spelled.{kind_in, kinds_in}
use Rattle.grammar.specs.Viable.{TokensIn, at_once, and-on, KindsBy, here, further}
use Rattle.grammar.specs.Theorems.Shadow.{kind-mark}
use Rattle.grammar.specs.Working.Automaton.{run}
use Rattle.grammar.specs.Working.States.{TEXT, in-clause, in-bracket, Frame, tests, right, value, texts, numbers, alone, people, item, State, p-dead, p-text, p-have, step, leave_at}

-- behind a string the automaton stays in it with "." alone
pub dot-only : (k : ℕ) → eqb k Kind.DOT ≡ false → Table.binds 3 (Table.operator (sorted a-string) k) ≡ false
unfolding Table.binds Table.operator Table.text_operator Table.level_of Table.comparison
dot-only k e =
    split (eqb k Kind.MATCHES) (λ f. rw (e, f) refl)
    (λ f. split (eqb k Kind.EQUAL) (λ g. rw (e, f, g) refl)
    (λ g. split (eqb k Kind.UNEQUAL) (λ i. rw (e, f, g, i) refl)
    (λ i. split (eqb k Kind.LESS) (λ j. rw (e, f, g, i, j) refl)
    (λ j. split (eqb k Kind.GREATER) (λ l. rw (e, f, g, i, j, l) refl)
    (λ l. split (eqb k Kind.AT_MOST) (λ m. rw (e, f, g, i, j, l, m) refl)
    (λ m. split (eqb k Kind.AT_LEAST) (λ n. rw (e, f, g, i, j, l, m, n) refl) (λ n. rw (e, f, g, i, j, l, m, n) refl)))))))

pub not-dot : (s : List ℕ) (u : Token) → Table.binds 3 (Table.operator (sorted a-string) (kind_in s u)) ≡ false → eqb u.kind Kind.DOT ≡ false
unfolding Table.binds Table.operator Table.text_operator Table.level_of
not-dot s u b =
    split (eqb u.kind Kind.DOT)
    (λ e. let z : kind_in s u ≡ Kind.DOT = kind-mark s u Kind.DOT (eqb_is e) refl in clash refl (rw z at b)) (λ e. e)
  where
    eqb_is : eqb u.kind Kind.DOT ≡ true → u.kind ≡ Kind.DOT
    eqb_is e = eqb-true u.kind Kind.DOT e

pub leaves : (F : Frame) (k : ℕ) → eqb k Kind.DOT ≡ false → step (p-have TEXT F) k ≡ leave_at TEXT F k
unfolding step
leaves F k e = rw (dot-only k e) refl

-- places in a string, and a walk along them
pub data Texty : State → Type 0 where
  texty-want : (F : Frame) → Texty (p-text TEXT F)
  texty-have : (F : Frame) → Texty (p-have TEXT F)

pub data Along : State → List ℕ → Type 0 where
  along-end : (q : State) → Texty q → Along q []
  along-step : (q p : State) (k : ℕ) (ks : List ℕ) → Texty q → step q k ≡ p → Along p ks → Along q (k ∷ ks)

pub along-append : (q p : State) (ks ls : List ℕ) → Along q ks → run step q ks ≡ p → Along p ls → Along q (ks ++ ls)
along-append q p _ ls (along-end _ x) e b = subst (λ (z : State). Along z ls) (sym e) b
along-append q p _ ls (along-step _ w k ks x f a) e b =
    along-step q w k (ks ++ ls) x f (along-append w p ks ls a (ap (λ (z : State). run step z ks) (sym f) ∙ e) b)

along-here : (q : State) (ks : List ℕ) → Along q ks → Texty q
along-here q _ (along-end _ x) = x
along-here q _ (along-step _ p k ks x e a) = x

along-next : (q : State) (k : ℕ) (ks : List ℕ) → Along q (k ∷ ks) → Along (step q k) ks
along-next q _ _ (along-step _ p k ks x e b) = subst (λ (z : State). Along z ks) (sym e) b

pub along-front : (q : State) (ks rest : List ℕ) → Along q (ks ++ rest) → Texty (run step q ks)
along-front q [] rest a = along-here q rest a
along-front q (k ∷ ks) rest a = along-front (step q k) ks rest (along-next q k (ks ++ rest) a)

-- no "-of" stands in a string
of-have : (F : Frame) → step (p-have TEXT F) Kind.OF ≡ p-dead
unfolding step Table.binds Table.operator Table.text_operator Table.test_operator Table.level_of Table.comparison ending
of-have (tests (in-clause d)) = refl
of-have (tests (in-bracket b S)) = refl
of-have (right (in-clause d)) = refl
of-have (right (in-bracket b S)) = refl
of-have (value d) = refl
of-have (texts r F) = refl
of-have (numbers F) = refl
of-have alone = refl
of-have (people u n) = refl
of-have (item n) = refl

pub of-dead : (q : State) → Texty q → step q Kind.OF ≡ p-dead
unfolding step Table.allows Table.begins_string
of-dead _ (texty-want F) = refl
of-dead _ (texty-have F) = of-have F

-- tokens none of which is a "-"
pub data Free : List Token → Type 0 where
  free-none : Free []
  free_more : (t : Token) (ts : List Token) → eqb t.kind Kind.MINUS ≡ false → Free ts → Free (t ∷ ts)

pub free-append : (ts us : List Token) → Free ts → Free us → Free (ts ++ us)
free-append _ us free-none b = b
free-append _ us (free_more t ts h a) b = free_more t (ts ++ us) h (free-append ts us a b)

free-head : (t : Token) (ts : List Token) → Free (t ∷ ts) → (eqb t.kind Kind.MINUS ≡ false) × Free ts
free-head _ _ (free_more t ts h b) = (h, b)

pub free-front : (ts us : List Token) → Free (ts ++ us) → Free ts
free-front [] us a = free-none
free-front (t ∷ ts) us a = free_more t ts (free-head t (ts ++ us) a).0 (free-front ts us (free-head t (ts ++ us) a).1)

-- the kinds of tokens along a path
pub tokens-kinds : (s : List ℕ) (mode : ℕ) (t n : Token) (ts : List Token) → TokensIn s mode t ts n → KindsBy (kind_in s) s mode t (kinds_in s ts) n
tokens-kinds s mode t _ _ (at_once _) = here t
tokens-kinds s mode t n _ (and-on _ _ ts p) = further t n (kinds_in s ts) (tokens-kinds s mode (token_at s mode t.end) n ts p)
