-- The reader of a principal's string expression against its trees and the automaton. Assumes nothing.
use Rattle.std.specs.Prelude.{◌≡◌, refl, Bool, true, false, List, [], ◌∷◌, ◌++◌, ℕ, ◌≤◌, eqb}
use Rattle.std.proofs.Common.{sym, ap, ◌∙◌, subst, arith}
use Rattle.lexical.specs.Kind
use Rattle.lexical.specs.Line.{token_at}
use Rattle.lexical.specs.declared.token.Token.{Token}
use Rattle.syntax.specs.Expr.{Expr}
use Rattle.syntax.specs.Parsed.{Parsed, ok, aside, refusal}
use Rattle.conditions.specs.Table.{want-string}
use Rattle.conditions.specs.Parsed.{Part, on_part}
use Rattle.conditions.specs.Expression.{read_expression}
use Rattle.conditions.specs.Program.{DEPTH}
use Rattle.naming.specs.Source.{Source}
use Rattle.naming.specs.String.{plain_from, nest_of, source}
use Rattle.grammar.specs.Conditions.{Class, operand, whole, Str, str-literal, str-name, str-lookup, str-bracket, str-one, str-join}
use Rattle.grammar.specs.Sourced.{SourceTree, source-tree}
use Rattle.grammar.specs.Spelled.{kind_in, kinds_in, Tokens}
use Rattle.grammar.specs.Trees.{StrTree, literal-tree, name-tree, lookup-tree, text-bracket, text-one, join-tree}
use Rattle.grammar.specs.Viable.{TokensIn, at_once, and-on}
use Rattle.grammar.specs.Theorems.Shadow.{kind-mark}
use Rattle.grammar.proofs.Theorems.Shadow.{str-shadow}
use Rattle.grammar.specs.Working.Automaton.{run}
use Rattle.grammar.specs.Working.Marks.{kinds-append}
use Rattle.grammar.specs.Working.States.{TEXT, Frame, texts, p-dead, p-text, p-have, step}
use Rattle.grammar.specs.Working.Accepts.{name-text, literal-text, lookup-text, open-text, close-text, dot-text, as-text, text-run}
use Rattle.grammar.specs.Working.Told.{goal-text, told_text, suits-text, completes}
use Rattle.grammar.specs.Working.Onward.{start-text, asked-text}
use Rattle.grammar.specs.Working.Reading.{Real}
use Rattle.grammar.proofs.Working.Reading.{runs, runs_last, Reading, got, halted, otherwise, expression-reads}
use Rattle.grammar.specs.Working.Known.{next-real}
use Rattle.grammar.specs.Working.Begun.{Begun, begun-so}
use Rattle.grammar.proofs.Working.Begun.{begins, expression-begun, string-plain}
use Rattle.grammar.specs.Working.Modes.{Near, near_same, near_of, token-near, near-is, near-refusal, near-start}
use Rattle.grammar.specs.Working.Strings.{Along, Free, along-append, along-end, along-front, along-step, free-append, free-front, free-none, free_more, not-dot, of-dead, texty-have, texty-want}

text-along : (c : Class) (ks : List ℕ) → Str c ks → (F : Frame) → Along (p-text TEXT F) ks
text-along _ _ str-literal F = along-step _ (p-have TEXT F) Kind.LITERAL [] (texty-want F) (literal-text TEXT F) (along-end _ (texty-have F))
text-along _ _ (str-name k n) F = along-step _ (p-have TEXT F) k [] (texty-want F) (name-text TEXT F k n) (along-end _ (texty-have F))
text-along _ _ (str-lookup ks s) F = along-step _ (p-text TEXT F) Kind.DOLLAR ks (texty-want F) (lookup-text TEXT F) (text-along operand ks s F)
text-along _ _ (str-bracket ks s) F =
    along-step _ (p-text TEXT (texts TEXT F)) Kind.OPEN (ks ++ Kind.CLOSE ∷ []) (texty-want F) (open-text TEXT F)
    (along-append (p-text TEXT (texts TEXT F)) (p-have TEXT (texts TEXT F)) ks (Kind.CLOSE ∷ []) (text-along whole ks s (texts TEXT F)) (text-run whole ks s TEXT (texts TEXT F) (as-text refl))
    (along-step _ (p-have TEXT F) Kind.CLOSE [] (texty-have (texts TEXT F)) (close-text TEXT F) (along-end _ (texty-have F))))
text-along _ _ (str-one ks s) F = text-along operand ks s F
text-along _ _ (str-join ks ls s u) F =
    along-append (p-text TEXT F) (p-have TEXT F) ks (Kind.DOT ∷ ls) (text-along whole ks s F) (text-run whole ks s TEXT F (as-text refl))
    (along-step _ (p-text TEXT F) Kind.DOT ls (texty-have F) (dot-text F) (text-along operand ls u F))

module _ (s : List ℕ) where
  str-free : (c : Class) (ts : List Token) (e : Expr) → StrTree s c ts e → Free ts
  str-free _ _ _ (literal-tree t z) = free_more t [] (rw z) free-none
  str-free _ _ _ (name-tree t z) = free_more t [] (rw z) free-none
  str-free _ _ _ (lookup-tree t ts e z d) = free_more t ts (rw z) (str-free operand ts e d)
  str-free _ _ _ (text-bracket t u ts e y z d) = free_more t (ts ++ u ∷ []) (rw y) (free-append ts (u ∷ []) (str-free whole ts e d) (free_more u [] (rw z) free-none))
  str-free _ _ _ (text-one ts e d) = str-free operand ts e d
  str-free _ _ _ (join-tree t ts us e f z d g) = free-append ts (t ∷ us) (str-free whole ts e d) (free_more t us (rw z) (str-free operand us f g))

  source_free : (ts : List Token) (x : Source) → SourceTree s ts x → Free ts
  source_free _ _ (source-tree ts x d p) = str-free whole ts x.says d

  -- the same tokens in Licensees, and the one behind them
  abbrev Nearby : Token → List Token → Token → Type 0
  Nearby t ts u = (n : Token) × (TokensIn s Kind.IN_LICENSEES t ts n × Near u n)

  nearby-more : (t u : Token) (ts : List Token) → eqb t.kind Kind.MINUS ≡ false → (w : Token) → Near t w → Nearby t ts u → Nearby w ts u
  nearby-more t u ts h w z (n, (q, r)) = (n, (subst (λ (x : Token). TokensIn s Kind.IN_LICENSEES x ts n) (near-is t w z h) q, r))

  nearby-step : (t u : Token) (ts : List Token) → Nearby (token_at s Kind.IN_LICENSEES t.end) ts u → Nearby t (t ∷ ts) u
  nearby-step t u ts (n, (q, r)) = (n, (and-on t n ts q, r))

  -- t as the reader sees it, w as it stands in Licensees
  near-path : (t u : Token) (ts : List Token) → Tokens s t ts u → Free ts → (w : Token) → Near t w → Nearby w ts u
  near-path t _ _ (at_once _) a w z = (w, (at_once w, z))
  near-path t u _ (and-on _ _ ts p) (free_more _ _ h a) w z =
      nearby-more t u (t ∷ ts) h w z
      (nearby-step t u ts (near-path (token_at s Kind.IN_FIELD t.end) u ts p a (token_at s Kind.IN_LICENSEES t.end) (token-near s t.end)))

  -- what the reader of a string makes of the tokens from t on
  pub data Strung (b : Bool) (t : Token) : Parsed Source → Type 0 where
    strung : (ts : List Token) (u : Token) (x : Source) → Tokens s t ts u → SourceTree s ts x → eqb u.kind Kind.DOT ≡ false → b ≡ true → Strung b t (ok x u)
    stopped : (ts : List Token) (u : Token) → Tokens s t ts u → (rest : List Token) (e : Expr) → StrTree s whole (ts ++ rest) e → ((F : Frame) → runs s (p-text TEXT F) ts u ≡ p-dead)
        → (r : ℕ) → r ≡ refusal u.kind → Strung b t (aside r u.start)
    other : (r p : ℕ) → (r ≡ 2 → ⊥) → Strung b t (aside r p)

  begun_ok : (b : Bool) (x : Part) (u : Token) → Begun b (ok x u) → b ≡ true
  begun_ok b x u (begun-so e _) = e

  reading-strung : (left : ℕ) (t : Token) (rr : Parsed Part) → Begun (begins s left t) rr → Reading s 3 3 3 want-string t rr
      → Strung (begins s left t) t (on_part rr (λ sort e u. ok (record { place = (plain_from left s t).start; says = e }) u))
  reading-strung left t _ z (got ts u _ _ p x suits-text (told_text _ _ e d) b g) =
      strung ts u (record { place = (plain_from left s t).start; says = e }) p
      (source-tree ts (record { place = (plain_from left s t).start; says = e }) d (string-plain s left t u ts e d p (begun_ok _ _ u z))) (not-dot s u b) (begun_ok _ _ u z)
  reading-strung left t _ z (halted ts u p (completes rest _ _ goal-text (told_text _ _ e d)) g r h) = stopped ts u p rest e d (λ F. g (p-text TEXT F) (start-text F)) r h
  reading-strung left t _ z (otherwise r p n) = other r p n

  pub source-strung : (left : ℕ) (t : Token) → left ≤ 16 → Real s t → Strung (begins s left t) t (source s left t)
  unfolding source
  source-strung left t h x =
      reading-strung left t (read_expression DEPTH s 3 want-string 0 (nest_of left) t) (expression-begun s DEPTH 3 0 left t h)
      (expression-reads s (next-real s) DEPTH 3 want-string 0 (nest_of left) t (asked-text (omega arith) (omega arith)) x)

  pub source-shadow : (ts : List Token) (x : Source) → SourceTree s ts x → Str whole (kinds_in s ts)
  source-shadow _ _ (source-tree ts x d p) = str-shadow s whole ts x.says d

  -- the same in Licensees: u as the reader sees it, n as it stands there
  pub data Named (b : Bool) (t : Token) : Parsed Source → Type 0 where
    named : (ts : List Token) (u n : Token) (x : Source) → TokensIn s Kind.IN_LICENSEES t ts n → Near u n → SourceTree s ts x → eqb u.kind Kind.DOT ≡ false → b ≡ true → Named b t (ok x u)
    unnamed : (ts : List Token) (n : Token) → TokensIn s Kind.IN_LICENSEES t ts n → (rest : List Token) (e : Expr) → StrTree s whole (ts ++ rest) e
        → ((F : Frame) → runs s (p-text TEXT F) ts n ≡ p-dead) → (r : ℕ) → r ≡ refusal n.kind → Named b t (aside r n.start)
    not_named : (r p : ℕ) → (r ≡ 2 → ⊥) → Named b t (aside r p)

  -- a walk that is refused at "-" is refused at "-of"
  near-dead : (u n : Token) (ts rest : List Token) (e : Expr) → Near u n → StrTree s whole (ts ++ rest) e → (F : Frame) → runs s (p-text TEXT F) ts u ≡ p-dead → runs s (p-text TEXT F) ts n ≡ p-dead
  near-dead u _ ts rest e (near_same _) d F g = g
  near-dead _ _ ts rest e (near_of u n a b c) d F g =
      runs_last s (p-text TEXT F) (run step (p-text TEXT F) (kinds_in s ts)) ts n refl
      ∙ ap (λ (k : ℕ). step (run step (p-text TEXT F) (kinds_in s ts)) k) (kind-mark s n Kind.OF b refl)
      ∙ of-dead (run step (p-text TEXT F) (kinds_in s ts)) (along-front (p-text TEXT F) (kinds_in s ts) (kinds_in s rest)
      (subst (Along (p-text TEXT F)) (kinds-append (kind_in s) ts rest) (text-along whole (kinds_in s (ts ++ rest)) (str-shadow s whole (ts ++ rest) e d) F)))

  pub strung-named : (b : Bool) (t : Token) (r : Parsed Source) → Strung b t r → Named b t r
  strung-named b t _ (strung ts u x p d h z) = from d (near-path t u ts p (source_free ts x d) t (near_same t))
    where
      from : SourceTree s ts x → Nearby t ts u → Named b t (ok x u)
      from d (n, (q, y)) = named ts u n x q y d h z
  strung-named b t _ (stopped ts u p rest e d g r h) = from (near-path t u ts p (free-front ts rest (str-free whole (ts ++ rest) e d)) t (near_same t))
    where
      from : Nearby t ts u → Named b t (aside r u.start)
      from (n, (q, z)) =
          subst (λ (y : ℕ). Named b t (aside r y)) (sym (near-start u n z))
          (unnamed ts n q rest e d (λ F. near-dead u n ts rest e z d F (g F)) r (h ∙ near-refusal u n z))
  strung-named b t _ (other r p n) = not_named r p n
