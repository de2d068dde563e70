-- Authorizer as a string expression (W-203): its reader gives reason 2 where the grammar allows no continuation, and else reads a sentence and gives
-- a tree of it. Assumes nothing.
use Rattle.std.specs.Prelude.{◌≡◌, refl, Bool, false, List, [], ◌∷◌, ◌++◌, ℕ, eqb}
use Rattle.std.proofs.Common.{sym, ap, ◌∙◌, subst, append_assoc, arith}
use Rattle.limits.specs.Limits.{most_brackets}
use Rattle.record.specs.Query.{Attribute}
use Rattle.lexical.specs.Kind
use Rattle.lexical.specs.Kind.{ending}
use Rattle.lexical.specs.Theorems.Bounds.{chosen}
use Rattle.lexical.specs.Line.{token_at}
use Rattle.lexical.specs.declared.token.Token.{Token}
use Rattle.syntax.specs.Parsed.{Parsed, ok, aside, refusal, and_then}
use Rattle.fields.specs.Parsed.{ended}
use Rattle.naming.specs.Source as S
use Rattle.naming.specs.String.{source}
use Rattle.naming.specs.Authorizer.{authorizer}
use Rattle.grammar.specs.Fields.{end-of-text, Field, field}
use Rattle.grammar.specs.Conditions.{whole, Str}
use Rattle.grammar.specs.Naming.{Author}
use Rattle.grammar.specs.Spelled.{kind_in, kinds_in, Tokens}
use Rattle.grammar.specs.Sourced.{SourceTree}
use Rattle.grammar.specs.Viable.{Viable, opens, JudgedBy, through, another}
use Rattle.grammar.specs.Theorems.OneToken.{judged-stop, opens-end}
use Rattle.grammar.proofs.Theorems.OneToken.{ending-ends}
use Rattle.grammar.proofs.Theorems.Shadow.{str-shadow}
use Rattle.grammar.specs.Working.Marks.{kinds-append}
use Rattle.grammar.specs.Working.Automaton.{run, not-viable, not-longer}
use Rattle.grammar.specs.Working.Joints.{test-kind}
use Rattle.grammar.specs.Working.States.{TEXT, alone, p-dead, p-over, p-text, p-have, step}
use Rattle.grammar.specs.Working.Accepts.{step-dead, through-part, as-text, text-run}
use Rattle.grammar.proofs.Working.Reading.{runs_last}
use Rattle.grammar.specs.Working.Known.{token-real}
use Rattle.grammar.specs.Working.Strings.{tokens-kinds}
use Rattle.grammar.proofs.Working.Strings.{Strung, strung, stopped, other, source-strung, source-shadow}
use Rattle.grammar.specs.Theorems.Authoring.{alone-wrong, ending-kind, ends-alone, over-dead, step-over}

author-over : (ks : List ℕ) → Field Author ks → run step (p-text TEXT alone) ks ≡ p-over
author-over _ (field ks e g en) = through-part (p-text TEXT alone) (p-have TEXT alone) p-over ks [] e (text-run whole ks g TEXT alone (as-text refl)) (ends-alone e en)

pub author-dead : (ks : List ℕ) → run step (p-text TEXT alone) ks ≡ p-dead → Viable (Field Author) ks → ⊥
author-dead = not-viable step p-dead step-dead (Field Author) (p-text TEXT alone) (λ ks g z. over-dead (sym (author-over ks g) ∙ z))

-- no sentence of the field goes on as another
pub author-whole : (ks : List ℕ) (k : ℕ) (more : List ℕ) → Field Author ks → Field Author (ks ++ k ∷ more) → ⊥
author-whole = not-longer step p-dead step-dead (Field Author) (p-text TEXT alone) p-over author-over step-over over-dead

module _ (s : List ℕ) (constants : List Attribute) (t : Token) where
  abbrev AuthorJudged : Parsed S.Author → Type 0
  AuthorJudged r = JudgedBy (kind_in s) (Field Author) s Kind.IN_FIELD t r

  end-judged : (ts : List Token) (u : Token) (x : S.Source) → Tokens s t ts u → Str whole (kinds_in s ts) → eqb u.kind Kind.DOT ≡ false
      → AuthorJudged (ended (record { constants = constants; by = x }) u)
  end-judged ts u x p d h =
      chosen AuthorJudged (ending u.kind) _ _
      (λ e. through (kinds_in s ts) u (record { constants = constants; by = x }) (tokens-kinds s Kind.IN_FIELD t u ts p)
      (field (kinds_in s ts) (kind_in s u) d (ending-ends (kind_in s u) (ending-kind s u ∙ e))))
      (λ e. judged-stop (kind_in s) (Field Author) s Kind.IN_FIELD t (kinds_in s ts) u (tokens-kinds s Kind.IN_FIELD t u ts p)
      (opens Kind.END [] (field (kinds_in s ts) Kind.END d end-of-text))
      (author-dead (kinds_in s ts ++ kind_in s u ∷ [])
      (runs_last s (p-text TEXT alone) (p-have TEXT alone) ts u (text-run whole (kinds_in s ts) d TEXT alone (as-text refl)) ∙ alone-wrong (kind_in s u) (test-kind s u Kind.DOT refl refl ∙ h) (ending-kind s u ∙ e)))
      (refusal u.kind) refl)

  strung-judged : (b : Bool) (r : Parsed S.Source) → Strung s b t r → AuthorJudged (and_then r (λ x u. ended (record { constants = constants; by = x }) u))
  strung-judged b _ (strung ts u x p d h z) = end-judged ts u x p (source-shadow s ts x d) h
  strung-judged b _ (stopped ts u p rest e d g r h) =
      judged-stop (kind_in s) (Field Author) s Kind.IN_FIELD t (kinds_in s ts) u (tokens-kinds s Kind.IN_FIELD t u ts p)
      (opens-end (Field Author) (kinds_in s ts) (kinds_in s rest)
      (subst (Field Author) (ap (λ (l : List ℕ). l ++ Kind.END ∷ []) (kinds-append (kind_in s) ts rest) ∙ append_assoc (kinds_in s ts) (kinds_in s rest) (Kind.END ∷ []))
      (field (kinds_in s (ts ++ rest)) Kind.END (str-shadow s whole (ts ++ rest) e d) end-of-text)))
      (author-dead (kinds_in s ts ++ kind_in s u ∷ []) (g alone)) r h
  strung-judged b _ (other r p n) = another r p n

  -- what was read, and its tree
  pub data Authored : Parsed S.Author → Type 0 where
    authored : (ts : List Token) (n : Token) (a : S.Author) → Tokens s t ts n → SourceTree s ts a.by → Authored (ok a n)
    not-authored : (r p : ℕ) → Authored (aside r p)

  strung-authored : (b : Bool) (r : Parsed S.Source) → Strung s b t r → Authored (and_then r (λ x u. ended (record { constants = constants; by = x }) u))
  strung-authored b _ (strung ts u x p d h z) = chosen Authored (ending u.kind) _ _ (λ e. authored ts u (record { constants = constants; by = x }) p d) (λ e. not-authored _ _)
  strung-authored b _ (stopped ts u p rest e d g r h) = not-authored r u.start
  strung-authored b _ (other r p n) = not-authored r p

module _ (s : List ℕ) (constants : List Attribute) (at : ℕ) where
  abbrev first : Token
  first = token_at s Kind.IN_FIELD at

  -- Authorizer, read from the token behind a place of the text on.
  pub author-judged : JudgedBy (kind_in s) (Field Author) s Kind.IN_FIELD first (authorizer s constants first)
  unfolding authorizer
  author-judged = strung-judged s constants first _ (source s most_brackets first) (source-strung s most_brackets first (omega arith) (token-real s Kind.IN_FIELD at))

  -- Where the reader gets through, its expression is one that the tokens say.
  pub author-tree : Authored s constants first (authorizer s constants first)
  unfolding authorizer
  author-tree = strung-authored s constants first _ (source s most_brackets first) (source-strung s most_brackets first (omega arith) (token-real s Kind.IN_FIELD at))
