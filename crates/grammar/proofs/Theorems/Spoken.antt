-- Licensees: each sentence of the RFC's grammar that a text's tokens are has a tree, grouped by the classes of "&&" and "||", and it is the one that the
-- reader gives. Assumes nothing.
use Rattle.std.specs.Prelude.{◌≡◌, refl, List, [], ◌∷◌, ◌++◌, ℕ, length}
use Rattle.std.proofs.Common.{sym, ap, ◌∙◌, subst, append_assoc, arith}
use Rattle.record.specs.Query.{Attribute}
use Rattle.lexical.specs.Kind
use Rattle.lexical.specs.Line.{token_at}
use Rattle.lexical.specs.Number.{number_at}
use Rattle.lexical.specs.declared.token.Token.{Token}
use Rattle.syntax.specs.Expr.{Expr}
use Rattle.syntax.specs.Parsed.{Parsed, ok, aside}
use Rattle.naming.specs.Source.{Source, Sources, one, and, or, k_of, Licensees, empty, given}
use Rattle.naming.specs.Licensees.{licensees}
use Rattle.grammar.specs.Fields.{Ends, Field, field}
use Rattle.grammar.specs.Conditions.{Class, operand, conjunction, whole, Name, Str, str-literal, str-name, str-lookup, str-bracket, str-one, str-join}
use Rattle.grammar.specs.Naming.{PrincList, comma, PrincExpr, bracket, both, either, threshold, principal, nobody, somebody}
use Rattle.grammar.specs.Naming as G
use Rattle.grammar.specs.Sourced.{SourceTree, source-tree, ListTree, one-item, more-items, PrincTree, principal-tree, threshold-tree, bracket-tree, once, both-tree, up, either-tree, LicenseesTree, nobody-tree, somebody-tree}
use Rattle.grammar.specs.Spelled.{kind_in, kinds_in}
use Rattle.grammar.specs.Trees.{StrTree, literal-tree, name-tree, lookup-tree, text-bracket, text-one, join-tree}
use Rattle.grammar.specs.Viable.{TokensIn, at_once, and-on}
use Rattle.grammar.specs.Theorems.Exactly.{Passed, passed, passed-else}
use Rattle.grammar.proofs.Theorems.Naming.{Listed, listed, not_listed, names-tree, names-shadow}
use Rattle.grammar.proofs.Theorems.Readers.{names-complete}
use Rattle.grammar.proofs.Working.Begun.{str_plain}
use Rattle.grammar.specs.Working.Cuts.{Lexed, lexed-none, lexed-more, tokens-lexed, of-mark, of-name, Led, led, led-by, Cut, cut, cut_by, Last, last, last-by, Single, single, single-by}
use Rattle.grammar.specs.Working.Known.{token-real}
use Rattle.grammar.specs.Working.Marks.{kinds-append}
use Rattle.grammar.proofs.Working.Principals.{names-whole}
use Rattle.grammar.specs.Working.Strings.{tokens-kinds}

module _ (s : List ℕ) where
  -- some string expression
  data SomeText (c : Class) (ts : List Token) : Type 0 where
    some-text : (e : Expr) → StrTree s c ts e → SomeText c ts

  -- tokens of these kinds say one
  abbrev Sayable : Class → List ℕ → Type 0
  Sayable c ks = (ts : List Token) → Lexed ts → kinds_in s ts ≡ ks → SomeText c ts

  of-literal : (ts : List Token) → Single s Kind.LITERAL ts → SomeText operand ts
  of-literal _ (single t a h) = some-text _ (literal-tree t (of-mark s t Kind.LITERAL a refl refl))

  of_word_lem : (k : ℕ) (ts : List Token) → Name k → Single s k ts → SomeText operand ts
  of_word_lem k _ n (single t a h) = some-text _ (name-tree t (of-name s t (subst Name (sym a) n) h))

  lookup-with : (t : Token) (ts : List Token) → t.kind ≡ Kind.DOLLAR → SomeText operand ts → SomeText operand (t ∷ ts)
  lookup-with t ts z (some-text e d) = some-text _ (lookup-tree t ts e z d)

  of-lookup : (ks : List ℕ) (ts : List Token) → Sayable operand ks → Led s Kind.DOLLAR ks ts → SomeText operand ts
  of-lookup ks _ f (led t ts a b h l) = lookup-with t ts (of-mark s t Kind.DOLLAR a refl refl) (f ts l b)

  bracket-with : (t u : Token) (ts : List Token) → t.kind ≡ Kind.OPEN → u.kind ≡ Kind.CLOSE → SomeText whole ts → SomeText operand (t ∷ ts ++ u ∷ [])
  bracket-with t u ts y z (some-text e d) = some-text e (text-bracket t u ts e y z d)

  text-closed : (ks : List ℕ) (t : Token) (ts : List Token) → t.kind ≡ Kind.OPEN → Sayable whole ks → Last s ks Kind.CLOSE ts → SomeText operand (t ∷ ts)
  text-closed ks t _ y f (last ts u a b l h) = bracket-with t u ts y (of-mark s u Kind.CLOSE b refl refl) (f ts l a)

  text-opened : (ks : List ℕ) (ts : List Token) → Sayable whole ks → Led s Kind.OPEN (ks ++ Kind.CLOSE ∷ []) ts → SomeText operand ts
  text-opened ks _ f (led t ts a b h l) = text-closed ks t ts (of-mark s t Kind.OPEN a refl refl) f (last-by s ks Kind.CLOSE ts l b)

  text-up : (ts : List Token) → SomeText operand ts → SomeText whole ts
  text-up ts (some-text e d) = some-text e (text-one ts e d)

  join-with : (t : Token) (ts us : List Token) → t.kind ≡ Kind.DOT → SomeText whole ts → SomeText operand us → SomeText whole (ts ++ t ∷ us)
  join-with t ts us z (some-text e d) (some-text f g) = some-text _ (join-tree t ts us e f z d g)

  of-join : (ks ls : List ℕ) (ts : List Token) → Sayable whole ks → Sayable operand ls → Cut s ks Kind.DOT ls ts → SomeText whole ts
  of-join ks ls _ f g (cut ts t us a b c l h m) = join-with t ts us (of-mark s t Kind.DOT b refl refl) (f ts l a) (g us m c)

  -- Each string expression of the grammar has a tree.
  str-spoken : (c : Class) (ks : List ℕ) → Str c ks → (ts : List Token) → Lexed ts → kinds_in s ts ≡ ks → SomeText c ts
  str-spoken _ _ str-literal ts l e = of-literal ts (single-by s Kind.LITERAL ts l e)
  str-spoken _ _ (str-name k n) ts l e = of_word_lem k ts n (single-by s k ts l e)
  str-spoken _ _ (str-lookup ks d) ts l e = of-lookup ks ts (λ us m g. str-spoken operand ks d us m g) (led-by s Kind.DOLLAR ks ts l e)
  str-spoken _ _ (str-bracket ks d) ts l e = text-opened ks ts (λ us m g. str-spoken whole ks d us m g) (led-by s Kind.OPEN (ks ++ Kind.CLOSE ∷ []) ts l e)
  str-spoken _ _ (str-one ks d) ts l e = text-up ts (str-spoken operand ks d ts l e)
  str-spoken _ _ (str-join ks ls d g) ts l e = of-join ks ls ts (λ us m h. str-spoken whole ks d us m h) (λ us m h. str-spoken operand ls g us m h) (cut_by s ks Kind.DOT ls ts l e)

  -- some principal, and some list
  data SomeSource (ts : List Token) : Type 0 where
    some-source : (x : Source) → SourceTree s ts x → SomeSource ts

  data SomeList (ts : List Token) : Type 0 where
    some-list : (xs : List Source) → ListTree s ts xs → SomeList ts

  source-with : (ts : List Token) → SomeText whole ts → SomeSource ts
  source-with ts (some-text e d) = some-source (record { place = (str_plain s whole ts e d).0; says = e }) (source-tree ts _ d (str_plain s whole ts e d).1)

  source-spoken : (ks : List ℕ) → Str whole ks → (ts : List Token) → Lexed ts → kinds_in s ts ≡ ks → SomeSource ts
  source-spoken ks d ts l e = source-with ts (str-spoken whole ks d ts l e)

  -- a list behind another
  list-more : (c : Token) (ts us : List Token) (xs ys : List Source) → c.kind ≡ Kind.COMMA → ListTree s ts xs → ListTree s us ys → ListTree s (ts ++ c ∷ us) (xs ++ ys)
  list-more c ts _ xs _ z d (one-item us y g) = more-items c ts us xs y z d g
  list-more c ts _ xs _ z d (more-items c' us vs ys y w g h) =
      subst (λ (l : List Token). ListTree s l (xs ++ (ys ++ y ∷ []))) (append_assoc ts (c ∷ us) (c' ∷ vs))
      (subst (ListTree s ((ts ++ c ∷ us) ++ c' ∷ vs)) (append_assoc xs ys (y ∷ []))
      (more-items c' (ts ++ c ∷ us) vs (xs ++ ys) y w (list-more c ts us xs ys z d g) h))

  list-with : (c : Token) (ts us : List Token) → c.kind ≡ Kind.COMMA → SomeList ts → SomeList us → SomeList (ts ++ c ∷ us)
  list-with c ts us z (some-list xs d) (some-list ys g) = some-list (xs ++ ys) (list-more c ts us xs ys z d g)

  abbrev Listable : List ℕ → Type 0
  Listable ks = (ts : List Token) → Lexed ts → kinds_in s ts ≡ ks → SomeList ts

  of-comma : (ks ls : List ℕ) (ts : List Token) → Listable ks → Listable ls → Cut s ks Kind.COMMA ls ts → SomeList ts
  of-comma ks ls _ f g (cut ts t us a b c l h m) = list-with t ts us (of-mark s t Kind.COMMA b refl refl) (f ts l a) (g us m c)

  of-item : (ts : List Token) → SomeSource ts → SomeList ts
  of-item ts (some-source x d) = some-list (x ∷ []) (one-item ts x d)

  list-spoken : (ks : List ℕ) → PrincList ks → (ts : List Token) → Lexed ts → kinds_in s ts ≡ ks → SomeList ts
  list-spoken _ (G.one ks d) ts l e = of-item ts (source-spoken ks d ts l e)
  list-spoken _ (comma ks ls d g) ts l e = of-comma ks ls ts (λ us m h. list-spoken ks d us m h) (λ us m h. list-spoken ls g us m h) (cut_by s ks Kind.COMMA ls ts l e)

  -- some tree of a class
  data Some (c : Class) (ts : List Token) : Type 0 where
    some : (e : Sources) → PrincTree s c ts e → Some c ts

  some_at : (c : Class) (ts us : List Token) → ts ≡ us → Some c ts → Some c us
  some_at c ts us z x = subst (Some c) z x

  and-operand : (t : Token) (ts us : List Token) (f : Sources) → t.kind ≡ Kind.AND → Some conjunction ts → PrincTree s operand us f → Some conjunction (ts ++ t ∷ us)
  and-operand t ts us f z (some e d) g = some (and e f) (both-tree t ts us e f z d g)

  or-conjunction : (t : Token) (ts us : List Token) → t.kind ≡ Kind.OR → Some whole ts → Some conjunction us → Some whole (ts ++ t ∷ us)
  or-conjunction t ts us z (some e d) (some f g) = some (or e f) (either-tree t ts us e f z d g)

  -- "&&" between two of a class: what stands to its right is taken apart
  and-and : (t : Token) (ts us : List Token) (f : Sources) → t.kind ≡ Kind.AND → Some conjunction ts → PrincTree s conjunction us f → Some conjunction (ts ++ t ∷ us)
  and-and t ts _ _ z x (once us f d) = and-operand t ts us f z x d
  and-and t ts _ _ z x (both-tree u vs us e f w d g) =
      some_at conjunction ((ts ++ t ∷ vs) ++ u ∷ us) (ts ++ t ∷ (vs ++ u ∷ us)) (append_assoc ts (t ∷ vs) (u ∷ us)) (and-operand u (ts ++ t ∷ vs) us f w (and-and t ts vs e z x d) g)

  some_up : (ts : List Token) → Some conjunction ts → Some whole ts
  some_up ts (some e d) = some e (up ts e d)

  -- what stands to its left is taken apart
  whole-and : (t : Token) (ts us : List Token) (e f : Sources) → t.kind ≡ Kind.AND → PrincTree s whole ts e → PrincTree s conjunction us f → Some whole (ts ++ t ∷ us)
  whole-and t _ us _ f z (up ts e d) g = some_up (ts ++ t ∷ us) (and-and t ts us f z (some e d) g)
  whole-and t _ us _ f z (either-tree u vs ts e e' w d h) g =
      some_at whole (vs ++ u ∷ (ts ++ t ∷ us)) ((vs ++ u ∷ ts) ++ t ∷ us) (sym (append_assoc vs (u ∷ ts) (t ∷ us))) (or-conjunction u vs (ts ++ t ∷ us) w (some e d) (and-and t ts us f z (some e' h) g))

  both-wholes : (t : Token) (ts us : List Token) (e f : Sources) → t.kind ≡ Kind.AND → PrincTree s whole ts e → PrincTree s whole us f → Some whole (ts ++ t ∷ us)
  both-wholes t ts _ e _ z d (up us f g) = whole-and t ts us e f z d g
  both-wholes t ts _ e _ z d (either-tree u vs us f f' w g h) =
      some_at whole ((ts ++ t ∷ vs) ++ u ∷ us) (ts ++ t ∷ (vs ++ u ∷ us)) (append_assoc ts (t ∷ vs) (u ∷ us)) (or-conjunction u (ts ++ t ∷ vs) us w (both-wholes t ts vs e f z d g) (some f' h))

  either-wholes : (t : Token) (ts us : List Token) (f : Sources) → t.kind ≡ Kind.OR → Some whole ts → PrincTree s whole us f → Some whole (ts ++ t ∷ us)
  either-wholes t ts _ _ z x (up us f g) = or-conjunction t ts us z x (some f g)
  either-wholes t ts _ _ z x (either-tree u vs us f f' w g h) =
      some_at whole ((ts ++ t ∷ vs) ++ u ∷ us) (ts ++ t ∷ (vs ++ u ∷ us)) (append_assoc ts (t ∷ vs) (u ∷ us)) (or-conjunction u (ts ++ t ∷ vs) us w (either-wholes t ts vs f z x g) (some f' h))

  alone : (ts : List Token) (e : Sources) → PrincTree s operand ts e → Some whole ts
  alone ts e d = some e (up ts e (once ts e d))

  -- tokens of these kinds say some tree
  abbrev Grouped : List ℕ → Type 0
  Grouped ks = (ts : List Token) → Lexed ts → kinds_in s ts ≡ ks → Some whole ts

  of-source : (ts : List Token) → SomeSource ts → Some whole ts
  of-source ts (some-source x d) = alone ts (one x) (principal-tree ts x d)

  both-with : (t : Token) (ts us : List Token) → t.kind ≡ Kind.AND → Some whole ts → Some whole us → Some whole (ts ++ t ∷ us)
  both-with t ts us z (some e d) (some f g) = both-wholes t ts us e f z d g

  of-both : (ks ls : List ℕ) (ts : List Token) → Grouped ks → Grouped ls → Cut s ks Kind.AND ls ts → Some whole ts
  of-both ks ls _ f g (cut ts t us a b c l h m) = both-with t ts us (of-mark s t Kind.AND b refl refl) (f ts l a) (g us m c)

  either-with : (t : Token) (ts us : List Token) → t.kind ≡ Kind.OR → Some whole ts → Some whole us → Some whole (ts ++ t ∷ us)
  either-with t ts us z x (some f g) = either-wholes t ts us f z x g

  of_either : (ks ls : List ℕ) (ts : List Token) → Grouped ks → Grouped ls → Cut s ks Kind.OR ls ts → Some whole ts
  of_either ks ls _ f g (cut ts t us a b c l h m) = either-with t ts us (of-mark s t Kind.OR b refl refl) (f ts l a) (g us m c)

  shut-with : (t u : Token) (ts : List Token) → t.kind ≡ Kind.OPEN → u.kind ≡ Kind.CLOSE → Some whole ts → Some whole (t ∷ ts ++ u ∷ [])
  shut-with t u ts y z (some e d) = alone (t ∷ ts ++ u ∷ []) e (bracket-tree t u ts e y z d)

  of-shut : (ks : List ℕ) (t : Token) (ts : List Token) → t.kind ≡ Kind.OPEN → Grouped ks → Last s ks Kind.CLOSE ts → Some whole (t ∷ ts)
  of-shut ks t _ y f (last ts u a b l h) = shut-with t u ts y (of-mark s u Kind.CLOSE b refl refl) (f ts l a)

  of-bracket : (ks : List ℕ) (ts : List Token) → Grouped ks → Led s Kind.OPEN (ks ++ Kind.CLOSE ∷ []) ts → Some whole ts
  of-bracket ks _ f (led t ts a b h l) = of-shut ks t ts (of-mark s t Kind.OPEN a refl refl) f (last-by s ks Kind.CLOSE ts l b)

  -- "K-of(list)": its number, "-of", its opening bracket, and the closing one
  count-with : (t u v w : Token) (ts : List Token) → t.kind ≡ Kind.DIGITS → u.kind ≡ Kind.OF → v.kind ≡ Kind.OPEN → w.kind ≡ Kind.CLOSE → SomeList ts → Some whole (t ∷ u ∷ v ∷ ts ++ w ∷ [])
  count-with t u v w ts x y z r (some-list xs d) = alone (t ∷ u ∷ v ∷ ts ++ w ∷ []) (k_of (number_at s t.start t.end) xs) (threshold-tree t u v w ts xs x y z r d)

  count-shut : (ks : List ℕ) (t u v : Token) (ts : List Token) → t.kind ≡ Kind.DIGITS → u.kind ≡ Kind.OF → v.kind ≡ Kind.OPEN → Listable ks → Last s ks Kind.CLOSE ts → Some whole (t ∷ u ∷ v ∷ ts)
  count-shut ks t u v _ x y z f (last ts w a b l h) = count-with t u v w ts x y z (of-mark s w Kind.CLOSE b refl refl) (f ts l a)

  count-open : (ks : List ℕ) (t u : Token) (ts : List Token) → t.kind ≡ Kind.DIGITS → u.kind ≡ Kind.OF → Listable ks → Led s Kind.OPEN (ks ++ Kind.CLOSE ∷ []) ts → Some whole (t ∷ u ∷ ts)
  count-open ks t u _ x y f (led v ts a b h l) = count-shut ks t u v ts x y (of-mark s v Kind.OPEN a refl refl) f (last-by s ks Kind.CLOSE ts l b)

  count_of : (ks : List ℕ) (t : Token) (ts : List Token) → t.kind ≡ Kind.DIGITS → Listable ks → Led s Kind.OF (Kind.OPEN ∷ ks ++ Kind.CLOSE ∷ []) ts → Some whole (t ∷ ts)
  count_of ks t _ x f (led u ts a b h l) = count-open ks t u ts x (of-mark s u Kind.OF a refl refl) f (led-by s Kind.OPEN (ks ++ Kind.CLOSE ∷ []) ts l b)

  of-threshold : (ks : List ℕ) (ts : List Token) → Listable ks → Led s Kind.DIGITS (Kind.OF ∷ Kind.OPEN ∷ ks ++ Kind.CLOSE ∷ []) ts → Some whole ts
  of-threshold ks _ f (led t ts a b h l) = count_of ks t ts (of-mark s t Kind.DIGITS a refl refl) f (led-by s Kind.OF (Kind.OPEN ∷ ks ++ Kind.CLOSE ∷ []) ts l b)

  princ-spoken : (ks : List ℕ) → PrincExpr ks → (ts : List Token) → Lexed ts → kinds_in s ts ≡ ks → Some whole ts
  princ-spoken _ (bracket ks d) ts l e = of-bracket ks ts (λ us m h. princ-spoken ks d us m h) (led-by s Kind.OPEN (ks ++ Kind.CLOSE ∷ []) ts l e)
  princ-spoken _ (both ks ls d g) ts l e = of-both ks ls ts (λ us m h. princ-spoken ks d us m h) (λ us m h. princ-spoken ls g us m h) (cut_by s ks Kind.AND ls ts l e)
  princ-spoken _ (either ks ls d g) ts l e = of_either ks ls ts (λ us m h. princ-spoken ks d us m h) (λ us m h. princ-spoken ls g us m h) (cut_by s ks Kind.OR ls ts l e)
  princ-spoken _ (threshold ks d) ts l e = of-threshold ks ts (λ us m h. list-spoken ks d us m h) (led-by s Kind.DIGITS (Kind.OF ∷ Kind.OPEN ∷ ks ++ Kind.CLOSE ∷ []) ts l e)
  princ-spoken _ (principal ks d) ts l e = of-source ts (source-spoken ks d ts l e)

  -- some tree of the field
  pub data Spoken (constants : List Attribute) (ts : List Token) : Type 0 where
    spoken : (l : Licensees) → LicenseesTree s constants ts l → Spoken constants ts

  of_some : (constants : List Attribute) (ts : List Token) → Some whole ts → Spoken constants ts
  of_some constants ts (some e d) = spoken (given constants e) (somebody-tree ts e d)

  of-nobody : (constants : List Attribute) (ts : List Token) → Lexed ts → kinds_in s ts ≡ [] → Spoken constants ts
  of-nobody constants _ lexed-none e = spoken empty nobody-tree
  of-nobody constants _ (lexed-more t ts h l) e = absurd (let z : length (kinds_in s (t ∷ ts)) ≡ length {A = ℕ} [] = ap length e in let no : ⊥ = omega (arith, z) in no)

  field-spoken : (constants : List Attribute) (ks : List ℕ) → G.Licensees ks → (ts : List Token) → Lexed ts → kinds_in s ts ≡ ks → Spoken constants ts
  field-spoken constants _ nobody ts l e = of-nobody constants ts l e
  field-spoken constants _ (somebody ks d) ts l e = of_some constants ts (princ-spoken ks d ts l e)

  -- two paths from one token: they stop together, or one goes on
  data Paths (ts : List Token) (n : Token) (us : List Token) (m : Token) : Type 0 where
    together : ts ≡ us → Paths ts n us m
    first_on : (more : List Token) → ts ≡ us ++ m ∷ more → Paths ts n us m
    second-on : (more : List Token) → us ≡ ts ++ n ∷ more → Paths ts n us m

  paths-more : (t : Token) (ts : List Token) (n : Token) (us : List Token) (m : Token) → Paths ts n us m → Paths (t ∷ ts) n (t ∷ us) m
  paths-more t ts n us m (together e) = together (ap (λ (l : List Token). t ∷ l) e)
  paths-more t ts n us m (first_on more e) = first_on more (ap (λ (l : List Token). t ∷ l) e)
  paths-more t ts n us m (second-on more e) = second-on more (ap (λ (l : List Token). t ∷ l) e)

  paths : (t n m : Token) (ts us : List Token) → TokensIn s Kind.IN_LICENSEES t ts n → TokensIn s Kind.IN_LICENSEES t us m → Paths ts n us m
  paths t _ _ _ _ (at_once _) (at_once _) = together refl
  paths t _ m _ _ (at_once _) (and-on _ _ us q) = second-on us refl
  paths t n _ _ _ (and-on _ _ ts p) (at_once _) = first_on ts refl
  paths t n m _ _ (and-on _ _ ts p) (and-on _ _ us q) = paths-more t ts n us m (paths (token_at s Kind.IN_LICENSEES t.end) n m ts us p q)

  abbrev Sentence : List Token → Token → Type 0
  Sentence ts n = Field G.Licensees (kinds_in s ts ++ kind_in s n ∷ [])

  longer : (ts us more : List Token) (n : Token) → us ≡ ts ++ n ∷ more → kinds_in s us ++ kind_in s n ∷ [] ≡ (kinds_in s ts ++ kind_in s n ∷ []) ++ (kinds_in s more ++ kind_in s n ∷ [])
  longer ts us more n e =
      ap (λ (l : List Token). kinds_in s l ++ kind_in s n ∷ []) e ∙ ap (λ (l : List ℕ). l ++ kind_in s n ∷ []) (kinds-append (kind_in s) ts (n ∷ more))
      ∙ append_assoc (kinds_in s ts) (kind_in s n ∷ kinds_in s more) (kind_in s n ∷ []) ∙ sym (append_assoc (kinds_in s ts) (kind_in s n ∷ []) (kinds_in s more ++ kind_in s n ∷ []))

  not_on : (ts us more : List Token) (n : Token) → us ≡ ts ++ n ∷ more → Sentence ts n → Sentence us n → ⊥
  not_on ts us [] n e g h = names-whole (kinds_in s ts ++ kind_in s n ∷ []) (kind_in s n) [] g (subst (Field G.Licensees) (longer ts us [] n e) h)
  not_on ts us (t ∷ more) n e g h =
      names-whole (kinds_in s ts ++ kind_in s n ∷ []) (kind_in s t) (kinds_in s more ++ kind_in s n ∷ []) g (subst (Field G.Licensees) (longer ts us (t ∷ more) n e) h)

  -- two sentences from one token up to another are one
  same-tokens : (n : Token) (ts us : List Token) → Sentence ts n → Sentence us n → Paths ts n us n → ts ≡ us
  same-tokens n ts us g h (together e) = e
  same-tokens n ts us g h (first_on more e) = absurd (not_on us ts more n e h g)
  same-tokens n ts us g h (second-on more e) = absurd (not_on ts us more n e g h)

  module _ (constants : List Attribute) (at : ℕ) where
    abbrev first : Token
    first = token_at s Kind.IN_LICENSEES at

    -- Each sentence of the RFC's grammar that tokens of a text are has a tree: with `names-shadow`, the classes give the same sentences.
    pub names-spoken : (ts : List Token) (n : Token) → TokensIn s Kind.IN_LICENSEES first ts n → G.Licensees (kinds_in s ts) → Spoken constants ts
    names-spoken ts n p g = field-spoken constants (kinds_in s ts) g ts (tokens-lexed s Kind.IN_LICENSEES first n ts p (token-real s Kind.IN_LICENSEES at)) refl

    -- the reader gave a tree that the tokens up to n say, or a reason that is not the grammar's
    pub data Given (ts : List Token) (n : Token) : Parsed Licensees → Type 0 where
      given-tree : (l : Licensees) → LicenseesTree s constants ts l → Given ts n (ok l n)
      given-else : (r p : ℕ) → (r ≡ 2 → ⊥) → Given ts n (aside r p)

    module _ (ts : List Token) (n : Token) (path : TokensIn s Kind.IN_LICENSEES first ts n) (sentence : G.Licensees (kinds_in s ts)) (ends : Ends (kind_in s n)) where
      of-listed : (us : List Token) (l : Licensees) → TokensIn s Kind.IN_LICENSEES first us n → LicenseesTree s constants us l → Given ts n (ok l n)
      of-listed us l q d =
          given-tree l
          (subst (λ (x : List Token). LicenseesTree s constants x l)
          (sym (same-tokens n ts us (field (kinds_in s ts) (kind_in s n) sentence ends) (field (kinds_in s us) (kind_in s n) (names-shadow s constants us l d) ends) (paths first n n ts us path q))) d)

      of-read : (r : Parsed Licensees) → Passed (kind_in s) (Field G.Licensees) names-whole s Kind.IN_LICENSEES first n r → Listed s constants first r → Given ts n r
      of-read _ (passed a) (listed us _ _ q d) = of-listed us a q d
      of-read _ (passed-else r p h) (not_listed _ _) = given-else r p h

      -- Where the tokens up to n are a sentence, the reader gives its tree, unless it gives a reason that is not the grammar's.
      pub names-given : Given ts n (licensees s constants first)
      names-given =
          of-read (licensees s constants first)
          (names-complete s constants at n (kinds_in s ts) (tokens-kinds s Kind.IN_LICENSEES first n ts path) (field (kinds_in s ts) (kind_in s n) sentence ends)) (names-tree s constants at)
