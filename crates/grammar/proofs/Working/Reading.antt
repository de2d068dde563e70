-- The reader of expressions against the trees and the automaton. Assumes nothing.
use Rattle.grammar.proofs.Working.Openings.{before-onward}
use Rattle.std.specs.Prelude.{◌≡◌, Bool, false, List, [], ◌∷◌, ◌++◌, ℕ, zero, suc, ◌+◌, ◌-◌, ◌≤◌, ◌<◌, leb, ltb, length}
use Rattle.std.proofs.Math.Path.{refl}
use Rattle.std.proofs.Common.{sym, ap, ◌∙◌, subst, append_assoc, arith, eqb-true, leb-true, ltb-true, ltb-false}
use Rattle.std.proofs.Math.Bool.{true}
use Rattle.std.proofs.Math.Dec.{eqb}
use Rattle.text.specs.Choice.{pick, split}
use Rattle.text.specs.Loop.{Step}
use Rattle.lexical.specs.Kind
use Rattle.lexical.specs.Theorems.Bounds.{chosen}
use Rattle.lexical.specs.Literal.{decoded_at}
use Rattle.lexical.specs.Number
use Rattle.lexical.specs.declared.token.Token.{Token}
use Rattle.syntax.specs.Operator.{Unary, Binary, Sort, a-string, an-integer, a-float, a_test, unary_takes, unary_gives, binary_takes, binary_gives}
use Rattle.syntax.specs.Code.{name_at}
use Rattle.syntax.specs.Expr.{Expr, name, unary, binary}
use Rattle.syntax.specs.Parsed.{Parsed, ok, aside, refusal, unexpected}
use Rattle.conditions.specs.Table.{PartSort, sorted, word, Want, is_any}
use Rattle.conditions.specs.Table
use Rattle.conditions.specs.Word.{next_at, word_sort}
use Rattle.conditions.specs.Parsed.{Part, part, on_part}
use Rattle.conditions.specs.Operand.{read_literal, read_name, read_digits, read_float, read_leaf, settled_tree, applied}
use Rattle.conditions.specs.Expression as E
use Rattle.conditions.specs.Working.Pace.{real}
use Rattle.conditions.specs.Working.Cases.{infix-cases}
use Rattle.conditions.specs.Working.Reach.{binds-level}
use Rattle.grammar.specs.Spelled.{kind_in, kinds_in, Tokens}
use Rattle.grammar.specs.Viable.{at_once, and-on}
use Rattle.grammar.specs.Trees.{literal-tree, name-tree, number-tree, decimal-tree, true-tree, false-tree}
use Rattle.grammar.specs.Theorems.Shadow.{kind-other, kind-mark}
use Rattle.grammar.specs.Working.Marks.{mark, kinds-append, tokens_append, tokens-one}
use Rattle.grammar.specs.Working.Automaton.{run, run-append}
use Rattle.grammar.specs.Working.Looping.{Went, went-next, went-done, loop-went}
use Rattle.grammar.specs.Working.States.{State, p-dead, step}
use Rattle.grammar.specs.Working.Joints.{Fits, Unfit, Joint, Tabled, tabled, joint-tabled, joint-mark, Operated, joins, binds-high, binds-none, operator-kind, test-kind}
use Rattle.grammar.proofs.Working.Joints.{operated}
use Rattle.grammar.specs.Working.Told.{Told, told_text, told-number, told-float, told-word, lower, settle, joined, enclosed, aim, aim-goal, aim-right, Goal, goal-right, Suits, Completes, completes, completes-lower, something}
use Rattle.grammar.proofs.Working.Told.{finish}
use Rattle.grammar.specs.Working.Onward.{Starts, starts-up, after, Asked, Onward, onward, joint-suits, joint-ends, joint-asked, RightFit, right-fits, right-unfit, right-fit}
use Rattle.grammar.proofs.Working.Onward.{joint-onward}
use Rattle.grammar.specs.Working.Openings as O
use Rattle.limits.specs.Limits.{most_brackets, most_float, most_literal, most_prefixes}
use Rattle.grammar.specs.Working.Reading.{Real, operator-low, real-token}

unbound : (level : ℕ) (i : Table.Infix) → i ≡ Table.no-infix → Table.binds level i ≡ false
unfolding Table.binds
unbound level i e = rw e

module _ (s : List ℕ) where
  -- the automaton over tokens and the one behind them
  abbrev pub runs : State → List Token → Token → State
  runs q ts u = run step q (kinds_in s ts ++ kind_in s u ∷ [])

  pub runs_on : (q : State) (pre us : List Token) (u : Token) → runs q (pre ++ us) u ≡ runs (run step q (kinds_in s pre)) us u
  runs_on q pre us u =
      ap (λ (l : List ℕ). run step q (l ++ kind_in s u ∷ [])) (kinds-append (kind_in s) pre us) ∙ ap (run step q) (append_assoc (kinds_in s pre) (kinds_in s us) (kind_in s u ∷ []))
      ∙ run-append step q (kinds_in s pre) (kinds_in s us ++ kind_in s u ∷ [])

  pub run-one : (q : State) (ts : List Token) (u : Token) → run step q (kinds_in s (ts ++ u ∷ [])) ≡ runs q ts u
  run-one q ts u = ap (run step q) (kinds-append (kind_in s) ts (u ∷ []))

  -- Of a reader that starts at t, where `want` is wanted: what it read is of level l, and b takes no operator behind it; or it stopped at a token
  -- before which what is wanted can still come, and which leads nowhere; or it gave another reason.
  pub data Reading (l b level : ℕ) (want : Want) (t : Token) : Parsed Part → Type 0 where
    got : (ts : List Token) (u : Token) (sort : PartSort) (e : Expr) → Tokens s t ts u → Real s u → Suits want sort → Told s sort l ts e
        → Table.binds b (Table.operator sort (kind_in s u)) ≡ false → ((q : State) → Starts level want q → runs q ts u ≡ step (after q sort) (kind_in s u))
        → Reading l b level want t (ok (part sort e) u)
    halted : (ts : List Token) (u : Token) → Tokens s t ts u → Completes s want level ts → ((q : State) → Starts level want q → runs q ts u ≡ p-dead)
        → (r : ℕ) → r ≡ refusal u.kind → Reading l b level want t (aside r u.start)
    otherwise : (r p : ℕ) → (r ≡ 2 → ⊥) → Reading l b level want t (aside r p)

  -- what completes more completes less
  completes-more : (w : Want) (level : ℕ) (ts rest : List Token) → Completes s w level (ts ++ rest) → Completes s w level ts
  completes-more w level ts rest (completes more e x γ d) = completes (rest ++ more) e x γ (subst (λ (l : List Token). Told s (sorted x) level l e) (append_assoc ts rest more) d)

  -- an operand behind tokens, and the operator that takes it, by what must come of the operand
  module _ (t : Token) (pre : List Token) (v : Token) (path : Tokens s t pre v) (l level : ℕ) (want : Want) (lv : ℕ) (wn : Want) (r : Sort → Sort) (build : Sort → Expr → Expr)
      (make : PartSort → Expr → Token → Parsed Part)
      (makes : (x : PartSort) → Suits wn x → (f : Expr) (n : Token) → make x f n ≡ applied (build (aim wn x)) (aim wn x) (r (aim wn x)) x f n)
      (high : level ≤ 7) (low : level ≤ l) (deep : lv ≤ 7) (suits : (g : Sort) → Goal wn g → Suits want (sorted (r g)))
      (grows : (g : Sort) → Goal wn g → (us : List Token) (f : Expr) → Told s (sorted g) lv us f → Told s (sorted (r g)) l (pre ++ us) (build g f))
      (leads : (g : Sort) → Goal wn g → (q : State) → Starts level want q → Onward q lv wn g (r g) (run step q (kinds_in s pre)))
      (ends : (g : Sort) → Goal wn g → (sort : PartSort) (k : ℕ) → Fits g sort → Table.binds lv (Table.operator sort k) ≡ false → Table.binds (l + 1) (Table.operator (sorted (r g)) k) ≡ false) where
    grown-completes : (us : List Token) → Completes s wn lv us → Completes s want level (pre ++ us)
    grown-completes us (completes rest f g γ d) =
        completes-more want level (pre ++ us) rest
        (subst (Completes s want level) (sym (append_assoc pre us rest)) (finish s want (sorted (r g)) level l (pre ++ (us ++ rest)) (build g f) high low (suits g γ) (grows g γ (us ++ rest) f d)))

    leads-dead : (g : Sort) (q : State) (us : List Token) (u : Token) (p : State) → Onward q lv wn g (r g) p → ((x : State) → Starts lv wn x → runs x us u ≡ p-dead) → runs p us u ≡ p-dead
    leads-dead g q us u p (onward q' e st h n) k = ap (λ (x : State). runs x us u) e ∙ k q' st

    module _ (g : Sort) (γ : Goal wn g) (us : List Token) (u : Token) (sort : PartSort) (f : Expr) (p : Tokens s v us u) (x : Real s u) (y : Suits wn sort) (d : Told s sort lv us f)
        (b : Table.binds lv (Table.operator sort (kind_in s u)) ≡ false) (k : (q : State) → Starts lv wn q → runs q us u ≡ step (after q sort) (kind_in s u)) where
      leads-fit : (q o : State) → Onward q lv wn g (r g) o → Fits g sort → runs o us u ≡ step (after q (sorted (r g))) (kind_in s u)
      leads-fit q o (onward q' e st h n) i = ap (λ (x : State). runs x us u) e ∙ k q' st ∙ h sort (kind_in s u) i b

      leads-unfit : (q o : State) → Onward q lv wn g (r g) o → g ≡ a_test → Unfit sort → runs o us u ≡ p-dead
      leads-unfit q o (onward q' e st h n) z i = ap (λ (x : State). runs x us u) e ∙ k q' st ∙ n sort (kind_in s u) z i b

      grown : (c : Bool) → RightFit g sort c → Reading l (l + 1) level want t (pick c (ok (part (sorted (r g)) (build g (settled_tree g sort f))) u) (unexpected u))
      grown _ (right-fits i) =
          got (pre ++ us) u (sorted (r g)) (build g (settled_tree g sort f)) (tokens_append s Kind.IN_FIELD t v u pre us path p) x (suits g γ)
          (grows g γ us (settled_tree g sort f) (settle s g sort lv us f deep i d))
          (ends g γ sort (kind_in s u) i b) (λ q st. runs_on q pre us u ∙ leads-fit q (run step q (kinds_in s pre)) (leads g γ q st) i)
      grown _ (right-unfit z i) =
          halted (pre ++ us) u (tokens_append s Kind.IN_FIELD t v u pre us path p) (grown-completes us (finish s wn sort lv lv us f deep (omega arith) y d))
          (λ q st. runs_on q pre us u ∙ leads-unfit q (run step q (kinds_in s pre)) (leads g γ q st) z i) (refusal u.kind) refl

    made : (us : List Token) (u : Token) (sort : PartSort) (f : Expr) → Tokens s v us u → Real s u → Suits wn sort → Told s sort lv us f → Table.binds lv (Table.operator sort (kind_in s u)) ≡ false
        → ((q : State) → Starts lv wn q → runs q us u ≡ step (after q sort) (kind_in s u))
        → Reading l (l + 1) level want t (applied (build (aim wn sort)) (aim wn sort) (r (aim wn sort)) sort f u)
    unfolding applied
    made us u sort f p x y d b g = grown (aim wn sort) (aim-goal wn sort y) us u sort f p x y d b g (Table.fits (aim wn sort) sort) (right-fit wn sort y)

    some-goal : (w : Want) (ts : List Token) → Completes s w lv ts → (g : Sort) × Goal w g
    some-goal w ts (completes rest e g γ d) = (g, γ)

    pub extend : (rr : Parsed Part) → Reading lv lv lv wn v rr → Reading l (l + 1) level want t (on_part rr make)
    extend _ (got us u sort f p x y d b g) = subst (Reading l (l + 1) level want t) (sym (makes sort y f u)) (made us u sort f p x y d b g)
    extend _ (halted us u p c g rr e) =
        halted (pre ++ us) u (tokens_append s Kind.IN_FIELD t v u pre us path p) (grown-completes us c)
        (λ q st. runs_on q pre us u ∙ leads-dead (some-goal wn us c).0 q us u (run step q (kinds_in s pre)) (leads (some-goal wn us c).0 (some-goal wn us c).1 q st) g) rr e
    extend _ (otherwise rr p n) = otherwise rr p n

  pub runs_last : (q p : State) (ts : List Token) (u : Token) → run step q (kinds_in s ts) ≡ p → runs q ts u ≡ step p (kind_in s u)
  runs_last q p ts u e = run-append step q (kinds_in s ts) (kind_in s u ∷ []) ∙ ap (λ (x : State). step x (kind_in s u)) e

  run-first : (q p : State) (t : Token) (ts : List Token) (k : ℕ) → kind_in s t ≡ k → step q k ≡ p → run step q (kinds_in s (t ∷ ts)) ≡ run step p (kinds_in s ts)
  run-first q p t ts k z e = ap (λ (x : ℕ). run step (step q x) (kinds_in s ts)) z ∙ ap (λ (x : State). run step x (kinds_in s ts)) e

  runs-first : (q p : State) (t : Token) (ts : List Token) (u : Token) (k : ℕ) → kind_in s t ≡ k → step q k ≡ p → runs q (t ∷ ts) u ≡ runs p ts u
  runs-first q p t ts u k z e = ap (λ (x : ℕ). run step (step q x) (kinds_in s ts ++ kind_in s u ∷ [])) z ∙ ap (λ (x : State). run step x (kinds_in s ts ++ kind_in s u ∷ [])) e

  abbrev seven : ◌≡◌ {A = ℕ} 7 2 → ⊥
  seven z = let bad : ⊥ = omega (arith, z) in bad

  module _ (reals : (at : ℕ) → Real s (next_at s at)) (want : Want) (t : Token) where
    -- an operand of one token
    leaf : (sort : PartSort) (e : Expr) → Suits want sort → Told s sort 7 (t ∷ []) e → ((q : State) → Starts 7 want q → step q (kind_in s t) ≡ after q sort)
        → Reading 7 8 7 want t (ok (part sort e) (next_at s t.end))
    leaf sort e y d g =
        got (t ∷ []) (next_at s t.end) sort e (and-on t (next_at s t.end) [] (at_once (next_at s t.end))) (reals t.end) y d
        (binds-high 8 (Table.operator sort (kind_in s (next_at s t.end))) (omega arith)) (λ q st. ap (λ (x : State). step x (kind_in s (next_at s t.end))) (g q st))

    mark-at : (sort : PartSort) (k : ℕ) → t.kind ≡ k → eqb k Kind.NAME ≡ false → ((q : State) → Starts 7 want q → step q k ≡ after q sort) → (q : State) → Starts 7 want q → step q (kind_in s t) ≡ after q sort
    mark-at sort k z n g q st = ap (λ (x : ℕ). step q x) (kind-mark s t k z n) ∙ g q st

    literal-reads : Table.allows want Kind.LITERAL ≡ true → t.kind ≡ Kind.LITERAL → Reading 7 8 7 want t (read_literal s t)
    unfolding read_literal
    literal-reads h z =
        chosen (Reading 7 8 7 want t) (ltb most_literal (length (decoded_at s t.start))) _ _ (λ e. otherwise 7 t.start seven)
        (λ e. leaf (sorted a-string) _ (O.literal-suits want h) (told_text 7 _ _ (literal-tree t z)) (mark-at (sorted a-string) Kind.LITERAL z refl (λ q st. O.literal-leaf want q st h)))

    digits-reads : Table.allows want Kind.DIGITS ≡ true → t.kind ≡ Kind.DIGITS → Reading 7 8 7 want t (read_digits s t)
    unfolding read_digits
    digits-reads h z =
        chosen (Reading 7 8 7 want t) (leb Number.LIMIT (Number.number_at s t.start t.end)) _ _ (λ e. otherwise 5 t.start (λ y. let bad : ⊥ = omega (arith, y) in bad))
        (λ e. leaf (sorted an-integer) _ (O.digits-suits want h) (told-number 7 _ _ (number-tree t z)) (mark-at (sorted an-integer) Kind.DIGITS z refl (λ q st. O.digits-leaf want q st h)))

    name-sorts : (sort : PartSort) → t.kind ≡ Kind.NAME → O.Worded s want t sort → Reading 7 8 7 want t (ok (part sort (name (name_at s t.start))) (next_at s t.end))
    name-sorts _ z (O.plain_word g y) = leaf (sorted a-string) _ y (told_text 7 _ _ (name-tree t z)) g
    name-sorts _ z (O.true-word x g y) = leaf (word true) _ y (told-word true 7 _ _ (name-tree t z) (true-tree t z x)) g
    name-sorts _ z (O.false-word x g y) = leaf (word false) _ y (told-word false 7 _ _ (name-tree t z) (false-tree t z x)) g

    name-reads : Table.allows want Kind.NAME ≡ true → t.kind ≡ Kind.NAME → Reading 7 8 7 want t (read_name s want t)
    unfolding read_name
    name-reads h z = name-sorts (word_sort s want t.start t.end) z (O.worded s t want h z)

    float-reads : Table.allows want Kind.FLOAT ≡ true → t.kind ≡ Kind.FLOAT → Reading 7 8 7 want t (read_float s t)
    unfolding read_float
    float-reads h z =
        chosen (Reading 7 8 7 want t) (ltb most_float (t.end - t.start)) _ _ (λ e. otherwise 7 t.start seven)
        (λ e. leaf (sorted a-float) _ (O.float_fits want h) (told-float 7 _ _ (decimal-tree t z)) (mark-at (sorted a-float) Kind.FLOAT z refl (λ q st. O.float-leaf want q st h)))

    allowed_at : (k : ℕ) → eqb t.kind k ≡ true → Table.allows want t.kind ≡ true → Table.allows want k ≡ true
    allowed_at k e h = subst (λ (x : ℕ). Table.allows want x ≡ true) (eqb-true t.kind k e) h

    leaf-reads : Table.allows want t.kind ≡ true → Table.prefix_operator t.kind ≡ Table.no-prefix → eqb t.kind Kind.OPEN ≡ false → Reading 7 8 7 want t (read_leaf s want t)
    unfolding read_leaf
    leaf-reads h n o =
        chosen (Reading 7 8 7 want t) (eqb t.kind Kind.LITERAL) _ _ (λ e. literal-reads (allowed_at Kind.LITERAL e h) (eqb-true _ _ e))
        (λ e. chosen (Reading 7 8 7 want t) (eqb t.kind Kind.NAME) _ _ (λ f. name-reads (allowed_at Kind.NAME f h) (eqb-true _ _ f))
        (λ f. chosen (Reading 7 8 7 want t) (eqb t.kind Kind.DIGITS) _ _ (λ g. digits-reads (allowed_at Kind.DIGITS g h) (eqb-true _ _ g))
        (λ g. let z : eqb t.kind Kind.FLOAT ≡ true = O.last_leaf want t.kind h n o e f g in float-reads (allowed_at Kind.FLOAT z h) (eqb-true _ _ z))))

    -- brackets
    abbrev level : ℕ
    level = Table.inside_level want

    abbrev first : Token
    first = next_at s t.end

    enclosed-completes : t.kind ≡ Kind.OPEN → (us : List Token) → Completes s want level us → Completes s want 7 (t ∷ us)
    enclosed-completes z us (completes rest f w γ d) =
        completes (rest ++ mark Kind.CLOSE ∷ []) f w γ
        (subst (λ (l : List Token). Told s (sorted w) 7 (t ∷ l) f) (append_assoc us rest (mark Kind.CLOSE ∷ []))
        (enclosed s (sorted w) t (mark Kind.CLOSE) (us ++ rest) f z refl (lower s (sorted w) 0 level (us ++ rest) f (omega arith) d)))

    opened-dead : (q : State) (us : List Token) (u : Token) → t.kind ≡ Kind.OPEN → O.Enclosed q want → ((x : State) → Starts level want x → runs x us u ≡ p-dead) → runs q (t ∷ us) u ≡ p-dead
    opened-dead q us u z (O.enclosed q' e st c n) g = runs-first q q' t us u Kind.OPEN (kind-mark s t Kind.OPEN z refl) e ∙ g q' st

    opened-wrong : (q : State) (us : List Token) (u : Token) (sort : PartSort) → t.kind ≡ Kind.OPEN → O.Enclosed q want → ((x : State) → Starts level want x → runs x us u ≡ step (after x sort) (kind_in s u))
        → Suits want sort → Table.binds level (Table.operator sort (kind_in s u)) ≡ false → eqb u.kind Kind.CLOSE ≡ false → runs q (t ∷ us) u ≡ p-dead
    opened-wrong q us u sort z (O.enclosed q' e st c n) g y b f =
        runs-first q q' t us u Kind.OPEN (kind-mark s t Kind.OPEN z refl) e ∙ g q' st ∙ n sort (kind_in s u) y b (test-kind s u Kind.CLOSE refl refl ∙ f)

    opened-right : (q : State) (us : List Token) (u : Token) (sort : PartSort) → t.kind ≡ Kind.OPEN → O.Enclosed q want → ((x : State) → Starts level want x → runs x us u ≡ step (after x sort) (kind_in s u))
        → Suits want sort → u.kind ≡ Kind.CLOSE → run step q (kinds_in s (t ∷ us ++ u ∷ [])) ≡ after q sort
    opened-right q us u sort z (O.enclosed q' e st c n) g y f =
        run-first q q' t (us ++ u ∷ []) Kind.OPEN (kind-mark s t Kind.OPEN z refl) e ∙ run-one q' us u ∙ g q' st
        ∙ ap (λ (x : ℕ). step (after q' sort) x) (kind-mark s u Kind.CLOSE f refl) ∙ c sort y

    inside-most : level ≤ 7
    unfolding Table.inside_level
    inside-most = chosen (λ (n : ℕ). n ≤ 7) (is_any want) 0 3 (λ e. omega arith) (λ e. omega arith)

    bracket-reads : t.kind ≡ Kind.OPEN → (rr : Parsed Part) → Reading level level level want first rr → Reading 7 8 7 want t (on_part rr (λ sort e n. E.closing s sort e n))
    bracket-reads z _ (got us u sort e p x y d b g) =
        chosen (Reading 7 8 7 want t) (eqb u.kind Kind.CLOSE) _ _
        (λ f. got (t ∷ us ++ u ∷ []) (next_at s u.end) sort e (and-on t (next_at s u.end) (us ++ u ∷ []) (tokens-one s Kind.IN_FIELD first u us p)) (reals u.end) y
        (enclosed s sort t u us e z (eqb-true _ _ f) (lower s sort 0 level us e (omega arith) d)) (binds-high 8 (Table.operator sort (kind_in s (next_at s u.end))) (omega arith))
        (λ q st. runs_last q (after q sort) (t ∷ us ++ u ∷ []) (next_at s u.end) (opened-right q us u sort z (O.encloses want q st) g y (eqb-true _ _ f))))
        (λ f. halted (t ∷ us) u (and-on t u us p) (enclosed-completes z us (finish s want sort level level us e inside-most (omega arith) y d))
        (λ q st. opened-wrong q us u sort z (O.encloses want q st) g y b f) (refusal u.kind) refl)
    bracket-reads z _ (halted us u p c g r e) = halted (t ∷ us) u (and-on t u us p) (enclosed-completes z us c) (λ q st. opened-dead q us u z (O.encloses want q st) g) r e
    bracket-reads z _ (otherwise r p n) = otherwise r p n

    -- a prefix operator
    abbrev made_of : Unary → PartSort → Expr → Token → Parsed Part
    made_of op sort e n = applied (unary (Table.prefix_of op sort)) (unary_takes (Table.prefix_of op sort)) (unary_gives (Table.prefix_of op sort)) sort e n

    module _ (op : Unary) (lv : ℕ) (wn : Want) (el : Table.operand_level op ≡ lv) (ew : Table.operand_want op want ≡ wn) (em : eqb t.kind Kind.NAME ≡ false) (a : Asked lv wn)
        (bs : (g : Sort) → Goal wn g → O.Before t.kind op want lv wn g (unary_gives (O.as_taken op g))) where
      abbrev gives : Sort → Sort
      gives g = unary_gives (O.as_taken op g)

      makes : (x : PartSort) → Suits wn x → (f : Expr) (n : Token) → made_of op x f n ≡ applied (unary (O.as_taken op (aim wn x))) (aim wn x) (gives (aim wn x)) x f n
      makes x u f n =
          ap (λ (o : Unary). applied (unary o) (unary_takes o) (unary_gives o) x f n) (as-aimed-at wn ew u)
          ∙ ap (λ (g : Sort). applied (unary (O.as_taken op (aim wn x))) g (gives (aim wn x)) x f n) (O.before-takes t.kind op want lv wn (aim wn x) (gives (aim wn x)) (bs (aim wn x) (aim-goal wn x u))).0
        where
          as-aimed-at : (w : Want) → Table.operand_want op want ≡ w → Suits w x → Table.prefix_of op x ≡ O.as_taken op (aim w x)
          as-aimed-at w e y =
              let z : Suits (Table.operand_want op want) x = subst (λ (y : Want). Suits y x) (sym e) y in
              subst (λ (y : Want). Table.prefix_of op x ≡ O.as_taken op (aim y x)) e (O.as-aimed op want x z)

      prefix-reads : (rr : Parsed Part) → Reading (Table.operand_level op) (Table.operand_level op) (Table.operand_level op) (Table.operand_want op want) first rr → Reading 7 8 7 want t (on_part rr (made_of op))
      prefix-reads rr h =
          extend t (t ∷ []) first (and-on t first [] (at_once first)) 7 7 want lv wn gives (λ g. unary (O.as_taken op g)) (made_of op) makes (omega arith) (omega arith) (O.asked-most lv wn a)
          (λ g γ. O.before-suits t.kind op want lv wn g (gives g) (bs g γ)) (λ g γ us f d. O.before-told s t.kind op want lv wn g (gives g) t us f (bs g γ) refl d)
          (λ g γ q st. subst (λ (x : ℕ). Onward q lv wn g (gives g) (step q x)) (sym (kind-other s t em)) (before-onward t.kind op want lv wn g (gives g) q (bs g γ) st))
          (λ g γ sort k f b. binds-high 8 (Table.operator (sorted (gives g)) k) (omega arith)) rr
          (subst (λ (x : ℕ). Reading x x x wn first rr) el (subst (λ (x : Want). Reading (Table.operand_level op) (Table.operand_level op) (Table.operand_level op) x first rr) ew h))

    -- an operand
    operand-body : Real s t → (prefixed : Unary → Want → ℕ → ℕ → Token → Parsed Part) (bracketed : Want → ℕ → Token → Parsed Part) (row nest : ℕ)
        → ((op : Unary) (lv : ℕ) (wn : Want) → Table.operand_level op ≡ lv → Table.operand_want op want ≡ wn → eqb t.kind Kind.NAME ≡ false → Asked lv wn
        → ((g : Sort) → Goal wn g → O.Before t.kind op want lv wn g (unary_gives (O.as_taken op g))) → Reading 7 8 7 want t (prefixed op want row nest t))
        → (t.kind ≡ Kind.OPEN → Reading 7 8 7 want t (bracketed want nest t)) → Reading 7 8 7 want t (E.operand_of prefixed bracketed s want row nest t)
    operand-body (real-token x n) prefixed bracketed row nest on_prefix onBracket =
        chosen (Reading 7 8 7 want t) (Table.allows want t.kind) _ _ (λ h. allowed h (Table.prefix_operator t.kind) refl (O.prefixing want t.kind h))
        (λ h. halted [] t (at_once t) (something s want) (λ q st. O.not-allowed s t want q st n h) (refusal t.kind) refl)
      where
        allowed : Table.allows want t.kind ≡ true → (i : Table.Prefix) → Table.prefix_operator t.kind ≡ i → O.Prefixing want t.kind i
            → Reading 7 8 7 want t (Table.on_prefix i (pick (eqb t.kind Kind.OPEN) (bracketed want nest t) (read_leaf s want t)) (λ op. prefixed op want row nest t))
        allowed h _ y O.no-prefix = chosen (Reading 7 8 7 want t) (eqb t.kind Kind.OPEN) _ _ (λ e. onBracket (eqb-true _ _ e)) (λ e. leaf-reads h y e)
        allowed h _ y (O.prefixes op lv wn el ew em a b) = on_prefix op lv wn el ew em a b

  -- what the reader makes of a right operand
  pub data JoinedAs (u : Token) (sort : PartSort) (e : Expr) (op : Binary) : Parsed Part → Type 0 where
    joined-none : (p : ℕ) → JoinedAs u sort e op (aside 0 p)
    joined-some : (rr : Parsed Part) → Reading (Table.right_level op) (Table.right_level op) (Table.right_level op) (Table.right_want op) (next_at s u.end) rr
        → JoinedAs u sort e op (on_part rr (λ x f n. applied (binary op (settled_tree (binary_takes op) sort e)) (binary_takes op) (binary_gives op) x f n))

  -- operators from left to right
  module _ (reals : (at : ℕ) → Real s (next_at s at)) (level : ℕ) (want : Want) (a : Asked level want) (t : Token) where
    abbrev Done : Parsed Part → Type 0
    Done r = Reading level level level want t r

    -- what is known where the loop stands
    abbrev Stands : E.State → Parsed Part → Type 0
    Stands x r = (l : ℕ) (ts : List Token) → level ≤ l → Tokens s t ts x.0 → Real s x.0 → Suits want x.1 → Told s x.1 l ts x.2
        → Table.binds (l + 1) (Table.operator x.1 (kind_in s x.0)) ≡ false → ((q : State) → Starts level want q → runs q ts x.0 ≡ step (after q x.1) (kind_in s x.0)) → Done r

    stopped : (u : Token) (sort : PartSort) (e : Expr) → Table.binds level (Table.operator sort u.kind) ≡ false → Stands (u, sort, e) (ok (part sort e) u)
    stopped u sort e h l ts low p x y d b g =
        got ts u sort e p x y (lower s sort level l ts e low d) (ap (Table.binds level) (operator-kind s u sort) ∙ h) g

    -- behind the last token there is no operator
    late : (u : Token) (sort : PartSort) → length s ≤ u.start → Real s u → Table.binds level (Table.operator sort u.kind) ≡ false
    late u sort h (real-token x n) =
        split (ltb Kind.BAD_LINE u.kind)
        (λ e. absurd (let k : (u.start < u.end) × (u.end ≤ length s) = real s u x (ltb-true Kind.BAD_LINE u.kind e) in let bad : ⊥ = omega (arith, h, k.0, k.1) in bad))
        (λ e. binds-none level sort u.kind (ltb-false Kind.BAD_LINE u.kind e))

    -- an operator that the level takes, and its right operand
    operator-joined : (u : Token) (sort : PartSort) (e : Expr) (op : Binary) (lo : ℕ) (o r : Sort) → Joint u.kind op lo o r → Fits o sort → Table.binds level (Table.between op) ≡ true
        → (rr : Parsed Part) → Reading (Table.right_level op) (Table.right_level op) (Table.right_level op) (Table.right_want op) (next_at s u.end) rr
        → (l : ℕ) (ts : List Token) → level ≤ l → Tokens s t ts u → Real s u → Suits want sort → Told s sort l ts e → Table.binds (l + 1) (Table.between op) ≡ false
        → ((q : State) → Starts level want q → runs q ts u ≡ step (after q sort) (kind_in s u))
        → (m : ℕ) × ((level ≤ m) × Reading m (m + 1) level want t (on_part rr (λ x f n. applied (binary op (settled_tree (binary_takes op) sort e)) (binary_takes op) (binary_gives op) x f n)))
    unfolding Table.right_level Table.right_want
    operator-joined u sort e op lo o r j fit h rr inner l ts low p x y d b g₀ = on-table (joint-tabled u.kind op lo o r j)
      where
        on-table : Tabled op lo o r → (m : ℕ) × ((level ≤ m) × Reading m (m + 1) level want t (on_part rr (λ x f n. applied (binary op (settled_tree (binary_takes op) sort e)) (binary_takes op) (binary_gives op) x f n)))
        on-table (tabled el eo er) = (
          lo,
          (
            level-low,
            extend t (ts ++ u ∷ []) (next_at s u.end) (tokens-one s Kind.IN_FIELD t u ts p) lo level want (lo + 1) (Table.want_of o) (λ g. r) (λ g. binary op (settled_tree (binary_takes op) sort e))
                (λ x f n. applied (binary op (settled_tree (binary_takes op) sort e)) (binary_takes op) (binary_gives op) x f n) makes (O.asked-most level want a) level-low
                (O.asked-most (lo + 1) (Table.want_of o) (joint-asked u.kind op lo o r j))
                (λ g γ. joint-suits level want sort u.kind op lo o r a y j fit level-low) grows leads ends rr inner-at,
          ),
        )
          where
            level-low : level ≤ lo
            level-low = let k : level ≤ Table.level_of op = binds-level level op h in omega (arith, k, el)

            lo-low : lo ≤ l
            lo-low = operator-low l op lo el b

            makes : (x : PartSort) → Suits (Table.want_of o) x → (f : Expr) (n : Token)
                → applied (binary op (settled_tree (binary_takes op) sort e)) (binary_takes op) (binary_gives op) x f n ≡ applied (binary op (settled_tree (binary_takes op) sort e)) (aim (Table.want_of o) x) r x f n
            makes x z f n =
                ap (λ (g : Sort). applied (binary op (settled_tree (binary_takes op) sort e)) g (binary_gives op) x f n) (eo ∙ sym (aim-right o x))
                ∙ ap (λ (g : Sort). applied (binary op (settled_tree (binary_takes op) sort e)) (aim (Table.want_of o) x) g x f n) er

            left : Told s (sorted o) lo ts (settled_tree o sort e)
            left = settle s o sort lo ts e (O.asked_low (lo + 1) (Table.want_of o) lo (joint-asked u.kind op lo o r j) (omega arith)) fit (lower s sort lo l ts e lo-low d)

            grows : (g : Sort) → Goal (Table.want_of o) g → (us : List Token) (f : Expr) → Told s (sorted g) (lo + 1) us f → Told s (sorted r) lo ((ts ++ u ∷ []) ++ us) (binary op (settled_tree (binary_takes op) sort e) f)
            grows g γ us f k =
                subst (λ (z : List Token). Told s (sorted r) lo z (binary op (settled_tree (binary_takes op) sort e) f)) (sym (append_assoc ts (u ∷ []) us))
                (rw eo (joined s u.kind op lo o r u ts us (settled_tree o sort e) f j refl left (subst (λ (z : Sort). Told s (sorted z) (lo + 1) us f) (sym (goal-right o g γ)) k)))

            leads : (g : Sort) → Goal (Table.want_of o) g → (q : State) → Starts level want q → Onward q (lo + 1) (Table.want_of o) g r (run step q (kinds_in s (ts ++ u ∷ [])))
            leads g γ q st =
                subst (λ (z : Sort). Onward q (lo + 1) (Table.want_of o) z r (run step q (kinds_in s (ts ++ u ∷ [])))) (goal-right o g γ)
                (subst (Onward q (lo + 1) (Table.want_of o) o r) (sym (run-one q ts u ∙ g₀ q st ∙ ap (λ (z : ℕ). step (after q sort) z) (kind-other s u (joint-mark u.kind op lo o r j))))
                (joint-onward level want sort u.kind op lo o r q a st y j fit level-low))

            ends : (g : Sort) → Goal (Table.want_of o) g → (x : PartSort) (k : ℕ) → Fits g x → Table.binds (lo + 1) (Table.operator x k) ≡ false → Table.binds (lo + 1) (Table.operator (sorted r) k) ≡ false
            ends g γ x k f = joint-ends u.kind op lo o r j x k (subst (λ (z : Sort). Fits z x) (sym (goal-right o g γ)) f)

            inner-at : Reading (lo + 1) (lo + 1) (lo + 1) (Table.want_of o) (next_at s u.end) rr
            inner-at =
                let k : Reading (lo + 1) (lo + 1) (lo + 1) (Table.want_of (binary_takes op)) (next_at s u.end) rr = subst (λ (z : ℕ). Reading (z + 1) (z + 1) (z + 1) (Table.want_of (binary_takes op)) (next_at s u.end) rr) el inner in
                subst (λ (z : Want). Reading (lo + 1) (lo + 1) (lo + 1) z (next_at s u.end) rr) (ap (λ (z : Sort). Table.want_of z) eo) k

    module _ (u : Token) (sort : PartSort) (e : Expr) (l : ℕ) (ts : List Token) (low : level ≤ l) (p : Tokens s t ts u) (x : Real s u) (y : Suits want sort) (d : Told s sort l ts e)
        (g : (q : State) → Starts level want q → runs q ts u ≡ step (after q sort) (kind_in s u)) where
      joined_as : (op : Binary) (lo : ℕ) (o r : Sort) → Joint u.kind op lo o r → Fits o sort → Table.binds level (Table.between op) ≡ true → Table.binds (l + 1) (Table.between op) ≡ false → (rr : Parsed Part) → JoinedAs u sort e op rr
          → (m : ℕ) × ((level ≤ m) × Reading m (m + 1) level want t rr)
      joined_as op lo o r j fit h b _ (joined-none at) = (level, (omega arith, otherwise 0 at (λ n. let bad : ⊥ = omega (arith, n) in bad)))
      joined_as op lo o r j fit h b _ (joined-some rr inner) = operator-joined u sort e op lo o r j fit h rr inner l ts low p x y d b g

      by-operator : (op : Binary) → Operated sort u.kind (Table.between op) → Table.binds level (Table.between op) ≡ true → Table.binds (l + 1) (Table.between op) ≡ false → (rr : Parsed Part)
          → ((lo : ℕ) (o r : Sort) → Joint u.kind op lo o r → JoinedAs u sort e op rr) → (m : ℕ) × ((level ≤ m) × Reading m (m + 1) level want t rr)
      by-operator op (joins _ lo o r j fit) h b rr k = joined_as op lo o r j fit h b rr (k lo o r j)

    module _ (μ : E.State → ℕ) (out : E.State → Parsed Part) (f : E.State → Step E.State (Parsed Part)) where
      abbrev Turn : E.State → Step E.State (Parsed Part) → Type 0
      Turn x st = Went μ out f Stands x st

      -- what a right operand makes: the loop goes on with it, or it is a fault
      on-joined : (u : Token) (sort : PartSort) (e : Expr) (rr : Parsed Part)
          → ((l : ℕ) (ts : List Token) → level ≤ l → Tokens s t ts u → Real s u → Suits want sort → Told s sort l ts e → Table.binds (l + 1) (Table.operator sort (kind_in s u)) ≡ false
          → ((q : State) → Starts level want q → runs q ts u ≡ step (after q sort) (kind_in s u)) → (m : ℕ) × ((level ≤ m) × Reading m (m + 1) level want t rr))
          → Turn (u, sort, e) (E.on_joined u rr)
      on-joined u sort e (aside r p) h = went-done (aside r p) (λ l ts low q x y d b g. from-aside r p (h l ts low q x y d b g))
        where
          from-reading : (m r p : ℕ) → Reading m (m + 1) level want t (aside r p) → Done (aside r p)
          from-reading m _ _ (halted ts v q c g r z) = halted ts v q c g r z
          from-reading m _ _ (otherwise r p n) = otherwise r p n

          from-aside : (r p : ℕ) → (m : ℕ) × ((level ≤ m) × Reading m (m + 1) level want t (aside r p)) → Done (aside r p)
          from-aside r p (m, (low, k)) = from-reading m r p k
      on-joined u sort e (ok (part sort' e') v) h =
          chosen (Turn (u, sort, e)) (leb v.start u.start) _ _
          (λ z. went-done (aside 0 u.start) (λ l ts low q x y d b g. otherwise 0 u.start (λ n. let bad : ⊥ = omega (arith, n) in bad)))
          (λ z. went-next (v, sort', e') (λ r k l ts low q x y d b g. from-ok r k (h l ts low q x y d b g)))
        where
          from-reading : (m : ℕ) (r : Parsed Part) → level ≤ m → Stands (v, sort', e') r → Reading m (m + 1) level want t (ok (part sort' e') v) → Done r
          from-reading m r low k (got ts _ _ _ p x y d b g) = k m ts low p x y d b g

          from-ok : (r : Parsed Part) → Stands (v, sort', e') r → (m : ℕ) × ((level ≤ m) × Reading m (m + 1) level want t (ok (part sort' e') v)) → Done r
          from-ok r k (m, (low, i)) = from-reading m r low k i

    module _ (nest : ℕ) (join : Binary → ℕ → PartSort → Expr → ℕ → Parsed Part) where
      abbrev μ : E.State → ℕ
      μ x = length s - x.0.start

      abbrev out : E.State → Parsed Part
      out x = aside 0 x.0.start

      abbrev turn : E.State → Step E.State (Parsed Part)
      turn = E.chain_turn join s level nest

      module _ (joining : (u : Token) (sort : PartSort) (e : Expr) (op : Binary) (lo : ℕ) (o r : Sort) → Joint u.kind op lo o r → JoinedAs u sort e op (join op nest sort e u.end)) where
        chain-turn : (x : E.State) → Went μ out turn Stands x (turn x)
        chain-turn (u, sort, e) =
            chosen (Went μ out turn Stands (u, sort, e)) (leb (length s) u.start) _ _
            (λ z. went-done (ok (part sort e) u) (λ l ts low p x y d b g. stopped u sort e (late u sort (leb-true _ _ z) x) l ts low p x y d b g))
            (λ z. chosen (Went μ out turn Stands (u, sort, e)) (Table.binds level (Table.operator sort u.kind)) _ _
            (λ h. infix-cases (Went μ out turn Stands (u, sort, e)) (Table.operator sort u.kind) _ _
            (λ n. went-done (ok (part sort e) u) (λ l ts low p x y d b g. stopped u sort e (unbound level (Table.operator sort u.kind) n) l ts low p x y d b g))
            (λ op n. on-joined μ out turn u sort e (join op nest sort e u.end)
            (λ l ts low p x y d b g. by-operator u sort e l ts low p x y d g op (subst (Operated sort u.kind) n (operated sort u.kind)) (subst (λ (i : Table.Infix). Table.binds level i ≡ true) n h)
            (subst (λ (i : Table.Infix). Table.binds (l + 1) i ≡ false) n (ap (Table.binds (l + 1)) (sym (operator-kind s u sort)) ∙ b)) (join op nest sort e u.end)
            (λ lo o r j. joining u sort e op lo o r j))))
            (λ h. went-done (ok (part sort e) u) (λ l ts low p x y d b g. stopped u sort e h l ts low p x y d b g)))

        chain-body : (u : Token) (sort : PartSort) (e : Expr) → Stands (u, sort, e) (E.chain_of join s level nest sort e u)
        chain-body u sort e = loop-went μ out turn Stands (λ x l ts low p r y d b g. otherwise 0 x.0.start (λ k. let bad : ⊥ = omega (arith, k) in bad)) chain-turn (u, sort, e)

    -- an operand and what follows it
    expression-body : (chain : ℕ → ℕ → PartSort → Expr → Token → Parsed Part) (nest : ℕ) → ((u : Token) (sort : PartSort) (e : Expr) → Stands (u, sort, e) (chain level nest sort e u))
        → (rr : Parsed Part) → Reading 7 8 7 want t rr → Done (on_part rr (λ sort e n. chain level nest sort e n))
    expression-body chain nest h _ (got ts u sort e p x y d b g) =
        h u sort e 7 ts (O.asked-most level want a) p x y d b (λ q st. g q (starts-up level 7 want q (O.asked-most level want a) st))
    expression-body chain nest h _ (halted ts u p c g r z) =
        halted ts u p (completes-lower s want level 7 ts (O.asked-most level want a) c) (λ q st. g q (starts-up level 7 want q (O.asked-most level want a) st)) r z
    expression-body chain nest h _ (otherwise r p n) = otherwise r p n

  module _ (reals : (at : ℕ) → Real s (next_at s at)) where
    right-asked : (k : ℕ) (op : Binary) (lo : ℕ) (o r : Sort) → Joint k op lo o r → Asked (Table.right_level op) (Table.right_want op)
    unfolding Table.right_level Table.right_want
    right-asked k op lo o r j = on-table (joint-tabled k op lo o r j)
      where
        on-table : Tabled op lo o r → Asked (Table.level_of op + 1) (Table.want_of (binary_takes op))
        on-table (tabled el eo er) = rw (el, eo) (joint-asked k op lo o r j)

    prefix-asked : (op : Unary) (want : Want) (lv : ℕ) (wn : Want) → Table.operand_level op ≡ lv → Table.operand_want op want ≡ wn → Asked lv wn → Asked (Table.operand_level op) (Table.operand_want op want)
    prefix-asked op want lv wn el ew a = rw (el, ew) a

    mutual
      unfolding E.read_expression

      pub expression-reads : (d level : ℕ) (want : Want) (row nest : ℕ) (t : Token) → Asked level want → Real s t → Reading level level level want t (E.read_expression d s level want row nest t)
      expression-reads zero level want row nest t a x = otherwise 0 t.start (λ k. let bad : ⊥ = omega (arith, k) in bad)
      expression-reads (suc d) level want row nest t a x =
          expression-body reals level want a t (λ level nest sort e t. E.read_chain d s level nest sort e t) nest (λ u sort e. chain-reads d level want nest t a u sort e)
          (E.read_operand d s want row nest t) (operand-reads d want row nest t x)

      operand-reads : (d : ℕ) (want : Want) (row nest : ℕ) (t : Token) → Real s t → Reading 7 8 7 want t (E.read_operand d s want row nest t)
      operand-reads zero want row nest t x = otherwise 0 t.start (λ k. let bad : ⊥ = omega (arith, k) in bad)
      operand-reads (suc d) want row nest t x =
          operand-body reals want t x (λ op want row nest t. E.read_prefixed d s op want row nest t) (λ want nest t. E.read_bracketed d s want nest t) row nest
          (λ op lv wn el ew em a b. prefixed-reads d op want row nest t lv wn el ew em a b) (λ z. bracketed-reads d want nest t z)

      prefixed-reads : (d : ℕ) (op : Unary) (want : Want) (row nest : ℕ) (t : Token) (lv : ℕ) (wn : Want) → Table.operand_level op ≡ lv → Table.operand_want op want ≡ wn → eqb t.kind Kind.NAME ≡ false
          → Asked lv wn → ((g : Sort) → Goal wn g → O.Before t.kind op want lv wn g (unary_gives (O.as_taken op g))) → Reading 7 8 7 want t (E.read_prefixed d s op want row nest t)
      prefixed-reads zero op want row nest t lv wn el ew em a b = otherwise 0 t.start (λ k. let bad : ⊥ = omega (arith, k) in bad)
      prefixed-reads (suc d) op want row nest t lv wn el ew em a b =
          chosen (Reading 7 8 7 want t) (leb most_prefixes row) _ _ (λ h. otherwise 7 t.start seven)
          (λ h. prefix-reads reals want t op lv wn el ew em a b (E.read_expression d s (Table.operand_level op) (Table.operand_want op want) (row + 1) nest (next_at s t.end))
          (expression-reads d (Table.operand_level op) (Table.operand_want op want) (row + 1) nest (next_at s t.end) (prefix-asked op want lv wn el ew a) (reals t.end)))

      bracketed-reads : (d : ℕ) (want : Want) (nest : ℕ) (t : Token) → t.kind ≡ Kind.OPEN → Reading 7 8 7 want t (E.read_bracketed d s want nest t)
      bracketed-reads zero want nest t z = otherwise 0 t.start (λ k. let bad : ⊥ = omega (arith, k) in bad)
      bracketed-reads (suc d) want nest t z =
          chosen (Reading 7 8 7 want t) (leb most_brackets nest) _ _ (λ h. otherwise 7 t.start seven)
          (λ h. bracket-reads reals want t z (E.read_expression d s (Table.inside_level want) want 0 (nest + 1) (next_at s t.end))
          (expression-reads d (Table.inside_level want) want 0 (nest + 1) (next_at s t.end) (O.inside-asked want) (reals t.end)))

      chain-reads : (d level : ℕ) (want : Want) (nest : ℕ) (t : Token) (a : Asked level want) (u : Token) (sort : PartSort) (e : Expr) → Stands reals level want a t (u, sort, e) (E.read_chain d s level nest sort e u)
      chain-reads zero level want nest t a u sort e = λ l ts low p x y k b g. otherwise 0 u.start (λ k. let bad : ⊥ = omega (arith, k) in bad)
      chain-reads (suc d) level want nest t a u sort e =
          chain-body reals level want a t nest (λ op nest sort e at. E.read_joined d s op nest sort e at) (λ u sort e op lo o r j. joined-reads d level want nest t a u sort e op lo o r j) u sort e

      joined-reads : (d level : ℕ) (want : Want) (nest : ℕ) (t : Token) (a : Asked level want) (u : Token) (sort : PartSort) (e : Expr) (op : Binary) (lo : ℕ) (o r : Sort) → Joint u.kind op lo o r
          → JoinedAs u sort e op (E.read_joined d s op nest sort e u.end)
      joined-reads zero level want nest t a u sort e op lo o r j = joined-none u.end
      joined-reads (suc d) level want nest t a u sort e op lo o r j =
          joined-some (E.read_expression d s (Table.right_level op) (Table.right_want op) 0 nest (next_at s u.end))
          (expression-reads d (Table.right_level op) (Table.right_want op) 0 nest (next_at s u.end) (right-asked u.kind op lo o r j) (reals u.end))
