-- How much room an expression that was read needs to run, by its level and the brackets still to be opened. Assumes nothing.
use Rattle.std.specs.Prelude.{◌≡◌, refl, true, List, ℕ, zero, suc, ◌+◌, ◌-◌, ◌*◌, ◌<◌, ◌≤◌, eqb, ltb, leb}
use Rattle.std.proofs.Common.{arith}
use Rattle.std.proofs.Math.ListN.{length}
use borrow.Author.Tests.{leb-false}
use Rattle.text.specs.Choice.{pick, split}
use Rattle.text.specs.Loop.{Step}
use Rattle.lexical.specs.Kind
use Rattle.lexical.specs.Theorems.Bounds.{chosen}
use Rattle.lexical.specs.Literal.{decoded_at}
use Rattle.lexical.specs.Number as Number
use Rattle.lexical.specs.declared.token.Token.{Token}
use Rattle.syntax.specs.Operator.{Unary, Binary, Sort, a-string, an-integer, a-float, a_test, unary_takes, unary_gives, binary_takes, binary_gives}
use Rattle.syntax.specs.Expr.{Expr, name, unary, binary}
use Rattle.syntax.specs.Code.{name_at}
use Rattle.syntax.specs.Parsed.{Parsed, ok, aside, and_then}
use Rattle.machine.specs.Working.Need.{need, span, room}
use Rattle.machine.specs.Theorems.Bounds.{need-some, span-most}
use Rattle.conditions.specs.Table.{PartSort, sorted, word, Want, want-any, is_any}
use Rattle.conditions.specs.Table
use Rattle.conditions.specs.Word.{next_at, word_sort}
use Rattle.conditions.specs.Parsed.{Part, part, on_part}
use Rattle.conditions.specs.Operand.{read_literal, read_name, read_digits, read_float, read_leaf, settled_tree, applied}
use Rattle.conditions.specs.Expression.{State, on_joined, chain_turn, closing, read_expression, read_operand, read_prefixed, read_bracketed, read_chain, read_joined}
use Rattle.conditions.specs.Working.Keeping.{Kept, kept_next, kept-done, loop-keeps}
use Rattle.conditions.specs.Working.TieOperand.{Named, named-string, named-word, name-cases}
use Rattle.conditions.specs.Working.Cases.{infix-cases, prefix_cases}
use Rattle.conditions.specs.Working.Reach.{is_any_lem, spread, prefix-level, operand-level-most, operand-wanted, inside-most, inside-wanted, level-most, binds-level, right-wanted}
use Rattle.judge.specs.Working.Steep.{lift, Plain, string-plain, word-plain, bytes-plain, steep, unary-plain, binary-plain}

-- a fault, or what was read, of which P holds
pub data Holds {A : Type 0} (P : A → Type 0) : Parsed A → Type 0 where
  holds-aside : (r p : ℕ) → Holds P (aside r p)
  holds-ok : (a : A) (n : Token) → P a → Holds P (ok a n)

pub holds-is : {A : Type 0} (P : A → Type 0) (a : A) (n : Token) → Holds P (ok a n) → P a
holds-is P a n (holds-ok _ _ h) = h

-- a part that needs n operands and r bytes at most
pub data Fits (n r : ℕ) : Part → Type 0 where
  fit : (x : PartSort) (e : Expr) → need e ≤ n → room e ≤ r → Plain x e → Fits n r (part x e)

pub on-holds : {A : Type 0} (n r : ℕ) (Q : A → Type 0) (q : Parsed Part) (k : PartSort → Expr → Token → Parsed A)
    → ((x : PartSort) (e : Expr) (t : Token) → need e ≤ n → room e ≤ r → Plain x e → Holds Q (k x e t)) → Holds (Fits n r) q → Holds Q (on_part q k)
on-holds n r Q _ k h (holds-aside a p) = holds-aside a p
on-holds n r Q _ k h (holds-ok _ t (fit x e i j p)) = h x e t i j p

pub then-holds : {A B : Type 0} (P : A → Type 0) (Q : B → Type 0) (q : Parsed A) (k : A → Token → Parsed B) → ((a : A) (t : Token) → P a → Holds Q (k a t)) → Holds P q → Holds Q (and_then q k)
then-holds P Q _ k h (holds-aside r p) = holds-aside r p
then-holds P Q _ k h (holds-ok a t p) = h a t p

fit-more : (n r n' r' : ℕ) → n ≤ n' → r ≤ r' → (q : Parsed Part) → Holds (Fits n r) q → Holds (Fits n' r') q
fit-more n r n' r' h k _ (holds-aside a p) = holds-aside a p
fit-more n r n' r' h k _ (holds-ok _ t (fit x e i j p)) = holds-ok (part x e) t (fit x e (omega (arith, h, i)) (omega (arith, k, j)) p)

-- a bracket costs six operands, one for each level of operators; a string at each bracket, and those of the level
abbrev pub deep : ℕ → ℕ → ℕ
deep level nest = 6 * (16 - nest) + (6 - level) + 1

abbrev pub wide : ℕ → ℕ → ℕ
wide level nest = 4096 * (17 - nest + lift level)

add-deep : (n a b : ℕ) → a ≤ b → 6 * n + (6 - b) + 1 ≤ 6 * n + (6 - a) + 1
add-deep n a b h = omega (arith, h)

deep_more : (nest level l : ℕ) → level ≤ l → deep l nest ≤ deep level nest
deep_more nest level l h = add-deep (16 - nest) level l h

deep_step : (n level k : ℕ) → level ≤ k → k < 6 → 1 + (6 * n + (6 - (k + 1)) + 1) ≤ 6 * n + (6 - level) + 1
deep_step n level k h i = omega (arith, h, i)

lift-more : (level l : ℕ) → level ≤ l → lift l ≤ lift level
lift-more level l h = omega (arith, h)

add_wide : (n a b : ℕ) → a ≤ b → 4096 * (n + a) ≤ 4096 * (n + b)
add_wide n a b h = omega (arith, h)

pub wide-more : (nest level l : ℕ) → level ≤ l → wide l nest ≤ wide level nest
wide-more nest level l h = add_wide (17 - nest) (lift l) (lift level) (lift-more level l h)

wide_step : (m n a b c : ℕ) → m + 4096 * a ≤ 4096 * b → b ≤ c → m + 4096 * (n + a) ≤ 4096 * (n + c)
wide_step m n a b c h k = omega (arith, h, k)

wide-some : (n a : ℕ) → 1 ≤ n → 4096 ≤ 4096 * (n + a)
wide-some n a h = omega (arith, h)

wide-least : (nest level : ℕ) → nest ≤ 16 → 4096 ≤ wide level nest
wide-least nest level h = wide-some (17 - nest) (lift level) (omega (arith, h))

-- the loosest expression that may stand as an operand: behind "!" where a test may stand
unfoldable pub inner : Want → ℕ
inner want = pick (is_any want) 2 6

inner-level : (want : Want) (level : ℕ) → level ≤ 6 → (want ≡ want-any → level ≤ 2) → level ≤ inner want
unfolding inner
inner-level want level h k = chosen (λ (n : ℕ). level ≤ n) (is_any want) 2 6 (λ e. k (is_any_lem want e)) (λ e. h)

inner-under : (want : Want) (l : ℕ) → (6 - l) * 17 ≤ spread want → inner want ≤ l
unfolding spread inner
inner-under want l = split (is_any want) (λ e. rw e (λ i. omega (arith, i))) (λ e. rw e (λ i. omega (arith, i)))

inner-prefix : (want : Want) (k : ℕ) (op : Unary) → Table.allows want k ≡ true → Table.prefix_operator k ≡ Table.before op → inner want ≤ Table.operand_level op
inner-prefix want k op h e = inner-under want (Table.operand_level op) (prefix-level want k op h e)

-- brackets hold less than what stands around them may
inside-deep : (want : Want) (nest : ℕ) → nest < 16 → deep (Table.inside_level want) (nest + 1) ≤ deep (inner want) nest
unfolding inner Table.inside_level
inside-deep want nest h = split (is_any want) (λ e. rw e (omega (arith, h))) (λ e. rw e (omega (arith, h)))

inside-wide : (want : Want) (nest : ℕ) → nest < 16 → wide (Table.inside_level want) (nest + 1) ≤ wide (inner want) nest
unfolding inner Table.inside_level
inside-wide want nest h = split (is_any want) (λ e. rw e (omega (arith, h))) (λ e. rw e (omega (arith, h)))

-- a settled part needs no more
pub settled-need : (wanted : Sort) (x : PartSort) (e : Expr) (n : ℕ) → need e ≤ n → need (settled_tree wanted x e) ≤ n
unfolding settled_tree need
settled-need wanted (sorted x) e n h = h
settled-need a-string (word b) e n h = h
settled-need an-integer (word b) e n h = omega (arith, h, need-some e)
settled-need a-float (word b) e n h = omega (arith, h, need-some e)
settled-need a_test (word b) e n h = omega (arith, h, need-some e)

pub settled-room : (wanted : Sort) (x : PartSort) (e : Expr) (r : ℕ) → room e ≤ r → room (settled_tree wanted x e) ≤ r
unfolding settled_tree room
settled-room wanted (sorted x) e r h = h
settled-room a-string (word b) e r h = h
settled-room an-integer (word b) e r h = omega arith
settled-room a-float (word b) e r h = omega arith
settled-room a_test (word b) e r h = omega arith

-- operators
module _ (n r : ℕ) where
  unary-fits : (op : Unary) (x : PartSort) (e : Expr) (t : Token) → need e ≤ n → room e ≤ r → 4096 ≤ r
      → Holds (Fits n r) (applied (unary op) (unary_takes op) (unary_gives op) x e t)
  unfolding applied need room
  unary-fits op x e t h k least =
      chosen (Holds (Fits n r)) (Table.fits takes x) _ _
      (λ i. holds-ok _ t (fit (sorted (unary_gives op)) (unary op (settled_tree takes x e)) (settled-need takes x e n h)
      (omega (arith, settled-room takes x e r k, span-most (unary_gives op), least)) (unary-plain op (settled_tree takes x e))))
      (λ i. holds-aside _ _)
    where
      takes : Sort
      takes = unary_takes op

  binary-fits : (op : Binary) (l : Expr) (x : PartSort) (e : Expr) (t : Token) (m w : ℕ) → need l ≤ n → room l ≤ r → need e ≤ m → room e ≤ w → 1 + m ≤ n → span l + w ≤ r
      → Holds (Fits n r) (applied (binary op l) (binary_takes op) (binary_gives op) x e t)
  unfolding applied need room
  binary-fits op l x e t m w h k i j a b =
      chosen (Holds (Fits n r)) (Table.fits takes x) _ _
      (λ g. holds-ok _ t (fit (sorted (binary_gives op)) (binary op l (settled_tree takes x e)) (omega (arith, h, a, settled-need takes x e m i))
      (omega (arith, k, b, settled-room takes x e w j)) (binary-plain op l (settled_tree takes x e))))
      (λ g. holds-aside _ _)
    where
      takes : Sort
      takes = binary_takes op

module _ (s : List ℕ) where
  -- operands of one token
  module _ (n r : ℕ) (some : 1 ≤ n) (least : 4096 ≤ r) (t : Token) where
    literal-fits : Holds (Fits n r) (read_literal s t)
    unfolding read_literal need room
    literal-fits =
        chosen (Holds (Fits n r)) (ltb 2048 (length (decoded_at s t.start))) _ _ (λ h. holds-aside _ _)
        (λ h. holds-ok _ _ (fit (sorted a-string) _ some least (string-plain _)))

    name-plain : (x : PartSort) (e : Expr) → Named x → Plain x e
    name-plain _ e named-string = string-plain e
    name-plain _ e (named-word b) = word-plain b e

    name-fits : (want : Want) → Holds (Fits n r) (read_name s want t)
    unfolding read_name need room
    name-fits want =
        holds-ok _ _ (fit (word_sort s want t.start t.end) (name (name_at s t.start)) some least
        (name-plain (word_sort s want t.start t.end) _ (name-cases s want t.start t.end)))

    digits-fit : Holds (Fits n r) (read_digits s t)
    unfolding read_digits need room span
    digits-fit =
        chosen (Holds (Fits n r)) (leb Number.LIMIT (Number.number_at s t.start t.end)) _ _ (λ h. holds-aside _ _)
        (λ h. holds-ok _ _ (fit (sorted an-integer) _ some (omega arith) (bytes-plain an-integer _ refl)))

    float_fits : Holds (Fits n r) (read_float s t)
    unfolding read_float need room span
    float_fits =
        chosen (Holds (Fits n r)) (ltb 19 (t.end - t.start)) _ _ (λ h. holds-aside _ _)
        (λ h. holds-ok _ _ (fit (sorted a-float) _ some (omega arith) (bytes-plain a-float _ refl)))

    leaf-fits : (want : Want) → Holds (Fits n r) (read_leaf s want t)
    unfolding read_leaf
    leaf-fits want =
        chosen (Holds (Fits n r)) (eqb t.kind Kind.LITERAL) _ _ (λ h. literal-fits)
        (λ h. chosen (Holds (Fits n r)) (eqb t.kind Kind.NAME) _ _ (λ k. name-fits want)
        (λ k. chosen (Holds (Fits n r)) (eqb t.kind Kind.DIGITS) _ _ (λ l. digits-fit) (λ l. float_fits)))

  abbrev At : ℕ → ℕ → Parsed Part → Type 0
  At level nest = Holds (Fits (deep level nest) (wide level nest))

  -- what an expression is at a depth
  abbrev Expressions : ℕ → Type 0
  Expressions d = (level : ℕ) (want : Want) (row nest : ℕ) (t : Token) → nest ≤ 16 → level ≤ 6 → (want ≡ want-any → level ≤ 2) → At level nest (read_expression d s level want row nest t)

  closing-fits : (n r : ℕ) (x : PartSort) (e : Expr) (t : Token) → need e ≤ n → room e ≤ r → Plain x e → Holds (Fits n r) (closing s x e t)
  closing-fits n r x e t i j p = chosen (Holds (Fits n r)) (eqb t.kind Kind.CLOSE) _ _ (λ h. holds-ok _ _ (fit x e i j p)) (λ h. holds-aside _ _)

  module _ (d : ℕ) (expression : Expressions d) where
    prefixed-fits : (op : Unary) (want : Want) (row nest : ℕ) (t : Token) → nest ≤ 16 → inner want ≤ Table.operand_level op → At (inner want) nest (read_prefixed (suc d) s op want row nest t)
    unfolding read_prefixed
    prefixed-fits op want row nest t few h =
        chosen (At (inner want) nest) (leb 16 row) _ _ (λ k. holds-aside _ _)
        (λ k. on-holds (deep (Table.operand_level op) nest) (wide (Table.operand_level op) nest) (Fits (deep (inner want) nest) (wide (inner want) nest))
        (read_expression d s (Table.operand_level op) (Table.operand_want op want) (row + 1) nest (next_at s t.end)) (λ x e n. applied (unary (Table.prefix_of op x)) (unary_takes (Table.prefix_of op x)) (unary_gives (Table.prefix_of op x)) x e n)
        (λ x e n i j p. unary-fits (deep (inner want) nest) (wide (inner want) nest) (Table.prefix_of op x) x e n (omega (arith, i, deep_more nest (inner want) (Table.operand_level op) h))
        (omega (arith, j, wide-more nest (inner want) (Table.operand_level op) h)) (wide-least nest (inner want) few))
        (expression (Table.operand_level op) (Table.operand_want op want) (row + 1) nest (next_at s t.end) few (operand-level-most op) (operand-wanted op want)))

    bracketed-fits : (want : Want) (nest : ℕ) (t : Token) → At (inner want) nest (read_bracketed (suc d) s want nest t)
    unfolding read_bracketed
    bracketed-fits want nest t =
        chosen (At (inner want) nest) (leb 16 nest) _ _ (λ k. holds-aside _ _)
        (λ k. let few : nest < 16 = leb-false 16 nest k in
        on-holds (deep (Table.inside_level want) (nest + 1)) (wide (Table.inside_level want) (nest + 1)) (Fits (deep (inner want) nest) (wide (inner want) nest))
        (read_expression d s (Table.inside_level want) want 0 (nest + 1) (next_at s t.end)) (λ x e n. closing s x e n)
        (λ x e n i j p. closing-fits (deep (inner want) nest) (wide (inner want) nest) x e n (omega (arith, i, inside-deep want nest few)) (omega (arith, j, inside-wide want nest few)) p)
        (expression (Table.inside_level want) want 0 (nest + 1) (next_at s t.end) (omega (arith, few)) (inside-most want) (inside-wanted want)))

    joined-fits : (level nest : ℕ) (sort : PartSort) (k : ℕ) (e : Expr) (at : ℕ) (op : Binary) → Table.operator sort k ≡ Table.between op → level ≤ Table.level_of op → nest ≤ 16
        → need e ≤ deep level nest → room e ≤ wide level nest → Plain sort e → At level nest (read_joined (suc d) s op nest sort e at)
    unfolding read_joined Table.right_level
    joined-fits level nest sort k e at op o l few i j p =
        on-holds (deep (Table.right_level op) nest) (wide (Table.right_level op) nest) (Fits (deep level nest) (wide level nest))
        (read_expression d s (Table.right_level op) (Table.right_want op) 0 nest (next_at s at)) (λ x f n. applied (binary op (settled_tree takes sort e)) (binary_takes op) (binary_gives op) x f n)
        (λ x f n i' j' q. binary-fits (deep level nest) (wide level nest) op (settled_tree takes sort e) x f n (deep (Table.right_level op) nest) (wide (Table.right_level op) nest)
        (settled-need takes sort e (deep level nest) i) (settled-room takes sort e (wide level nest) j) i' j'
        (deep_step (16 - nest) level (Table.level_of op) l (level-most op))
        (wide_step (span (settled_tree takes sort e)) (17 - nest) (lift (Table.level_of op + 1)) (lift (Table.level_of op)) (lift level) (steep sort k e p op o) (lift-more level (Table.level_of op) l)))
        (expression (Table.right_level op) (Table.right_want op) 0 nest (next_at s at) few (omega (arith, level-most op)) (right-wanted op))
      where
        takes : Sort
        takes = binary_takes op

  -- where a chain stands
  module _ (level nest : ℕ) (few : nest ≤ 16) where
    abbrev Stands : State → Type 0
    Stands x = Fits (deep level nest) (wide level nest) (part x.1 x.2)

    abbrev Turned : Step State (Parsed Part) → Type 0
    Turned = Kept Stands (At level nest)

    on-joined : (t : Token) (q : Parsed Part) → At level nest q → Turned (on_joined t q)
    on-joined t _ (holds-aside r p) = kept-done (aside r p) (holds-aside r p)
    on-joined t _ (holds-ok _ n (fit x e i j p)) =
        chosen Turned (leb n.start t.start) _ _ (λ h. kept-done (aside 0 t.start) (holds-aside 0 t.start)) (λ h. kept_next (n, x, e) (fit x e i j p))

    module _ (d : ℕ) (joined : (sort : PartSort) (k : ℕ) (e : Expr) (at : ℕ) (op : Binary) → Table.operator sort k ≡ Table.between op → level ≤ Table.level_of op
        → need e ≤ deep level nest → room e ≤ wide level nest → Plain sort e → At level nest (read_joined d s op nest sort e at)) where
      abbrev turn : State → Step State (Parsed Part)
      turn = chain_turn (λ op nest sort e at. read_joined d s op nest sort e at) s level nest

      turn_at : (t : Token) (sort : PartSort) (e : Expr) → need e ≤ deep level nest → room e ≤ wide level nest → Plain sort e → Turned (turn (t, sort, e))
      turn_at t sort e i j p =
          chosen Turned (leb (length s) t.start) _ _ (λ h. kept-done _ (holds-ok _ t (fit sort e i j p)))
          (λ h. chosen Turned (Table.binds level (Table.operator sort t.kind)) _ _
          (λ k. infix-cases Turned (Table.operator sort t.kind) _ _ (λ l. kept-done _ (holds-ok _ t (fit sort e i j p)))
          (λ op l. on-joined t _ (joined sort t.kind e t.end op l (binds-level level op (rw l at k)) i j p)))
          (λ k. kept-done _ (holds-ok _ t (fit sort e i j p))))

      turn-fits : (x : State) → Stands x → Turned (turn x)
      turn-fits (t, sort, e) (fit _ _ i j p) = turn_at t sort e i j p

      chain_fits : (sort : PartSort) (e : Expr) (t : Token) → need e ≤ deep level nest → room e ≤ wide level nest → Plain sort e → At level nest (read_chain (suc d) s level nest sort e t)
      unfolding read_chain
      chain_fits sort e t i j p =
          loop-keeps (λ x. length s - x.0.start) (λ x. aside 0 x.0.start) turn Stands (At level nest) (λ x. holds-aside _ _) turn-fits (t, sort, e) (fit sort e i j p)

  operand-fits : (d : ℕ) → ((op : Unary) (want : Want) (row nest : ℕ) (t : Token) → nest ≤ 16 → inner want ≤ Table.operand_level op → At (inner want) nest (read_prefixed d s op want row nest t))
      → ((want : Want) (nest : ℕ) (t : Token) → At (inner want) nest (read_bracketed d s want nest t))
      → (want : Want) (row nest : ℕ) (t : Token) → nest ≤ 16 → At (inner want) nest (read_operand (suc d) s want row nest t)
  unfolding read_operand
  operand-fits d prefixed bracketed want row nest t few =
      chosen (At (inner want) nest) (Table.allows want t.kind) _ _
      (λ h. prefix_cases (At (inner want) nest) (Table.prefix_operator t.kind) _ _
      (λ k. chosen (At (inner want) nest) (eqb t.kind Kind.OPEN) _ _ (λ l. bracketed want nest t)
      (λ l. leaf-fits (deep (inner want) nest) (wide (inner want) nest) (omega arith) (wide-least nest (inner want) few) t want))
      (λ op k. prefixed op want row nest t few (inner-prefix want t.kind op h k)))
      (λ h. holds-aside _ _)

  -- the depths go down by one, as the readers' do
  mutual
    unfolding read_expression

    pub expression-fits : (d level : ℕ) (want : Want) (row nest : ℕ) (t : Token) → nest ≤ 16 → level ≤ 6 → (want ≡ want-any → level ≤ 2) → At level nest (read_expression d s level want row nest t)
    expression-fits zero level want row nest t few h w = holds-aside _ _
    expression-fits (suc d) level want row nest t few h w =
        on-holds (deep level nest) (wide level nest) (Fits (deep level nest) (wide level nest)) (read_operand d s want row nest t) (λ sort e n. read_chain d s level nest sort e n)
        (λ sort e n i j p. chain-at d level nest sort e n few i j p)
        (fit-more (deep (inner want) nest) (wide (inner want) nest) (deep level nest) (wide level nest) (deep_more nest level (inner want) (inner-level want level h w)) (wide-more nest level (inner want) (inner-level want level h w))
        (read_operand d s want row nest t) (operand_at d want row nest t few))

    operand_at : (d : ℕ) (want : Want) (row nest : ℕ) (t : Token) → nest ≤ 16 → At (inner want) nest (read_operand d s want row nest t)
    operand_at zero want row nest t few = holds-aside _ _
    operand_at (suc d) want row nest t few = operand-fits d (λ op want row nest t few h. prefixed-at d op want row nest t few h) (λ want nest t. bracketed-at d want nest t) want row nest t few

    prefixed-at : (d : ℕ) (op : Unary) (want : Want) (row nest : ℕ) (t : Token) → nest ≤ 16 → inner want ≤ Table.operand_level op → At (inner want) nest (read_prefixed d s op want row nest t)
    prefixed-at zero op want row nest t few h = holds-aside _ _
    prefixed-at (suc d) op want row nest t few h = prefixed-fits d (λ level want row nest t few h w. expression-fits d level want row nest t few h w) op want row nest t few h

    bracketed-at : (d : ℕ) (want : Want) (nest : ℕ) (t : Token) → At (inner want) nest (read_bracketed d s want nest t)
    bracketed-at zero want nest t = holds-aside _ _
    bracketed-at (suc d) want nest t = bracketed-fits d (λ level want row nest t few h w. expression-fits d level want row nest t few h w) want nest t

    chain-at : (d level nest : ℕ) (sort : PartSort) (e : Expr) (t : Token) → nest ≤ 16 → need e ≤ deep level nest → room e ≤ wide level nest → Plain sort e → At level nest (read_chain d s level nest sort e t)
    chain-at zero level nest sort e t few i j p = holds-aside _ _
    chain-at (suc d) level nest sort e t few i j p = chain_fits level nest few d (λ sort k e at op o l i j p. joined_at_lem d level nest sort k e at op o l few i j p) sort e t i j p

    joined_at_lem : (d level nest : ℕ) (sort : PartSort) (k : ℕ) (e : Expr) (at : ℕ) (op : Binary) → Table.operator sort k ≡ Table.between op → level ≤ Table.level_of op → nest ≤ 16
        → need e ≤ deep level nest → room e ≤ wide level nest → Plain sort e → At level nest (read_joined d s op nest sort e at)
    joined_at_lem zero level nest sort k e at op o l few i j p = holds-aside _ _
    joined_at_lem (suc d) level nest sort k e at op o l few i j p = joined-fits d (λ level want row nest t few h w. expression-fits d level want row nest t few h w) level nest sort k e at op o l few i j p
