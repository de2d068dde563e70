-- Where a string is wanted and no comparison may follow, a string is read, and a token of the text is behind it. Assumes nothing.
use Rattle.std.specs.Prelude.{◌≡◌, refl, List, ℕ, zero, suc, ◌+◌, ◌-◌, ◌≤◌, eqb, leb, ltb}
use Rattle.std.proofs.Common.{sym, ap, arith}
use Rattle.std.proofs.Math.Bool.{Bool, true, false}
use Rattle.std.proofs.Math.ListN.{length}
use borrow.Author.Tests.{lt-leb, eqb-true}
use Rattle.text.specs.Choice.{split, clash}
use Rattle.lexical.specs.Kind
use Rattle.lexical.specs.Theorems.Bounds.{chosen}
use Rattle.lexical.specs.Literal.{decoded_at}
use Rattle.lexical.specs.declared.token.Token.{Token}
use Rattle.syntax.specs.Operator.{Unary, Binary, a-string, unary_takes, unary_gives, binary_takes, binary_gives}
use Rattle.syntax.specs.Operator as Operator
use Rattle.syntax.specs.Expr.{Expr, unary, binary}
use Rattle.syntax.specs.Parsed.{Parsed, ok, aside}
use Rattle.syntax.specs.Stood.{Stood, stood-at}
use Rattle.conditions.specs.Table.{PartSort, sorted, Want, want-string, Infix, no-infix, between, Prefix, no-prefix, before}
use Rattle.conditions.specs.Table as Table
use Rattle.conditions.specs.Word.{next_at, word_sort}
use Rattle.conditions.specs.Parsed.{Part, part, on_part}
use Rattle.conditions.specs.Operand.{read_leaf, read_literal, read_name, applied}
use Rattle.conditions.specs.Expression.{read_expression, read_operand, read_prefixed, read_bracketed, read_chain, read_joined, State, chain_turn, on_joined}
use Rattle.conditions.specs.Working.Cases.{infix-cases, prefix_cases}
use Rattle.conditions.specs.Working.Keeping.{Kept, kept_next, kept-done, loop-keeps}

-- the only prefix operator of a string is "$"
lookup-only : (k : ℕ) → Table.allows want-string k ≡ true → (op : Unary) → Table.prefix_operator k ≡ before op → op ≡ Operator.lookup
unfolding Table.allows Table.begins_string Table.prefix_operator
lookup-only k a op h =
    split (eqb k Kind.DOLLAR)
    (λ e. let z : k ≡ Kind.DOLLAR = eqb-true k Kind.DOLLAR e in let g : before Operator.lookup ≡ before op = rw z at h in before-is g)
    (λ e. split (eqb k Kind.OPEN)
    (λ f. let z : k ≡ Kind.OPEN = eqb-true k Kind.OPEN f in never (rw z at h))
    (λ f. split (eqb k Kind.LITERAL)
    (λ g. let z : k ≡ Kind.LITERAL = eqb-true k Kind.LITERAL g in never (rw z at h))
    (λ g. split (eqb k Kind.NAME)
    (λ i. let z : k ≡ Kind.NAME = eqb-true k Kind.NAME i in never (rw z at h))
    (λ i. clash (rw (f, g, i, e) at a) refl))))
  where
    is_before : Prefix → Bool
    is_before no-prefix = false
    is_before (before op) = true

    never : {P : Type 0} → no-prefix ≡ before op → P
    never g = clash (ap is_before g) refl

    op_of : Prefix → Unary
    op_of no-prefix = op
    op_of (before o) = o

    before-is : before Operator.lookup ≡ before op → op ≡ Operator.lookup
    before-is g = sym (ap op_of g)

-- the only operator behind one that binds so tightly is "."
join-only : (level k : ℕ) → 3 ≤ level → Table.binds level (Table.operator (sorted a-string) k) ≡ true → (op : Binary) → Table.operator (sorted a-string) k ≡ between op → op ≡ Operator.join
unfolding Table.binds Table.operator Table.text_operator Table.level_of Table.comparison
join-only level k h b op is =
    split (eqb k Kind.DOT) (λ e. let g : between Operator.join ≡ between op = rw e at is in sym (ap op_of g))
    (λ e. let low : leb level 2 ≡ false = lt-leb level 2 (omega (arith, h)) in
    split (eqb k Kind.MATCHES) (λ f. clash (rw (e, f, low) at b) refl)
    (λ f. split (eqb k Kind.EQUAL) (λ g. clash (rw (e, f, g, low) at b) refl)
    (λ g. split (eqb k Kind.UNEQUAL) (λ i. clash (rw (e, f, g, i, low) at b) refl)
    (λ i. split (eqb k Kind.LESS) (λ j. clash (rw (e, f, g, i, j, low) at b) refl)
    (λ j. split (eqb k Kind.GREATER) (λ l. clash (rw (e, f, g, i, j, l, low) at b) refl)
    (λ l. split (eqb k Kind.AT_MOST) (λ m. clash (rw (e, f, g, i, j, l, m, low) at b) refl)
    (λ m. split (eqb k Kind.AT_LEAST) (λ n. clash (rw (e, f, g, i, j, l, m, n, low) at b) refl) (λ n. clash (rw (e, f, g, i, j, l, m, n) at b) refl))))))))
  where
    op_of : Infix → Binary
    op_of no-infix = op
    op_of (between o) = o

-- a fault, or a string before a token of the text
pub data Strung (s : List ℕ) : Parsed Part → Type 0 where
  strung-aside : (r p : ℕ) → Strung s (aside r p)
  strung-ok : (e : Expr) (n : Token) → Stood s n → Strung s (ok (part (sorted a-string) e) n)

on-strung : {s : List ℕ} (q : Parsed Part) (k : PartSort → Expr → Token → Parsed Part)
    → ((e : Expr) (n : Token) → Stood s n → Strung s (k (sorted a-string) e n)) → Strung s q → Strung s (on_part q k)
on-strung _ k h (strung-aside r p) = strung-aside r p
on-strung _ k h (strung-ok e n st) = h e n st

module _ (s : List ℕ) where
  applied-strung : (f : Expr → Expr) (e : Expr) (n : Token) → Stood s n → Strung s (applied f a-string a-string (sorted a-string) e n)
  unfolding applied Table.fits
  applied-strung f e n st = strung-ok _ n st

  leaf-strung : (t : Token) → Table.allows want-string t.kind ≡ true → (eqb t.kind Kind.OPEN ≡ false) → (Table.prefix_operator t.kind ≡ no-prefix) → Strung s (read_leaf s want-string t)
  unfolding read_leaf read_literal read_name word_sort Table.allows Table.begins_string Table.prefix_operator
  leaf-strung t a o p =
      chosen (Strung s) (eqb t.kind Kind.LITERAL) _ _
      (λ e. chosen (Strung s) (ltb 2048 (length (decoded_at s t.start))) _ _ (λ f. strung-aside _ _) (λ f. strung-ok _ _ (stood-at s Kind.IN_FIELD t.end)))
      (λ e. chosen (Strung s) (eqb t.kind Kind.NAME) _ _ (λ f. strung-ok _ _ (stood-at s Kind.IN_FIELD t.end))
      (λ f. split (eqb t.kind Kind.DOLLAR) (λ g. let z : t.kind ≡ Kind.DOLLAR = eqb-true t.kind Kind.DOLLAR g in never (rw z at p)) (λ g. clash (rw (o, e, f, g) at a) refl)))
    where
      is_before : Prefix → Bool
      is_before no-prefix = false
      is_before (before op) = true

      never : {P : Type 0} → before Operator.lookup ≡ no-prefix → P
      never g = clash refl (ap is_before g)

  data Stands : State → Type 0 where
    stands : (t : Token) (e : Expr) → Stood s t → Stands (t, sorted a-string, e)

  on-turn : (t : Token) (q : Parsed Part) → Strung s q → Kept Stands (Strung s) (on_joined t q)
  on-turn t _ (strung-aside r p) = kept-done _ (strung-aside r p)
  on-turn t _ (strung-ok e n st) = chosen (Kept Stands (Strung s)) (leb n.start t.start) _ _ (λ f. kept-done _ (strung-aside _ _)) (λ f. kept_next _ (stands n e st))

  abbrev Expressions : ℕ → Type 0
  Expressions d = (level row nest : ℕ) (t : Token) → 3 ≤ level → Strung s (read_expression d s level want-string row nest t)

  prefixed-strung : (d : ℕ) → Expressions d → (row nest : ℕ) (t : Token) → Strung s (read_prefixed (suc d) s Operator.lookup want-string row nest t)
  unfolding read_expression Table.operand_level Table.operand_want
  prefixed-strung d inner row nest t =
      chosen (Strung s) (leb 16 row) _ _ (λ e. strung-aside _ _)
      (λ e. on-strung (read_expression d s 6 want-string (row + 1) nest (next_at s t.end)) _ (λ f n st. applied-strung (unary Operator.lookup) f n st)
      (inner 6 (row + 1) nest (next_at s t.end) (omega arith)))

  joined-strung : (d : ℕ) → Expressions d → (nest : ℕ) (x : Expr) (at : ℕ) → Strung s (read_joined (suc d) s Operator.join nest (sorted a-string) x at)
  unfolding read_expression Table.right_level Table.right_want Table.level_of
  joined-strung d inner nest x at =
      on-strung (read_expression d s 4 want-string 0 nest (next_at s at)) _ (λ f n st. applied-strung (binary Operator.join _) f n st)
      (inner 4 0 nest (next_at s at) (omega arith))

  bracketed-strung : (d : ℕ) → Expressions d → (nest : ℕ) (t : Token) → Strung s (read_bracketed (suc d) s want-string nest t)
  unfolding read_expression Table.inside_level
  bracketed-strung d inner nest t =
      chosen (Strung s) (leb 16 nest) _ _ (λ e. strung-aside _ _)
      (λ e. on-strung (read_expression d s 3 want-string 0 (nest + 1) (next_at s t.end)) _
      (λ f n st. chosen (Strung s) (eqb n.kind Kind.CLOSE) _ _ (λ g. strung-ok f _ (stood-at s Kind.IN_FIELD n.end)) (λ g. strung-aside _ _))
      (inner 3 0 (nest + 1) (next_at s t.end) (omega arith)))

  -- one more operator "." and its operand
  turn-strung : (d level nest : ℕ) → 3 ≤ level → ((x : Expr) (at : ℕ) → Strung s (read_joined d s Operator.join nest (sorted a-string) x at)) → (x : State) → Stands x
      → Kept Stands (Strung s) (chain_turn (λ op nest sort e at. read_joined d s op nest sort e at) s level nest x)
  turn-strung d level nest h joined _ (stands t e st) =
      chosen (Kept Stands (Strung s)) (leb (length s) t.start) _ _ (λ f. kept-done _ (strung-ok e t st))
      (λ f. chosen (Kept Stands (Strung s)) (Table.binds level (Table.operator (sorted a-string) t.kind)) _ _
      (λ b. infix-cases (Kept Stands (Strung s)) (Table.operator (sorted a-string) t.kind) _ _ (λ g. kept-done _ (strung-ok e t st))
      (λ op is. rw (join-only level t.kind h b op is) (on-turn t _ (joined e t.end))))
      (λ b. kept-done _ (strung-ok e t st)))

  chain-strung : (d level nest : ℕ) → 3 ≤ level → ((x : Expr) (at : ℕ) → Strung s (read_joined d s Operator.join nest (sorted a-string) x at)) → (e : Expr) (t : Token) → Stood s t
      → Strung s (read_chain (suc d) s level nest (sorted a-string) e t)
  unfolding read_expression
  chain-strung d level nest h joined e t st =
      loop-keeps (λ x. length s - x.0.start) (λ x. aside 0 x.0.start) (chain_turn (λ op nest sort e at. read_joined d s op nest sort e at) s level nest) Stands (Strung s)
      (λ x. strung-aside _ _) (λ x k. turn-strung d level nest h joined x k) (t, sorted a-string, e) (stands t e st)

  mutual
    unfolding read_expression

    pub expression-strung : (d : ℕ) → Expressions d
    expression-strung zero level row nest t h = strung-aside _ _
    expression-strung (suc d) level row nest t h =
        on-strung (read_operand d s want-string row nest t) (λ x e n. read_chain d s level nest x e n) (λ e n st. behind-strung d level nest e n h st) (operand-strung d row nest t)

    operand-strung : (d row nest : ℕ) (t : Token) → Strung s (read_operand d s want-string row nest t)
    operand-strung zero row nest t = strung-aside _ _
    operand-strung (suc d) row nest t =
        chosen (Strung s) (Table.allows want-string t.kind) _ _
        (λ a. prefix_cases (Strung s) (Table.prefix_operator t.kind) _ _
        (λ p. chosen (Strung s) (eqb t.kind Kind.OPEN) _ _ (λ f. opened-strung d nest t) (λ f. leaf-strung t a f p))
        (λ op is. rw (lookup-only t.kind a op is) (before-strung d row nest t)))
        (λ a. strung-aside _ _)

    before-strung : (d row nest : ℕ) (t : Token) → Strung s (read_prefixed d s Operator.lookup want-string row nest t)
    before-strung zero row nest t = strung-aside _ _
    before-strung (suc d) row nest t = prefixed-strung d (λ level row nest t h. expression-strung d level row nest t h) row nest t

    opened-strung : (d nest : ℕ) (t : Token) → Strung s (read_bracketed d s want-string nest t)
    opened-strung zero nest t = strung-aside _ _
    opened-strung (suc d) nest t = bracketed-strung d (λ level row nest t h. expression-strung d level row nest t h) nest t

    behind-strung : (d level nest : ℕ) (e : Expr) (t : Token) → 3 ≤ level → Stood s t → Strung s (read_chain d s level nest (sorted a-string) e t)
    behind-strung zero level nest e t h st = strung-aside _ _
    behind-strung (suc d) level nest e t h st = chain-strung d level nest h (λ x at. right-strung d nest x at) e t st

    right-strung : (d nest : ℕ) (x : Expr) (at : ℕ) → Strung s (read_joined d s Operator.join nest (sorted a-string) x at)
    right-strung zero nest x at = strung-aside _ _
    right-strung (suc d) nest x at = joined-strung d (λ level row nest t h. expression-strung d level row nest t h) nest x at
