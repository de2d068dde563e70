-- The token behind a Conditions field is a token of its text. Assumes nothing.
use Rattle.std.specs.Prelude.{◌≡◌, List, eqb, leb}
use Prim.Native.Nat.{ℕ, zero, suc, ◌+◌, ◌-◌}
use Rattle.std.proofs.Math.ListN.{length}
use Rattle.text.specs.Loop.{Step}
use Rattle.lexical.specs.Kind
use Rattle.lexical.specs.Theorems.Bounds.{chosen}
use Rattle.lexical.specs.declared.token.Token.{Token}
use Rattle.syntax.specs.Expr.{Expr, Program, none, also, Clause, nested}
use Rattle.syntax.specs.Parsed.{Parsed, ok, aside, and_then}
use Rattle.syntax.specs.Stood.{Stood, stood-at}
use Rattle.syntax.specs.Operator.{a-string, a_test}
use Rattle.conditions.specs.Table.{PartSort, want-any, want-string, fits, stops}
use Rattle.conditions.specs.Parsed.{Part, part, on_part}
use Rattle.conditions.specs.Word.{next_at}
use Rattle.conditions.specs.Expression.{read_expression}
use Rattle.conditions.specs.Working.Keeping.{Kept, kept_next, kept-done, loop-keeps}
use Rattle.conditions.specs.Program.{State, clause_end, valuing, stopping, on_clause, clauses_turn, read_clause, read_tested, read_value, read_nested, read_block, read_clauses, read_program, DEPTH}
use Rattle.limits.specs.Limits.{most_brackets}

-- a fault, or a token of the text behind what was read
pub data Behind {A : Type 0} (s : List ℕ) : Parsed A → Type 0 where
  behind-aside : (r p : ℕ) → Behind s (aside r p)
  behind-ok : (a : A) (n : Token) → Stood s n → Behind s (ok a n)

module _ (s : List ℕ) where
  on-behind : {A : Type 0} (q : Parsed Part) (k : PartSort → Expr → Token → Parsed A) → ((x : PartSort) (e : Expr) (n : Token) → Behind s (k x e n)) → Behind s (on_part q k)
  on-behind (aside r p) k h = behind-aside r p
  on-behind (ok (part x e) n) k h = h x e n

  then-behind : {A B : Type 0} (q : Parsed A) (k : A → Token → Parsed B) → ((a : A) (n : Token) → Behind s (k a n)) → Behind s (and_then q k)
  then-behind (aside r p) k h = behind-aside r p
  then-behind (ok a n) k h = h a n

  -- a clause ends with a ";"
  ended-behind : (q : Clause) (t : Token) → Behind s (clause_end s q t)
  unfolding clause_end
  ended-behind q t = chosen (Behind s) (eqb t.kind Kind.SEMICOLON) _ _ (λ e. behind-ok q _ (stood-at s Kind.IN_FIELD t.end)) (λ e. behind-aside _ _)

  valued-behind : (e : Expr) (sort : PartSort) (f : Expr) (t : Token) → Behind s (valuing s e sort f t)
  unfolding valuing
  valued-behind e sort f t = chosen (Behind s) (fits a-string sort) _ _ (λ h. ended-behind _ t) (λ h. behind-aside _ _)

  nested-behind : (d nest : ℕ) (e : Expr) (t : Token) → Behind s (read_nested d s nest e t)
  unfolding read_nested
  nested-behind zero nest e t = behind-aside _ _
  nested-behind (suc d) nest e t =
      chosen (Behind s) (leb most_brackets nest) _ _ (λ h. behind-aside _ _) (λ h. then-behind (read_block d s (nest + 1) (next_at s t.end)) (λ p n. clause_end s (nested e p) (next_at s n.end)) (λ p n. ended-behind (nested e p) (next_at s n.end)))

  value-behind : (d nest : ℕ) (e : Expr) (t : Token) → Behind s (read_value d s nest e t)
  unfolding read_value
  value-behind zero nest e t = behind-aside _ _
  value-behind (suc d) nest e t =
      chosen (Behind s) (eqb t.kind Kind.OPEN_BRACE) _ _ (λ h. nested-behind d nest e t) (λ h. on-behind (read_expression d s 3 want-string 0 nest t) (λ x f n. valuing s e x f n) (λ x f n. valued-behind e x f n))

  tested-behind : (d nest : ℕ) (sort : PartSort) (e : Expr) (t : Token) → Behind s (read_tested d s nest sort e t)
  unfolding read_tested
  tested-behind zero nest sort e t = behind-aside _ _
  tested-behind (suc d) nest sort e t =
      chosen (Behind s) (fits a_test sort) _ _
      (λ h. chosen (Behind s) (eqb t.kind Kind.ARROW) _ _ (λ k. value-behind d nest _ _) (λ k. ended-behind _ t)) (λ h. behind-aside _ _)

  clause-behind : (d nest : ℕ) (t : Token) → Behind s (read_clause d s nest t)
  unfolding read_clause
  clause-behind zero nest t = behind-aside _ _
  clause-behind (suc d) nest t = on-behind (read_expression d s 0 want-any 0 nest t) (λ x e n. read_tested d s nest x e n) (λ x e n. tested-behind d nest x e n)

  -- the clauses of a program, one after the other
  module _ (d nest : ℕ) where
    abbrev Stands : State → Type 0
    Stands x = Stood s x.0

    abbrev Turned : Step State (Parsed Program) → Type 0
    Turned = Kept Stands (Behind s)

    abbrev turn : State → Step State (Parsed Program)
    turn = clauses_turn (λ nest t. read_clause d s nest t) s nest

    on-clause : (x : State) (q : Parsed Clause) → Behind s q → Turned (on_clause x.0 x.1 q)
    on-clause x _ (behind-aside r p) = kept-done (aside r p) (behind-aside r p)
    on-clause x _ (behind-ok c n h) =
        chosen Turned (leb n.start x.0.start) _ _ (λ e. kept-done (aside 0 x.0.start) (behind-aside 0 x.0.start)) (λ e. kept_next (n, also x.1 c) h)

    stopped : (p : Program) (t : Token) → Stood s t → Behind s (stopping nest p t)
    unfolding stopping
    stopped p t h = chosen (Behind s) (stops nest t.kind) _ _ (λ e. behind-ok p t h) (λ e. behind-aside _ _)

    turn-behind : (x : State) → Stands x → Turned (turn x)
    turn-behind x h =
        chosen Turned (leb (length s) x.0.start) _ _ (λ e. kept-done _ (stopped x.1 x.0 h))
        (λ e. chosen Turned (stops nest x.0.kind) _ _ (λ f. kept-done _ (behind-ok x.1 x.0 h)) (λ f. on-clause x _ (clause-behind d nest x.0)))

    clauses-behind : (t : Token) → Stood s t → Behind s (read_clauses (suc d) s nest t)
    unfolding read_clauses
    clauses-behind t h =
        loop-keeps (λ x. length s - x.0.start) (λ x. aside 0 x.0.start) turn Stands (Behind s) (λ x. behind-aside _ _) turn-behind (t, none) h

  block-behind : (d nest : ℕ) (t : Token) → Stood s t → Behind s (read_block d s nest t)
  unfolding read_block
  block-behind zero nest t h = behind-aside _ _
  block-behind (suc zero) nest t h = behind-aside _ _
  block-behind (suc (suc d)) nest t h = clauses-behind d nest t h

  behind-is : {A : Type 0} (a : A) (n : Token) → Behind s (ok a n) → Stood s n
  behind-is a n (behind-ok _ _ h) = h

  -- "the token behind it"
  pub read_behind : (t : Token) (p : Program) (n : Token) → read_program s t ≡ ok p n → Stood s t → Stood s n
  unfolding read_program
  read_behind t p n e h = let k : Behind s (read_block DEPTH s 0 t) = block-behind DEPTH 0 t h in behind-is p n (rw e at k)
