-- How much room a program that was read needs to run, by the brackets still to be opened. Assumes nothing.
use Rattle.std.specs.Prelude.{◌≡◌, List, eqb, leb}
use Prim.Native.Nat.{ℕ, zero, suc, ◌+◌, ◌-◌, ◌*◌, ◌<◌, ◌≤◌, max}
use Rattle.std.proofs.Common.{arith, leb-false}
use Rattle.std.proofs.Math.ListN.{length}
use Rattle.text.specs.Loop.{Step}
use Rattle.lexical.specs.Kind
use Rattle.lexical.specs.Theorems.Bounds.{chosen}
use Rattle.lexical.specs.declared.token.Token.{Token}
use Rattle.syntax.specs.Expr.{Expr, Program, none, also, Clause, plain, valued, nested}
use Rattle.syntax.specs.Parsed.{Parsed, aside}
use Rattle.machine.specs.Working.Need.{need, span, room, program_need, clause_need, program_room, clause_room}
use Rattle.syntax.specs.Operator.{a-string, a_test}
use Rattle.conditions.specs.Table.{PartSort, want-any, want-string, fits, stops}
use Rattle.conditions.specs.Working.Reach.{string-any}
use Rattle.conditions.specs.Word.{next_at}
use Rattle.conditions.specs.Operand.{settled_tree}
use Rattle.conditions.specs.Expression.{read_expression}
use Rattle.conditions.specs.Program.{State, clause_end, valuing, stopping, on_clause, clauses_turn, read_clause, read_tested, read_value, read_nested, read_block, read_clauses}
use Rattle.conditions.specs.Working.Keeping.{Kept, kept_next, kept-done, loop-keeps}
use Rattle.judge.specs.Working.Steep.{Plain, settled-test}
use Rattle.judge.specs.Working.Fit.{Holds, holds-aside, holds-ok, on-holds, then-holds, deep, wide, wide-more, settled-need, settled-room, expression-fits}

-- a clause at a nest, and a program, which holds a rank below its clauses
abbrev pub ClauseFits : ℕ → Clause → Type 0
ClauseFits nest q = (clause_need q ≤ deep 0 nest) × (clause_room q ≤ wide 0 nest)

abbrev pub ProgramFits : ℕ → Program → Type 0
ProgramFits nest p = (program_need p ≤ 1 + deep 0 nest) × (program_room p ≤ wide 0 nest)

deep-value : (n : ℕ) → 1 + (6 * n + (6 - 3) + 1) ≤ 6 * n + (6 - 0) + 1
deep-value n = omega arith

deep-block : (nest : ℕ) → nest < 16 → 2 + deep 0 (nest + 1) ≤ deep 0 nest
deep-block nest h = omega (arith, h)

wide-block : (nest : ℕ) → nest < 16 → wide 0 (nest + 1) ≤ wide 0 nest
wide-block nest h = omega (arith, h)

-- the three clauses, behind a test
module _ (nest : ℕ) (e : Expr) (i : need e ≤ deep 0 nest) (j : room e ≤ wide 0 nest) (z : span e ≡ 0) where
  plain_fits : ClauseFits nest (plain e)
  unfolding clause_need clause_room
  plain_fits = (i, j)

  valued_fits : (f : Expr) → need f ≤ deep 3 nest → room f ≤ wide 3 nest → ClauseFits nest (valued e f)
  unfolding clause_need clause_room
  valued_fits f k l = (parts (need e) (need f) (deep 3 nest) (deep 0 nest) i k (deep-value (16 - nest)), bytes (room e) (span e) (room f) (wide 3 nest) (wide 0 nest) j z l (wide-more nest 0 3 (omega arith)))
    where
      parts : (a b m n : ℕ) → a ≤ n → b ≤ m → 1 + m ≤ n → max a (1 + b) ≤ n
      parts a b m n h k l = omega (arith, h, k, l)

      bytes : (a c b m n : ℕ) → a ≤ n → c ≡ 0 → b ≤ m → m ≤ n → max a (c + b) ≤ n
      bytes a c b m n h g k l = omega (arith, h, g, k, l)

  nested-fits : (p : Program) → nest < 16 → ProgramFits (nest + 1) p → ClauseFits nest (nested e p)
  unfolding clause_need clause_room
  nested-fits p few (k, l) =
      (parts (need e) (program_need p) (deep 0 (nest + 1)) (deep 0 nest) i k (deep-block nest few), bytes (room e) (span e) (program_room p) (wide 0 (nest + 1)) (wide 0 nest) j z l (wide-block nest few))
    where
      parts : (a b m n : ℕ) → a ≤ n → b ≤ 1 + m → 2 + m ≤ n → max a (1 + b) ≤ n
      parts a b m n h k l = omega (arith, h, k, l)

      bytes : (a c b m n : ℕ) → a ≤ n → c ≡ 0 → b ≤ m → m ≤ n → max a (c + b) ≤ n
      bytes a c b m n h g k l = omega (arith, h, g, k, l)

none-fits : (nest : ℕ) → ProgramFits nest none
unfolding program_need program_room
none-fits nest = (omega arith, omega arith)

also-fits : (nest : ℕ) (p : Program) (q : Clause) → ProgramFits nest p → ClauseFits nest q → ProgramFits nest (also p q)
unfolding program_need program_room
also-fits nest p q (i, j) (k, l) = (parts (program_need p) (clause_need q) (deep 0 nest) i k, bytes (program_room p) (clause_room q) (wide 0 nest) j l)
  where
    parts : (a b n : ℕ) → a ≤ 1 + n → b ≤ n → max a (1 + b) ≤ 1 + n
    parts a b n h k = omega (arith, h, k)

    bytes : (a b n : ℕ) → a ≤ n → b ≤ n → max a b ≤ n
    bytes a b n h k = omega (arith, h, k)

module _ (s : List ℕ) where
  ended-fits : (nest : ℕ) (q : Clause) (t : Token) → ClauseFits nest q → Holds (ClauseFits nest) (clause_end s q t)
  unfolding clause_end
  ended-fits nest q t h = chosen (Holds (ClauseFits nest)) (eqb t.kind Kind.SEMICOLON) _ _ (λ e. holds-ok q _ h) (λ e. holds-aside _ _)

  valuing-fits : (nest : ℕ) (e : Expr) → need e ≤ deep 0 nest → room e ≤ wide 0 nest → span e ≡ 0 → (x : PartSort) (f : Expr) (t : Token) → need f ≤ deep 3 nest → room f ≤ wide 3 nest
      → Holds (ClauseFits nest) (valuing s e x f t)
  unfolding valuing
  valuing-fits nest e i j z x f t k l =
      chosen (Holds (ClauseFits nest)) (fits a-string x) _ _
      (λ h. ended-fits nest _ t (valued_fits nest e i j z (settled_tree a-string x f) (settled-need a-string x f (deep 3 nest) k) (settled-room a-string x f (wide 3 nest) l)))
      (λ h. holds-aside _ _)

  -- where a program stands
  module _ (nest : ℕ) where
    abbrev Stands : State → Type 0
    Stands x = ProgramFits nest x.1

    abbrev Turned : Step State (Parsed Program) → Type 0
    Turned = Kept Stands (Holds (ProgramFits nest))

    on-clause : (x : State) → Stands x → (q : Parsed Clause) → Holds (ClauseFits nest) q → Turned (on_clause x.0 x.1 q)
    on-clause x h _ (holds-aside r p) = kept-done (aside r p) (holds-aside r p)
    on-clause x h _ (holds-ok c n k) =
        chosen Turned (leb n.start x.0.start) _ _ (λ e. kept-done (aside 0 x.0.start) (holds-aside 0 x.0.start))
        (λ e. kept_next (n, also x.1 c) (also-fits nest x.1 c h k))

    stopped : (p : Program) (t : Token) → ProgramFits nest p → Holds (ProgramFits nest) (stopping nest p t)
    unfolding stopping
    stopped p t h = chosen (Holds (ProgramFits nest)) (stops nest t.kind) _ _ (λ e. holds-ok p t h) (λ e. holds-aside _ _)

    module _ (d : ℕ) (clause : (t : Token) → Holds (ClauseFits nest) (read_clause d s nest t)) where
      abbrev turn : State → Step State (Parsed Program)
      turn = clauses_turn (λ nest t. read_clause d s nest t) s nest

      turn-fits : (x : State) → Stands x → Turned (turn x)
      turn-fits x h =
          chosen Turned (leb (length s) x.0.start) _ _ (λ e. kept-done _ (stopped x.1 x.0 h))
          (λ e. chosen Turned (stops nest x.0.kind) _ _ (λ f. kept-done _ (holds-ok x.1 x.0 h)) (λ f. on-clause x h _ (clause x.0)))

      clauses-fit : (t : Token) → Holds (ProgramFits nest) (read_clauses (suc d) s nest t)
      unfolding read_clauses
      clauses-fit t =
          loop-keeps (λ x. length s - x.0.start) (λ x. aside 0 x.0.start) turn Stands (Holds (ProgramFits nest)) (λ x. holds-aside _ _) turn-fits (t, none) (none-fits nest)

  mutual
    unfolding read_clause

    clause-at : (d nest : ℕ) (t : Token) → nest ≤ 16 → Holds (ClauseFits nest) (read_clause d s nest t)
    clause-at zero nest t few = holds-aside _ _
    clause-at (suc d) nest t few =
        on-holds (deep 0 nest) (wide 0 nest) (ClauseFits nest) (read_expression d s 0 want-any 0 nest t) (λ sort e n. read_tested d s nest sort e n)
        (λ sort e n i j p. tested_at_lem d nest sort e n few i j p) (expression-fits s d 0 want-any 0 nest t few (omega arith) (λ z. omega arith))

    tested_at_lem : (d nest : ℕ) (sort : PartSort) (e : Expr) (t : Token) → nest ≤ 16 → need e ≤ deep 0 nest → room e ≤ wide 0 nest → Plain sort e → Holds (ClauseFits nest) (read_tested d s nest sort e t)
    tested_at_lem zero nest sort e t few i j p = holds-aside _ _
    tested_at_lem (suc d) nest sort e t few i j p =
        chosen (Holds (ClauseFits nest)) (fits a_test sort) _ _
        (λ h. chosen (Holds (ClauseFits nest)) (eqb t.kind Kind.ARROW) _ _
        (λ k. value-at d nest (settled_tree a_test sort e) (next_at s t.end) few (settled-need a_test sort e (deep 0 nest) i) (settled-room a_test sort e (wide 0 nest) j) (settled-test sort e h p))
        (λ k. ended-fits nest (plain (settled_tree a_test sort e)) t
        (plain_fits nest (settled_tree a_test sort e) (settled-need a_test sort e (deep 0 nest) i) (settled-room a_test sort e (wide 0 nest) j) (settled-test sort e h p))))
        (λ h. holds-aside _ _)

    value-at : (d nest : ℕ) (e : Expr) (t : Token) → nest ≤ 16 → need e ≤ deep 0 nest → room e ≤ wide 0 nest → span e ≡ 0 → Holds (ClauseFits nest) (read_value d s nest e t)
    value-at zero nest e t few i j z = holds-aside _ _
    value-at (suc d) nest e t few i j z =
        chosen (Holds (ClauseFits nest)) (eqb t.kind Kind.OPEN_BRACE) _ _ (λ h. nested-at d nest e t i j z)
        (λ h. on-holds (deep 3 nest) (wide 3 nest) (ClauseFits nest) (read_expression d s 3 want-string 0 nest t) (λ sort f n. valuing s e sort f n)
        (λ sort f n k l p. valuing-fits nest e i j z sort f n k l) (expression-fits s d 3 want-string 0 nest t few (omega arith) (λ w. string-any w)))

    nested-at : (d nest : ℕ) (e : Expr) (t : Token) → need e ≤ deep 0 nest → room e ≤ wide 0 nest → span e ≡ 0 → Holds (ClauseFits nest) (read_nested d s nest e t)
    nested-at zero nest e t i j z = holds-aside _ _
    nested-at (suc d) nest e t i j z =
        chosen (Holds (ClauseFits nest)) (leb 16 nest) _ _ (λ h. holds-aside _ _)
        (λ h. let few : nest < 16 = leb-false 16 nest h in
        then-holds (ProgramFits (nest + 1)) (ClauseFits nest) (read_block d s (nest + 1) (next_at s t.end)) (λ p n. clause_end s (nested e p) (next_at s n.end))
        (λ p n k. ended-fits nest (nested e p) (next_at s n.end) (nested-fits nest e i j z p few k)) (block_at d (nest + 1) (next_at s t.end) (omega (arith, few))))

    pub block_at : (d nest : ℕ) (t : Token) → nest ≤ 16 → Holds (ProgramFits nest) (read_block d s nest t)
    block_at zero nest t few = holds-aside _ _
    block_at (suc d) nest t few = clauses-at d nest t few

    clauses-at : (d nest : ℕ) (t : Token) → nest ≤ 16 → Holds (ProgramFits nest) (read_clauses d s nest t)
    clauses-at zero nest t few = holds-aside _ _
    clauses-at (suc d) nest t few = clauses-fit nest d (λ t. clause-at d nest t few) t
