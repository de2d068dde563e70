-- The ways out of the functions of `program`. Assumes nothing.
use mathlib.Core.Path.{◌≡◌, refl, sym, ap, ◌∙◌}
use mathlib.Core.Bool.{Bool, true, false}
use mathlib.Core.List.{List}
use Prim.Native.Nat.{ℕ, zero, suc, ◌+◌, ◌-◌, ◌<◌, ◌≤◌}
use native.Mathlib.Omega.{arith}
use lib.ListN.{length}
use borrow.Author.Tests.{lt-ltb, le-ltb, le-leb, lt-leb, eq-eqb, ne_eqb}
use Rattle.text.specs.Loop.{loop-next, loop-done}
use Rattle.lexical.specs.Kind
use Rattle.lexical.specs.declared.token.Token.{Token}
use Rattle.syntax.specs.Op
use Rattle.conditions.specs.Table.{stops}
use Rattle.conditions.specs.Working.Numbered.{ANY, TEST, TEXT, fits}
use Rattle.conditions.specs.Word.{next_at}
use Rattle.conditions.specs.Working.Emit.{found, Out, Ran, ran, above, put, word_top, word_written, refused, ended_at, valued_at}
use Rattle.conditions.specs.Working.Expression.{expr_at}
use Rattle.conditions.specs.Program.{DEPTH}
use Rattle.conditions.specs.Working.Program.{clause_at, tested_at, value_at, nested_at, program_at, clause_body, tested_body, value_body, nested_body, program_body, clauses_at, clauses_loop, clauses_rest, last_at, conditions_at}
use Rattle.syntax.specs.Working.Faults.{against}
use Rattle.syntax.specs.declared.fault.Fault.{Fault}
use Rattle.limits.specs.Limits.{most_brackets}
use Rattle.conditions.specs.declared.emit.Found.{Found}
use Rattle.std.specs.Prelude.{Ok, Err}

less : (d : ℕ) → suc d - 1 ≡ d
less d = omega arith

-- at a depth that is not 0 each definition is its body
module _ (s m : List ℕ) (top nest : ℕ) where
  clause-unfold : (d : ℕ) → (d ≡ 0 → ⊥) → (t : Token)
      → clause_at d s m top nest t ≡ clause_body (d - 1) (λ m top nest sort place t. tested_at (d - 1) s m top nest sort place t) s m top nest t
  unfolding clause_at
  clause-unfold zero nz t = absurd (nz refl)
  clause-unfold (suc d) nz t = ap (λ (k : ℕ). clause_body k (λ m top nest sort place t. tested_at k s m top nest sort place t) s m top nest t) (sym (less d))

  tested-unfold : (d : ℕ) → (d ≡ 0 → ⊥) → (sort place : ℕ) (t : Token)
      → tested_at d s m top nest sort place t ≡ tested_body (λ m top nest t. value_at (d - 1) s m top nest t) s m top nest sort place t
  unfolding clause_at
  tested-unfold zero nz sort place t = absurd (nz refl)
  tested-unfold (suc d) nz sort place t = ap (λ (k : ℕ). tested_body (λ m top nest t. value_at k s m top nest t) s m top nest sort place t) (sym (less d))

  value-unfold : (d : ℕ) → (d ≡ 0 → ⊥) → (t : Token)
      → value_at d s m top nest t ≡ value_body (d - 1) (λ m top nest t. nested_at (d - 1) s m top nest t) s m top nest t
  unfolding clause_at
  value-unfold zero nz t = absurd (nz refl)
  value-unfold (suc d) nz t = ap (λ (k : ℕ). value_body k (λ m top nest t. nested_at k s m top nest t) s m top nest t) (sym (less d))

  nested-unfold : (d : ℕ) → (d ≡ 0 → ⊥) → (t : Token)
      → nested_at d s m top nest t ≡ nested_body (λ m top nest t. program_at (d - 1) s m top nest t) s m top nest t
  unfolding clause_at
  nested-unfold zero nz t = absurd (nz refl)
  nested-unfold (suc d) nz t = ap (λ (k : ℕ). nested_body (λ m top nest t. program_at k s m top nest t) s m top nest t) (sym (less d))

  program-unfold : (d : ℕ) → (d ≡ 0 → ⊥) → (t : Token) → program_at d s m top nest t ≡ program_body (λ m top nest t. clauses_at (d - 1) s m top nest t) m top nest t
  unfolding clause_at
  program-unfold zero nz t = absurd (nz refl)
  program-unfold (suc d) nz t = ap (λ (k : ℕ). program_body (λ m top nest t. clauses_at k s m top nest t) m top nest t) (sym (less d))

  pub clauses-start : (d : ℕ) → (d ≡ 0 → ⊥) → (t : Token) → clauses_rest (d - 1) s m top nest t ≡ clauses_at d s m top nest t
  unfolding clause_at clauses_rest
  clauses-start zero nz t = absurd (nz refl)
  clauses-start (suc d) nz t = ap (λ (k : ℕ). clauses_loop (λ m top nest t. clause_at k s m top nest t) s m top nest t) (less d)

module _ (d : ℕ) (s m : List ℕ) (top nest : ℕ) (t : Token) (z : d ≡ 0) where
  pub clause-0 : ran (Err (against 0 t.start)) m ≡ clause_at d s m top nest t
  unfolding clause_at
  clause-0 = rw z

  pub tested-0 : (sort place : ℕ) → ran (Err (against 0 t.start)) m ≡ tested_at d s m top nest sort place t
  unfolding clause_at
  tested-0 sort place = rw z

  pub value-0 : ran (Err (against 0 t.start)) m ≡ value_at d s m top nest t
  unfolding clause_at
  value-0 = rw z

  pub nested-0 : ran (Err (against 0 t.start)) m ≡ nested_at d s m top nest t
  unfolding clause_at
  nested-0 = rw z

  pub program-0 : ran (Err (against 0 t.start)) m ≡ program_at d s m top nest t
  unfolding clause_at
  program-0 = rw z

  pub clauses-0 : ran (Err (against 0 t.start)) m ≡ clauses_at d s m top nest t
  unfolding clause_at
  clauses-0 = rw z

module _ (d : ℕ) (s m : List ℕ) (top nest : ℕ) (t : Token) (nz : d ≡ 0 → ⊥) where
  module _ (r : Out) (b : List ℕ) (re : ran r b ≡ expr_at (d - 1) s m top 0 ANY 0 nest t) where
    pub clause-aside : (f : Fault) → r ≡ Err f → ran (Err f) b ≡ clause_at d s m top nest t
    clause-aside f e = simp (clause-unfold s m top nest d nz, sym re, e)

    pub clause-found : (q : Found) → r ≡ Ok q → (y : Ran) → y ≡ tested_at (d - 1) s b q.top nest q.sort q.place q.next → y ≡ clause_at d s m top nest t
    clause-found q e y ye = simp (clause-unfold s m top nest d nz, sym re, e) ye

  module _ (sort place : ℕ) (f : Bool) (fe : f ≡ fits TEST sort) where
    pub tested-not : f ≡ false → (r : Out) → r ≡ refused t → ran r m ≡ tested_at d s m top nest sort place t
    tested-not h r e = simp (tested-unfold s m top nest d nz, sym fe, h, e)

    module _ (ft : f ≡ true) (u : ℕ) (b : List ℕ) (ue : u ≡ word_top m top sort) (be : b ≡ word_written m top TEST sort place) (y : Ran) where
      pub tested-value : t.kind ≡ Kind.ARROW → (n : Token) → n ≡ next_at s t.end → y ≡ value_at (d - 1) s b u nest n → y ≡ tested_at d s m top nest sort place t
      tested-value h n ne ye = simp (tested-unfold s m top nest d nz, sym fe, ft, sym ue, sym be, eq-eqb _ _ h, sym ne) ye

      pub tested-plain : (t.kind ≡ Kind.ARROW → ⊥) → y ≡ ended_at s b u Op.PLAIN t → y ≡ tested_at d s m top nest sort place t
      tested-plain h ye = simp (tested-unfold s m top nest d nz, sym fe, ft, sym ue, sym be, ne_eqb _ _ h) ye

  pub value-nested : t.kind ≡ Kind.OPEN_BRACE → (y : Ran) → y ≡ nested_at (d - 1) s m top nest t → y ≡ value_at d s m top nest t
  value-nested h y ye = simp (value-unfold s m top nest d nz, eq-eqb _ _ h) ye

  module _ (h : t.kind ≡ Kind.OPEN_BRACE → ⊥) (r : Out) (b : List ℕ) (re : ran r b ≡ expr_at (d - 1) s m top 3 TEXT 0 nest t) where
    pub value-aside : (f : Fault) → r ≡ Err f → ran (Err f) b ≡ value_at d s m top nest t
    value-aside f e = simp (value-unfold s m top nest d nz, ne_eqb _ _ h, sym re, e)

    pub value_found : (q : Found) → r ≡ Ok q → (y : Ran) → y ≡ valued_at s b q.top q.sort q.place q.next → y ≡ value_at d s m top nest t
    value_found q e y ye = simp (value-unfold s m top nest d nz, ne_eqb _ _ h, sym re, e) ye

  pub nested-full : most_brackets ≤ nest → ran (Err (against 7 t.start)) m ≡ nested_at d s m top nest t
  nested-full h = simp (nested-unfold s m top nest d nz, le-leb _ _ h)

  module _ (h : nest < most_brackets) (k : Token) (ke : k ≡ next_at s t.end) (r : Out) (b : List ℕ) (re : ran r b ≡ program_at (d - 1) s m top (nest + 1) k) where
    pub nested-aside : (f : Fault) → r ≡ Err f → ran (Err f) b ≡ nested_at d s m top nest t
    nested-aside f e = simp (nested-unfold s m top nest d nz, lt-leb _ _ h, sym ke, sym re, e)

    pub nested-found : (q : Found) → r ≡ Ok q → (j : Token) → j ≡ next_at s q.next.end → (y : Ran) → y ≡ ended_at s b q.top Op.NESTED j → y ≡ nested_at d s m top nest t
    nested-found q e j je y ye = simp (nested-unfold s m top nest d nz, lt-leb _ _ h, sym ke, sym re, e, sym je) ye

  pub program-made : (u : ℕ) (b : List ℕ) → u ≡ above m top → b ≡ put m top Op.BEGIN 0 → (y : Ran) → y ≡ clauses_at (d - 1) s b u nest t → y ≡ program_at d s m top nest t
  program-made u b ue be y ye = simp (program-unfold s m top nest d nz, sym ue, sym be) ye

module _ (nest top : ℕ) (t : Token) (f : Bool) (fe : f ≡ stops nest t.kind) where
  pub last_found : f ≡ true → found TEST 0 top t ≡ last_at nest top t
  unfolding last_at
  last_found h = simp (sym fe, h)

  pub last-not : f ≡ false → (r : Out) → r ≡ refused t → r ≡ last_at nest top t
  unfolding last_at
  last-not h r e = simp (sym fe, h) e

-- a turn of `clauses`, with the invariant `clauses_rest .. ≡ a`
module _ (k : ℕ) (s m : List ℕ) (top nest : ℕ) (t : Token) (a : Ran) (inv : clauses_rest k s m top nest t ≡ a) where
  pub clauses-end : length s ≤ t.start → (o : Out) → o ≡ last_at nest top t → ran o m ≡ a
  unfolding clauses_rest
  clauses-end h o e = rw e (sym (loop-done _ _ _ (t, top, m) _ (simp (le-leb _ _ h))) ∙ inv)

  module _ (in-s : t.start < length s) (f : Bool) (fe : f ≡ stops nest t.kind) where
    pub clauses-stop : f ≡ true → ran (found TEST 0 top t) m ≡ a
    unfolding clauses_rest
    clauses-stop h = sym (loop-done _ _ _ (t, top, m) _ (simp (lt-leb _ _ in-s, sym fe, h))) ∙ inv

    module _ (ff : f ≡ false) (r : Out) (b : List ℕ) (re : ran r b ≡ clause_at k s m top nest t) where
      pub clauses-aside : (f : Fault) → r ≡ Err f → ran (Err f) b ≡ a
      unfolding clauses_rest
      clauses-aside f e = sym (loop-done _ _ _ (t, top, m) (ran (Err f) b) (simp (lt-leb _ _ in-s, sym fe, ff, sym re, e))) ∙ inv

      module _ (q : Found) (e : r ≡ Ok q) where
        pub clauses-stuck : q.next.start ≤ t.start → ran (Err (against 0 t.start)) b ≡ a
        unfolding clauses_rest
        clauses-stuck h = sym (loop-done _ _ _ (t, top, m) (ran (Err (against 0 t.start)) b) (simp (lt-leb _ _ in-s, sym fe, ff, sym re, e, le-leb _ _ h))) ∙ inv

        pub clauses-more : t.start < q.next.start → clauses_rest k s b q.top nest q.next ≡ a
        unfolding clauses_rest
        clauses-more h = sym (loop-next _ _ _ (t, top, m) (q.next, q.top, b) (simp (lt-leb _ _ in-s, sym fe, ff, sym re, e, lt-leb _ _ h)) (omega arith)) ∙ inv

module _ (s m : List ℕ) (top : ℕ) (t : Token) where
  pub conditions-none : length m < top → ran (Err (against 0 t.start)) m ≡ conditions_at s m top t
  unfolding conditions_at
  conditions-none h = simp (lt-ltb _ _ h)

  module _ (h : top ≤ length m) (n : ℕ) (ne : n ≡ length s - t.start) where
    pub conditions-short : length m - top < n → ran (Err (against 0 t.start)) m ≡ conditions_at s m top t
    unfolding conditions_at
    conditions-short k = simp (le-ltb _ _ h, sym ne, lt-ltb _ _ k)

    pub conditions-read : n ≤ length m - top → (y : Ran) → y ≡ program_at DEPTH s m top 0 t → y ≡ conditions_at s m top t
    unfolding conditions_at
    conditions-read k y ye = simp (le-ltb _ _ h, sym ne, le-ltb _ _ k) ye
