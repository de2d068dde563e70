-- Programs are read to their end or to a fault of document 01, at most an entry a byte and one, in a depth that brackets and rows bound. Assumes nothing.
use Rattle.std.specs.Prelude.{◌≡◌, true, List, ℕ, zero, suc, ◌+◌, ◌-◌, ◌<◌, ◌≤◌, eqb, leb, Err}
use Rattle.std.proofs.Common.{arith}
use Rattle.std.proofs.Math.ListN.{length}
use borrow.Author.Tests.{leb-true, leb-false, eqb-true}
use Rattle.text.specs.Choice.{split}
use Rattle.text.specs.Loop.{Step}
use Rattle.lexical.specs.Kind
use Rattle.lexical.specs.Theorems.Bounds.{chosen}
use Rattle.lexical.specs.declared.token.Token.{Token}
use Rattle.syntax.specs.Op
use Rattle.syntax.specs.Operator.{a_test}
use Rattle.conditions.specs.Table.{PartSort, sorted, want-any, want-string, stops}
use Rattle.conditions.specs.Working.Numbered.{ANY, TEST, TEXT, fits, sort_number}
use Rattle.conditions.specs.Word.{next_at}
use Rattle.conditions.specs.Working.Emit.{found, Ran, ran, on_found, refused, above, put, word_top, word_written, ended_at, valued_at}
use Rattle.conditions.specs.Working.Expression.{expr_at}
use Rattle.conditions.specs.Working.Program
use Rattle.conditions.specs.Working.Pace.{Sound, real, next-sound, next-after, debt, above_most, word-top-most, refusal-some, Paced, paced-aside, paced-found, paced-refused, paced-on, seven, Goes, goes_on, ends, loop-holds}
use Rattle.conditions.specs.Working.Reach.{string-any}
use Rattle.conditions.specs.Working.PaceExpression.{need}
use Rattle.conditions.proofs.Working.PaceExpression.{expression-paced}
use Rattle.syntax.specs.Working.Faults.{against}
use Rattle.limits.specs.Limits.{most_brackets}
use Rattle.conditions.specs.Working.PaceProgram.{Blocked, blocked-aside, blocked-found, closing-brace}

module _ (s : List ℕ) where
  -- the end of a clause takes a byte and is written in an entry
  ended-paced : (top₀ at₀ u op : ℕ) (t : Token) (b : List ℕ) → Sound s t → at₀ ≤ t.start → u + at₀ ≤ top₀ + t.start → Paced s top₀ at₀ at₀ (ended_at s b u op t)
  unfolding ended_at
  ended-paced top₀ at₀ u op t b k i j =
      chosen (Paced s top₀ at₀ at₀) (eqb t.kind Kind.SEMICOLON) _ _
      (λ h. let w : (t.start < t.end) × (t.end ≤ length s) = real s t k (omega (arith, eqb-true t.kind Kind.SEMICOLON h)) in
      paced-found (sorted a_test) 0 (above b u) (next_at s t.end) (put b u op 0) (next-sound s t.end) (omega (arith, i, w.0, next-after s t.end w.1))
      (omega (arith, j, w.0, next-after s t.end w.1, above_most b u)))
      (λ h. paced-refused s top₀ at₀ at₀ t b)

  valued-paced : (top₀ at₀ : ℕ) (x : PartSort) (p u : ℕ) (t : Token) (b : List ℕ) → Sound s t → at₀ ≤ t.start → u + debt x + at₀ ≤ top₀ + t.start → Paced s top₀ at₀ at₀ (valued_at s b u (sort_number x) p t)
  unfolding valued_at
  valued-paced top₀ at₀ x p u t b k i j =
      chosen (Paced s top₀ at₀ at₀) (fits TEXT (sort_number x)) _ _
      (λ h. ended-paced top₀ at₀ (word_top b u (sort_number x)) Op.VALUED t (word_written b u TEXT (sort_number x) p) k i (omega (arith, j, word-top-most b u x)))
      (λ h. paced-refused s top₀ at₀ at₀ t b)

  blocked-on : (top₀ at₀ nest top₁ at₁ : ℕ) (r : Ran) (l : ℕ → ℕ → ℕ → Token → List ℕ → Ran)
      → ((x p u : ℕ) (n : Token) (b : List ℕ) → Sound s n → stops nest n.kind ≡ true → at₁ ≤ n.start → u + at₁ ≤ top₁ + n.start + 1 → Paced s top₀ at₀ at₀ (l x p u n b))
      → Blocked s nest top₁ at₁ r → Paced s top₀ at₀ at₀ (on_found r l)
  blocked-on top₀ at₀ nest top₁ at₁ _ l h (blocked-aside r p b k) = paced-aside r p b k
  blocked-on top₀ at₀ nest top₁ at₁ _ l h (blocked-found x p u n b k g i j) = h x p u n b k g i j

  -- where a program stands
  data State (top₀ at₀ : ℕ) : Program.State → Type 0 where
    state : (t : Token) (top : ℕ) (m : List ℕ) → Sound s t → at₀ ≤ t.start → top + at₀ ≤ top₀ + t.start + 1 → State top₀ at₀ (t, top, m)

  module _ (nest top₀ at₀ : ℕ) where
    abbrev Turns : Program.State → Step Program.State Ran → Type 0
    Turns = Goes (λ x. length s - x.0.start) (State top₀ at₀) (Blocked s nest top₀ at₀)

    clause-on : (t : Token) (top : ℕ) (m : List ℕ) → t.start < length s → at₀ ≤ t.start → top + at₀ ≤ top₀ + t.start + 1
        → (r : Ran) → Paced s top t.start t.start r → Turns (t, top, m) (Program.on_clause t r)
    clause-on t top m short i j _ (paced-aside r p b k) = ends (ran (Err (against r p)) b) (blocked-aside r p b k)
    clause-on t top m short i j _ (paced-found x p u n b k l e) =
        chosen (Turns (t, top, m)) (leb n.start t.start) _ _
        (λ h. absurd (let no : ⊥ = omega (arith, leb-true n.start t.start h, l) in no))
        (λ h. goes_on (n, u, b) (state n u b k (omega (arith, i, l)) (omega (arith, j, e))) (omega (arith, short, l)))

    last-blocked : (t : Token) (top : ℕ) (m : List ℕ) → Sound s t → at₀ ≤ t.start → top + at₀ ≤ top₀ + t.start + 1 → Blocked s nest top₀ at₀ (ran (Program.last_at nest top t) m)
    unfolding Program.last_at refused
    last-blocked t top m k i j =
        split (stops nest t.kind) (λ h. rw h (blocked-found TEST 0 top t m k h i j)) (λ h. rw h (blocked-aside _ _ m (refusal-some t.kind)))

    module _ (d : ℕ) (clause : (m : List ℕ) (top : ℕ) (t : Token) → Sound s t → Paced s top t.start t.start (Program.clause_at d s m top nest t)) where
      clauses-turn : (x : Program.State) → State top₀ at₀ x → Turns x (Program.clauses_turn (λ m top nest t. Program.clause_at d s m top nest t) s nest x)
      clauses-turn _ (state t top m k i j) =
          chosen (Turns (t, top, m)) (leb (length s) t.start) _ _ (λ h. ends (ran (Program.last_at nest top t) m) (last-blocked t top m k i j))
          (λ h. chosen (Turns (t, top, m)) (stops nest t.kind) _ _
          (λ e. ends (ran (found TEST 0 top t) m) (blocked-found TEST 0 top t m k e i j))
          (λ e. clause-on t top m (leb-false (length s) t.start h) i j _ (clause m top t k)))

      clauses-body : (t : Token) (top : ℕ) (m : List ℕ) → Sound s t → at₀ ≤ t.start → top + at₀ ≤ top₀ + t.start + 1
          → Blocked s nest top₀ at₀ (Program.clauses_loop (λ m top nest t. Program.clause_at d s m top nest t) s m top nest t)
      clauses-body t top m k i j =
          loop-holds (λ x. length s - x.0.start) (λ x. ran (Err (against 0 x.0.start)) x.2) (Program.clauses_turn (λ m top nest t. Program.clause_at d s m top nest t) s nest)
          (State top₀ at₀) (Blocked s nest top₀ at₀) clauses-turn (t, top, m) (state t top m k i j)

  mutual
    unfolding Program.clause_at

    clause-paced : (d : ℕ) (m : List ℕ) (top nest : ℕ) (t : Token) → Sound s t → 5 + need 0 0 nest ≤ d → Paced s top t.start t.start (Program.clause_at d s m top nest t)
    clause-paced zero m top nest t k deep = absurd (let no : ⊥ = omega (arith, deep) in no)
    clause-paced (suc d) m top nest t k deep =
        paced-on s top t.start t.start top t.start t.start (expr_at d s m top 0 ANY 0 nest t) (λ x p u n b. Program.tested_at d s b u nest x p n)
        (λ x p u n b k i j. tested-paced d top t.start b u nest x p n k i j (omega (arith, deep)))
        (expression-paced s d m top 0 want-any 0 nest t k (omega arith) (λ e. omega arith) (omega (arith, deep)))

    tested-paced : (d top₀ at₀ : ℕ) (m : List ℕ) (top nest : ℕ) (sort : PartSort) (place : ℕ) (t : Token) → Sound s t → at₀ < t.start → top + debt sort + at₀ ≤ top₀ + t.start → 4 + need 0 0 nest ≤ d
        → Paced s top₀ at₀ at₀ (Program.tested_at d s m top nest (sort_number sort) place t)
    tested-paced zero top₀ at₀ m top nest sort place t k i j deep = absurd (let no : ⊥ = omega (arith, deep) in no)
    tested-paced (suc d) top₀ at₀ m top nest sort place t k i j deep =
        chosen (Paced s top₀ at₀ at₀) (fits TEST (sort_number sort)) _ _
        (λ h. chosen (Paced s top₀ at₀ at₀) (eqb t.kind Kind.ARROW) _ _
        (λ e. let w : (t.start < t.end) × (t.end ≤ length s) = real s t k (omega (arith, eqb-true t.kind Kind.ARROW e)) in
        value-paced d top₀ at₀ (word_written m top TEST (sort_number sort) place) (word_top m top (sort_number sort)) nest (next_at s t.end) (next-sound s t.end)
        (omega (arith, i, w.0, next-after s t.end w.1)) (omega (arith, j, word-top-most m top sort, w.0, next-after s t.end w.1)) (omega (arith, deep)))
        (λ e. ended-paced top₀ at₀ (word_top m top (sort_number sort)) Op.PLAIN t (word_written m top TEST (sort_number sort) place) k (omega (arith, i)) (omega (arith, j, word-top-most m top sort))))
        (λ h. paced-refused s top₀ at₀ at₀ t m)

    value-paced : (d top₀ at₀ : ℕ) (m : List ℕ) (top nest : ℕ) (t : Token) → Sound s t → at₀ < t.start → top + at₀ + 1 ≤ top₀ + t.start → 3 + need 0 0 nest ≤ d
        → Paced s top₀ at₀ at₀ (Program.value_at d s m top nest t)
    value-paced zero top₀ at₀ m top nest t k i j deep = absurd (let no : ⊥ = omega (arith, deep) in no)
    value-paced (suc d) top₀ at₀ m top nest t k i j deep =
        chosen (Paced s top₀ at₀ at₀) (eqb t.kind Kind.OPEN_BRACE) _ _
        (λ e. let w : (t.start < t.end) × (t.end ≤ length s) = real s t k (omega (arith, eqb-true t.kind Kind.OPEN_BRACE e)) in
        nested-paced d top₀ at₀ m top nest t w.0 w.1 i j (omega (arith, deep)))
        (λ e. paced-on s top₀ at₀ at₀ top t.start t.start (expr_at d s m top 3 TEXT 0 nest t) (λ x p u n b. valued_at s b u x p n)
        (λ x p u n b k l f. valued-paced top₀ at₀ x p u n b k (omega (arith, i, l)) (omega (arith, j, f)))
        (expression-paced s d m top 3 want-string 0 nest t k (omega arith) (λ z. string-any z) (omega (arith, deep))))

    nested-paced : (d top₀ at₀ : ℕ) (m : List ℕ) (top nest : ℕ) (t : Token) → t.start < t.end → t.end ≤ length s → at₀ < t.start → top + at₀ + 1 ≤ top₀ + t.start
        → 2 + need 0 0 nest ≤ d → Paced s top₀ at₀ at₀ (Program.nested_at d s m top nest t)
    nested-paced zero top₀ at₀ m top nest t wide inside i j deep = absurd (let no : ⊥ = omega (arith, deep) in no)
    nested-paced (suc d) top₀ at₀ m top nest t wide inside i j deep =
        chosen (Paced s top₀ at₀ at₀) (leb most_brackets nest) _ _ (λ h. paced-aside 7 t.start m seven)
        (λ h. blocked-on top₀ at₀ (nest + 1) top (next_at s t.end).start (Program.program_at d s m top (nest + 1) (next_at s t.end))
        (λ x p u n b. ended_at s b u Op.NESTED (next_at s n.end))
        (λ x p u n b k g l f.
        let w : (n.start < n.end) × (n.end ≤ length s) = real s n k (omega (arith, closing-brace (nest + 1) n.kind (omega arith) g)) in
        ended-paced top₀ at₀ u Op.NESTED (next_at s n.end) b (next-sound s n.end)
        (omega (arith, i, wide, next-after s t.end inside, l, w.0, next-after s n.end w.1))
        (omega (arith, j, wide, next-after s t.end inside, f, w.0, next-after s n.end w.1)))
        (block-paced d m top (nest + 1) (next_at s t.end) (next-sound s t.end) (omega (arith, deep, leb-false most_brackets nest h))))

    pub block-paced : (d : ℕ) (m : List ℕ) (top nest : ℕ) (t : Token) → Sound s t → 7 + need 0 0 nest ≤ d → Blocked s nest top t.start (Program.program_at d s m top nest t)
    block-paced zero m top nest t k deep = absurd (let no : ⊥ = omega (arith, deep) in no)
    block-paced (suc d) m top nest t k deep = clauses-paced d top (put m top Op.BEGIN 0) (above m top) nest t k (above_most m top) (omega (arith, deep))

    clauses-paced : (d top₀ : ℕ) (m : List ℕ) (top nest : ℕ) (t : Token) → Sound s t → top ≤ top₀ + 1 → 6 + need 0 0 nest ≤ d → Blocked s nest top₀ t.start (Program.clauses_at d s m top nest t)
    clauses-paced zero top₀ m top nest t k j deep = absurd (let no : ⊥ = omega (arith, deep) in no)
    clauses-paced (suc d) top₀ m top nest t k j deep =
        clauses-body nest top₀ t.start d (λ m top t k. clause-paced d m top nest t k (omega (arith, deep))) t top m k (omega arith) (omega (arith, j))
