-- Expressions are read to their end or to a fault of document 01, at most an entry a byte, in a depth that brackets and rows bound. Assumes nothing.
use Rattle.std.specs.Prelude.{◌≡◌, eqb, leb, Err}
use mathlib.Core.List.{List}
use Prim.Native.Nat.{ℕ, zero, suc, ◌+◌, ◌-◌, ◌*◌, ◌<◌, ◌≤◌}
use Rattle.std.proofs.Common.{arith}
use Rattle.std.proofs.Math.ListN.{length}
use borrow.Author.Tests.{leb-true, leb-false, eqb-true}
use Rattle.text.specs.Choice.{split}
use Rattle.text.specs.Loop.{Step}
use Rattle.lexical.specs.Kind
use Rattle.lexical.specs.Theorems.Bounds.{chosen}
use Rattle.lexical.specs.declared.token.Token.{Token}
use Rattle.syntax.specs.Operator.{Unary, Binary, unary_gives, binary_gives}
use Rattle.syntax.specs.Operation.{unary_number, binary_number}
use Rattle.conditions.specs.Table.{PartSort, Want, want-any}
use Rattle.conditions.specs.Table
use Rattle.conditions.specs.Working.Numbered.{sort_number, want_number}
use Rattle.conditions.specs.Working.Numbered
use Rattle.conditions.specs.Word.{next_at}
use Rattle.conditions.specs.Working.Emit.{found, Ran, ran, word_top, word_written, finish_at, closed_at}
use Rattle.conditions.specs.Working.Expression
use Rattle.conditions.specs.Working.Pace.{Sound, real, next-sound, next-after, debt, word-top-most, Paced, paced-aside, paced-found, paced-refused, paced-on, finish-paced, leaf-paced, seven, Goes, goes_on, ends, loop-holds}
use Rattle.conditions.specs.Working.TieTable.{prefix-of, allows-number, inside-number, binary-row, prefix-number, unary-row, unary-want, alike-prefix, alike-infix}
use Rattle.conditions.proofs.Working.TieTable.{operator-number, right-want, right-level, binds-number}
use Rattle.conditions.specs.Working.Reach.{allowed-real, spread, spread-level, operand-level-most, prefix-level, operand-wanted, inside-most, inside-wanted, level-most, binds-level, right-wanted}
use Rattle.conditions.proofs.Working.Reach.{operator-token}
use Rattle.syntax.specs.Working.Faults.{against}
use Rattle.limits.specs.Limits.{most_brackets, most_prefixes}
use Rattle.conditions.specs.Working.PaceExpression.{need}

module _ (s : List ℕ) where
  abbrev Expressions : ℕ → Type 0
  Expressions d = (m : List ℕ) (top level : ℕ) (want : Want) (row nest : ℕ) (t : Token) → Sound s t → level ≤ 6 → (want ≡ want-any → level ≤ 2) → need level row nest ≤ d
      → Paced s top t.start t.start (Expression.expr_at d s m top level (want_number want) row nest t)

  module _ (d : ℕ) (inner : Expressions d) where
    prefixed-body : (m : List ℕ) (top : ℕ) (op : Unary) (want : Want) (row nest : ℕ) (t : Token) → t.start < t.end → t.end ≤ length s
        → 3 * (7 * (most_prefixes + 1) * (most_brackets - nest) + (6 - Table.operand_level op) * (most_prefixes + 1) + (most_prefixes - row)) ≤ d
        → Paced s top t.start t.start (Expression.prefixed_body (λ m top level want row nest t. Expression.expr_at d s m top level want row nest t) s m top (unary_number op) (want_number want) row nest t)
    prefixed-body m top op want row nest t wide inside deep =
        rw ((unary-row op).0, unary-want op want) (chosen (Paced s top t.start t.start) (leb most_prefixes row) _ _ (λ h. paced-aside 7 t.start m seven)
        (λ h. paced-on s top t.start t.start top (next_at s t.end).start (next_at s t.end).start
        (Expression.expr_at d s m top (Table.operand_level op) (want_number (Table.operand_want op want)) (row + 1) nest (next_at s t.end)) (λ x p u n b. finish_at b u (Numbered.prefix_of (unary_number op) x) x p n)
        (λ x p u n b k i j. rw (prefix-of op x) (finish-paced s top t.start t.start (unary_number (Table.prefix_of op x)) (unary_gives (Table.prefix_of op x)) (unary-row (Table.prefix_of op x)).2 x p u n b k
        (omega (arith, i, wide, next-after s t.end inside)) (omega (arith, j, wide, next-after s t.end inside))))
        (inner m top (Table.operand_level op) (Table.operand_want op want) (row + 1) nest (next_at s t.end) (next-sound s t.end) (operand-level-most op) (operand-wanted op want)
        (omega (arith, deep, leb-false most_prefixes row h)))))

    closed-paced : (top₀ at₀ : ℕ) (x : PartSort) (p u : ℕ) (n : Token) (b : List ℕ) → Sound s n → at₀ < n.start → u + debt x + at₀ ≤ top₀ + n.start → Paced s top₀ at₀ at₀ (ran (closed_at s (sort_number x) p u n) b)
    unfolding closed_at
    closed-paced top₀ at₀ x p u n b k i j =
        split (eqb n.kind Kind.CLOSE)
        (λ h. rw h (let w : (n.start < n.end) × (n.end ≤ length s) = real s n k (omega (arith, eqb-true n.kind Kind.CLOSE h)) in
        paced-found x p u (next_at s n.end) b (next-sound s n.end) (omega (arith, i, w.0, next-after s n.end w.1)) (omega (arith, j, w.0, next-after s n.end w.1))))
        (λ h. rw h (paced-refused s top₀ at₀ at₀ n b))

    bracketed-body : (m : List ℕ) (top : ℕ) (want : Want) (nest : ℕ) (t : Token) → t.start < t.end → t.end ≤ length s → 3 * (7 * (most_prefixes + 1) * (most_brackets - nest)) ≤ d
        → Paced s top t.start t.start (Expression.bracketed_body (λ m top level want row nest t. Expression.expr_at d s m top level want row nest t) s m top (want_number want) nest t)
    bracketed-body m top want nest t wide inside deep =
        rw (inside-number want) (chosen (Paced s top t.start t.start) (leb most_brackets nest) _ _ (λ h. paced-aside 7 t.start m seven)
        (λ h. paced-on s top t.start t.start top (next_at s t.end).start (next_at s t.end).start
        (Expression.expr_at d s m top (Table.inside_level want) (want_number want) 0 (nest + 1) (next_at s t.end)) (λ x p u n b. ran (closed_at s x p u n) b)
        (λ x p u n b k i j. closed-paced top t.start x p u n b k (omega (arith, i, wide, next-after s t.end inside)) (omega (arith, j, wide, next-after s t.end inside)))
        (inner m top (Table.inside_level want) want 0 (nest + 1) (next_at s t.end) (next-sound s t.end) (inside-most want) (inside-wanted want)
        (omega (arith, deep, leb-false most_brackets nest h)))))

    joined-body : (top₀ at₀ : ℕ) (m : List ℕ) (top : ℕ) (op : Binary) (nest : ℕ) (sort : PartSort) (place at : ℕ) → at ≤ length s
        → top + debt sort + at₀ + 1 ≤ top₀ + at → at₀ ≤ at → 3 * (7 * (most_prefixes + 1) * (most_brackets - nest) + (6 - Table.level_of op) * (most_prefixes + 1)) ≤ d
        → Paced s top₀ at₀ at (Expression.joined_body (λ m top level want row nest t. Expression.expr_at d s m top level want row nest t) s m top (binary_number op) nest (sort_number sort) place at)
    unfolding Table.right_level
    joined-body top₀ at₀ m top op nest sort place at inside pace below deep =
        rw (right-level op, right-want op) (paced-on s top₀ at₀ at (word_top m top (sort_number sort)) (next_at s at).start (next_at s at).start
        (Expression.expr_at d s left (word_top m top (sort_number sort)) (Table.right_level op) (want_number (Table.right_want op)) 0 nest (next_at s at))
        (λ x p u n b. finish_at b u (binary_number op) x p n)
        (λ x p u n b k i j. finish-paced s top₀ at₀ at (binary_number op) (binary_gives op) (binary-row op).2 x p u n b k (omega (arith, i, next-after s at inside))
        (omega (arith, j, pace, word-top-most m top sort, next-after s at inside)))
        (inner left (word_top m top (sort_number sort)) (Table.right_level op) (Table.right_want op) 0 nest (next_at s at) (next-sound s at)
        (omega (arith, level-most op)) (right-wanted op) (omega (arith, deep, level-most op))))
      where
        left : List ℕ
        left = word_written m top (Numbered.operand_of (binary_number op)) (sort_number sort) place

  -- where a chain stands
  data State (top₀ at₀ : ℕ) : Expression.State → Type 0 where
    state : (t : Token) (sort : PartSort) (place top : ℕ) (m : List ℕ) → Sound s t → at₀ < t.start → top + debt sort + at₀ ≤ top₀ + t.start → State top₀ at₀ (t, sort_number sort, place, top, m)

  module _ (top₀ at₀ : ℕ) where
    abbrev Turns : Expression.State → Step Expression.State Ran → Type 0
    Turns = Goes (λ x. length s - x.0.start) (State top₀ at₀) (Paced s top₀ at₀ at₀)

    joined-on : (t : Token) (sort : PartSort) (place top : ℕ) (m : List ℕ) → t.start < length s → at₀ < t.start → (low : ℕ) → t.start < low → (r : Ran) → Paced s top₀ at₀ low r
        → Turns (t, sort_number sort, place, top, m) (Expression.on_joined t r)
    joined-on t sort place top m short after low l _ (paced-aside r p b k) = ends (ran (Err (against r p)) b) (paced-aside r p b k)
    joined-on t sort place top m short after low l _ (paced-found x p u n b k i j) =
        chosen (Turns (t, sort_number sort, place, top, m)) (leb n.start t.start) _ _
        (λ h. absurd (let no : ⊥ = omega (arith, leb-true n.start t.start h, l, i) in no))
        (λ h. goes_on (n, sort_number x, p, u, b) (state n x p u b k (omega (arith, i, l, after)) j) (omega (arith, short, l, i)))

    module _ (d level nest : ℕ) (deep : 1 + 3 * (7 * (most_prefixes + 1) * (most_brackets - nest) + (6 - level) * (most_prefixes + 1)) ≤ d)
        (joined : (m : List ℕ) (top : ℕ) (op : Binary) (sort : PartSort) (place at : ℕ) → at ≤ length s → top + debt sort + at₀ + 1 ≤ top₀ + at → at₀ ≤ at
        → 1 + 3 * (7 * (most_prefixes + 1) * (most_brackets - nest) + (6 - Table.level_of op) * (most_prefixes + 1)) ≤ d → Paced s top₀ at₀ at (Expression.joined_at d s m top (binary_number op) nest (sort_number sort) place at)) where
      chain-turn : (x : Expression.State) → State top₀ at₀ x
          → Turns x (Expression.chain_turn (λ m top op nest sort place at. Expression.joined_at d s m top op nest sort place at) s level nest x)
      chain-turn _ (state t sort place top m k i j) =
          rw (operator-number sort t.kind, binds-number level (Table.operator sort t.kind)) (chosen (Turns (t, sort_number sort, place, top, m)) (leb (length s) t.start) _ _
          (λ h. ends (ran (found (sort_number sort) place top t) m) (paced-found sort place top t m k i j))
          (λ h. chosen (Turns (t, sort_number sort, place, top, m)) (Table.binds level (Table.operator sort t.kind)) _ _
          (λ e. alike-infix (λ (i : Table.Infix). Turns (t, sort_number sort, place, top, m)) level (Table.operator sort t.kind) Table.no-infix Table.between
          (λ op. Expression.on_joined t (Expression.joined_at d s m top op nest (sort_number sort) place t.end)) e
          (λ op l. let b : level ≤ Table.level_of op = binds-level level op (rw l at e) in
          let w : (t.start < t.end) × (t.end ≤ length s) = real s t k (operator-token level t.kind sort e) in
          joined-on t sort place top m (leb-false (length s) t.start h) i t.end w.0 _
          (joined m top op sort place t.end w.1 (omega (arith, j, w.0)) (omega (arith, i, w.0)) (omega (arith, deep, b)))))
          (λ e. ends (ran (found (sort_number sort) place top t) m) (paced-found sort place top t m k i j))))

      chain-body : (t : Token) (sort : PartSort) (place top : ℕ) (m : List ℕ) → Sound s t → at₀ < t.start → top + debt sort + at₀ ≤ top₀ + t.start
          → Paced s top₀ at₀ at₀ (Expression.chain_loop (λ m top op nest sort place at. Expression.joined_at d s m top op nest sort place at) s m top level nest (sort_number sort) place t)
      chain-body t sort place top m k i j =
          loop-holds (λ x. length s - x.0.start) (λ x. ran (Err (against 0 x.0.start)) x.4)
          (Expression.chain_turn (λ m top op nest sort place at. Expression.joined_at d s m top op nest sort place at) s level nest)
          (State top₀ at₀) (Paced s top₀ at₀ at₀) chain-turn (t, sort_number sort, place, top, m) (state t sort place top m k i j)

  mutual
    unfolding Expression.expr_at

    pub expression-paced : (d : ℕ) (m : List ℕ) (top level : ℕ) (want : Want) (row nest : ℕ) (t : Token) → Sound s t → level ≤ 6 → (want ≡ want-any → level ≤ 2) → need level row nest ≤ d
        → Paced s top t.start t.start (Expression.expr_at d s m top level (want_number want) row nest t)
    expression-paced zero m top level want row nest t k l w deep = absurd (let no : ⊥ = omega (arith, deep) in no)
    expression-paced (suc d) m top level want row nest t k l w deep =
        paced-on s top t.start t.start top t.start t.start (Expression.operand_at d s m top (want_number want) row nest t)
        (λ x p u n b. Expression.chain_at d s b u level nest x p n)
        (λ x p u n b k i j. chain-paced d top t.start n level nest x p u b k i j (omega (arith, deep)))
        (operand-paced d m top want row nest t k (omega (arith, deep, spread-level want level w)))

    operand-paced : (d : ℕ) (m : List ℕ) (top : ℕ) (want : Want) (row nest : ℕ) (t : Token) → Sound s t → 2 + 3 * (7 * (most_prefixes + 1) * (most_brackets - nest) + spread want + (most_prefixes - row)) ≤ d
        → Paced s top t.start t.start (Expression.operand_at d s m top (want_number want) row nest t)
    operand-paced zero m top want row nest t k deep = absurd (let no : ⊥ = omega (arith, deep) in no)
    operand-paced (suc d) m top want row nest t k deep =
        rw (allows-number want t.kind) (chosen (Paced s top t.start t.start) (Table.allows want t.kind) _ _
        (λ h. let w : (t.start < t.end) × (t.end ≤ length s) = real s t k (allowed-real want t.kind h) in
        rw (prefix-number t.kind) (alike-prefix (λ (i : Table.Prefix). Paced s top t.start t.start) (Table.prefix_operator t.kind) Table.no-prefix Table.before
        _ (λ op. Expression.prefixed_at d s m top op (want_number want) row nest t)
        (chosen (Paced s top t.start t.start) (eqb t.kind Kind.OPEN) _ _
        (λ f. bracketed-paced d m top want nest t w.0 w.1 (omega (arith, deep))) (λ f. leaf-paced s m top t w.0 w.1 want))
        (λ op e. prefixed-paced d m top op want row nest t w.0 w.1 (omega (arith, deep, prefix-level want t.kind op h e)))))
        (λ h. paced-refused s top t.start t.start t m))

    prefixed-paced : (d : ℕ) (m : List ℕ) (top : ℕ) (op : Unary) (want : Want) (row nest : ℕ) (t : Token) → t.start < t.end → t.end ≤ length s
        → 1 + 3 * (7 * (most_prefixes + 1) * (most_brackets - nest) + (6 - Table.operand_level op) * (most_prefixes + 1) + (most_prefixes - row)) ≤ d
        → Paced s top t.start t.start (Expression.prefixed_at d s m top (unary_number op) (want_number want) row nest t)
    prefixed-paced zero m top op want row nest t wide inside deep = absurd (let no : ⊥ = omega (arith, deep) in no)
    prefixed-paced (suc d) m top op want row nest t wide inside deep =
        prefixed-body d (λ m top level want row nest t k l w deep. expression-paced d m top level want row nest t k l w deep) m top op want row nest t wide inside (omega (arith, deep))

    bracketed-paced : (d : ℕ) (m : List ℕ) (top : ℕ) (want : Want) (nest : ℕ) (t : Token) → t.start < t.end → t.end ≤ length s → 1 + 3 * (7 * (most_prefixes + 1) * (most_brackets - nest)) ≤ d
        → Paced s top t.start t.start (Expression.bracketed_at d s m top (want_number want) nest t)
    bracketed-paced zero m top want nest t wide inside deep = absurd (let no : ⊥ = omega (arith, deep) in no)
    bracketed-paced (suc d) m top want nest t wide inside deep =
        bracketed-body d (λ m top level want row nest t k l w deep. expression-paced d m top level want row nest t k l w deep) m top want nest t wide inside (omega (arith, deep))

    chain-paced : (d top₀ at₀ : ℕ) (t : Token) (level nest : ℕ) (sort : PartSort) (place top : ℕ) (m : List ℕ) → Sound s t → at₀ < t.start → top + debt sort + at₀ ≤ top₀ + t.start
        → 2 + 3 * (7 * (most_prefixes + 1) * (most_brackets - nest) + (6 - level) * (most_prefixes + 1)) ≤ d → Paced s top₀ at₀ at₀ (Expression.chain_at d s m top level nest (sort_number sort) place t)
    chain-paced zero top₀ at₀ t level nest sort place top m k i j deep = absurd (let no : ⊥ = omega (arith, deep) in no)
    chain-paced (suc d) top₀ at₀ t level nest sort place top m k i j deep =
        chain-body top₀ at₀ d level nest (omega (arith, deep))
        (λ m top op sort place at inside pace below deep. joined-paced d top₀ at₀ m top op nest sort place at inside pace below deep) t sort place top m k i j

    joined-paced : (d top₀ at₀ : ℕ) (m : List ℕ) (top : ℕ) (op : Binary) (nest : ℕ) (sort : PartSort) (place at : ℕ) → at ≤ length s
        → top + debt sort + at₀ + 1 ≤ top₀ + at → at₀ ≤ at → 1 + 3 * (7 * (most_prefixes + 1) * (most_brackets - nest) + (6 - Table.level_of op) * (most_prefixes + 1)) ≤ d
        → Paced s top₀ at₀ at (Expression.joined_at d s m top (binary_number op) nest (sort_number sort) place at)
    joined-paced zero top₀ at₀ m top op nest sort place at inside pace below deep = absurd (let no : ⊥ = omega (arith, deep) in no)
    joined-paced (suc d) top₀ at₀ m top op nest sort place at inside pace below deep =
        joined-body d (λ m top level want row nest t k l w deep. expression-paced d m top level want row nest t k l w deep) top₀ at₀ m top op nest sort place at inside pace below
        (omega (arith, deep))
