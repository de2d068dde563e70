-- Expressions belong to their code. Assumes nothing.
use Rattle.std.specs.Prelude.{◌≡◌, refl, Bool, List, ℕ, zero, suc, ◌+◌, ◌-◌, ◌<◌, ◌≤◌, eqb, leb, length, Err}
use Rattle.std.proofs.Math.Bool.{true, false}
use Rattle.text.specs.Choice.{pick}
use Rattle.text.specs.Loop.{Step}
use Rattle.lexical.specs.Kind
use Rattle.lexical.specs.declared.token.Token.{Token}
use Rattle.syntax.specs.Operator.{Unary, Binary, Sort, unary_takes, unary_gives, binary_takes, binary_gives}
use Rattle.syntax.specs.Operation.{unary_number, binary_number}
use Rattle.syntax.specs.Operation
use Rattle.syntax.specs.Theorems.Numbers.{number_fits}
use Rattle.syntax.specs.Expr.{Expr, unary, binary}
use Rattle.conditions.specs.Table.{PartSort, sorted, Want}
use Rattle.conditions.specs.Table
use Rattle.conditions.specs.Working.Numbered.{sort_number, want_number}
use Rattle.conditions.specs.Working.Numbered
use Rattle.conditions.specs.Word.{next_at}
use Rattle.syntax.specs.Parsed.{Parsed, ok, aside, unexpected}
use Rattle.conditions.specs.Parsed.{Part, part}
use Rattle.conditions.specs.Operand.{settled_tree, applied}
use Rattle.conditions.specs.Expression as Read
use Rattle.conditions.specs.Working.Emit.{found, Ran, ran, refused, word_top, word_written, finish_at, closed_at}
use Rattle.conditions.specs.Working.Expression as Write
use Rattle.conditions.specs.Working.Written.{Grown, keeps_self, kept, under}
use Rattle.conditions.specs.Working.Same.{PartCodes, Same, same-aside, same-part, same-refused, same-on, both, start-within, Steps, both-next, both-done, loop-same}
use Rattle.conditions.specs.Working.TieTable.{prefix-of, allows-number, inside-number, alike-prefix, alike-infix, prefix-number, unary-row, unary-want, binary-row}
use Rattle.conditions.proofs.Working.TieTable.{operator-number, right-want, right-level, binds-number}
use Rattle.conditions.specs.Working.TieOperand.{leaf-same, write-word-grown, unary-same, binary-same}
use Rattle.syntax.specs.Working.Faults.{against}
use Rattle.limits.specs.Limits.{most_brackets, most_prefixes}

module _ (s : List ℕ) (short : length s < 65536) where
  -- what an expression is at a depth
  abbrev Expressions : ℕ → Type 0
  Expressions d = (m : List ℕ) (top level : ℕ) (want : Want) (row nest : ℕ) (t : Token) → t.start ≤ length s
      → Same s m top (Read.read_expression d s level want row nest t) (Write.expr_at d s m top level (want_number want) row nest t)

  module _ (d : ℕ) (inner : Expressions d) where
    prefixed-body : (m : List ℕ) (top : ℕ) (op : Unary) (want : Want) (row nest : ℕ) (t : Token)
        → Same s m top (Read.prefixed_of (λ level want row nest t. Read.read_expression d s level want row nest t) s op want row nest t)
        (Write.prefixed_body (λ m top level want row nest t. Write.expr_at d s m top level want row nest t) s m top (unary_number op) (want_number want) row nest t)
    prefixed-body m top op want row nest t =
        rw ((unary-row op).0, unary-want op want) (both (Same s m top) (leb most_prefixes row) _ _ _ _ (λ h. same-aside 7 t.start m (keeps_self m top))
        (λ h. same-on (Same s m top) s m top same-aside
        (Read.read_expression d s (Table.operand_level op) (Table.operand_want op want) (row + 1) nest (next_at s t.end))
        (Write.expr_at d s m top (Table.operand_level op) (want_number (Table.operand_want op want)) (row + 1) nest (next_at s t.end))
        (λ sort e n. applied (unary (Table.prefix_of op sort)) (unary_takes (Table.prefix_of op sort)) (unary_gives (Table.prefix_of op sort)) sort e n)
        (λ x p u n b. finish_at b u (Numbered.prefix_of (unary_number op) x) x p n)
        (λ x p u e n b near within g. rw (prefix-of op x) (unary-same s m top b u x p e near g (unary_number (Table.prefix_of op x)) (unary_takes (Table.prefix_of op x)) (unary_gives (Table.prefix_of op x))
        (unary-row (Table.prefix_of op x)).1 (unary-row (Table.prefix_of op x)).2 (number_fits (Operation.unary (Table.prefix_of op x))) n within (Table.prefix_of op x) refl))
        (inner m top (Table.operand_level op) (Table.operand_want op want) (row + 1) nest (next_at s t.end) (start-within s t.end))))

    closed_same : (m : List ℕ) (top : ℕ) (x : PartSort) (p u : ℕ) (e : Expr) (n : Token) (b : List ℕ) → p < 65536 → Grown m top b u (λ c. PartCodes s p e c x)
        → Same s m top (Read.closing s x e n) (ran (closed_at s (sort_number x) p u n) b)
    unfolding closed_at
    closed_same m top x p u e n b near g = closed-cases (eqb n.kind Kind.CLOSE)
      where
        closed-cases : (f : Bool) → Same s m top (pick f (ok (part x e) (next_at s n.end)) (unexpected n)) (ran (pick f (found (sort_number x) p u (next_at s n.end)) (refused n)) b)
        closed-cases true = same-part x p u e (next_at s n.end) b near (start-within s n.end) g
        closed-cases false = same-refused s m top n b (kept g)

    bracketed-body : (m : List ℕ) (top : ℕ) (want : Want) (nest : ℕ) (t : Token)
        → Same s m top (Read.bracketed_of (λ level want row nest t. Read.read_expression d s level want row nest t) s want nest t)
        (Write.bracketed_body (λ m top level want row nest t. Write.expr_at d s m top level want row nest t) s m top (want_number want) nest t)
    bracketed-body m top want nest t =
        rw (inside-number want) (both (Same s m top) (leb most_brackets nest) _ _ _ _ (λ h. same-aside 7 t.start m (keeps_self m top))
        (λ h. same-on (Same s m top) s m top same-aside
        (Read.read_expression d s (Table.inside_level want) want 0 (nest + 1) (next_at s t.end))
        (Write.expr_at d s m top (Table.inside_level want) (want_number want) 0 (nest + 1) (next_at s t.end))
        (λ sort e n. Read.closing s sort e n) (λ x p u n b. ran (closed_at s x p u n) b)
        (λ x p u e n b near within g. closed_same m top x p u e n b near g)
        (inner m top (Table.inside_level want) want 0 (nest + 1) (next_at s t.end) (start-within s t.end))))

    joined-body : (m₀ : List ℕ) (top₀ : ℕ) (m : List ℕ) (top : ℕ) (op : Binary) (nest : ℕ) (sort : PartSort) (place at : ℕ) (e : Expr) → place < 65536
        → Grown m₀ top₀ m top (λ c. PartCodes s place e c sort)
        → Same s m₀ top₀ (Read.joined_of (λ level want row nest t. Read.read_expression d s level want row nest t) s op nest sort e at)
        (Write.joined_body (λ m top level want row nest t. Write.expr_at d s m top level want row nest t) s m top (binary_number op) nest (sort_number sort) place at)
    joined-body m₀ top₀ m top op nest sort place at e near g =
        rw ((binary-row op).1, right-level op, right-want op) (same-on (Same s m₀ top₀) s (word_written m top (sort_number (sorted takes)) (sort_number sort) place) (word_top m top (sort_number sort))
        (λ r p b k. same-aside r p b (under (write-word-grown s m₀ top₀ m top place e near takes sort g) k))
        (Read.read_expression d s (Table.right_level op) (Table.right_want op) 0 nest (next_at s at))
        (Write.expr_at d s (word_written m top (sort_number (sorted takes)) (sort_number sort) place) (word_top m top (sort_number sort)) (Table.right_level op) (want_number (Table.right_want op)) 0 nest (next_at s at))
        (λ x f n. applied (binary op (settled_tree takes sort e)) (binary_takes op) (binary_gives op) x f n) (λ x p u n b. finish_at b u (binary_number op) x p n)
        (λ x p u f n b near' within h. binary-same s (word_written m top (sort_number (sorted takes)) (sort_number sort) place) (word_top m top (sort_number sort)) b u x p f near' h (binary_number op) (binary_takes op) (binary_gives op)
        (binary-row op).1 (binary-row op).2 (number_fits (Operation.binary op)) n within op refl
        m₀ top₀ (settled_tree takes sort e) (write-word-grown s m₀ top₀ m top place e near takes sort g))
        (inner (word_written m top (sort_number (sorted takes)) (sort_number sort) place) (word_top m top (sort_number sort)) (Table.right_level op) (Table.right_want op) 0 nest (next_at s at) (start-within s at)))
      where
        takes : Sort
        takes = binary_takes op

  -- where a chain stands
  data States (m₀ : List ℕ) (top₀ : ℕ) : Read.State → Write.State → Type 0 where
    states : (t : Token) (sort : PartSort) (e : Expr) (place top : ℕ) (m : List ℕ) → place < 65536 → t.start ≤ length s → Grown m₀ top₀ m top (λ c. PartCodes s place e c sort)
        → States m₀ top₀ (t, sort, e) (t, sort_number sort, place, top, m)

  module _ (m₀ : List ℕ) (top₀ : ℕ) where
    abbrev Turns : Step Read.State (Parsed Part) → Step Write.State Ran → Type 0
    Turns = Steps (States m₀ top₀) (Same s m₀ top₀)

    joined-on : (t : Token) (q : Parsed Part) (r : Ran) → Same s m₀ top₀ q r → Turns (Read.on_joined t q) (Write.on_joined t r)
    joined-on t _ _ (same-aside r p b k) = both-done (aside r p) (ran (Err (against r p)) b) (same-aside r p b k)
    joined-on t _ _ (same-part x p u e n b near within g) =
        both Turns (leb n.start t.start) _ _ _ _
        (λ h. both-done (aside 0 t.start) (ran (Err (against 0 t.start)) b) (same-aside 0 t.start b (kept g)))
        (λ h. both-next (n, x, e) (n, sort_number x, p, u, b) (states n x e p u b near within g))

    module _ (d level nest : ℕ) (joined : (m : List ℕ) (top : ℕ) (op : Binary) (sort : PartSort) (place at : ℕ) (e : Expr) → place < 65536 → Grown m₀ top₀ m top (λ c. PartCodes s place e c sort)
        → Same s m₀ top₀ (Read.read_joined d s op nest sort e at) (Write.joined_at d s m top (binary_number op) nest (sort_number sort) place at)) where
      chain-turn : (x : Read.State) (y : Write.State) → States m₀ top₀ x y
          → Turns (Read.chain_turn (λ op nest sort e at. Read.read_joined d s op nest sort e at) s level nest x)
          (Write.chain_turn (λ m top op nest sort place at. Write.joined_at d s m top op nest sort place at) s level nest y)
      chain-turn _ _ (states t sort e place top m near within g) =
          rw (operator-number sort t.kind, binds-number level (Table.operator sort t.kind)) (both Turns (leb (length s) t.start) _ _ _ _
          (λ h. both-done (ok (part sort e) t) (ran (found (sort_number sort) place top t) m) (same-part sort place top e t m near within g))
          (λ h. both Turns (Table.binds level (Table.operator sort t.kind)) _ _ _ _
          (λ k. alike-infix Turns level (Table.operator sort t.kind) _ _ (λ op. Write.on_joined t (Write.joined_at d s m top op nest (sort_number sort) place t.end)) k
          (λ op l. joined-on t _ _ (joined m top op sort place t.end e near g)))
          (λ k. both-done (ok (part sort e) t) (ran (found (sort_number sort) place top t) m) (same-part sort place top e t m near within g))))

      measures : (x : Read.State) (y : Write.State) → States m₀ top₀ x y → length s - x.0.start ≡ length s - y.0.start
      measures _ _ (states t sort e place top m near within g) = refl

      outs : (x : Read.State) (y : Write.State) → States m₀ top₀ x y → Same s m₀ top₀ (aside 0 x.0.start) (ran (Err (against 0 y.0.start)) y.4)
      outs _ _ (states t sort e place top m near within g) = same-aside 0 t.start m (kept g)

      chain-body : (t : Token) (sort : PartSort) (e : Expr) (place top : ℕ) (m : List ℕ) → place < 65536 → t.start ≤ length s → Grown m₀ top₀ m top (λ c. PartCodes s place e c sort)
          → Same s m₀ top₀ (Read.chain_of (λ op nest sort e at. Read.read_joined d s op nest sort e at) s level nest sort e t)
          (Write.chain_loop (λ m top op nest sort place at. Write.joined_at d s m top op nest sort place at) s m top level nest (sort_number sort) place t)
      chain-body t sort e place top m near within g =
          loop-same (λ x. length s - x.0.start) (λ x. aside 0 x.0.start) (Read.chain_turn (λ op nest sort e at. Read.read_joined d s op nest sort e at) s level nest)
          (λ x. length s - x.0.start) (λ x. ran (Err (against 0 x.0.start)) x.4)
          (Write.chain_turn (λ m top op nest sort place at. Write.joined_at d s m top op nest sort place at) s level nest)
          (States m₀ top₀) (Same s m₀ top₀) measures outs chain-turn (t, sort, e) (t, sort_number sort, place, top, m) (states t sort e place top m near within g)

  mutual
    unfolding Read.read_expression Write.expr_at

    pub expression-same : (d : ℕ) (m : List ℕ) (top level : ℕ) (want : Want) (row nest : ℕ) (t : Token) → t.start ≤ length s
        → Same s m top (Read.read_expression d s level want row nest t) (Write.expr_at d s m top level (want_number want) row nest t)
    expression-same zero m top level want row nest t within = same-aside 0 t.start m (keeps_self m top)
    expression-same (suc d) m top level want row nest t within =
        same-on (Same s m top) s m top same-aside (Read.read_operand d s want row nest t) (Write.operand_at d s m top (want_number want) row nest t)
        (λ sort e n. Read.read_chain d s level nest sort e n) (λ x p u n b. Write.chain_at d s b u level nest x p n)
        (λ x p u e n b near within g. chain_same d m top n level nest x e p u b near within g)
        (operand_same d m top want row nest t within)

    operand_same : (d : ℕ) (m : List ℕ) (top : ℕ) (want : Want) (row nest : ℕ) (t : Token) → t.start ≤ length s
        → Same s m top (Read.read_operand d s want row nest t) (Write.operand_at d s m top (want_number want) row nest t)
    operand_same zero m top want row nest t within = same-aside 0 t.start m (keeps_self m top)
    operand_same (suc d) m top want row nest t within =
        rw (allows-number want t.kind) (both (Same s m top) (Table.allows want t.kind) _ _ _ _
        (λ h. rw (prefix-number t.kind) (alike-prefix (Same s m top) (Table.prefix_operator t.kind) _ (λ op. Read.read_prefixed d s op want row nest t)
        _ (λ op. Write.prefixed_at d s m top op (want_number want) row nest t)
        (both (Same s m top) (eqb t.kind Kind.OPEN) _ _ _ _ (λ l. bracketed-same d m top want nest t) (λ l. leaf-same s short m top t within want))
        (λ op l. prefixed-same d m top op want row nest t)))
        (λ h. same-refused s m top t m (keeps_self m top)))

    prefixed-same : (d : ℕ) (m : List ℕ) (top : ℕ) (op : Unary) (want : Want) (row nest : ℕ) (t : Token)
        → Same s m top (Read.read_prefixed d s op want row nest t) (Write.prefixed_at d s m top (unary_number op) (want_number want) row nest t)
    prefixed-same zero m top op want row nest t = same-aside 0 t.start m (keeps_self m top)
    prefixed-same (suc d) m top op want row nest t =
        prefixed-body d (λ m top level want row nest t within. expression-same d m top level want row nest t within) m top op want row nest t

    bracketed-same : (d : ℕ) (m : List ℕ) (top : ℕ) (want : Want) (nest : ℕ) (t : Token)
        → Same s m top (Read.read_bracketed d s want nest t) (Write.bracketed_at d s m top (want_number want) nest t)
    bracketed-same zero m top want nest t = same-aside 0 t.start m (keeps_self m top)
    bracketed-same (suc d) m top want nest t =
        bracketed-body d (λ m top level want row nest t within. expression-same d m top level want row nest t within) m top want nest t

    chain_same : (d : ℕ) (m₀ : List ℕ) (top₀ : ℕ) (t : Token) (level nest : ℕ) (sort : PartSort) (e : Expr) (place top : ℕ) (m : List ℕ) → place < 65536 → t.start ≤ length s
        → Grown m₀ top₀ m top (λ c. PartCodes s place e c sort) → Same s m₀ top₀ (Read.read_chain d s level nest sort e t) (Write.chain_at d s m top level nest (sort_number sort) place t)
    chain_same zero m₀ top₀ t level nest sort e place top m near within g = same-aside 0 t.start m (kept g)
    chain_same (suc d) m₀ top₀ t level nest sort e place top m near within g =
        chain-body m₀ top₀ d level nest (λ m top op sort place at e near g. joined_same d m₀ top₀ m top op nest sort place at e near g) t sort e place top m near within g

    joined_same : (d : ℕ) (m₀ : List ℕ) (top₀ : ℕ) (m : List ℕ) (top : ℕ) (op : Binary) (nest : ℕ) (sort : PartSort) (place at : ℕ) (e : Expr) → place < 65536
        → Grown m₀ top₀ m top (λ c. PartCodes s place e c sort) → Same s m₀ top₀ (Read.read_joined d s op nest sort e at) (Write.joined_at d s m top (binary_number op) nest (sort_number sort) place at)
    joined_same zero m₀ top₀ m top op nest sort place at e near g = same-aside 0 at m (kept g)
    joined_same (suc d) m₀ top₀ m top op nest sort place at e near g =
        joined-body d (λ m top level want row nest t within. expression-same d m top level want row nest t within) m₀ top₀ m top op nest sort place at e near g
