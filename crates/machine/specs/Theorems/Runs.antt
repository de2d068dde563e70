-- Compiled Conditions leave their rank on the stack. Assumes nothing.
use Rattle.std.specs.Prelude.{◌≡◌, eqb, leb, ltb}
use Rattle.std.proofs.Math.Path.{refl, sym, ap}
use Rattle.std.proofs.Common.{◌∙◌, length-append}
use Rattle.std.proofs.Math.Bool.{true, false}
use mathlib.Core.List.{List, [], ◌∷◌, ◌++◌, map, append_assoc, append-nil}
use Prim.Native.Nat.{ℕ, ◌+◌, ◌*◌, ◌/◌, ◌%◌, ◌<◌, ◌≤◌, max}
use native.Mathlib.Omega.{arith}
use Rattle.std.proofs.Math.ListN.{length}
use borrow.Author.Tests.{le-leb, lt-leb, ne_eqb, eqb-true, eqb-false, ltb-true, ltb-false, leb-true}
use Rattle.text.specs.Choice.{split, clash}
use Rattle.text.specs.Counted.{counted}
use Rattle.lexical.specs.Literal.{decoded_at}
use Rattle.float.specs.Written.{float_of}
use Rattle.syntax.specs.Operator.{Unary, Binary, unary_gives}
use Rattle.syntax.specs.Operator as Operator
use Rattle.syntax.specs.Operation.{unary_number, binary_number}
use Rattle.syntax.specs.Theorems.Numbers.{unary-between, binary-between}
use Rattle.syntax.specs.Expr.{Expr, literal, name, number, truth, decimal, unary, binary, Program, none, also, Clause, plain, valued, nested}
use Rattle.text.specs.Digits.{digits_at}
use Rattle.syntax.specs.Code.{entry, name_at, number_from, decimal_at, Codes, code-literal, code-name, code-number, code-true, code-false, code-decimal, code-unary, code-binary, ProgramCodes, code-none, code-also, ClauseCodes, code-plain, code-valued, code-nested}
use Rattle.expression.specs.Value.{Value, text, integer, rank, float, test, fault, operand, bytes_of}
use Rattle.expression.specs.Operands.{rank_in, kind_of, size_of}
use Rattle.expression.specs.Integers.{ranged}
use Rattle.expression.specs.Names.{Environment, lookup}
use Rattle.expression.specs.Operations.{held, unary_of, binary_of}
use Rattle.expression.specs.Working.Numbered.{is_textual, of_tests, logical, binary_by}
use Rattle.expression.specs.Conditions.{evaluate, conditions, clause, gate, top, rank_of}
use Rattle.expression.specs.Working.Clauses.{applied, combined}
use Rattle.expression.specs.Tables.{lookup_in, Shows}
use Rattle.expression.specs.Theorems.Numbered.{unary-number, binary-number}
use Rattle.expression.specs.Theorems.Topmost.{conditions-most}
use Rattle.expression.specs.Theorems.Shown.{values-are, lookup-is as shown-is}
use Rattle.expression.specs.declared.value.Operand.TheVariants.{Rank}
use Rattle.machine.specs.Working.Machine.{State, on, raised, run_at, push_step, is_idle, clause_step, act_of, step_of, stepped, is_false, stop_at, go_on, is_highest, ended, needless, ahead, exec_behind, exec, result_of}
use Rattle.machine.specs.Working.Need.{need, program_need, clause_need, span_of, room, program_room, clause_room}
use Rattle.machine.specs.Theorems.Bounds.{need-some}
use Rattle.machine.specs.Working.Kinds.{unranked, Said, value-said}
use Rattle.machine.specs.Working.Widths.{plain-rank, plain-ranged, within-span}
use Rattle.machine.specs.Working.Passing.{exec-pass, on-clause, on_none, on_both_lem, on-other, entry-op, on-code, on-program, stop-same, on-shift}
use Rattle.machine.specs.Working.Ending.{end-here, across-clause, end-shift}
use Rattle.machine.specs.Working.Stacking.{pair, topped, count-is, top-is, false-top, high-top, below-is, idle-top, idle-not, place_is, text-is, unary-is, lookup-is, binary-is}
use Rattle.limits.specs.Limits.{most_string}

combined-is : (vals : List (List ℕ)) (op : Binary) (v w : Value) → combined vals (binary_number op) v w ≡ binary_of op v w
unfolding combined
combined-is vals op v w = rw (le-leb (binary_number op) 42 (binary-between op).1) (binary-number op v w)

-- a test that fails, and what "&&" makes of it
failing : (v : Value) → eqb (kind_of (operand v)) 3 ≡ true → v ≡ test false
unfolding operand kind_of
failing (text b) h = clash h refl
failing (integer i) h = split i.negative (λ f. clash (rw f at h) refl) (λ f. clash (rw f at h) refl)
failing (test true) h = clash h refl
failing (test false) h = refl
failing (rank n) h = clash h refl
failing (float x) h = clash h refl
failing fault h = clash h refl

both_false : (op : Binary) (w : Value) → binary_number op ≡ 41 → binary_of op (test false) w ≡ test false
unfolding binary_by is_textual of_tests logical
both_false op w o = sym (binary-number op (test false) w) ∙ ap (λ (n : ℕ). binary_by n (test false) w) o

-- what the machine makes of a clause
module _ (vals : List (List ℕ)) where
  raise-is : (r m : ℕ) → combined vals 47 (rank r) (rank m) ≡ rank (max r m)
  unfolding combined rank_in operand
  raise-is r m = refl

  plain-is : (v : Value) → applied vals 44 v ≡ rank (gate v (top vals))
  unfolding applied
  plain-is v = refl

  valued-is : (v w : Value) → combined vals 45 v w ≡ rank (gate v (rank_of vals w))
  unfolding combined
  valued-is v w = refl

  nested_is : (v : Value) (n : ℕ) → combined vals 46 v (rank n) ≡ rank (gate v n)
  unfolding combined rank_in operand
  nested_is v n = refl

-- the last operation of an expression's code; 3 for both truths, which are merely put on the stacks
abbrev last_of : Expr → ℕ
last_of (literal b) = 0
last_of (name n) = 1
last_of (number n) = 2
last_of (truth t) = 3
last_of (decimal b) = 5
last_of (unary op e) = unary_number op
last_of (binary op e f) = binary_number op

module _ (depth space : ℕ) (s : List ℕ) (look : List ℕ → List ℕ) (env : Environment) (same : (n : List ℕ) → look n ≡ lookup env n) where
  abbrev run : List ℕ → State → State
  run c st = exec depth space s look env.values c st

  abbrev highest : ℕ
  highest = top env.values

  -- the same behind what the operand that an operation left makes needless
  abbrev after : ℕ → List ℕ → State → State
  after x c st = exec_behind depth space s look env.values (ahead highest x st c) c st

  step-entry : (op at : ℕ) → at < 65536 → (rest vs bs : List ℕ) → run (entry op at ∷ rest) (on vs bs) ≡ after op rest (step_of depth space s look env.values op at vs bs)
  unfolding exec_behind stepped entry
  step-entry op at h rest vs bs =
      let a : (op * 65536 + at) / 65536 ≡ op = omega arith in
      let b : (op * 65536 + at) % 65536 ≡ at = omega arith in
      rw (a, b)

  -- an entry whose step is known
  enter : (op at : ℕ) → at < 65536 → (rest vs bs : List ℕ) (st : State) → step_of depth space s look env.values op at vs bs ≡ st → run (entry op at ∷ rest) (on vs bs) ≡ after op rest st
  enter op at h rest vs bs st e = step-entry op at h rest vs bs ∙ ap (after op rest) e

  -- behind what is put on the stacks, and below a value that is no rank, nothing is passed by where the machine goes on at once
  pushed : (x : ℕ) → leb x 5 ≡ true → (c vs bs : List ℕ) (v : Value) → after x c (topped vs bs v) ≡ run c (topped vs bs v)
  unfolding topped
  pushed x a c vs bs v = rw a

  module _ (x : ℕ) (vs bs : List ℕ) (v : Value) (other : eqb (kind_of (operand v)) 5 ≡ false) where
    lower : is_highest highest (vs ++ pair v) ≡ false
    lower = rw (high-top vs v highest, other)

    unmoved : (c : List ℕ) → (is_false (vs ++ pair v) ≡ true → go_on 0 0 0 c ≡ 0) → after x c (topped vs bs v) ≡ run c (topped vs bs v)
    unfolding needless topped
    unmoved c z =
        split (leb x 5) (λ a. rw a)
        (λ a. split (is_false (vs ++ pair v)) (λ f. rw (a, f, z f)) (λ f. rw (a, f, lower)))

    stays : (op : ℕ) → 5 < op → (rest : List ℕ) → after x (entry op 0 ∷ rest) (topped vs bs v) ≡ run (entry op 0 ∷ rest) (topped vs bs v)
    stays op h rest =
        unmoved (entry op 0 ∷ rest)
        (λ y. split (ltb 42 op) (λ f. on-clause 0 0 0 (entry op 0) rest op (entry-op op 0 (omega arith)) h (ltb-true 42 op f) ∙ stop-same op 0 0)
        (λ f. on_none 0 0 0 (entry op 0) rest op (entry-op op 0 (omega arith)) h (ltb-false 42 op f) refl))

    -- a right side that no test decides
    undecided : (op : ℕ) → 12 ≤ op → op ≤ 42 → {f : Expr} {d : List ℕ} → Codes s f d → (rest : List ℕ) → (is_false (vs ++ pair v) ≡ true → op ≡ 41 → ⊥)
        → after x (d ++ (entry op 0 ∷ rest)) (topped vs bs v) ≡ run (d ++ (entry op 0 ∷ rest)) (topped vs bs v)
    undecided op low high {d = d} k rest bar =
        unmoved (d ++ (entry op 0 ∷ rest))
        (λ y. on-code k 0 0 0 (entry op 0 ∷ rest)
        ∙ on-other 1 0 (0 + length d) (entry op 0) rest op (entry-op op 0 (omega arith)) (omega arith) high (λ z. omega arith) (omega arith) refl (bar y))

    to-program : (rest : List ℕ) (p : Program) {d : List ℕ} → ProgramCodes s p d → after x (d ++ rest) (topped vs bs v) ≡ run (d ++ rest) (topped vs bs v)
    to-program rest p {d = d} k = unmoved (d ++ rest) (λ y. on-program k rest)

  -- a test that fails decides "&&": its right side is passed by
  decided : (x : ℕ) → leb x 5 ≡ false → {f : Expr} {d : List ℕ} → Codes s f d → (rest vs bs : List ℕ)
      → after x (d ++ (entry 41 0 ∷ rest)) (topped vs bs (test false)) ≡ after 41 rest (topped vs bs (test false))
  unfolding needless topped operand kind_of
  decided x a4 {d = d} k rest vs bs =
      let t : is_false (vs ++ pair (test false)) ≡ true = false-top vs (test false) in
      let x : List ℕ = entry 41 0 ∷ [] in
      let y : d ++ (entry 41 0 ∷ rest) ≡ (d ++ x) ++ rest = sym (append_assoc d x rest) in
      let a : length d + 1 ≡ length (d ++ x) = sym (length-append d x) in
      let z : go_on 0 0 0 (d ++ (entry 41 0 ∷ rest)) ≡ length (d ++ x) + go_on 0 0 0 rest =
      on-code k 0 0 0 (entry 41 0 ∷ rest)
      ∙ on_both_lem 1 0 (0 + length d) (entry 41 0) rest 41 (entry-op 41 0 (omega arith)) (omega arith) (omega arith) (λ z. omega arith) (omega arith) refl refl
      ∙ (let b : 0 + length d + 1 ≡ length (d ++ x) + 0 = omega (arith, a) in ap (λ (n : ℕ). go_on 0 n n rest) b)
      ∙ on-shift (length (d ++ x)) 0 0 0 rest in
      rw (a4, t, z) (ap (λ (l : List ℕ). exec_behind depth space s look env.values (length (d ++ x) + go_on 0 0 0 rest) l (on (vs ++ pair (test false)) (bs ++ bytes_of (test false)))) y
      ∙ exec-pass depth space s look env.values (d ++ x) rest (go_on 0 0 0 rest) (on (vs ++ pair (test false)) (bs ++ bytes_of (test false))))

  -- and it passes its clause's string by
  spared : (x : ℕ) → leb x 5 ≡ false → {f : Expr} {d : List ℕ} → Codes s f d → (rest vs bs : List ℕ)
      → after x (d ++ (entry 45 0 ∷ rest)) (topped vs bs (test false)) ≡ run (entry 45 0 ∷ rest) (topped vs bs (test false))
  unfolding needless topped operand kind_of stop_at
  spared x a4 {d = d} k rest vs bs =
      let t : is_false (vs ++ pair (test false)) ≡ true = false-top vs (test false) in
      let a : 0 + length d ≡ length d + 0 = omega arith in
      let z : go_on 0 0 0 (d ++ (entry 45 0 ∷ rest)) ≡ length d + 0 =
      on-code k 0 0 0 (entry 45 0 ∷ rest) ∙ on-clause 1 0 (0 + length d) (entry 45 0) rest 45 (entry-op 45 0 (omega arith)) (omega arith) (omega arith) ∙ a in
      rw (a4, t, z) (exec-pass depth space s look env.values d (entry 45 0 ∷ rest) 0 (on (vs ++ pair (test false)) (bs ++ bytes_of (test false))))

  -- a program that has the highest rank keeps it: its other clauses are passed by
  module _ (rest vs bs : List ℕ) (r : ℕ) where
    rank-top : is_false (vs ++ pair (rank r)) ≡ false
    unfolding operand kind_of
    rank-top = false-top vs (rank r)

    rank-high : is_highest highest (vs ++ pair (rank r)) ≡ leb highest r
    unfolding operand kind_of size_of
    rank-high = high-top vs (rank r) highest

    closes : after 44 (entry 46 0 ∷ rest) (topped vs bs (rank r)) ≡ run (entry 46 0 ∷ rest) (topped vs bs (rank r))
    unfolding needless topped
    closes = split (leb highest r) (λ f. rw (rank-top, rank-high, f, end-here rest)) (λ f. rw (rank-top, rank-high, f))

    kept : (q : Clause) → leb highest r ≡ true → max r (clause env q) ≡ r
    unfolding conditions
    kept q f =
        let a : max 0 (clause env q) ≤ highest = conditions-most env (also none q) in
        let b : highest ≤ r = leb-true _ _ f in
        omega (arith, a, b)

    settle : (q : Clause) {c : List ℕ} → ClauseCodes s q c → run (c ++ rest) (topped vs bs (rank r)) ≡ after 44 rest (topped vs bs (rank (max r (clause env q))))
        → after 44 (c ++ rest) (topped vs bs (rank r)) ≡ after 44 rest (topped vs bs (rank (max r (clause env q))))
    unfolding needless topped
    settle q {c = c} k go =
        split (leb highest r)
        (λ f. let a : 0 + length c ≡ length c + 0 = omega arith in
        let z : ended 0 0 (c ++ rest) ≡ length c + ended 0 0 rest = across-clause q k 0 0 rest ∙ ap (λ (n : ℕ). ended 0 n rest) a ∙ end-shift (length c) 0 0 rest in
        rw (kept q f, rank-top, rank-high, f, z) (exec-pass depth space s look env.values c rest (ended 0 0 rest) (on (vs ++ pair (rank r)) (bs ++ bytes_of (rank r)))))
        (λ f. (rw (rank-top, rank-high, f) refl) ∙ go)

  module _ (vs bs : List ℕ) (h : length vs + 2 ≤ depth) where
    literal-step : (at : ℕ) → length bs + most_string ≤ space → step_of depth space s look env.values 0 at vs bs ≡ topped vs bs (held (decoded_at s at))
    unfolding step_of push_step
    literal-step at k = text-is depth vs h space bs (decoded_at s at) k

    name-step : (at : ℕ) → length bs + most_string ≤ space → step_of depth space s look env.values 1 at vs bs ≡ topped vs bs (held (lookup env (name_at s at)))
    unfolding step_of push_step run_at name_at
    name-step at k = text-is depth vs h space bs _ k ∙ ap (λ (b : List ℕ). topped vs bs (held b)) (same _)

    number_step : (at : ℕ) → step_of depth space s look env.values 2 at vs bs ≡ topped vs bs (ranged false (number_from s at))
    unfolding step_of push_step run_at number_from digits_at
    number_step at = place_is depth vs h bs (ranged false _) (plain-ranged false _).none

    true-step : step_of depth space s look env.values 3 0 vs bs ≡ topped vs bs (test true)
    unfolding step_of push_step operand bytes_of
    true-step = place_is depth vs h bs (test true) refl

    false-step : step_of depth space s look env.values 4 0 vs bs ≡ topped vs bs (test false)
    unfolding step_of push_step operand bytes_of
    false-step = place_is depth vs h bs (test false) refl

    decimal_step : (at : ℕ) → step_of depth space s look env.values 5 at vs bs ≡ topped vs bs (float (float_of (decimal_at s at)))
    unfolding step_of push_step operand bytes_of
    decimal_step at = place_is depth vs h bs (float (float_of (decimal_at s at))) refl

    begin-step : step_of depth space s look env.values 43 0 vs bs ≡ topped vs bs (rank 0)
    unfolding step_of act_of clause_step operand bytes_of
    begin-step = place_is depth vs h bs (rank 0) refl

    unary-step : (op : Unary) (v : Value) → Said v → length bs + span_of (unary_gives op) ≤ space
        → step_of depth space s look env.values (unary_number op) 0 (vs ++ pair v) (bs ++ bytes_of v) ≡ topped vs bs (unary_of (lookup env) op v)
    unfolding step_of act_of
    unary-step Operator.lookup v z k = lookup-is depth vs h space look (lookup env) same bs v z k
    unary-step Operator.convert v z k = unary-is depth vs h env.values 7 bs v z ∙ ap (topped vs bs) (unary-number env.values (lookup env) Operator.convert v refl)
    unary-step Operator.negate v z k = unary-is depth vs h env.values 8 bs v z ∙ ap (topped vs bs) (unary-number env.values (lookup env) Operator.negate v refl)
    unary-step Operator.opposite v z k = unary-is depth vs h env.values 9 bs v z ∙ ap (topped vs bs) (unary-number env.values (lookup env) Operator.opposite v refl)
    unary-step Operator.to-float v z k = unary-is depth vs h env.values 10 bs v z ∙ ap (topped vs bs) (unary-number env.values (lookup env) Operator.to-float v refl)
    unary-step Operator.float-negate v z k = unary-is depth vs h env.values 11 bs v z ∙ ap (topped vs bs) (unary-number env.values (lookup env) Operator.float-negate v refl)

    binary-step : (op : Binary) (v w : Value) → Said v → Said w
        → step_of depth space s look env.values (binary_number op) 0 ((vs ++ pair v) ++ pair w) ((bs ++ bytes_of v) ++ bytes_of w) ≡ topped vs bs (binary_of op v w)
    unfolding step_of act_of
    binary-step op v w z y =
        let n : ℕ = binary_number op in
        let b : (12 ≤ n) × (n ≤ 42) = binary-between op in
        rw (lt-leb n 5 (omega (arith, b.0)), ne_eqb n 6 (λ z. omega (arith, z, b.0)), lt-leb n 11 (omega (arith, b.0)), le-leb n 42 b.1)
        (binary-is depth vs h env.values n bs v w z y ∙ ap (topped vs bs) (combined-is env.values op v w))

    -- a clause's rank is brought to its program's
    raise-step : (r m : ℕ) → raised depth env.values (topped (vs ++ pair (rank r)) (bs ++ bytes_of (rank r)) (rank m)) ≡ topped vs bs (rank (max r m))
    unfolding raised topped
    raise-step r m = binary-is depth vs h env.values 47 bs (rank r) (rank m) tt tt ∙ ap (topped vs bs) (raise-is env.values r m)

  -- a right side that a test decides, or one that is run
  decide : (x : ℕ) (op : Binary) (v w : Value) → eqb (kind_of (operand v)) 5 ≡ false → {f : Expr} {d : List ℕ} → Codes s f d → (rest vs bs : List ℕ)
      → (after x (d ++ (entry (binary_number op) 0 ∷ rest)) (topped vs bs v) ≡ run (d ++ (entry (binary_number op) 0 ∷ rest)) (topped vs bs v)
      → after x (d ++ (entry (binary_number op) 0 ∷ rest)) (topped vs bs v) ≡ after (binary_number op) rest (topped vs bs (binary_of op v w)))
      → after x (d ++ (entry (binary_number op) 0 ∷ rest)) (topped vs bs v) ≡ after (binary_number op) rest (topped vs bs (binary_of op v w))
  decide x op v w other {d = d} k rest vs bs go =
      let n : ℕ = binary_number op in
      let low : 12 ≤ n = (binary-between op).0 in
      let high : n ≤ 42 = (binary-between op).1 in
      split (leb x 5) (λ a. go (pushed x a (d ++ (entry n 0 ∷ rest)) vs bs v))
      (λ a. split (is_false (vs ++ pair v))
      (λ t. split (eqb n 41)
      (λ b. let o : n ≡ 41 = eqb-true n 41 b in let e : v ≡ test false = failing v (sym (false-top vs v) ∙ t) in
      rw (o, e, both_false op w o) (decided x a k rest vs bs))
      (λ b. go (undecided x vs bs v other n low high k rest (λ y o. eqb-false n 41 b o))))
      (λ t. go (undecided x vs bs v other n low high k rest (λ y o. clash y t))))

  -- an expression's code leaves its value on top
  pub run-expression : {e : Expr} {c : List ℕ} → Codes s e c → (rest vs bs : List ℕ) → length vs + 2 * need e ≤ depth → length bs + room e ≤ space
      → run (c ++ rest) (on vs bs) ≡ after (last_of e) rest (topped vs bs (evaluate env e))
  unfolding evaluate need room topped
  run-expression (code-literal at p) rest vs bs h k = enter 0 at p rest vs bs _ (literal-step vs bs (omega arith) at k)
  run-expression (code-name at p) rest vs bs h k = enter 1 at p rest vs bs _ (name-step vs bs (omega arith) at k)
  run-expression (code-number at p) rest vs bs h k = enter 2 at p rest vs bs _ (number_step vs bs (omega arith) at)
  run-expression code-true rest vs bs h k = enter 3 0 (omega arith) rest vs bs _ (true-step vs bs (omega arith))
  run-expression code-false rest vs bs h k = enter 4 0 (omega arith) rest vs bs _ (false-step vs bs (omega arith))
  run-expression (code-decimal at p) rest vs bs h k = enter 5 at p rest vs bs _ (decimal_step vs bs (omega arith) at)
  run-expression (code-unary {op = op} {e = e} {c = c} k) rest vs bs h m =
      let v : Value = evaluate env e in
      let n : ℕ = unary_number op in
      let low : 6 ≤ n = (unary-between op).0 in
      ap (λ (l : List ℕ). run l (on vs bs)) (append_assoc c (entry n 0 ∷ []) rest)
      ∙ run-expression k (entry n 0 ∷ rest) vs bs h (omega arith)
      ∙ stays (last_of e) vs bs v (unranked env e) n (omega arith) rest
      ∙ enter n 0 (omega arith) rest (vs ++ pair v) (bs ++ bytes_of v) _ (unary-step vs bs (omega (arith, need-some e)) op v (value-said env e) (omega arith))
  run-expression (code-binary {op = op} {e = e} {f = f} {c = c} {d = d} k l) rest vs bs h m =
      let v : Value = evaluate env e in
      let w : Value = evaluate env f in
      let n : ℕ = binary_number op in
      let low : 12 ≤ n = (binary-between op).0 in
      ap (λ (l : List ℕ). run l (on vs bs)) (append_assoc (c ++ d) (entry n 0 ∷ []) rest ∙ append_assoc c d (entry n 0 ∷ rest))
      ∙ run-expression k (d ++ (entry n 0 ∷ rest)) vs bs (omega arith) (omega arith)
      ∙ decide (last_of e) op v w (unranked env e) l rest vs bs
      (λ still. still
      ∙ run-expression l (entry n 0 ∷ rest) (vs ++ pair v) (bs ++ bytes_of v) (rw (count-is vs v) (omega arith))
      (rw (length-append bs (bytes_of v)) (omega (arith, within-span env e)))
      ∙ stays (last_of f) (vs ++ pair v) (bs ++ bytes_of v) w (unranked env f) n (omega arith) rest
      ∙ enter n 0 (omega arith) rest ((vs ++ pair v) ++ pair w) ((bs ++ bytes_of v) ++ bytes_of w) _ (binary-step vs bs (omega (arith, need-some e)) op v w (value-said env e) (value-said env f)))

  -- the entries that end a clause, above the rank r of the program so far
  module _ (vs bs : List ℕ) (h : length vs + 4 ≤ depth) (r : ℕ) where
    abbrev vs' : List ℕ
    vs' = vs ++ pair (rank r)

    abbrev bs' : List ℕ
    bs' = bs ++ bytes_of (rank r)

    high : length vs' + 2 ≤ depth
    high = rw (count-is vs (rank r)) (omega arith)

    plain_step : (v : Value) → Said v → step_of depth space s look env.values 44 0 (vs' ++ pair v) (bs' ++ bytes_of v) ≡ topped vs bs (rank (max r (gate v (top env.values))))
    unfolding step_of act_of clause_step
    plain_step v z =
        ap (raised depth env.values) (unary-is depth vs' high env.values 44 bs' v z ∙ ap (topped vs' bs') (plain-is env.values v))
        ∙ raise-step vs bs (omega arith) r (gate v (top env.values))

    valued-step : (v w : Value) → Said v → Said w → eqb (kind_of (operand v)) 5 ≡ false
        → step_of depth space s look env.values 45 0 ((vs' ++ pair v) ++ pair w) ((bs' ++ bytes_of v) ++ bytes_of w) ≡ topped vs bs (rank (max r (gate v (rank_of env.values w))))
    unfolding step_of act_of clause_step
    valued-step v w z y other =
        rw (idle-not vs' v w other) (ap (raised depth env.values) (binary-is depth vs' high env.values 45 bs' v w z y ∙ ap (topped vs' bs') (valued-is env.values v w))
        ∙ raise-step vs bs (omega arith) r (gate v (rank_of env.values w)))

    nested-step : (v : Value) (n : ℕ) → Said v → eqb (kind_of (operand v)) 5 ≡ false
        → step_of depth space s look env.values 46 0 ((vs' ++ pair v) ++ pair (rank n)) ((bs' ++ bytes_of v) ++ bytes_of (rank n)) ≡ topped vs bs (rank (max r (gate v n)))
    unfolding step_of act_of clause_step
    nested-step v n z other =
        rw (idle-not vs' v (rank n) other) (ap (raised depth env.values) (binary-is depth vs' high env.values 46 bs' v (rank n) z tt ∙ ap (topped vs' bs') (nested_is env.values v n))
        ∙ raise-step vs bs (omega arith) r (gate v n))

    -- the rank stays where the test fails and its string was passed by
    idle-step : step_of depth space s look env.values 45 0 (vs' ++ pair (test false)) (bs' ++ bytes_of (test false)) ≡ topped vs bs (rank r)
    unfolding step_of act_of clause_step topped bytes_of operand kind_of
    idle-step =
        let i : is_idle (vs' ++ pair (test false)) ≡ true = idle-top vs (rank r) (test false) in
        rw (i, below-is vs' (test false), append-nil bs')

    -- a string that is passed by, or one that is run
    valuing : (x : ℕ) (v w : Value) → eqb (kind_of (operand v)) 5 ≡ false → {f : Expr} {d : List ℕ} → Codes s f d → (rest : List ℕ)
        → (after x (d ++ (entry 45 0 ∷ rest)) (topped vs' bs' v) ≡ run (d ++ (entry 45 0 ∷ rest)) (topped vs' bs' v)
        → after x (d ++ (entry 45 0 ∷ rest)) (topped vs' bs' v) ≡ after 45 rest (topped vs bs (rank (max r (gate v (rank_of env.values w))))))
        → after x (d ++ (entry 45 0 ∷ rest)) (topped vs' bs' v) ≡ after 45 rest (topped vs bs (rank (max r (gate v (rank_of env.values w)))))
    unfolding topped
    valuing x v w other {d = d} k rest go =
        split (leb x 5) (λ a. go (pushed x a (d ++ (entry 45 0 ∷ rest)) vs' bs' v))
        (λ a. split (is_false (vs' ++ pair v))
        (λ t. let e : v ≡ test false = failing v (sym (false-top vs' v) ∙ t) in
        let z : max r 0 ≡ r = omega arith in
        rw (e, z) (spared x a k rest vs' bs' ∙ enter 45 0 (omega arith) rest (vs' ++ pair (test false)) (bs' ++ bytes_of (test false)) _ idle-step))
        (λ t. go (unmoved x vs' bs' v other (d ++ (entry 45 0 ∷ rest)) (λ y. clash y t))))

  flat : (bs : List ℕ) (r : ℕ) → length (bs ++ bytes_of (rank r)) ≡ length bs
  flat bs r = rw ((plain-rank r).none, append-nil bs)

  mutual
    unfolding conditions clause program_need clause_need program_room clause_room topped

    -- a program's code leaves its rank on top
    pub run-program : (p : Program) {c : List ℕ} → ProgramCodes s p c → (rest vs bs : List ℕ)
        → length vs + 2 * program_need p ≤ depth → length bs + program_room p ≤ space → run (c ++ rest) (on vs bs) ≡ after 44 rest (topped vs bs (rank (conditions env p)))
    run-program none code-none rest vs bs h m = enter 43 0 (omega arith) rest vs bs _ (begin-step vs bs (omega arith))
    run-program (also p q) (code-also {c = c} {d = d} k l) rest vs bs h m =
        ap (λ (x : List ℕ). run x (on vs bs)) (append_assoc c d rest)
        ∙ run-program p k (d ++ rest) vs bs (omega arith) (omega arith)
        ∙ settle rest vs bs (conditions env p) q l (run-clause q l rest vs bs (conditions env p) (omega arith) (omega arith))

    run-clause : (q : Clause) {c : List ℕ} → ClauseCodes s q c → (rest vs bs : List ℕ) (r : ℕ)
        → length vs + 2 * (1 + clause_need q) ≤ depth → length bs + clause_room q ≤ space
        → run (c ++ rest) (topped vs bs (rank r)) ≡ after 44 rest (topped vs bs (rank (max r (clause env q))))
    run-clause (plain e) (code-plain {c = c} k) rest vs bs r h m =
        let v : Value = evaluate env e in
        let vs1 : List ℕ = vs ++ pair (rank r) in
        let bs1 : List ℕ = bs ++ bytes_of (rank r) in
        ap (λ (x : List ℕ). run x (topped vs bs (rank r))) (append_assoc c (entry 44 0 ∷ []) rest)
        ∙ run-expression k (entry 44 0 ∷ rest) vs1 bs1 (rw (count-is vs (rank r)) (omega arith)) (rw (flat bs r) m)
        ∙ stays (last_of e) vs1 bs1 v (unranked env e) 44 (omega arith) rest
        ∙ enter 44 0 (omega arith) rest (vs1 ++ pair v) (bs1 ++ bytes_of v) _ (plain_step vs bs (omega (arith, need-some e)) r v (value-said env e))
    run-clause (valued e f) (code-valued {c = c} {d = d} k l) rest vs bs r h m =
        let v : Value = evaluate env e in
        let w : Value = evaluate env f in
        let vs1 : List ℕ = vs ++ pair (rank r) in
        let bs1 : List ℕ = bs ++ bytes_of (rank r) in
        ap (λ (x : List ℕ). run x (topped vs bs (rank r))) (append_assoc (c ++ d) (entry 45 0 ∷ []) rest ∙ append_assoc c d (entry 45 0 ∷ rest))
        ∙ run-expression k (d ++ (entry 45 0 ∷ rest)) vs1 bs1 (rw (count-is vs (rank r)) (omega arith)) (rw (flat bs r) (omega arith))
        ∙ valuing vs bs (omega (arith, need-some e)) r (last_of e) v w (unranked env e) l rest
        (λ still. still
        ∙ run-expression l (entry 45 0 ∷ rest) (vs1 ++ pair v) (bs1 ++ bytes_of v) (rw (count-is vs1 v, count-is vs (rank r)) (omega arith))
        (rw (length-append bs1 (bytes_of v), flat bs r) (omega (arith, within-span env e)))
        ∙ stays (last_of f) (vs1 ++ pair v) (bs1 ++ bytes_of v) w (unranked env f) 45 (omega arith) rest
        ∙ enter 45 0 (omega arith) rest ((vs1 ++ pair v) ++ pair w) ((bs1 ++ bytes_of v) ++ bytes_of w) _ (valued-step vs bs (omega (arith, need-some e)) r v w (value-said env e) (value-said env f) (unranked env e)))
    run-clause (nested e p) (code-nested {c = c} {d = d} k l) rest vs bs r h m =
        let v : Value = evaluate env e in
        let n : ℕ = conditions env p in
        let vs1 : List ℕ = vs ++ pair (rank r) in
        let bs1 : List ℕ = bs ++ bytes_of (rank r) in
        ap (λ (x : List ℕ). run x (topped vs bs (rank r))) (append_assoc (c ++ d) (entry 46 0 ∷ []) rest ∙ append_assoc c d (entry 46 0 ∷ rest))
        ∙ run-expression k (d ++ (entry 46 0 ∷ rest)) vs1 bs1 (rw (count-is vs (rank r)) (omega arith)) (rw (flat bs r) (omega arith))
        ∙ to-program (last_of e) vs1 bs1 v (unranked env e) (entry 46 0 ∷ rest) p l
        ∙ run-program p l (entry 46 0 ∷ rest) (vs1 ++ pair v) (bs1 ++ bytes_of v) (rw (count-is vs1 v, count-is vs (rank r)) (omega arith))
        (rw (length-append bs1 (bytes_of v), flat bs r) (omega (arith, within-span env e)))
        ∙ closes rest (vs1 ++ pair v) (bs1 ++ bytes_of v) n
        ∙ enter 46 0 (omega arith) rest ((vs1 ++ pair v) ++ pair (rank n)) ((bs1 ++ bytes_of v) ++ bytes_of (rank n)) _ (nested-step vs bs (omega (arith, need-some e)) r v n (value-said env e) (unranked env e))

-- "Conditions": in buffers large enough the machine's result is the program's rank
module _ {rec consts values names constants : List ℕ} {env : Environment} (shows : Shows rec consts values names constants env) (depth space : ℕ) where
  pub run-conditions : (s : List ℕ) (p : Program) (code : List ℕ) → ProgramCodes s p code → 2 * program_need p ≤ depth → program_room p ≤ space
      → result_of (exec depth space s (lookup_in rec consts values names constants) (map (counted rec) values) code (on [] [])) ≡ Rank (conditions env p)
  unfolding result_of exec_behind topped operand
  run-conditions s p code k h m =
      rw (values-are shows)
      (ap (λ (c : List ℕ). result_of (exec depth space s (lookup_in rec consts values names constants) env.values c (on [] []))) (sym (append-nil code))
      ∙ ap result_of (run-program depth space s (lookup_in rec consts values names constants) env (shown-is shows) p k [] [] [] (omega arith) (omega arith))
      ∙ top-is [] (rank (conditions env p)) tt)
