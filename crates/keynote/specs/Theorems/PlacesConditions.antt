-- A reason against Conditions, or against an expression, is at most 8, and its place lies in the text or at its end. Assumes nothing.
use Rattle.std.specs.Prelude.{◌≡◌, refl, List, [], eqb, leb, ltb, length, replicate, Err}
use Rattle.std.proofs.Common.{ap, ◌∙◌, arith, le-ltb}
use Prim.Native.Nat.{ℕ, zero, suc, ◌+◌, ◌-◌, ◌≤◌, ◌<◌, zero-le}
use Rattle.std.proofs.lemmas.List.{length-replicate}
use Rattle.lexical.specs.Kind
use Rattle.lexical.specs.Literal.{decoded_at}
use Rattle.lexical.specs.Number as Number
use Rattle.lexical.specs.declared.token.Token.{Token}
use Rattle.syntax.specs.Operator.{Unary, Binary, Sort, a-string, a_test, unary_takes, unary_gives, binary_takes, binary_gives}
use Rattle.syntax.specs.Expr.{Expr, Program, none, also, Clause, nested, unary, binary}
use Rattle.syntax.specs.Parsed.{Parsed, ok, aside, refusal, unexpected}
use Rattle.syntax.specs.Working.Faults.{against}
use Rattle.syntax.specs.declared.fault.Fault.{Fault}
use Rattle.conditions.specs.Table.{PartSort, Want, want-any, want-string, is_any}
use Rattle.conditions.specs.Table
use Rattle.conditions.specs.Working.Cases.{infix-cases, prefix_cases}
use Rattle.conditions.specs.Word.{next_at}
use Rattle.conditions.specs.Parsed.{Part, part, on_part}
use Rattle.conditions.specs.Operand.{read_literal, read_name, read_digits, read_float, read_leaf, settled_tree, applied}
use Rattle.conditions.specs.Expression as E
use Rattle.conditions.specs.Expression.{read_expression, read_operand, read_prefixed, read_bracketed, read_chain, read_joined, closing, on_joined, chain_turn}
use Rattle.conditions.specs.Program as P
use Rattle.conditions.specs.Program.{clause_end, valuing, stopping, on_clause, clauses_turn, DEPTH, read_clause, read_tested, read_value, read_nested, read_block, read_clauses, read_program}
use Rattle.syntax.specs.Code.{ProgramCodes}
use Rattle.syntax.specs.Stood.{Stood}
use Rattle.text.specs.Choice.{clash}
use Rattle.conditions.specs.Working.Emit.{Ran, ran}
use Rattle.conditions.specs.Working.Same.{Same, same-aside, same-part, SameAs, as-aside, as-ok, start-within}
use Rattle.conditions.proofs.Working.TieExpression.{expression-same}
use Rattle.conditions.proofs.Working.TieProgram.{conditions-same}
use Rattle.conditions.specs.Working.Pace.{within, next-sound, Paced, paced-aside, paced-found}
use Rattle.conditions.proofs.Working.PaceExpression.{expression-paced}
use Rattle.conditions.specs.Working.PaceProgram.{Blocked, blocked-aside, blocked-found}
use Rattle.conditions.proofs.Working.PaceProgram.{block-paced}
use Rattle.conditions.specs.Working.Program.{conditions_at}
use Rattle.naming.specs.Theorems.Says.{stood-sound}
use Rattle.keynote.specs.Theorems.Keeping.{Keeps, k-next, k-done, keeps-pick, loop-keeps}
use Rattle.keynote.specs.Theorems.Places.{In, token-in, Placed, p-ok, p-aside, placed-pick, placed-then, at-token, refusal-small}

module _ (s : List ℕ) where
  next-in : (at : ℕ) → In s (next_at s at)
  next-in at = token-in s Kind.IN_FIELD at

  part_placed : {A : Type 0} {r : Parsed Part} (k : PartSort → Expr → Token → Parsed A) → Placed s 0 r → ((sort : PartSort) (e : Expr) (t : Token) → In s t → Placed s 0 (k sort e t)) → Placed s 0 (on_part r k)
  part_placed k (p-ok (part sort e) t i) f = f sort e t i
  part_placed k (p-aside r p h g l) f = p-aside r p h g l

  zero-at : {A : Type 0} (t : Token) → In s t → Placed s 0 {A = A} (aside 0 t.start)
  zero-at t i = at-token 0 t i zero-le zero-le

  nowhere : {A : Type 0} (t : Token) → In s t → Placed s 0 {A = A} (unexpected t)
  nowhere t i = at-token (refusal t.kind) t i zero-le (refusal-small t.kind)

  leaf-placed : (want : Want) (t : Token) → In s t → Placed s 0 (read_leaf s want t)
  unfolding read_leaf read_literal read_name read_digits read_float
  leaf-placed want t i =
      placed-pick (eqb t.kind Kind.LITERAL) (placed-pick (ltb 2048 (length (decoded_at s t.start))) (at-token 7 t i zero-le (omega arith)) (p-ok _ _ (next-in t.end)))
      (placed-pick (eqb t.kind Kind.NAME) (p-ok _ _ (next-in t.end))
      (placed-pick (eqb t.kind Kind.DIGITS) (placed-pick (leb Number.LIMIT (Number.number_at s t.start t.end)) (at-token 5 t i zero-le (omega arith)) (p-ok _ _ (next-in t.end)))
      (placed-pick (ltb 19 (t.end - t.start)) (at-token 7 t i zero-le (omega arith)) (p-ok _ _ (next-in t.end)))))

  applied-placed : (f : Expr → Expr) (takes gives : Sort) (sort : PartSort) (e : Expr) (t : Token) → In s t → Placed s 0 (applied f takes gives sort e t)
  unfolding applied
  applied-placed f takes gives sort e t i = placed-pick (Table.fits takes sort) (p-ok _ t i) (nowhere t i)

  closing-placed : (sort : PartSort) (e : Expr) (t : Token) → In s t → Placed s 0 (closing s sort e t)
  closing-placed sort e t i = placed-pick (eqb t.kind Kind.CLOSE) (p-ok _ _ (next-in t.end)) (nowhere t i)

  abbrev ChainIn : E.State → Type 0
  ChainIn x = In s x.0

  on-joined : (t : Token) → In s t → {r : Parsed Part} → Placed s 0 r → Keeps ChainIn (Placed s 0) (on_joined t r)
  on-joined t i (p-aside r p h g l) = k-done (aside r p) (p-aside r p h g l)
  on-joined t i (p-ok (part x e) n j) = keeps-pick _ _ (leb n.start t.start) (k-done _ (zero-at t i)) (k-next (n, x, e) j)

  chain-placed : (joined : Binary → ℕ → PartSort → Expr → ℕ → Parsed Part) → ((op : Binary) (nest : ℕ) (sort : PartSort) (e : Expr) (at : ℕ) → at ≤ length s → Placed s 0 (joined op nest sort e at))
      → (level nest : ℕ) (sort : PartSort) (e : Expr) (t : Token) → In s t → Placed s 0 (E.chain_of joined s level nest sort e t)
  chain-placed joined g level nest sort e t i = loop-keeps ChainIn (Placed s 0) _ _ (chain_turn joined s level nest) (λ x j. zero-at x.0 j)
      (λ x j. keeps-pick _ _ (leb (length s) x.0.start) (k-done _ (p-ok _ x.0 j))
      (keeps-pick _ _ (Table.binds level (Table.operator x.1 x.0.kind))
      (infix-cases (Keeps ChainIn (Placed s 0)) (Table.operator x.1 x.0.kind) _ _ (λ z. k-done _ (p-ok _ x.0 j))
      (λ op z. on-joined x.0 j (g op nest x.1 x.2 x.0.end j.ends)))
      (k-done _ (p-ok _ x.0 j)))) (t, sort, e) i

  mutual
    unfolding read_expression read_operand read_prefixed read_bracketed read_chain read_joined

    pub expression-placed : (d level : ℕ) (want : Want) (row nest : ℕ) (t : Token) → In s t → Placed s 0 (read_expression d s level want row nest t)
    expression-placed zero level want row nest t i = zero-at t i
    expression-placed (suc d) level want row nest t i = part_placed _ (operand-placed d want row nest t i) (λ sort e n k. chain-in d level nest sort e n k)

    operand-placed : (d : ℕ) (want : Want) (row nest : ℕ) (t : Token) → In s t → Placed s 0 (read_operand d s want row nest t)
    operand-placed zero want row nest t i = zero-at t i
    operand-placed (suc d) want row nest t i =
        placed-pick (Table.allows want t.kind)
        (prefix_cases (Placed s 0) (Table.prefix_operator t.kind) _ _
        (λ z. placed-pick (eqb t.kind Kind.OPEN) (bracketed-placed d want nest t i) (leaf-placed want t i))
        (λ op z. prefixed-placed d op want row nest t i))
        (nowhere t i)

    prefixed-placed : (d : ℕ) (op : Unary) (want : Want) (row nest : ℕ) (t : Token) → In s t → Placed s 0 (read_prefixed d s op want row nest t)
    prefixed-placed zero op want row nest t i = zero-at t i
    prefixed-placed (suc d) op want row nest t i =
        placed-pick (leb 16 row) (at-token 7 t i zero-le (omega arith))
        (part_placed _ (expression-placed d (Table.operand_level op) (Table.operand_want op want) (row + 1) nest (next_at s t.end) (next-in t.end)) (λ sort e n k. applied-placed (unary (Table.prefix_of op sort)) (unary_takes (Table.prefix_of op sort)) (unary_gives (Table.prefix_of op sort)) sort e n k))

    bracketed-placed : (d : ℕ) (want : Want) (nest : ℕ) (t : Token) → In s t → Placed s 0 (read_bracketed d s want nest t)
    bracketed-placed zero want nest t i = zero-at t i
    bracketed-placed (suc d) want nest t i =
        placed-pick (leb 16 nest) (at-token 7 t i zero-le (omega arith))
        (part_placed _ (expression-placed d (Table.inside_level want) want 0 (nest + 1) (next_at s t.end) (next-in t.end)) (λ sort e n k. closing-placed sort e n k))

    chain-in : (d level nest : ℕ) (sort : PartSort) (e : Expr) (t : Token) → In s t → Placed s 0 (read_chain d s level nest sort e t)
    chain-in zero level nest sort e t i = zero-at t i
    chain-in (suc d) level nest sort e t i = chain-placed (λ op nest sort e at. read_joined d s op nest sort e at) (λ op nest sort e at h. joined-placed d op nest sort e at h) level nest sort e t i

    joined-placed : (d : ℕ) (op : Binary) (nest : ℕ) (sort : PartSort) (e : Expr) (at : ℕ) → at ≤ length s → Placed s 0 (read_joined d s op nest sort e at)
    joined-placed zero op nest sort e at h = p-aside 0 at zero-le zero-le h
    joined-placed (suc d) op nest sort e at h =
        part_placed _ (expression-placed d (Table.right_level op) (Table.right_want op) 0 nest (next_at s at) (next-in at))
        (λ x f n k. applied-placed (binary op (settled_tree (binary_takes op) sort e)) (binary_takes op) (binary_gives op) x f n k)

  -- ---- programs

  ending-placed : (q : Clause) (t : Token) → In s t → Placed s 0 (clause_end s q t)
  unfolding clause_end
  ending-placed q t i = placed-pick (eqb t.kind Kind.SEMICOLON) (p-ok q _ (next-in t.end)) (nowhere t i)

  valuing-placed : (e : Expr) (sort : PartSort) (f : Expr) (t : Token) → In s t → Placed s 0 (valuing s e sort f t)
  unfolding valuing
  valuing-placed e sort f t i = placed-pick (Table.fits a-string sort) (ending-placed _ t i) (nowhere t i)

  stopping-placed : (nest : ℕ) (p : Program) (t : Token) → In s t → Placed s 0 (stopping nest p t)
  unfolding stopping
  stopping-placed nest p t i = placed-pick (Table.stops nest t.kind) (p-ok p t i) (nowhere t i)

  abbrev ClausesIn : P.State → Type 0
  ClausesIn x = In s x.0

  on-clause : (t : Token) → In s t → (p : Program) {r : Parsed Clause} → Placed s 0 r → Keeps ClausesIn (Placed s 0) (on_clause t p r)
  on-clause t i p (p-aside r q h g l) = k-done (aside r q) (p-aside r q h g l)
  on-clause t i p (p-ok c n j) = keeps-pick _ _ (leb n.start t.start) (k-done _ (zero-at t i)) (k-next (n, also p c) j)

  clauses-of-placed : (clause : ℕ → Token → Parsed Clause) → ((nest : ℕ) (t : Token) → In s t → Placed s 0 (clause nest t)) → (nest : ℕ) (t : Token) → In s t → Placed s 0 (P.clauses_of clause s nest t)
  clauses-of-placed clause g nest t i = loop-keeps ClausesIn (Placed s 0) _ _ (clauses_turn clause s nest) (λ x j. zero-at x.0 j)
      (λ x j. keeps-pick _ _ (leb (length s) x.0.start) (k-done _ (stopping-placed nest x.1 x.0 j))
      (keeps-pick _ _ (Table.stops nest x.0.kind) (k-done _ (p-ok x.1 x.0 j)) (on-clause x.0 j x.1 (g nest x.0 j)))) (t, none) i

  mutual
    unfolding read_clause read_tested read_value read_nested read_block read_clauses

    clause-placed : (d nest : ℕ) (t : Token) → In s t → Placed s 0 (read_clause d s nest t)
    clause-placed zero nest t i = zero-at t i
    clause-placed (suc d) nest t i = part_placed _ (expression-placed d 0 want-any 0 nest t i) (λ sort e n k. tested-placed d nest sort e n k)

    tested-placed : (d nest : ℕ) (sort : PartSort) (e : Expr) (t : Token) → In s t → Placed s 0 (read_tested d s nest sort e t)
    tested-placed zero nest sort e t i = zero-at t i
    tested-placed (suc d) nest sort e t i =
        placed-pick (Table.fits a_test sort)
        (placed-pick (eqb t.kind Kind.ARROW) (value-placed d nest (settled_tree a_test sort e) (next_at s t.end) (next-in t.end)) (ending-placed _ t i))
        (nowhere t i)

    value-placed : (d nest : ℕ) (e : Expr) (t : Token) → In s t → Placed s 0 (read_value d s nest e t)
    value-placed zero nest e t i = zero-at t i
    value-placed (suc d) nest e t i =
        placed-pick (eqb t.kind Kind.OPEN_BRACE) (nested-placed d nest e t i)
        (part_placed _ (expression-placed d 3 want-string 0 nest t i) (λ sort f n k. valuing-placed e sort f n k))

    nested-placed : (d nest : ℕ) (e : Expr) (t : Token) → In s t → Placed s 0 (read_nested d s nest e t)
    nested-placed zero nest e t i = zero-at t i
    nested-placed (suc d) nest e t i =
        placed-pick (leb 16 nest) (at-token 7 t i zero-le (omega arith))
        (placed-then _ (block-placed d (nest + 1) (next_at s t.end) (next-in t.end)) (λ p n k. ending-placed (nested e p) (next_at s n.end) (next-in n.end)))

    block-placed : (d nest : ℕ) (t : Token) → In s t → Placed s 0 (read_block d s nest t)
    block-placed zero nest t i = zero-at t i
    block-placed (suc d) nest t i = clauses-placed d nest t i

    clauses-placed : (d nest : ℕ) (t : Token) → In s t → Placed s 0 (read_clauses d s nest t)
    clauses-placed zero nest t i = zero-at t i
    clauses-placed (suc d) nest t i = clauses-of-placed (λ nest t. read_clause d s nest t) (λ nest t k. clause-placed d nest t k) nest t i

  pub program-placed : (t : Token) → In s t → Placed s 0 (read_program s t)
  unfolding read_program
  program-placed t i = block-placed DEPTH 0 t i

-- ---- the depth suffices, so that the reason is one of document 01's

above_zero : (n : ℕ) → (n ≡ 0 → ⊥) → 1 ≤ n
above_zero zero h = absurd (h refl)
above_zero (suc n) h = omega arith

raised : {A : Type 0} (s : List ℕ) (r p : ℕ) → (r ≡ 0 → ⊥) → Placed s 0 {A = A} (aside r p) → Placed s 1 {A = A} (aside r p)
raised s r p k (p-aside _ _ h g l) = p-aside r p (above_zero r k) g l

raised-ok : {A : Type 0} (s : List ℕ) (a : A) (t : Token) → Placed s 0 (ok a t) → Placed s 1 (ok a t)
raised-ok s a t (p-ok _ _ i) = p-ok a t i

raise : (s m : List ℕ) (top at : ℕ) (q : Parsed Program) (r : Ran) → SameAs (ProgramCodes s) s m top q r → Blocked s 0 top at r → Placed s 0 q → Placed s 1 q
raise s m top at _ _ (as-aside r p b i) (blocked-aside _ _ _ k) h = raised s r p k h
raise s m top at _ _ (as-ok q x p u n b w g) (blocked-found _ _ _ _ _ k e i j) h = raised-ok s q n h

blocked-in : (s m : List ℕ) (at : ℕ) → length s ≤ length m → Blocked s 0 0 (next_at s at).start (conditions_at s m 0 (next_at s at))
unfolding conditions_at
blocked-in s m at room =
    rw (le-ltb (length m) 0 zero-le, le-ltb (length m - 0) (length s - (next_at s at).start) (omega arith)) (block-paced s DEPTH m 0 0 (next_at s at) (next-sound s at) (omega arith))

pub program-reasoned : (s : List ℕ) → length s < 65536 → (at : ℕ) → Placed s 1 (read_program s (next_at s at))
program-reasoned s short at =
    let m : List ℕ = replicate (length s) 0 in
    let l : length m ≡ length s = length-replicate (length s) 0 in
    raise s m 0 (next_at s at).start (read_program s (next_at s at)) (conditions_at s m 0 (next_at s at))
    (conditions-same s short m 0 (next_at s at) (start-within s at) zero-le (omega arith))
    (blocked-in s m at (omega arith))
    (program-placed s (next_at s at) (token-in s Kind.IN_FIELD at))

-- ---- the same of a string expression by itself

not_none : (s : List ℕ) (a b c r p : ℕ) (m : List ℕ) (x : Ran) → Paced s a b c x → x ≡ ran (Err (against r p)) m → r ≡ 0 → ⊥
not_none s a b c r p m _ (paced-aside r' p' b' h) e z = h (let q : against r' p' ≡ against r p = cc e in ap (λ (f : Fault). f.reason) q ∙ z)
not_none s a b c r p m _ (paced-found _ _ _ _ _ _ _ _) e z = absurd (let q : ◌≡◌ {A = ℕ} 0 1 = cc e in omega (arith, q))

raised-part : (s m : List ℕ) (top a b c : ℕ) (q : Parsed Part) (x : Ran) → Same s m top q x → Paced s a b c x → Placed s 0 q → Placed s 1 q
raised-part s m top a b c _ _ (same-aside r p k i) g h = raised s r p (not_none s a b c r p k _ g refl) h
raised-part s m top a b c _ _ (same-part x p u e n k w i j) g h = raised-ok s (part x e) n h

pub string-reasoned : (s : List ℕ) → length s < 65536 → (nest : ℕ) (t : Token) → Stood s t → In s t → Placed s 1 (read_expression DEPTH s 3 want-string 0 nest t)
string-reasoned s short nest t st i =
    raised-part s [] 0 0 t.start t.start (read_expression DEPTH s 3 want-string 0 nest t) _
    (expression-same s short DEPTH [] 0 3 want-string 0 nest t (within s t (stood-sound s t st)))
    (expression-paced s DEPTH [] 0 3 want-string 0 nest t (stood-sound s t st) (omega arith) (λ z. clash (ap is_any z) refl) (omega arith))
    (expression-placed s DEPTH 3 want-string 0 nest t i)
