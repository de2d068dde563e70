-- Expressions, read into code. Each body is a definition over the functions that it calls, and one block ties them by the depth. Assumes nothing.
use Rattle.std.specs.Prelude.{List, ℕ, zero, suc, ◌+◌, ◌-◌, eqb, leb, length, Ok, Err}
use Rattle.text.specs.Choice.{pick}
use Rattle.text.specs.Loop.{Step, next, done, loop}
use Rattle.lexical.specs.Kind
use Rattle.lexical.specs.declared.token.Token.{Token}
use Rattle.conditions.specs.Working.Numbered
use Rattle.conditions.specs.Word.{next_at}
use Rattle.conditions.specs.Working.Emit.{found, Ran, ran, on_found, word_top, word_written, refused, finish_at, closed_at}
use Rattle.conditions.specs.Working.Leaf.{leaf_read}
use Rattle.syntax.specs.Working.Faults.{against}
use Rattle.limits.specs.Limits.{most_brackets, most_prefixes}

-- code, its end, level, want, row, brackets, token
abbrev pub Expr : Type 0
Expr = List ℕ → ℕ → ℕ → ℕ → ℕ → ℕ → Token → Ran

abbrev pub expr_body : (List ℕ → ℕ → ℕ → ℕ → ℕ → Token → Ran) → (List ℕ → ℕ → ℕ → ℕ → ℕ → ℕ → Token → Ran) → Expr
expr_body operand chain m top level want row nest t = on_found (operand m top want row nest t) (λ x p u n b. chain b u level nest x p n)

abbrev pub operand_body : (List ℕ → ℕ → ℕ → ℕ → ℕ → ℕ → Token → Ran) → (List ℕ → ℕ → ℕ → ℕ → Token → Ran) → List ℕ → List ℕ → ℕ → ℕ → ℕ → ℕ → Token → Ran
operand_body prefixed bracketed s m top want row nest t =
    pick (Numbered.allows want t.kind)
    (pick (eqb (Numbered.prefix_operator t.kind) Numbered.NONE)
    (pick (eqb t.kind Kind.OPEN) (bracketed m top want nest t) (leaf_read s m top want t))
    (prefixed m top (Numbered.prefix_operator t.kind) want row nest t))
    (ran (refused t) m)

abbrev pub prefixed_body : Expr → List ℕ → List ℕ → ℕ → ℕ → ℕ → ℕ → ℕ → Token → Ran
prefixed_body expr s m top op want row nest t =
    pick (leb most_prefixes row) (ran (Err (against 7 t.start)) m)
    (on_found (expr m top (Numbered.operand_level op) (Numbered.operand_want op want) (row + 1) nest (next_at s t.end)) (λ x p u n b. finish_at b u (Numbered.prefix_of op x) x p n))

abbrev pub bracketed_body : Expr → List ℕ → List ℕ → ℕ → ℕ → ℕ → Token → Ran
bracketed_body expr s m top want nest t =
    pick (leb most_brackets nest) (ran (Err (against 7 t.start)) m)
    (on_found (expr m top (Numbered.inside_level want) want 0 (nest + 1) (next_at s t.end)) (λ x p u n b. ran (closed_at s x p u n) b))

abbrev pub joined_body : Expr → List ℕ → List ℕ → ℕ → ℕ → ℕ → ℕ → ℕ → ℕ → Ran
joined_body expr s m top op nest sort place at =
    on_found
    (expr (word_written m top (Numbered.operand_of op) sort place) (word_top m top sort) (Numbered.right_level op) (Numbered.right_want op) 0 nest (next_at s at))
    (λ x p u n b. finish_at b u op x p n)

-- the token, the sort and the place of what was read, the code's end and the code
abbrev pub State : Type 0
State = Token × ℕ × ℕ × ℕ × List ℕ

abbrev pub on_joined : Token → Ran → Step State Ran
on_joined t (ran (Err f) b) = done (ran (Err f) b)
on_joined t (ran (Ok q) b) = pick (leb q.next.start t.start) (done (ran (Err (against 0 t.start)) b)) (next (q.next, q.sort, q.place, q.top, b))

abbrev pub chain_turn : (List ℕ → ℕ → ℕ → ℕ → ℕ → ℕ → ℕ → Ran) → List ℕ → ℕ → ℕ → State → Step State Ran
chain_turn joined s level nest x =
    pick (leb (length s) x.0.start) (done (ran (found x.1 x.2 x.3 x.0) x.4))
    (pick (Numbered.binds level (Numbered.operator x.1 x.0.kind))
    (on_joined x.0 (joined x.4 x.3 (Numbered.operator x.1 x.0.kind) nest x.1 x.2 x.0.end))
    (done (ran (found x.1 x.2 x.3 x.0) x.4)))

abbrev pub chain_loop : (List ℕ → ℕ → ℕ → ℕ → ℕ → ℕ → ℕ → Ran) → List ℕ → List ℕ → ℕ → ℕ → ℕ → ℕ → ℕ → Token → Ran
chain_loop joined s m top level nest sort place t =
    loop (λ x. length s - x.0.start) (λ x. ran (Err (against 0 x.0.start)) x.4) (chain_turn joined s level nest) (t, sort, place, top, m)

unfoldable mutual
  pub expr_at : ℕ → List ℕ → List ℕ → ℕ → ℕ → ℕ → ℕ → ℕ → Token → Ran
  expr_at zero s m top level want row nest t = ran (Err (against 0 t.start)) m
  expr_at (suc d) s m top level want row nest t =
      expr_body (λ m top want row nest t. operand_at d s m top want row nest t)
      (λ m top level nest sort place t. chain_at d s m top level nest sort place t) m top level want row nest t

  pub operand_at : ℕ → List ℕ → List ℕ → ℕ → ℕ → ℕ → ℕ → Token → Ran
  operand_at zero s m top want row nest t = ran (Err (against 0 t.start)) m
  operand_at (suc d) s m top want row nest t =
      operand_body (λ m top op want row nest t. prefixed_at d s m top op want row nest t)
      (λ m top want nest t. bracketed_at d s m top want nest t) s m top want row nest t

  pub prefixed_at : ℕ → List ℕ → List ℕ → ℕ → ℕ → ℕ → ℕ → ℕ → Token → Ran
  prefixed_at zero s m top op want row nest t = ran (Err (against 0 t.start)) m
  prefixed_at (suc d) s m top op want row nest t =
      prefixed_body (λ m top level want row nest t. expr_at d s m top level want row nest t) s m top op want row nest t

  pub bracketed_at : ℕ → List ℕ → List ℕ → ℕ → ℕ → ℕ → Token → Ran
  bracketed_at zero s m top want nest t = ran (Err (against 0 t.start)) m
  bracketed_at (suc d) s m top want nest t =
      bracketed_body (λ m top level want row nest t. expr_at d s m top level want row nest t) s m top want nest t

  pub chain_at : ℕ → List ℕ → List ℕ → ℕ → ℕ → ℕ → ℕ → ℕ → Token → Ran
  chain_at zero s m top level nest sort place t = ran (Err (against 0 t.start)) m
  chain_at (suc d) s m top level nest sort place t =
      chain_loop (λ m top op nest sort place at. joined_at d s m top op nest sort place at) s m top level nest sort place t

  pub joined_at : ℕ → List ℕ → List ℕ → ℕ → ℕ → ℕ → ℕ → ℕ → ℕ → Ran
  joined_at zero s m top op nest sort place at = ran (Err (against 0 at)) m
  joined_at (suc d) s m top op nest sort place at =
      joined_body (λ m top level want row nest t. expr_at d s m top level want row nest t) s m top op nest sort place at

-- the rest of a chain, with its operands at the depth k
unfoldable pub chain_rest : ℕ → List ℕ → List ℕ → ℕ → ℕ → ℕ → ℕ → ℕ → Token → Ran
chain_rest k s m top level nest sort place t =
    chain_loop (λ m top op nest sort place at. joined_at k s m top op nest sort place at) s m top level nest sort place t
