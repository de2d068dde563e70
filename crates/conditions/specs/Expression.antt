-- Expressions: an operand, and the operators that bind as tightly as the level says or tighter, from left to right. Assumes nothing.
use Rattle.std.specs.Prelude.{List, ℕ, zero, suc, ◌+◌, ◌-◌, eqb, leb, length}
use Rattle.text.specs.Choice.{pick}
use Rattle.text.specs.Loop.{Step, next, done, loop}
use Rattle.lexical.specs.Kind
use Rattle.lexical.specs.declared.token.Token.{Token}
use Rattle.syntax.specs.Operator.{Unary, Binary, unary_takes, unary_gives, binary_takes, binary_gives}
use Rattle.syntax.specs.Expr.{Expr, unary, binary}
use Rattle.conditions.specs.Table.{PartSort, Want}
use Rattle.conditions.specs.Table
use Rattle.conditions.specs.Word.{next_at}
use Rattle.syntax.specs.Parsed.{Parsed, ok, aside, unexpected}
use Rattle.conditions.specs.Parsed.{Part, part, on_part}
use Rattle.conditions.specs.Operand.{read_leaf, settled_tree, applied}
use Rattle.limits.specs.Limits.{most_brackets, most_prefixes}

-- level, want, prefix operators in a row, open brackets, token
abbrev pub Reader : Type 0
Reader = ℕ → Want → ℕ → ℕ → Token → Parsed Part

abbrev pub expression_of : (Want → ℕ → ℕ → Token → Parsed Part) → (ℕ → ℕ → PartSort → Expr → Token → Parsed Part) → Reader
expression_of operand chain level want row nest t = on_part (operand want row nest t) (λ sort e n. chain level nest sort e n)

-- the token must be allowed where it stands; then it is a prefix operator, a bracket or an operand of one token
abbrev pub operand_of : (Unary → Want → ℕ → ℕ → Token → Parsed Part) → (Want → ℕ → Token → Parsed Part) → List ℕ → Want → ℕ → ℕ → Token → Parsed Part
operand_of prefixed bracketed s want row nest t =
    pick (Table.allows want t.kind)
    (Table.on_prefix (Table.prefix_operator t.kind)
    (pick (eqb t.kind Kind.OPEN) (bracketed want nest t) (read_leaf s want t))
    (λ op. prefixed op want row nest t))
    (unexpected t)

-- reason 7: "16 prefix operators in a row"
abbrev pub prefixed_of : Reader → List ℕ → Unary → Want → ℕ → ℕ → Token → Parsed Part
prefixed_of expression s op want row nest t =
    pick (leb most_prefixes row) (aside 7 t.start)
    (on_part (expression (Table.operand_level op) (Table.operand_want op want) (row + 1) nest (next_at s t.end))
    (λ sort e n. applied (unary (Table.prefix_of op sort)) (unary_takes (Table.prefix_of op sort)) (unary_gives (Table.prefix_of op sort)) sort e n))

abbrev pub closing : List ℕ → PartSort → Expr → Token → Parsed Part
closing s sort e t = pick (eqb t.kind Kind.CLOSE) (ok (part sort e) (next_at s t.end)) (unexpected t)

-- reason 7: "16 brackets open (round and curly together)"
abbrev pub bracketed_of : Reader → List ℕ → Want → ℕ → Token → Parsed Part
bracketed_of expression s want nest t =
    pick (leb most_brackets nest) (aside 7 t.start)
    (on_part (expression (Table.inside_level want) want 0 (nest + 1) (next_at s t.end)) (λ sort e n. closing s sort e n))

-- the operator's right operand, behind the place `at`
abbrev pub joined_of : Reader → List ℕ → Binary → ℕ → PartSort → Expr → ℕ → Parsed Part
joined_of expression s op nest sort e at =
    on_part (expression (Table.right_level op) (Table.right_want op) 0 nest (next_at s at))
    (λ x f n. applied (binary op (settled_tree (binary_takes op) sort e)) (binary_takes op) (binary_gives op) x f n)

-- the token, and the sort and the tree of what was read
abbrev pub State : Type 0
State = Token × PartSort × Expr

abbrev pub on_joined : Token → Parsed Part → Step State (Parsed Part)
on_joined t (aside r p) = done (aside r p)
on_joined t (ok (part x e) n) = pick (leb n.start t.start) (done (aside 0 t.start)) (next (n, x, e))

abbrev pub chain_turn : (Binary → ℕ → PartSort → Expr → ℕ → Parsed Part) → List ℕ → ℕ → ℕ → State → Step State (Parsed Part)
chain_turn joined s level nest x =
    pick (leb (length s) x.0.start) (done (ok (part x.1 x.2) x.0))
    (pick (Table.binds level (Table.operator x.1 x.0.kind))
    (Table.on_infix (Table.operator x.1 x.0.kind) (done (ok (part x.1 x.2) x.0))
    (λ op. on_joined x.0 (joined op nest x.1 x.2 x.0.end)))
    (done (ok (part x.1 x.2) x.0)))

abbrev pub chain_of : (Binary → ℕ → PartSort → Expr → ℕ → Parsed Part) → List ℕ → ℕ → ℕ → PartSort → Expr → Token → Parsed Part
chain_of joined s level nest sort e t = loop (λ x. length s - x.0.start) (λ x. aside 0 x.0.start) (chain_turn joined s level nest) (t, sort, e)

unfoldable mutual
  pub read_expression : ℕ → List ℕ → ℕ → Want → ℕ → ℕ → Token → Parsed Part
  read_expression zero s level want row nest t = aside 0 t.start
  read_expression (suc d) s level want row nest t =
      expression_of (λ want row nest t. read_operand d s want row nest t) (λ level nest sort e t. read_chain d s level nest sort e t) level want row nest t

  pub read_operand : ℕ → List ℕ → Want → ℕ → ℕ → Token → Parsed Part
  read_operand zero s want row nest t = aside 0 t.start
  read_operand (suc d) s want row nest t =
      operand_of (λ op want row nest t. read_prefixed d s op want row nest t) (λ want nest t. read_bracketed d s want nest t) s want row nest t

  pub read_prefixed : ℕ → List ℕ → Unary → Want → ℕ → ℕ → Token → Parsed Part
  read_prefixed zero s op want row nest t = aside 0 t.start
  read_prefixed (suc d) s op want row nest t = prefixed_of (λ level want row nest t. read_expression d s level want row nest t) s op want row nest t

  pub read_bracketed : ℕ → List ℕ → Want → ℕ → Token → Parsed Part
  read_bracketed zero s want nest t = aside 0 t.start
  read_bracketed (suc d) s want nest t = bracketed_of (λ level want row nest t. read_expression d s level want row nest t) s want nest t

  pub read_chain : ℕ → List ℕ → ℕ → ℕ → PartSort → Expr → Token → Parsed Part
  read_chain zero s level nest sort e t = aside 0 t.start
  read_chain (suc d) s level nest sort e t = chain_of (λ op nest sort e at. read_joined d s op nest sort e at) s level nest sort e t

  pub read_joined : ℕ → List ℕ → Binary → ℕ → PartSort → Expr → ℕ → Parsed Part
  read_joined zero s op nest sort e at = aside 0 at
  read_joined (suc d) s op nest sort e at = joined_of (λ level want row nest t. read_expression d s level want row nest t) s op nest sort e at
