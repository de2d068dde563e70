-- The code holds sorts and wants in whole words; each fits a byte all the same. Assumes nothing.
use Rattle.std.specs.Prelude.{◌≡◌, List, ℕ, zero, suc, ◌-◌, ◌<◌, ⊤, IfOk, refl, [], eqb, ltb, leb, length, Ok, Err}
use Rattle.std.proofs.Common.{sym, arith}
use Rattle.lexical.specs.Kind
use Rattle.lexical.specs.Literal.{decoded_at}
use Rattle.lexical.specs.Number as Number
use Rattle.lexical.specs.Theorems.Bounds.{chosen}
use Rattle.lexical.specs.Word.{spells, word_true, word_false}
use Rattle.lexical.specs.declared.token.Token.{Token}
use Rattle.syntax.specs.Op
use Rattle.syntax.specs.Working.Faults.{against}
use Rattle.conditions.specs.Program.{DEPTH}
use Rattle.conditions.specs.Table.{stops}
use Rattle.conditions.specs.Word.{next_at}
use Rattle.conditions.specs.Working.Numbered
use Rattle.conditions.specs.Working.Emit.{Out, Ran, ran, found, on_found, refused, finish_at, ended_at, valued_at, closed_at}
use Rattle.conditions.specs.Working.Expression
use Rattle.conditions.specs.Working.Keeping.{Kept, kept_next, kept-done, loop-keeps}
use Rattle.conditions.specs.Working.Leaf.{literal_read, name_read, digits_read, float_read, leaf_read}
use Rattle.conditions.specs.Working.Program
use Rattle.limits.specs.Limits.{most_float, most_literal, most_prefixes, most_brackets}

abbrev Byte : ℕ → Type 0
Byte n = n < 256

-- what operators take, give and want
operand-above-small : (op : ℕ) → Numbered.operand_above op < 256
unfolding Numbered.operand_above
operand-above-small op =
    chosen Byte (ltb Op.MATCHES op) _ _
    (λ e. chosen Byte (ltb Op.AT_LEAST op) _ _ (λ f. chosen Byte (ltb op Op.BOTH) _ _ (λ g. omega arith) (λ g. omega arith)) (λ f. omega arith))
    (λ e. omega arith)

pub operand-small : (op : ℕ) → Numbered.operand_of op < 256
unfolding Numbered.operand_of
operand-small op =
    chosen Byte (ltb Op.JOIN op) _ _ (λ e. chosen Byte (ltb Op.MINUS op) _ _ (λ f. operand-above-small op) (λ f. omega arith))
    (λ e. chosen Byte (eqb op Op.NEGATE) _ _ (λ f. omega arith)
    (λ f. chosen Byte (eqb op Op.OPPOSITE) _ _ (λ g. omega arith) (λ g. chosen Byte (eqb op Op.FLOAT_NEGATE) _ _ (λ h. omega arith) (λ h. omega arith))))

result-above-small : (op : ℕ) → Numbered.result_above op < 256
unfolding Numbered.result_above
result-above-small op =
    chosen Byte (ltb Op.AT_LEAST op) _ _ (λ e. chosen Byte (ltb Op.FLOAT_MINUS op) _ _ (λ f. omega arith) (λ f. omega arith)) (λ e. omega arith)

pub result-small : (op : ℕ) → Numbered.result_of op < 256
unfolding Numbered.result_of
result-small op =
    chosen Byte (ltb Op.JOIN op) _ _ (λ e. chosen Byte (ltb Op.MINUS op) _ _ (λ f. result-above-small op) (λ f. omega arith))
    (λ e. chosen Byte (eqb op Op.OPPOSITE) _ _ (λ f. omega arith)
    (λ f. chosen Byte (eqb op Op.LOOKUP) _ _ (λ g. omega arith)
    (λ g. chosen Byte (eqb op Op.JOIN) _ _ (λ h. omega arith) (λ h. chosen Byte (ltb Op.OPPOSITE op) _ _ (λ i. omega arith) (λ i. omega arith)))))

pub right-want-small : (op : ℕ) → Numbered.right_want op < 256
unfolding Numbered.right_want
right-want-small op = omega (arith, operand-small op)

pub operand-want-small : (op want : ℕ) → want < 256 → Numbered.operand_want op want < 256
unfolding Numbered.operand_want
operand-want-small op want h =
    chosen Byte (eqb op Op.OPPOSITE) _ _ (λ e. omega arith)
    (λ e. chosen Byte (eqb op Op.NEGATE) _ _ (λ f. chosen Byte (eqb want Numbered.ANY) _ _ (λ g. omega arith) (λ g. h))
    (λ f. chosen Byte (eqb op Op.FLOAT_NEGATE) _ _ (λ g. omega arith) (λ g. omega arith)))

pub word-sort-small : (s : List ℕ) (want start end : ℕ) → Numbered.word_sort s want start end < 256
unfolding Numbered.word_sort
word-sort-small s want start end =
    chosen Byte (eqb want Numbered.ANY) _ _
    (λ e. chosen Byte (spells s start end word_true) _ _ (λ f. omega arith) (λ f. chosen Byte (spells s start end word_false) _ _ (λ g. omega arith) (λ g. omega arith)))
    (λ e. omega arith)

-- an answer is a fault, or has a sort that fits a byte
abbrev pub SmallSort : Ran → Type 0
SmallSort (ran o b) = IfOk o (λ q. q.sort < 256)

-- what a reader answers, by its contract and the law of its definition below
pub sort-small : (o : Out) (b : List ℕ) (r : Ran) → ran o b ≡ r → SmallSort r → IfOk o (λ q. q.sort < 256)
sort-small o b r e k = rw (sym e) at k

small-on : (r : Ran) (l : ℕ → ℕ → ℕ → Token → List ℕ → Ran) → SmallSort r → ((x p u : ℕ) (n : Token) (b : List ℕ) → x < 256 → SmallSort (l x p u n b)) → SmallSort (on_found r l)
small-on (ran (Err f) b) l k h = tt
small-on (ran (Ok q) b) l k h = h q.sort q.place q.top q.next b k

pub refused-small : (t : Token) (b : List ℕ) → SmallSort (ran (refused t) b)
unfolding refused
refused-small t b = tt

pub finish-small : (m : List ℕ) (top op sort place : ℕ) (t : Token) → SmallSort (finish_at m top op sort place t)
unfolding finish_at
finish-small m top op sort place t =
    chosen SmallSort (Numbered.fits (Numbered.operand_of op) sort) _ _ (λ e. result-small op) (λ e. refused-small t m)

pub ended-small : (s m : List ℕ) (top op : ℕ) (t : Token) → SmallSort (ended_at s m top op t)
unfolding ended_at
ended-small s m top op t = chosen SmallSort (eqb t.kind Kind.SEMICOLON) _ _ (λ e. omega arith) (λ e. refused-small t m)

pub valued-small : (s m : List ℕ) (top sort place : ℕ) (t : Token) → SmallSort (valued_at s m top sort place t)
unfolding valued_at
valued-small s m top sort place t = chosen SmallSort (Numbered.fits Numbered.TEXT sort) _ _ (λ e. ended-small s _ _ Op.VALUED t) (λ e. refused-small t m)

pub closed-small : (s : List ℕ) (sort place top : ℕ) (t : Token) (b : List ℕ) → sort < 256 → SmallSort (ran (closed_at s sort place top t) b)
unfolding closed_at
closed-small s sort place top t b h =
    chosen (λ r. SmallSort (ran r b)) (eqb t.kind Kind.CLOSE) _ _ (λ e. h) (λ e. refused-small t b)

literal-small : (s m : List ℕ) (top : ℕ) (t : Token) → SmallSort (literal_read s m top t)
unfolding literal_read
literal-small s m top t = chosen SmallSort (ltb most_literal (length (decoded_at s t.start))) _ _ (λ e. tt) (λ e. omega arith)

name-small : (s m : List ℕ) (top want : ℕ) (t : Token) → SmallSort (name_read s m top want t)
unfolding name_read
name-small s m top want t =
    chosen SmallSort (eqb (Numbered.word_sort s want t.start t.end) Numbered.TEXT) _ _ (λ e. omega arith)
    (λ e. word-sort-small s want t.start t.end)

digits-small : (s m : List ℕ) (top : ℕ) (t : Token) → SmallSort (digits_read s m top t)
unfolding digits_read
digits-small s m top t = chosen SmallSort (leb Number.LIMIT (Number.number_at s t.start t.end)) _ _ (λ e. tt) (λ e. omega arith)

float-small : (s m : List ℕ) (top : ℕ) (t : Token) → SmallSort (float_read s m top t)
unfolding float_read
float-small s m top t = chosen SmallSort (ltb most_float (t.end - t.start)) _ _ (λ e. tt) (λ e. omega arith)

pub leaf-small : (s m : List ℕ) (top want : ℕ) (t : Token) → SmallSort (leaf_read s m top want t)
unfolding leaf_read
leaf-small s m top want t =
    chosen SmallSort (eqb t.kind Kind.LITERAL) _ _ (λ e. literal-small s m top t)
    (λ e. chosen SmallSort (eqb t.kind Kind.NAME) _ _ (λ f. name-small s m top want t)
    (λ f. chosen SmallSort (eqb t.kind Kind.DIGITS) _ _ (λ g. digits-small s m top t) (λ g. float-small s m top t)))

-- expressions, by their depth
module _ (s : List ℕ) where
  abbrev SmallTurn : Expression.State → Type 0
  SmallTurn x = x.1 < 256

  turn-small : (t : Token) (r : Ran) → SmallSort r → Kept SmallTurn SmallSort (Expression.on_joined t r)
  turn-small t (ran (Err f) b) k = kept-done _ tt
  turn-small t (ran (Ok q) b) k = chosen (Kept SmallTurn SmallSort) (leb q.next.start t.start) _ _ (λ e. kept-done _ tt) (λ e. kept_next _ k)

  chain-small : (joined : List ℕ → ℕ → ℕ → ℕ → ℕ → ℕ → ℕ → Ran) → ((m : List ℕ) (top op nest sort place at : ℕ) → SmallSort (joined m top op nest sort place at))
      → (m : List ℕ) (top level nest sort place : ℕ) (t : Token) → sort < 256 → SmallSort (Expression.chain_loop joined s m top level nest sort place t)
  chain-small joined small m top level nest sort place t =
      loop-keeps (λ x. length s - x.0.start) (λ x. ran (Err (against 0 x.0.start)) x.4) (Expression.chain_turn joined s level nest) SmallTurn SmallSort
      (λ x. tt)
      (λ x k. chosen (Kept SmallTurn SmallSort) (leb (length s) x.0.start) _ _ (λ e. kept-done _ k)
      (λ e. chosen (Kept SmallTurn SmallSort) (Numbered.binds level (Numbered.operator x.1 x.0.kind)) _ _
      (λ f. turn-small x.0 _ (small x.4 x.3 (Numbered.operator x.1 x.0.kind) nest x.1 x.2 x.0.end)) (λ f. kept-done _ k)))
      (t, sort, place, top, m)

  mutual
    unfolding Expression.expr_at

    pub expression-small : (d : ℕ) (m : List ℕ) (top level want row nest : ℕ) (t : Token) → SmallSort (Expression.expr_at d s m top level want row nest t)
    expression-small zero m top level want row nest t = tt
    expression-small (suc d) m top level want row nest t =
        small-on _ (λ x p u n b. Expression.chain_at d s b u level nest x p n) (operand-read-small d m top want row nest t)
        (λ x p u n b k. chain-read-small d b u level nest x p n k)

    operand-read-small : (d : ℕ) (m : List ℕ) (top want row nest : ℕ) (t : Token) → SmallSort (Expression.operand_at d s m top want row nest t)
    operand-read-small zero m top want row nest t = tt
    operand-read-small (suc d) m top want row nest t =
        chosen SmallSort (Numbered.allows want t.kind) _ _
        (λ e. chosen SmallSort (eqb (Numbered.prefix_operator t.kind) Numbered.NONE) _ _
        (λ f. chosen SmallSort (eqb t.kind Kind.OPEN) _ _ (λ g. bracketed-small d m top want nest t) (λ g. leaf-small s m top want t))
        (λ f. prefixed-small d m top (Numbered.prefix_operator t.kind) want row nest t))
        (λ e. refused-small t m)

    prefixed-small : (d : ℕ) (m : List ℕ) (top op want row nest : ℕ) (t : Token) → SmallSort (Expression.prefixed_at d s m top op want row nest t)
    prefixed-small zero m top op want row nest t = tt
    prefixed-small (suc d) m top op want row nest t =
        chosen SmallSort (leb most_prefixes row) _ _ (λ e. tt)
        (λ e. small-on _ (λ x p u n b. finish_at b u (Numbered.prefix_of op x) x p n)
        (expression-small d m top (Numbered.operand_level op) (Numbered.operand_want op want) _ nest (next_at s t.end))
        (λ x p u n b k. finish-small b u (Numbered.prefix_of op x) x p n))

    bracketed-small : (d : ℕ) (m : List ℕ) (top want nest : ℕ) (t : Token) → SmallSort (Expression.bracketed_at d s m top want nest t)
    bracketed-small zero m top want nest t = tt
    bracketed-small (suc d) m top want nest t =
        chosen SmallSort (leb most_brackets nest) _ _ (λ e. tt)
        (λ e. small-on _ (λ x p u n b. ran (closed_at s x p u n) b)
        (expression-small d m top (Numbered.inside_level want) want 0 _ (next_at s t.end)) (λ x p u n b k. closed-small s x p u n b k))

    chain-read-small : (d : ℕ) (m : List ℕ) (top level nest sort place : ℕ) (t : Token) → sort < 256 → SmallSort (Expression.chain_at d s m top level nest sort place t)
    chain-read-small zero m top level nest sort place t k = tt
    chain-read-small (suc d) m top level nest sort place t k =
        chain-small (λ m top op nest sort place at. Expression.joined_at d s m top op nest sort place at)
        (λ m top op nest sort place at. joined-small d m top op nest sort place at) m top level nest sort place t k

    joined-small : (d : ℕ) (m : List ℕ) (top op nest sort place at : ℕ) → SmallSort (Expression.joined_at d s m top op nest sort place at)
    joined-small zero m top op nest sort place at = tt
    joined-small (suc d) m top op nest sort place at =
        small-on _ (λ x p u n b. finish_at b u op x p n)
        (expression-small d _ _ (Numbered.right_level op) (Numbered.right_want op) 0 nest (next_at s at)) (λ x p u n b k. finish-small b u op x p n)

-- a field is read to the end of a program, which is a test
module _ (s : List ℕ) where
  last-small : (nest top : ℕ) (t : Token) (b : List ℕ) → SmallSort (ran (Program.last_at nest top t) b)
  unfolding Program.last_at
  last-small nest top t b = chosen (λ r. SmallSort (ran r b)) (stops nest t.kind) _ _ (λ e. omega arith) (λ e. refused-small t b)

  turned-clause : (t : Token) (r : Ran) → Kept (λ (x : Program.State). ⊤) SmallSort (Program.on_clause t r)
  turned-clause t (ran (Err f) b) = kept-done _ tt
  turned-clause t (ran (Ok q) b) = chosen (Kept (λ (x : Program.State). ⊤) SmallSort) (leb q.next.start t.start) _ _ (λ e. kept-done _ tt) (λ e. kept_next _ tt)

  clauses-small : (clause : Program.Reader) (m : List ℕ) (top nest : ℕ) (t : Token) → SmallSort (Program.clauses_loop clause s m top nest t)
  clauses-small clause m top nest t =
      loop-keeps (λ x. length s - x.0.start) (λ x. ran (Err (against 0 x.0.start)) x.2) (Program.clauses_turn clause s nest) (λ (x : Program.State). ⊤) SmallSort
      (λ x. tt)
      (λ x k. chosen (Kept (λ (y : Program.State). ⊤) SmallSort) (leb (length s) x.0.start) _ _ (λ e. kept-done _ (last-small nest x.1 x.0 x.2))
      (λ e. chosen (Kept (λ (y : Program.State). ⊤) SmallSort) (stops nest x.0.kind) _ _ (λ f. kept-done _ (omega arith))
      (λ f. turned-clause x.0 (clause x.2 x.1 nest x.0))))
      (t, top, m) tt

  program-small : (d : ℕ) (m : List ℕ) (top nest : ℕ) (t : Token) → SmallSort (Program.program_at d s m top nest t)
  unfolding Program.program_at Program.clauses_at
  program-small zero m top nest t = tt
  program-small (suc zero) m top nest t = tt
  program-small (suc (suc d)) m top nest t = clauses-small (λ m top nest t. Program.clause_at d s m top nest t) _ _ nest t

  pub conditions-small : (m : List ℕ) (top : ℕ) (t : Token) → SmallSort (Program.conditions_at s m top t)
  unfolding Program.conditions_at
  conditions-small m top t =
      chosen SmallSort (ltb (length m) top) _ _ (λ e. tt)
      (λ e. chosen SmallSort (ltb (length m - top) (length s - t.start)) _ _ (λ f. tt) (λ f. program-small DEPTH m top 0 t))

-- instances: a bracket passes on the sort that stands in it, and "-" wants what is wanted; no law holds without its premise
bracket-end : Token
bracket-end = record { kind = Kind.CLOSE; start = 0; end = 0 }

closed-byte : SmallSort (ran (closed_at [] Numbered.FALSE 0 0 bracket-end) [])
closed-byte = closed-small [] Numbered.FALSE 0 0 bracket-end [] (omega arith)

closed-over : closed_at [] 300 0 0 bracket-end ≡ found 300 0 0 (next_at [] 0)
unfolding closed_at bracket-end
closed-over = refl

closed-found : IfOk (closed_at [] Numbered.FALSE 0 0 bracket-end) (λ q. q.sort < 256)
closed-found = sort-small (closed_at [] Numbered.FALSE 0 0 bracket-end) [] _ refl closed-byte

over-found : IfOk (closed_at [] 300 0 0 bracket-end) (λ q. q.sort < 256) → ⊥
unfolding closed_at bracket-end
over-found h = omega (arith, h)

want-byte : Numbered.operand_want Op.NEGATE Numbered.FLOAT < 256
want-byte = operand-want-small Op.NEGATE Numbered.FLOAT (omega arith)

want-over : Numbered.operand_want Op.NEGATE 300 ≡ 300
unfolding Numbered.operand_want
want-over = refl
