-- A machine with a stack of operators that makes the tree of a Conditions field from its tokens: by it a field has one tree. Assumes nothing.
use Rattle.std.specs.Prelude.{ℕ}
use mathlib.Core.List.{List, [], ◌∷◌}
use Rattle.std.proofs.Math.Dec.{eqb}
use Rattle.text.specs.Choice.{pick}
use Rattle.lexical.specs.Kind
use Rattle.syntax.specs.Operator.{Unary, Binary, Sort, a-string, a_test, unary_takes, unary_gives, binary_takes, binary_gives}
use Rattle.syntax.specs.Expr.{Expr, unary, binary, Program, none, also, Clause, plain, valued, nested}
use Rattle.conditions.specs.Table.{PartSort, sorted, word, want-any}
use Rattle.conditions.specs.Table
use Rattle.conditions.specs.Operand.{settled_tree}
use Rattle.grammar.specs.Working.Pending.{Entry, pending, opening}

-- a sort and a tree
abbrev pub Value : Type 0
Value = PartSort × Expr

-- the stack: operators and brackets that wait
abbrev pub Waiting : Type 0
Waiting = List (Entry Value)

-- what a clause's expression is: its test, or the value of one with that test
pub data Role : Type 0 where
  role-test : Role
  role-value : Expr → Role

-- the programs around, each with the test of its nested clause
pub data Blocks : Type 0 where
  no_block : Blocks
  block : Program → Expr → Blocks → Blocks

-- where an expression stands: its role, its program so far, and the programs around
pub data Context : Type 0 where
  context : Role → Program → Blocks → Context

-- an operand is wanted, or one was read, or a nested clause, or none of them fits
pub data Machine : Type 0 where
  y-want : Context → Waiting → Machine
  y-have : Context → Value → Waiting → Machine
  y-closed : Context → Clause → Machine
  y-lost : Machine

-- the level of an operator by its mark alone
unfoldable pub level_of : ℕ → ℕ
level_of k =
    pick (eqb k Kind.OR) 0
    (pick (eqb k Kind.AND) 1
    (pick (eqb k Kind.POWER) 5
    (pick (eqb k Kind.TIMES) 4
    (pick (eqb k Kind.DIVIDE) 4
    (pick (eqb k Kind.REMAINDER) 4
    (pick (eqb k Kind.PLUS) 3
    (pick (eqb k Kind.MINUS) 3
    (pick (eqb k Kind.DOT) 3 2))))))))

-- an operand as an operator takes it
abbrev pub taken : Sort → Value → Expr
taken x v = settled_tree x v.0 v.1

abbrev pub applied : Unary → Value → Value
applied op v = (sorted (unary_gives op), unary op (taken (unary_takes op) v))

abbrev pub prefixed : Unary → Value → Value
prefixed op v = applied (Table.prefix_of op v.0) v

abbrev pub joined : Binary → Value → Value → Value
joined op v w = (sorted (binary_gives op), binary op (taken (binary_takes op) v) (taken (binary_takes op) w))

abbrev pub closed_in : Context → Value × Waiting → Machine
closed_in C (v, []) = y-lost
closed_in C (v, opening ∷ P) = y-have C v P
closed_in C (v, pending m f ∷ P) = y-lost

abbrev pub arrowed : Context → Value × Waiting → Machine
arrowed (context role-test p B) x = y-want (context (role-value (settled_tree a_test x.0.0 x.0.1)) p B) []
arrowed (context (role-value e) p B) x = y-lost

abbrev pub ended : Context → Value × Waiting → Machine
ended (context role-test p B) x = y-want (context role-test (also p (plain (settled_tree a_test x.0.0 x.0.1))) B) []
ended (context (role-value e) p B) x = y-want (context role-test (also p (valued e (settled_tree a-string x.0.0 x.0.1))) B) []

abbrev pub open_block : Context → Machine
open_block (context role-test p B) = y-lost
open_block (context (role-value e) p B) = y-want (context role-test none (block p e B)) []

abbrev pub close_block : Context → Machine
close_block (context role-test p no_block) = y-lost
close_block (context role-test p (block p₀ e B)) = y-closed (context role-test p₀ B) (nested e p)
close_block (context (role-value e) p B) = y-lost

abbrev pub clause_ended : Context → Clause → Machine
clause_ended (context role p B) c = y-want (context role-test (also p c) B) []

abbrev pub operated : Context → ℕ → Value × Waiting → Machine
operated C k x = Table.on_infix (Table.operator x.0.0 k) y-lost (λ op. y-want C (pending (level_of k) (joined op x.0) ∷ x.1))

abbrev pub before : Context → Waiting → ℕ → Machine
before C P k = Table.on_prefix (Table.prefix_operator k) y-lost (λ op. y-want C (pending (pick (eqb k Kind.NOT) 1 6) (prefixed op) ∷ P))
