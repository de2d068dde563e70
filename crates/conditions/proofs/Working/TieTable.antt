-- The tables by number say what the tables of the operators say. Assumes nothing.
use Rattle.std.specs.Prelude.{◌≡◌, true, false, ℕ}
use Rattle.std.proofs.Math.Path.{refl}
use Rattle.std.proofs.Common.{◌∙◌, arith, ne_eqb}
use Rattle.syntax.specs.Operator.{Binary, a-string, an-integer, a-float, a_test, binary_takes}
use Rattle.syntax.specs.Operation.{binary_number}
use Rattle.syntax.specs.Theorems.Numbers.{binary-between}
use Rattle.conditions.specs.Table.{PartSort, sorted, word, Infix, no-infix, between}
use Rattle.conditions.specs.Table
use Rattle.conditions.specs.Working.Numbered.{infix_number, sort_number, want_number}
use Rattle.conditions.specs.Working.Numbered
use Rattle.conditions.specs.Working.TieTable.{Is, at-least-level, binary-row, float-number, number-number, test-number, text-number, wanted-number}

pub operator-number : (sort : PartSort) (k : ℕ) → Is (Numbered.operator (sort_number sort) k) (Table.operator sort k)
unfolding Numbered.operator Table.operator
operator-number (sorted a-string) k = text-number k
operator-number (sorted an-integer) k = number-number k
operator-number (sorted a-float) k = float-number k
operator-number (sorted a_test) k = test-number k _ _ refl
operator-number (word true) k = test-number k _ _ (text-number k)
operator-number (word false) k = test-number k _ _ (text-number k)

pub right-want : (op : Binary) → Numbered.right_want (binary_number op) ≡ want_number (Table.right_want op)
unfolding Numbered.right_want Table.right_want
right-want op = (binary-row op).1 ∙ wanted-number (binary_takes op)

pub right-level : (op : Binary) → Numbered.right_level (binary_number op) ≡ Table.right_level op
unfolding Numbered.right_level Table.right_level
right-level op = rw (binary-row op).0

pub binds-number : (level : ℕ) (i : Infix) → Numbered.binds level (infix_number i) ≡ Table.binds level i
unfolding Numbered.binds Table.binds Numbered.level_of
binds-number level no-infix = refl
binds-number level (between op) =
    rw (ne_eqb (binary_number op) 0 (λ z. omega (arith, z, (binary-between op).0)), level-is op) (at-least-level (Table.level_of op) level)
  where
    level-is : (op : Binary) → Numbered.level_of (binary_number op) ≡ Table.level_of op
    level-is op = (binary-row op).0
