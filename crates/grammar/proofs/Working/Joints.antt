-- The tables of crate conditions, as cases: what an operator joins, what fits where, and what stands before an operand. Assumes nothing.
use Rattle.std.specs.Prelude.{ℕ}
use Rattle.syntax.specs.Operator.{a-string, an-integer, a-float, a_test}
use Rattle.conditions.specs.Table.{PartSort, sorted, word, no-infix}
use Rattle.conditions.specs.Table
use Rattle.grammar.specs.Working.Joints.{Operated, fit-name, fit-test, fit-text, fit_word, float-operated, no-operator, number-operated, test-operated, text-operated}

pub operated : (sort : PartSort) (k : ℕ) → Operated sort k (Table.operator sort k)
unfolding Table.operator
operated (sorted a_test) k = test-operated (sorted a_test) k no-infix fit-test no-operator
operated (sorted a-string) k = text-operated (sorted a-string) k fit-text
operated (sorted an-integer) k = number-operated k
operated (sorted a-float) k = float-operated k
operated (word b) k = test-operated (word b) k (Table.text_operator k) (fit_word b) (text-operated (word b) k (fit-name b))
