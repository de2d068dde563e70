use Rattle.expression.specs.Operands.{is_test}
use Rattle.text.specs.Choice.{tests}
use borrow.Author.Rules.{rules}
use Rattle.expression.proofs.value.is_test.Goals as goal

pub enum_told-1 : goal.enum_told-1
enum_told-1 c = search (rules, tests)

pub enum_told-in-Number : goal.enum_told-in-Number
enum_told-in-Number c = search (rules, tests)

pub enum_told-in-Test : goal.enum_told-in-Test
enum_told-in-Test c = search (rules, tests)

pub enum_told-in-Rank : goal.enum_told-in-Rank
enum_told-in-Rank c = search (rules, tests)

pub enum_told-in-Float : goal.enum_told-in-Float
enum_told-in-Float c = search (rules, tests)

pub enum_told-in-Fault : goal.enum_told-in-Fault
enum_told-in-Fault c = search (rules, tests)

pub returns-in-Text : goal.returns-in-Text
unfolding is_test
returns-in-Text c = search (rules, tests)

pub returns-in-Number : goal.returns-in-Number
unfolding is_test
returns-in-Number c = search (rules, tests)

pub returns-in-Test : goal.returns-in-Test
unfolding is_test
returns-in-Test c = search (rules, tests)

pub returns-in-Rank : goal.returns-in-Rank
unfolding is_test
returns-in-Rank c = search (rules, tests)

pub returns-in-Float : goal.returns-in-Float
unfolding is_test
returns-in-Float c = search (rules, tests)

pub returns-in-Fault : goal.returns-in-Fault
unfolding is_test
returns-in-Fault c = search (rules, tests)
