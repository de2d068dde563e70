use Rattle.expression.specs.Operands.{kind_of}
use Rattle.text.specs.Choice.{tests}
use borrow.Author.Rules.{rules}
use Rattle.expression.proofs.value.kind_of.Goals as goal

pub enum_told-1 : goal.enum_told-1
enum_told-1 c = search (rules, tests)

pub enum_known-v : goal.enum_known-v
enum_known-v c = search (rules, tests)

pub returns-then-negative : goal.returns-then-negative
unfolding kind_of
returns-then-negative c = search (rules, tests)

pub enum_known-v-in-Test-1 : goal.enum_known-v-in-Test-1
enum_known-v-in-Test-1 c = search (rules, tests)

pub returns-then-holds : goal.returns-then-holds
unfolding kind_of
returns-then-holds c = search (rules, tests)

pub enum_told-in-Rank : goal.enum_told-in-Rank
enum_told-in-Rank c = search (rules, tests)

pub enum_told-in-Float : goal.enum_told-in-Float
enum_told-in-Float c = search (rules, tests)

pub enum_told-in-Fault : goal.enum_told-in-Fault
enum_told-in-Fault c = search (rules, tests)

pub returns-in-Text : goal.returns-in-Text
unfolding kind_of
returns-in-Text c = search (rules, tests)

pub returns-else-negative : goal.returns-else-negative
unfolding kind_of
returns-else-negative c = search (rules, tests)

pub returns-else-holds : goal.returns-else-holds
unfolding kind_of
returns-else-holds c = search (rules, tests)

pub returns-in-Rank : goal.returns-in-Rank
unfolding kind_of
returns-in-Rank c = search (rules, tests)

pub returns-in-Float : goal.returns-in-Float
unfolding kind_of
returns-in-Float c = search (rules, tests)

pub returns-in-Fault : goal.returns-in-Fault
unfolding kind_of
returns-in-Fault c = search (rules, tests)
