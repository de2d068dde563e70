use Rattle.expression.specs.Working.Operating.{size-float}
use Rattle.expression.specs.Operands.{size_of}
use Rattle.text.specs.Choice.{tests}
use borrow.Author.Rules.{rules}
use Rattle.expression.proofs.value.size_of.Goals as goal

pub enum_known-v : goal.enum_known-v
enum_known-v c = search (rules, tests)

pub enum_known-v-in-Number-1 : goal.enum_known-v-in-Number-1
enum_known-v-in-Number-1 c = search (rules, tests)

pub enum_told-1 : goal.enum_told-1
enum_told-1 c = search (rules, tests)

pub enum_known-v-in-Rank-1 : goal.enum_known-v-in-Rank-1
enum_known-v-in-Rank-1 c = search (rules, tests)

pub enum_known-v-in-Float-1 : goal.enum_known-v-in-Float-1
enum_known-v-in-Float-1 c = search (rules, tests)

pub bits_of-requires : goal.bits_of-requires
bits_of-requires c = search (rules, tests)

pub enum_told-in-Fault : goal.enum_told-in-Fault
enum_told-in-Fault c = search (rules, tests)

pub returns-in-Text : goal.returns-in-Text
unfolding size_of
returns-in-Text c = search (rules, tests)

pub returns-in-Number : goal.returns-in-Number
unfolding size_of
returns-in-Number c = search (rules, tests)

pub returns-in-Test : goal.returns-in-Test
unfolding size_of
returns-in-Test c = search (rules, tests)

pub returns-in-Rank : goal.returns-in-Rank
unfolding size_of
returns-in-Rank c = search (rules, tests)

pub returns-in-Float : goal.returns-in-Float
returns-in-Float c = search size-float

pub returns-in-Fault : goal.returns-in-Fault
unfolding size_of
returns-in-Fault c = search (rules, tests)
