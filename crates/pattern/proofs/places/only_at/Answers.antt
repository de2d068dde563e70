use Rattle.std.proofs.Common.{rules}
use Rattle.text.specs.Choice.{tests}
use Rattle.pattern.specs.Working.Places.{only_at, power, nowhere}
use Rattle.pattern.proofs.places.only_at.Goals as goal

pub returns-then-q-lt64 : goal.returns-then-q-lt64
unfolding only_at power nowhere
returns-then-q-lt64 c = rw c.nowhere-none.ensures (search (rules, tests))

pub returns-then-q-lt128 : goal.returns-then-q-lt128
unfolding only_at power nowhere
returns-then-q-lt128 c = rw c.nowhere-none.ensures (search (rules, tests))

pub returns-then-q-lt192 : goal.returns-then-q-lt192
unfolding only_at power nowhere
returns-then-q-lt192 c = rw c.nowhere-none.ensures (search (rules, tests))

pub returns-then-q-lt256 : goal.returns-then-q-lt256
unfolding only_at power nowhere
returns-then-q-lt256 c = rw c.nowhere-none.ensures (search (rules, tests))

pub returns : goal.returns
unfolding only_at power nowhere
returns c = rw c.nowhere-none.ensures (search (rules, tests))
