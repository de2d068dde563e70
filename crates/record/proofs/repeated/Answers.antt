use Rattle.std.proofs.Common.{rules, arith}
use Rattle.record.specs.Working.Ways.{among-start, among-hit, among-more, among-out}
use Rattle.record.proofs.repeated.Goals as goal

pub loop-i-init : goal.loop-i-init
loop-i-init c = search among-start

pub returns-then-same_bytes : goal.returns-then-same_bytes
returns-then-same_bytes c = search (rules, among-hit)

pub loop-i-preserved : goal.loop-i-preserved
loop-i-preserved c = search (rules, among-more)

pub returns : goal.returns
returns c = among-out c.args.s.now c.args.table.now c.args.start c.args.upto c.loop-i.i _ c.loop-i.invariant (omega arith)
