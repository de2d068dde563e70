use lib.Seq.{length-take-le}
use Rattle.machine.specs.Working.Giving.{string-stuck, string-told}
use Rattle.machine.specs.Working.Running.{bytes-within}
use borrow.Author.Rules.{rules}
use Rattle.machine.proofs.string_in.Goals as goal

pub slice_bounds-copy_at-end : goal.slice_bounds-copy_at-end
slice_bounds-copy_at-end c = let w = c.in_ok-tops.was {u = tt} in search (bytes-within, w)

pub slice_bounds-copy_at-end-2 : goal.slice_bounds-copy_at-end-2
slice_bounds-copy_at-end-2 c = let w = c.in_ok-tops.was {u = tt} in search (rules, bytes-within, length-take-le, w)

pub returns-in_err-tops : goal.returns-in_err-tops
returns-in_err-tops c = let w = c.in_err-tops.was {u = tt} in rw c.from_residual.ensures (search (string-stuck, w))

pub returns : goal.returns
returns c = let w = c.in_ok-tops.was {u = tt} in search (string-told, w)
