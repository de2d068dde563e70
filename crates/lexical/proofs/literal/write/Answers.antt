use Rattle.lexical.proofs.LiteralWays.{write-drops, room-drops, room-here, write-last}
use Rattle.lexical.proofs.literal.write.Goals as goal

pub loop-width-preserved-in-Drops : goal.loop-width-preserved-in-Drops
loop-width-preserved-in-Drops c = (write-drops _ _ _ _ _ c.loop-width.invariant.0 _ c.in-Drops.ensures, room-drops _ _ _ _ c.loop-width.invariant.1 _ c.in-Drops.ensures)

pub bounds-buf-top : goal.bounds-buf-top
bounds-buf-top c = room-here _ _ _ _ c.loop-width.invariant.1 _ _ c.in-Gives.ensures

pub returns-in-Closes : goal.returns-in-Closes
returns-in-Closes c = search write-last
