use Rattle.std.proofs.Common.{arith}
use Rattle.lexical.proofs.LiteralWays.{length-drops, length-gives, low-gives, length-last}
use Rattle.lexical.proofs.literal.literal_length.Goals as goal

pub loop-width-preserved-in-Drops : goal.loop-width-preserved-in-Drops
loop-width-preserved-in-Drops c = (length-drops _ _ _ _ c.loop-width.invariant.0 _ c.in-Drops.ensures, omega (arith, c.loop-width.invariant.1))

pub loop-width-preserved : goal.loop-width-preserved
loop-width-preserved c = (length-gives _ _ _ _ c.loop-width.invariant.0 _ _ c.in-Gives.ensures, low-gives _ _ _ c.loop-width.invariant.1 _ _ c.in-Gives.ensures)

pub returns-in-Closes : goal.returns-in-Closes
returns-in-Closes c = search length-last
