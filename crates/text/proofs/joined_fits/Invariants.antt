use Rattle.std.proofs.Common.{◌≡◌, length, leb, map}
use Rattle.text.specs.Counted.{counted}
use Rattle.text.specs.Join.{joined}
use Rattle.text.specs.Working.Joining.{fits_rest}
use Rattle.text.proofs.joined_fits.Given as goal

abbrev pub invariant-loop-i : goal.invariant-loop-i
invariant-loop-i l = fits_rest l.s l.places l.i l.left ≡ leb (length (joined (map (counted l.s) l.places))) l.room
