use Prim.Native.Nat.{◌-◌}
use Rattle.machine.proofs.+string_on.Given as goal

abbrev pub decreases-string_on : goal.decreases-string_on
decreases-string_on l = 1 - l.tier
