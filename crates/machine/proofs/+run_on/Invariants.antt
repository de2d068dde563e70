use Prim.Native.Nat.{◌-◌}
use Rattle.machine.proofs.+run_on.Given as goal

abbrev pub decreases-run_on : goal.decreases-run_on
decreases-run_on l = 2 - l.tier
