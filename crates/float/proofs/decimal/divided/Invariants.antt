use Rattle.std.proofs.Common.{◌≡◌, ◌<◌, ◌+◌, ◌*◌, ◌^◌}
use Rattle.float.proofs.decimal.divided.Given as goal

abbrev pub invariant-loop : goal.invariant-loop
invariant-loop l = (l.r < l.b) × (l.q * l.b + l.r ≡ l.a * 2 ^ (3 * l.counter))
