use Rattle.std.proofs.Common.{◌≡◌, ◌<◌, ◌+◌, ◌^◌, drop}
use Rattle.text.specs.Digits.{value_from}
use Rattle.float.proofs.written.more.Given as goal

abbrev pub invariant-loop-b : goal.invariant-loop-b
invariant-loop-b l = (value_from l.n (drop l.b-index l.digits) ≡ value_from l.v l.digits) × (l.n < 10 ^ (l.count + l.b-index))
