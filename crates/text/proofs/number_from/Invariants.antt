use Rattle.std.proofs.Common.{◌≡◌, min}
use Rattle.text.specs.Digits.{digits_at, value}
use Rattle.text.specs.Working.Holding.{most_held, hold_digits}
use Rattle.text.proofs.number_from.Given as goal

abbrev pub invariant-loop-i : goal.invariant-loop-i
invariant-loop-i l = hold_digits l.s l.i l.v ≡ min (value (digits_at l.s l.at)) most_held
