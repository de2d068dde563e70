-- What was found, of a number for which 0 says that nothing was. Assumes nothing.
use Rattle.std.specs.Prelude.{Option, Some, None, ℕ, zero, suc}

abbrev pub found : ℕ → Option ℕ
found zero = None
found (suc n) = Some (suc n)
