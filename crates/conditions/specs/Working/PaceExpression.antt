-- Expressions are read to their end or to a fault of document 01, at most an entry a byte, in a depth that brackets and rows bound. Assumes nothing.
use Prim.Native.Nat.{ℕ, ◌+◌, ◌-◌, ◌*◌}
use Rattle.limits.specs.Limits.{most_brackets, most_prefixes}

-- the depth that an expression needs: 16 brackets, seven levels, and 16 prefix operators in a row at each
abbrev pub need : ℕ → ℕ → ℕ → ℕ
need level row nest = 3 + 3 * (7 * (most_prefixes + 1) * (most_brackets - nest) + (6 - level) * (most_prefixes + 1) + (most_prefixes - row))
