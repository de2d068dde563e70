-- The limits of a register, each named once. Assumes nothing.
use Rattle.std.specs.Prelude.{ℕ, ◌+◌, ◌*◌}

-- "A register of up to 64 principals"
abbrev pub most_principals : ℕ
most_principals = 64

-- "1 to 1,000,000", "over 1,000,000 issued"
abbrev pub most_moves : ℕ
most_moves = 1000000

-- the bytes of a register: a version and all moves ever issued, then for each place a mark, the principal and its moves
abbrev pub version : ℕ
version = 1

abbrev pub head_bytes : ℕ
head_bytes = 1 + 8

abbrev pub place_bytes : ℕ
place_bytes = 1 + 4 + 8

abbrev pub register_bytes : ℕ
register_bytes = head_bytes + most_principals * place_bytes
