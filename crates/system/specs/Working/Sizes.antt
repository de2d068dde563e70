-- How large the tables of a query are. Assumes nothing.
use Rattle.std.specs.Prelude.{List, [], ◌∷◌, ℕ, ◌-◌, ◌*◌}
use Rattle.limits.specs.Limits.{most_entered, most_code, most_consts, most_pool, most_principals}

-- constants, identifiers, and the entries of these
pub record Size : Type 0 where
  pub consts : ℕ
  pub pool : ℕ
  pub places : ℕ

-- tables for most queries
abbrev pub small : Size
small = record { consts = 3200; pool = 7168; places = 128 }

-- for most long records
abbrev pub middle : Size
middle = record { consts = most_consts; pool = 76800; places = most_principals }

-- the identifiers beside which those of an assertion more have room there
abbrev pub middle_most : ℕ
middle_most = 76800 - most_entered

-- and for every query
abbrev pub large : Size
large = record { consts = most_consts; pool = most_pool; places = most_principals }

-- the sizes behind the small one, each for what the one before has no room for
abbrev pub larger_ones : List Size
larger_ones = middle ∷ large ∷ []

-- the assertions of most queries, and the instructions of their fields Licensees
abbrev pub some_rows : ℕ
some_rows = 32

abbrev pub some_code : ℕ
some_code = some_rows * most_code

-- longer records mostly need larger tables
abbrev pub long_record : ℕ
long_record = 16384
