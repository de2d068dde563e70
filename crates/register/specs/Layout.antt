-- A register as bytes. Assumes nothing.
use Rattle.std.specs.Prelude.{List, [], ◌∷◌, ◌++◌, ℕ, zero, suc, ◌+◌, ◌*◌, ◌/◌, ◌%◌, eqb, ltb, length, get_or, replicate}
use Rattle.text.specs.Choice.{pick}
use Rattle.text.specs.Counted.{pair_at}
use Rattle.register.specs.Limits.{most_principals, version, head_bytes, place_bytes, register_bytes}
use Rattle.register.specs.Entries.{Entry, free, held, Contents}

-- numbers of two, four and eight bytes, big-endian
abbrev pub two_bytes : ℕ → List ℕ
two_bytes n = n / 256 % 256 ∷ n % 256 ∷ []

abbrev pub four_bytes : ℕ → List ℕ
four_bytes n = two_bytes (n / 65536) ++ two_bytes (n % 65536)

abbrev pub eight_bytes : ℕ → List ℕ
eight_bytes n = four_bytes (n / 4294967296) ++ four_bytes (n % 4294967296)

-- a place: 1, the principal and its moves, or zeros where it is free
abbrev pub entry_bytes : Entry → List ℕ
entry_bytes free = replicate place_bytes 0
entry_bytes (held x m) = (1 ∷ four_bytes x) ++ eight_bytes m

unfoldable pub entries_bytes : List Entry → List ℕ
entries_bytes [] = []
entries_bytes (e ∷ es) = entry_bytes e ++ entries_bytes es

abbrev pub head : ℕ → List ℕ
head issued = version ∷ eight_bytes issued

unfoldable pub encode : Contents → List ℕ
encode r = head r.issued ++ entries_bytes r.entries

-- the numbers at a place
unfoldable pub four_at : List ℕ → ℕ → ℕ
four_at s at = pair_at s at * 65536 + pair_at s (at + 2)

unfoldable pub eight_at : List ℕ → ℕ → ℕ
eight_at s at = four_at s at * 4294967296 + four_at s (at + 4)

-- the entry whose bytes start at a place; what stands behind a mark of 0 counts for nothing
unfoldable pub entry_at : List ℕ → ℕ → Entry
entry_at s at = pick (eqb (get_or s at 0) 1) (held (four_at s (at + 1)) (eight_at s (at + 5))) free

unfoldable pub entries_at : ℕ → List ℕ → ℕ → List Entry
entries_at zero s at = []
entries_at (suc n) s at = entry_at s at ∷ entries_at n s (at + place_bytes)

-- a register, or why the bytes are none and where
pub data Decoded : Type 0 where
  register : Contents → Decoded
  unreadable : ℕ → ℕ → Decoded

-- a mark is 0 or 1: the first that isn't, of n from a place on, is refused with 6 at it
unfoldable pub marked : ℕ → List ℕ → ℕ → Decoded → Decoded
marked zero s at d = d
marked (suc n) s at d = pick (ltb 1 (get_or s at 0)) (unreadable 6 at) (marked n s (at + place_bytes) d)

-- another length is refused with 5, then another version with 2, then a mark
unfoldable pub decode : List ℕ → Decoded
decode s =
    pick (eqb (length s) register_bytes)
    (pick (eqb (get_or s 0 0) version)
    (marked most_principals s head_bytes (register (record { entries = entries_at most_principals s head_bytes; issued = eight_at s 1 })))
    (unreadable 2 0))
    (unreadable 5 0)
