-- Licensees as a short postfix program of numbers: the instructions. Assumes nothing.
use Rattle.std.specs.Prelude.{ℕ, ◌+◌, ◌*◌}

-- below this: push the rank of the principal with that index; this itself: push the highest rank, for a field that is missing
abbrev pub top_code : ℕ
top_code = 32768

-- the first number of a K-of, and how many lengths of a list there are for each K
abbrev pub k_of_base : ℕ
k_of_base = 32769

abbrev pub span : ℕ
span = 32

-- take n numbers off the stack and push their k-th highest
abbrev pub k_of_code : ℕ → ℕ → ℕ
k_of_code k n = k_of_base + span * k + n

-- &&, ||, and a field that is empty: 2-of two, 1-of two, 1-of none
abbrev pub and_code : ℕ
and_code = k_of_code 2 2

abbrev pub or_code : ℕ
or_code = k_of_code 1 2

abbrev pub zero_code : ℕ
zero_code = k_of_code 1 0
