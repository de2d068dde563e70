-- The rulings' examples, computed from the definitions; and for each theorem with a premise a case where it holds and one where it doesn't.
-- Assumes nothing.
use Rattle.std.specs.Prelude.{◌≡◌, refl, true, false, List, [], ◌∷◌, ◌++◌, ℕ, zero, suc, replicate, take, set}
use Rattle.register.specs.Entries.{Entry, free, held, Contents, empty, known, moves_of, total, principals, twice, added, replaced}
use Rattle.register.specs.Calls.{Call, issues, passes, spends, removes, damaged, outside, bad_amount, unknown, exceeding, over_issue, crowded, holding, effect, Outcome, granted, refused, called, left, ran}
use Rattle.register.specs.Find.{walk, find}
use Rattle.register.specs.Layout.{four_at, eight_at, entry_at, entries_at, entries_bytes, encode, register, unreadable, marked, decode}
use Rattle.text.specs.Counted.{pair_at}
use Rattle.register.specs.declared.Found.{Found}
use Rattle.register.specs.declared.Found.TheVariants.{At, Missing}

-- the numbers that a sequence of calls is given, 0 where it is granted
abbrev number_of : Outcome → ℕ
number_of (granted q) = 0
number_of (refused n p) = n

unfoldable pub numbers : Contents → List Call → List ℕ
numbers r [] = []
numbers r (c ∷ cs) = number_of (called r c) ∷ numbers (left r (called r c)) cs

-- a register handed in: so many issued, and entries from the first place on
abbrev handed : ℕ → List Entry → Contents
handed issued es = record { entries = take 64 (es ++ replicate 64 free); issued = issued }

-- so many principals, numbered from 1, with no moves
unfoldable pub crowd : ℕ → List Entry
crowd zero = []
crowd (suc n) = held (suc n) 0 ∷ crowd n

-- the numbers given in the examples of S02 to S04
abbrev pub given : List (List ℕ)
given =
    -- S02: the order of refusals
    numbers empty (issues 1 0 ∷ issues 1 1000001 ∷ issues 1 1000000 ∷ issues 1 1 ∷ issues 2 1 ∷ [])
    ∷ numbers empty (spends 1 0 ∷ spends 1 1 ∷ issues 1 5 ∷ spends 1 6 ∷ spends 1 5 ∷ spends 1 1 ∷ [])
    ∷ numbers empty (issues 1 5 ∷ passes 1 2 9 ∷ passes 2 1 9 ∷ issues 2 1 ∷ passes 1 2 6 ∷ passes 1 2 5 ∷ removes 1 ∷ removes 1 ∷ [])
    ∷ numbers empty (issues 1 5 ∷ removes 1 ∷ removes 2 ∷ [])
    ∷ numbers empty (issues 1 5 ∷ passes 1 1 5 ∷ passes 1 1 6 ∷ passes 2 2 1 ∷ [])
    -- registers handed in with more moves than issued, with a principal twice, with too many issued, and with just as many
    ∷ numbers (handed 5 (held 1 6 ∷ [])) (issues 1 0 ∷ removes 9 ∷ [])
    ∷ numbers (handed 5 (held 1 2 ∷ free ∷ held 1 0 ∷ [])) (spends 1 1 ∷ [])
    ∷ numbers (handed 1000001 []) (spends 1 0 ∷ [])
    ∷ numbers (handed 1000000 (free ∷ held 1 1000000 ∷ [])) (spends 1 1000000 ∷ issues 1 1 ∷ [])
    -- S04: what is issued never falls, and no sum is too large
    ∷ numbers empty (issues 1 1000000 ∷ spends 1 1000000 ∷ issues 1 1 ∷ removes 1 ∷ issues 2 1 ∷ [])
    ∷ numbers (handed 1000000 (held 1 18446744073709551615 ∷ held 2 18446744073709551615 ∷ [])) (spends 1 1 ∷ [])
    -- 64 are held, and 63
    ∷ numbers (handed 0 (crowd 64)) (issues 65 1 ∷ issues 64 1 ∷ [])
    ∷ numbers (handed 0 (crowd 63)) (issues 65 1 ∷ [])
    ∷ []

pub numbers-given : given
    ≡ (14 ∷ 14 ∷ 0 ∷ 17 ∷ 17 ∷ []) ∷ (14 ∷ 15 ∷ 0 ∷ 16 ∷ 0 ∷ 16 ∷ []) ∷ (0 ∷ 15 ∷ 15 ∷ 0 ∷ 16 ∷ 0 ∷ 0 ∷ 15 ∷ []) ∷ (0 ∷ 19 ∷ 15 ∷ [])
    ∷ (0 ∷ 0 ∷ 16 ∷ 15 ∷ []) ∷ (20 ∷ 20 ∷ []) ∷ (20 ∷ []) ∷ (20 ∷ []) ∷ (0 ∷ 17 ∷ []) ∷ (0 ∷ 0 ∷ 17 ∷ 0 ∷ 17 ∷ []) ∷ (20 ∷ [])
    ∷ (18 ∷ 0 ∷ []) ∷ (0 ∷ []) ∷ []
unfolding numbers crowd empty known moves_of total principals twice added replaced damaged outside bad_amount unknown exceeding over_issue crowded holding effect called
numbers-given = refl

-- the places and the work found in the examples of S01 and S03
abbrev pub found_in : List Found
found_in =
    find empty.entries 1
    ∷ find (ran empty (issues 1 5 ∷ issues 2 5 ∷ issues 3 5 ∷ [])).entries 3
    ∷ find (ran empty (issues 1 5 ∷ issues 2 5 ∷ issues 3 5 ∷ [])).entries 4
    -- a freed place is passed over, and taken by the next that is added
    ∷ find (ran empty (issues 1 5 ∷ issues 2 5 ∷ spends 1 5 ∷ removes 1 ∷ [])).entries 2
    ∷ find (ran empty (issues 1 5 ∷ issues 2 5 ∷ spends 1 5 ∷ removes 1 ∷ issues 3 1 ∷ [])).entries 3
    -- one that holds nothing stays, and may receive
    ∷ find (ran empty (issues 1 5 ∷ spends 1 5 ∷ issues 2 5 ∷ passes 2 1 5 ∷ removes 2 ∷ issues 3 1 ∷ [])).entries 3
    ∷ find (ran (handed 9 (free ∷ held 1 1 ∷ free ∷ held 2 1 ∷ [])) (issues 3 1 ∷ [])).entries 2
    ∷ find (crowd 64) 1
    ∷ []

pub found_in_lem : found_in ≡ Missing 0 ∷ At 2 3 ∷ Missing 3 ∷ At 1 1 ∷ At 0 1 ∷ At 1 2 ∷ At 3 3 ∷ At 63 64 ∷ []
unfolding walk find crowd ran empty known moves_of total principals twice added replaced damaged outside bad_amount unknown exceeding over_issue crowded holding effect called
found_in_lem = refl

-- `pass-oneself`: 5 of 5 moves to oneself change nothing; of 6, which are refused, the effect would be another register
pub oneself : moves_of 1 (effect (handed 5 (held 1 5 ∷ [])) (passes 1 1 5)).entries ∷ moves_of 1 (effect (handed 5 (held 1 5 ∷ [])) (passes 1 1 6)).entries ∷ [] ≡ 5 ∷ 6 ∷ []
unfolding effect moves_of replaced
oneself = refl

-- `stands-once`, `sound-passes`: a principal stands once, and at places 0 and 2
pub once : twice (held 1 2 ∷ free ∷ held 2 0 ∷ []) ∷ twice (held 1 2 ∷ free ∷ held 1 0 ∷ []) ∷ [] ≡ false ∷ true ∷ []
unfolding twice known
once = refl

-- `added-first`: with a place free, and with none, where adding would do nothing
pub adding : added 9 1 (held 1 1 ∷ free ∷ free ∷ []) ∷ added 9 1 (held 1 1 ∷ []) ∷ [] ≡ (held 1 1 ∷ held 9 1 ∷ free ∷ []) ∷ (held 1 1 ∷ []) ∷ []
unfolding added
adding = refl

-- `decode-encode`: a principal of four bytes is read back, a larger one isn't. Then bytes that are no register
pub reading : decode (encode (handed 9 (free ∷ held 4294967295 5 ∷ []))) ∷ decode (encode (handed 9 (held 4294967296 5 ∷ []))) ∷ decode [] ∷ decode (replicate 841 0)
    ∷ decode (set (set (encode empty) 35 7) 22 2) ∷ []
    ≡ register (handed 9 (free ∷ held 4294967295 5 ∷ [])) ∷ register (handed 9 (held 0 5 ∷ [])) ∷ unreadable 5 0 ∷ unreadable 2 0 ∷ unreadable 6 22 ∷ []
unfolding decode encode entries_bytes marked entries_at entry_at eight_at four_at pair_at empty
reading = refl

-- numbers left at a free place count for nothing
pub leftover : decode (set (encode empty) 10 7) ≡ register empty
unfolding decode encode entries_bytes marked entries_at entry_at eight_at four_at pair_at empty
leftover = refl
