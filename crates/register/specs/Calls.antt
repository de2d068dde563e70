-- The calls that change a register, and the refusals in their order. Assumes nothing.
use Rattle.std.specs.Prelude.{Bool, false, not, ◌&&◌, ◌||◌, List, [], ◌∷◌, ℕ, ◌+◌, ltb, leb}
use Rattle.text.specs.Choice.{pick}
use Rattle.register.specs.Limits.{most_principals, most_moves}
use Rattle.register.specs.Entries.{Entry, free, Contents, known, moves_of, total, principals, twice, added, replaced, gained, lost}
use Rattle.register.specs.declared.Reason.{Reason}
use Rattle.register.specs.declared.Reason.TheVariants.{DamagedRegister, AmountOutside, UnknownPrincipal, MoreThanHeld, IssueLimit, NoPlace, MovesLeft}

-- "issue, pass on, spend, remove": a payer or principal, passing's receiver, an amount
pub data Call : Type 0 where
  issues : ℕ → ℕ → Call
  passes : ℕ → ℕ → ℕ → Call
  spends : ℕ → ℕ → Call
  removes : ℕ → Call

-- 20, "a register handed in with a principal twice, more moves than all issued, or over 1,000,000 issued"
unfoldable pub damaged : Contents → Bool
damaged r = twice r.entries || ltb r.issued (total r.entries) || ltb most_moves r.issued

-- 14, "an amount outside 1 to 1,000,000"
unfoldable pub outside : ℕ → Bool
outside n = ltb n 1 || ltb most_moves n

unfoldable pub bad_amount : Call → Bool
bad_amount (issues x n) = outside n
bad_amount (passes x y n) = outside n
bad_amount (spends x n) = outside n
bad_amount (removes x) = false

-- 15, "an unknown payer, passing's receiver or principal to remove"
unfoldable pub unknown : List Entry → Call → Bool
unknown es (issues x n) = false
unknown es (passes x y n) = not (known x es) || not (known y es)
unknown es (spends x n) = not (known x es)
unknown es (removes x) = not (known x es)

-- 16, "passing or spending more than is held"
unfoldable pub exceeding : List Entry → Call → Bool
exceeding es (issues x n) = false
exceeding es (passes x y n) = ltb (moves_of x es) n
exceeding es (spends x n) = ltb (moves_of x es) n
exceeding es (removes x) = false

-- 17, "an issue that takes all moves ever issued above 1,000,000"
unfoldable pub over_issue : ℕ → Call → Bool
over_issue issued (issues x n) = ltb most_moves (issued + n)
over_issue issued (passes x y n) = false
over_issue issued (spends x n) = false
over_issue issued (removes x) = false

-- 18, "an issue to one not held while 64 are"
unfoldable pub crowded : List Entry → Call → Bool
crowded es (issues x n) = not (known x es) && leb most_principals (principals es)
crowded es (passes x y n) = false
crowded es (spends x n) = false
crowded es (removes x) = false

-- 19, "removing one that still holds moves"
unfoldable pub holding : List Entry → Call → Bool
holding es (issues x n) = false
holding es (passes x y n) = false
holding es (spends x n) = false
holding es (removes x) = ltb 0 (moves_of x es)

-- the number of the reason why a call is refused
abbrev pub number : Reason → ℕ
number DamagedRegister = 20
number AmountOutside = 14
number UnknownPrincipal = 15
number MoreThanHeld = 16
number IssueLimit = 17
number NoPlace = 18
number MovesLeft = 19

-- whether a reason is there, whatever the others
abbrev pub applies : Contents → Call → Reason → Bool
applies r c DamagedRegister = damaged r
applies r c AmountOutside = bad_amount c
applies r c UnknownPrincipal = unknown r.entries c
applies r c MoreThanHeld = exceeding r.entries c
applies r c IssueLimit = over_issue r.issued c
applies r c NoPlace = crowded r.entries c
applies r c MovesLeft = holding r.entries c

-- what a call does where it is granted
unfoldable pub effect : Contents → Call → Contents
effect r (issues x n) =
    record { entries = pick (known x r.entries) (gained x n r.entries) (added x n r.entries); issued = r.issued + n }
effect r (passes x y n) = record { entries = gained y n (lost x n r.entries); issued = r.issued }
effect r (spends x n) = record { entries = lost x n r.entries; issued = r.issued }
effect r (removes x) = record { entries = replaced x free r.entries; issued = r.issued }

-- granted with the register after it, or refused with a number and a place
pub data Outcome : Type 0 where
  granted : Contents → Outcome
  refused : ℕ → ℕ → Outcome

-- "are tested in this order"
abbrev pub order : List Reason
order = DamagedRegister ∷ AmountOutside ∷ UnknownPrincipal ∷ MoreThanHeld ∷ IssueLimit ∷ NoPlace ∷ MovesLeft ∷ []

-- the first reason that is there refuses the call, with place 0
abbrev pub tested : List Reason → Contents → Call → Outcome
tested [] r c = granted (effect r c)
tested (k ∷ ks) r c = pick (applies r c k) (refused (number k) 0) (tested ks r c)

unfoldable pub called : Contents → Call → Outcome
called r c = tested order r c

-- the register after a call: "Refusals change nothing"
abbrev pub left : Contents → Outcome → Contents
left r (granted q) = q
left r (refused n p) = r

-- the register after a sequence of calls
unfoldable pub ran : Contents → List Call → Contents
ran r [] = r
ran r (c ∷ cs) = ran (left r (called r c)) cs
