-- Conditions read into code that is run, as the program does it; and the ways out of its functions. Assumes nothing.
use Rattle.std.specs.Prelude.{◌≡◌, List, [], map, ℕ, ◌-◌, ◌%◌, ◌<◌, ◌≤◌, ltb, leb, length, take, replicate, Err, Result, Ok}
use Rattle.std.proofs.Common.{sym}
use borrow.Author.Tests.{lt-ltb, le-ltb, le-leb, lt-leb}
use Rattle.text.specs.Choice.{pick}
use Rattle.text.specs.Counted.{counted}
use Rattle.lexical.specs.declared.token.Token.{Token}
use Rattle.expression.specs.Operands.{rank_in}
use Rattle.expression.specs.Tables.{lookup_in}
use Rattle.expression.specs.declared.value.Operand.{Operand}
use Rattle.machine.specs.Working.Machine.{on, exec, result_of}
use Rattle.machine.specs.Working.Left.{left_in}
use Rattle.conditions.specs.Working.Emit.{Out, Ran, ran}
use Rattle.conditions.specs.Working.Program.{conditions_at}
use Rattle.syntax.specs.declared.fault.Fault.{Fault}
use Rattle.judge.specs.declared.Ranked.{Ranked}
use Rattle.conditions.specs.declared.emit.Found.{Found}

-- a rank and the token behind the field, or the first fault
abbrev pub Judged : Type 0
Judged = Result Ranked Fault

abbrev pub ranked : ℕ → Token → Judged
ranked k n = Ok (record { rank = k; next = n })

-- the operand that the code leaves
unfoldable pub left_by : List ℕ → List ℕ → List ℕ → List ℕ → List ℕ → List ℕ → List ℕ → ℕ → ℕ → Operand
left_by code s rec consts values names constants depth space =
    result_of (exec depth space s (lookup_in rec consts values names constants) (map (counted rec) values) code (on [] []))

-- the rank that the code up to top gives, in a byte; 0 where the code is shorter
unfoldable pub rank_at : List ℕ → ℕ → List ℕ → List ℕ → List ℕ → List ℕ → List ℕ → List ℕ → ℕ → ℕ → ℕ
rank_at code top s rec consts values names constants depth space =
    pick (ltb (length code) top) 0 (rank_in (left_by (take top code) s rec consts values names constants depth space) % 256)

-- the rank of what was read, or its fault
abbrev pub judged_of : (List ℕ → ℕ → ℕ) → Ran → Judged
judged_of f (ran (Err w) b) = Err w
judged_of f (ran (Ok q) b) = ranked (f b q.top) q.next

-- a field in the text s whose first token is t; the code is written to m
unfoldable pub judged_in : List ℕ → Token → List ℕ → List ℕ → List ℕ → List ℕ → List ℕ → List ℕ → ℕ → ℕ → Judged
judged_in s t rec consts values names constants m depth space =
    judged_of (λ b u. rank_at b u s rec consts values names constants depth space) (conditions_at s m 0 t)

-- the entries of a table for the code of n bytes of text: one for each byte and two more, for at most 8,192 bytes
unfoldable pub code_size : ℕ → ℕ
code_size n = pick (leb n 126) 128 (pick (leb n 254) 256 (pick (leb n 510) 512 (pick (leb n 2046) 2048 8194)))

-- by the bytes from the token t on
abbrev pub code_room : List ℕ → Token → List ℕ
code_room s t = replicate (code_size (length s - t.start)) 0

-- the same in tables of its own: room for 208 numbers and 77,824 bytes
unfoldable pub judged_here : List ℕ → Token → List ℕ → List ℕ → List ℕ → List ℕ → List ℕ → Judged
judged_here s t rec consts values names constants = judged_in s t rec consts values names constants (code_room s t) 208 77824

module _ (s rec consts values names constants : List ℕ) (depth space : ℕ) where
  -- `rank_here`
  module _ (code : List ℕ) (top : ℕ) where
    pub rank-short : length code < top → 0 ≡ rank_at code top s rec consts values names constants depth space
    unfolding rank_at
    rank-short h = simp (lt-ltb _ _ h)

    pub rank_left : top ≤ length code → (part : List ℕ) → part ≡ take top code → (k : ℕ) → k ≡ rank_in (left_in depth space part s rec consts values names constants)
        → (r : ℕ) → r ≡ k % 256 → r ≡ rank_at code top s rec consts values names constants depth space
    unfolding rank_at left_by left_in
    rank_left h part pe k ke r re = simp (le-ltb _ _ h, re, ke, pe)

  -- `judge` and `judge_in`
  module _ (t : Token) (m b : List ℕ) (o : Out) (oe : ran o b ≡ conditions_at s m 0 t) where
    pub judge-aside : (w : Fault) → o ≡ Err w → Err w ≡ judged_in s t rec consts values names constants m depth space
    unfolding judged_in
    judge-aside w e = simp (sym oe, e)

    pub judge-on : (q : Found) → o ≡ Ok q → (k : ℕ) → k ≡ rank_at b q.top s rec consts values names constants depth space
        → ranked k q.next ≡ judged_in s t rec consts values names constants m depth space
    unfolding judged_in
    judge-on q e k ke = simp (sym oe, e, ke)

-- `judge_field`
module _ (s rec consts values names constants : List ℕ) (t : Token) (r : Judged) (n : ℕ) (ne : n ≡ length s - t.start) where
  here : (k : ℕ) → code_size n ≡ k → r ≡ judged_in s t rec consts values names constants (replicate k 0) 208 77824 → r ≡ judged_here s t rec consts values names constants
  unfolding judged_here
  here k h e = rw (← ne, h) e

  pub here-tiny : n ≤ 126 → r ≡ judged_in s t rec consts values names constants (replicate 128 0) 208 77824 → r ≡ judged_here s t rec consts values names constants
  unfolding code_size
  here-tiny h = here 128 (rw (le-leb n 126 h))

  module _ (more : 126 < n) where
    pub here-brief : n ≤ 254 → r ≡ judged_in s t rec consts values names constants (replicate 256 0) 208 77824 → r ≡ judged_here s t rec consts values names constants
    unfolding code_size
    here-brief h = here 256 (rw (lt-leb n 126 more, le-leb n 254 h))

    module _ (still : 254 < n) where
      pub here-short : n ≤ 510 → r ≡ judged_in s t rec consts values names constants (replicate 512 0) 208 77824 → r ≡ judged_here s t rec consts values names constants
      unfolding code_size
      here-short h = here 512 (rw (lt-leb n 126 more, lt-leb n 254 still, le-leb n 510 h))

      module _ (yet : 510 < n) where
        pub here-middle : n ≤ 2046 → r ≡ judged_in s t rec consts values names constants (replicate 2048 0) 208 77824 → r ≡ judged_here s t rec consts values names constants
        unfolding code_size
        here-middle h = here 2048 (rw (lt-leb n 126 more, lt-leb n 254 still, lt-leb n 510 yet, le-leb n 2046 h))

        pub here-long : 2046 < n → r ≡ judged_in s t rec consts values names constants (replicate 8194 0) 208 77824 → r ≡ judged_here s t rec consts values names constants
        unfolding code_size
        here-long h = here 8194 (rw (lt-leb n 126 more, lt-leb n 254 still, lt-leb n 510 yet, lt-leb n 2046 h))
