-- A string expression read into code that is run, as the program does it; and the ways out of its functions. Assumes nothing.
use Rattle.std.specs.Prelude.{◌≡◌, List, ℕ, ◌-◌, ◌<◌, ◌≤◌, ltb, leb, length, take, replicate, Err, Option, Some, None, Result, Ok}
use borrow.Author.Tests.{lt-ltb, le-ltb, le-leb, lt-leb}
use Rattle.text.specs.Choice.{pick}
use Rattle.lexical.specs.declared.token.Token.{Token}
use Rattle.machine.specs.Working.Given.{Gave, gave, string_in}
use Rattle.conditions.specs.Program.{DEPTH}
use Rattle.conditions.specs.Working.Emit.{Out, Ran, ran}
use Rattle.conditions.specs.Working.Expression.{expr_at}
use Rattle.syntax.specs.Working.Faults.{against}
use Rattle.syntax.specs.declared.fault.Fault.{Fault}
use Rattle.judge.specs.declared.string.Said.{Said}
use Rattle.conditions.specs.declared.emit.Found.{Found}

-- how many bytes a string has and the token behind it, or the first fault
abbrev pub Spoken : Type 0
Spoken = Result Said Fault

abbrev pub spoken : ℕ → Token → Spoken
spoken k n = Ok (record { count = k; next = n })

-- an answer and the buffer
pub data Told : Type 0 where
  said : Spoken → List ℕ → Told

abbrev pub valued : Option ℕ → List ℕ → Gave
valued = gave

-- the string that the code up to top gives; none where the code is shorter
unfoldable pub valued_at : List ℕ → ℕ → List ℕ → List ℕ → List ℕ → List ℕ → List ℕ → List ℕ → List ℕ → Gave
valued_at code top s rec consts values names constants out =
    pick (ltb (length code) top) (gave None out) (string_in 208 77824 (take top code) s rec consts values names constants out)

abbrev pub said_of : ℕ → Token → Gave → Told
said_of at n (gave (Some k) out) = said (spoken k n) out
said_of at n (gave None out) = said (Err (against 0 at)) out

-- the string of what was read, or its fault
abbrev pub on_read : ℕ → List ℕ → (List ℕ → ℕ → Gave) → Ran → Told
on_read at out f (ran (Err w) b) = said (Err w) out
on_read at out f (ran (Ok q) b) = said_of at q.next (f b q.top)

-- an expression in the text s whose first token is t; the code is written to m
unfoldable pub said_in : List ℕ → Token → ℕ → List ℕ → List ℕ → List ℕ → List ℕ → List ℕ → List ℕ → List ℕ → Told
said_in s t nest rec consts values names constants m out =
    on_read t.start out (λ b u. valued_at b u s rec consts values names constants out) (expr_at DEPTH s m 0 3 1 0 nest t)

-- the entries of a table for the code of n bytes of text: one for each byte and two more, for at most 8,192 bytes
unfoldable pub string_size : ℕ → ℕ
string_size n = pick (leb n 254) 256 (pick (leb n 2046) 2048 8194)

-- the same in tables of its own
unfoldable pub said_here : List ℕ → Token → ℕ → List ℕ → List ℕ → List ℕ → List ℕ → List ℕ → List ℕ → Told
said_here s t nest rec consts values names constants out =
    said_in s t nest rec consts values names constants (replicate (string_size (length s - t.start)) 0) out

module _ (s rec consts values names constants out : List ℕ) where
  -- `value_of`
  module _ (code : List ℕ) (top : ℕ) where
    pub value-short : length code < top → valued None out ≡ valued_at code top s rec consts values names constants out
    unfolding valued_at
    value-short h = rw (lt-ltb _ _ h)

    pub value-whole : top ≤ length code → (part : List ℕ) → part ≡ take top code → (r : Option ℕ) (to : List ℕ)
        → gave r to ≡ string_in 208 77824 part s rec consts values names constants out → valued r to ≡ valued_at code top s rec consts values names constants out
    unfolding valued_at
    value-whole h part pe r to e = rw (le-ltb _ _ h, ← pe) e

  -- `string_in`
  module _ (t : Token) (nest : ℕ) (m b : List ℕ) (o : Out) (oe : ran o b ≡ expr_at DEPTH s m 0 3 1 0 nest t) where
    pub said-aside : (w : Fault) → o ≡ Err w → said (Err w) out ≡ said_in s t nest rec consts values names constants m out
    unfolding said_in
    said-aside w e = rw (← oe, e)

    module _ (q : Found) (e : o ≡ Ok q) (g : Option ℕ) (to : List ℕ) (ge : valued g to ≡ valued_at b q.top s rec consts values names constants out) where
      pub said-stuck : g ≡ None → said (Err (against 0 t.start)) to ≡ said_in s t nest rec consts values names constants m out
      unfolding said_in
      said-stuck h = rw (← oe, e, ← ge, h)

      pub said-on : (k : ℕ) → g ≡ Some k → said (spoken k q.next) to ≡ said_in s t nest rec consts values names constants m out
      unfolding said_in
      said-on k h = rw (← oe, e, ← ge, h)

  -- `string_field`
  module _ (t : Token) (nest : ℕ) (r : Spoken) (to : List ℕ) (n : ℕ) (ne : n ≡ length s - t.start) where
    here : (k : ℕ) → string_size n ≡ k → said r to ≡ said_in s t nest rec consts values names constants (replicate k 0) out → said r to ≡ said_here s t nest rec consts values names constants out
    unfolding said_here
    here k h e = rw (← ne, h) e

    pub string-short : n ≤ 254 → said r to ≡ said_in s t nest rec consts values names constants (replicate 256 0) out → said r to ≡ said_here s t nest rec consts values names constants out
    unfolding string_size
    string-short h = here 256 (rw (le-leb n 254 h))

    module _ (more : 254 < n) where
      pub string-middle : n ≤ 2046 → said r to ≡ said_in s t nest rec consts values names constants (replicate 2048 0) out → said r to ≡ said_here s t nest rec consts values names constants out
      unfolding string_size
      string-middle h = here 2048 (rw (lt-leb n 254 more, le-leb n 2046 h))

      pub string-long : 2046 < n → said r to ≡ said_in s t nest rec consts values names constants (replicate 8194 0) out → said r to ≡ said_here s t nest rec consts values names constants out
      unfolding string_size
      string-long h = here 8194 (rw (lt-leb n 254 more, lt-leb n 2046 h))
