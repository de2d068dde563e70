-- What a reader answers, and the code that it leaves. Assumes nothing.
use Rattle.std.specs.Prelude.{List, ℕ, ◌+◌, eqb, ltb, leb, length, set, Result, Ok, Err}
use Rattle.text.specs.Choice.{pick}
use Rattle.lexical.specs.Kind
use Rattle.lexical.specs.declared.token.Token.{Token}
use Rattle.syntax.specs.Op
use Rattle.syntax.specs.Code.{entry}
use Rattle.conditions.specs.Working.Numbered.{TEST, TEXT, TRUE, fits, operand_of, result_of}
use Rattle.conditions.specs.Word.{next_at}
use Rattle.syntax.specs.Working.Faults.{misplaced_at}
use Rattle.conditions.specs.declared.emit.Found.{Found}
use Rattle.syntax.specs.declared.fault.Fault.{Fault}

-- what was read, or the first fault
abbrev pub Out : Type 0
Out = Result Found Fault

abbrev pub found : ℕ → ℕ → ℕ → Token → Out
found x p u t = Ok (record { sort = x; place = p; top = u; next = t })

-- an answer, and what the code holds
pub data Ran : Type 0 where
  ran : Out → List ℕ → Ran

-- go on from what was found; a fault stands
abbrev pub on_found : Ran → (ℕ → ℕ → ℕ → Token → List ℕ → Ran) → Ran
on_found (ran (Err f) m) k = ran (Err f) m
on_found (ran (Ok q) m) k = k q.sort q.place q.top q.next m

-- the entry of an operation and a place
unfoldable pub slot_of : ℕ → ℕ → ℕ
slot_of op at = pick (leb 65536 at) 0 (pick (leb 64 op) 0 (entry op at))

-- the code's end behind one more entry, where there is room
unfoldable pub above : List ℕ → ℕ → ℕ
above m top = pick (leb (length m) top) top (top + 1)

-- the code with that entry
unfoldable pub put : List ℕ → ℕ → ℕ → ℕ → List ℕ
put m top op at = pick (leb (length m) top) m (set m top (slot_of op at))

-- the code's end behind a bare word
unfoldable pub word_top : List ℕ → ℕ → ℕ → ℕ
word_top m top sort = pick (ltb sort TRUE) top (above m top)

-- the code with a bare word written as what is wanted
unfoldable pub word_written : List ℕ → ℕ → ℕ → ℕ → ℕ → List ℕ
word_written m top wanted sort place =
    pick (ltb sort TRUE) m
    (pick (eqb wanted TEXT) (put m top Op.NAME place) (pick (eqb sort TRUE) (put m top Op.TRUE 0) (put m top Op.FALSE 0)))

unfoldable pub refused : Token → Out
refused t = Err (misplaced_at t)

-- an operator behind its last operand
abbrev pub finish_with : List ℕ → ℕ → ℕ → Token → Ran
finish_with m top op next = ran (found (result_of op) 0 (above m top) next) (put m top op 0)

unfoldable pub finish_at : List ℕ → ℕ → ℕ → ℕ → ℕ → Token → Ran
finish_at m top op sort place next =
    pick (fits (operand_of op) sort) (finish_with (word_written m top (operand_of op) sort place) (word_top m top sort) op next) (ran (refused next) m)

-- the end of a clause
unfoldable pub ended_at : List ℕ → List ℕ → ℕ → ℕ → Token → Ran
ended_at s m top op t =
    pick (eqb t.kind Kind.SEMICOLON) (ran (found TEST 0 (above m top) (next_at s t.end)) (put m top op 0)) (ran (refused t) m)

unfoldable pub valued_at : List ℕ → List ℕ → ℕ → ℕ → ℕ → Token → Ran
valued_at s m top sort place t =
    pick (fits TEXT sort) (ended_at s (word_written m top TEXT sort place) (word_top m top sort) Op.VALUED t) (ran (refused t) m)

-- past a closing bracket
unfoldable pub closed_at : List ℕ → ℕ → ℕ → ℕ → Token → Out
closed_at s sort place top t = pick (eqb t.kind Kind.CLOSE) (found sort place top (next_at s t.end)) (refused t)
