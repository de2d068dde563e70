-- Working definitions: licensees one by one and in lists, written as instructions. Assumes nothing.
use Rattle.std.specs.Prelude.{◌≡◌, Bool, false, List, ℕ, ◌+◌, ◌-◌, eqb, leb, ltb, Ok, Err, Result}
use Rattle.text.specs.Choice.{pick}
use Rattle.text.specs.Loop.{Step, next, done, loop}
use Rattle.limits.specs.Limits.{most_licensees}
use Rattle.lexical.specs.Kind
use Rattle.lexical.specs.Number.{number_at}
use Rattle.lexical.specs.declared.token.Token.{Token}
use Rattle.compliance.specs.Codes.{k_of_code}
use Rattle.conditions.specs.Table.{begins_string}
use Rattle.conditions.specs.Word.{next_at}
use Rattle.naming.specs.Working.Code.{above, pushed}
use Rattle.naming.specs.Working.Whole.{inner}
use Rattle.index.specs.Working.Adding.{index_of}
use Rattle.index.specs.Working.Entering.{enter_in}
use Rattle.index.specs.declared.Index.{Index}
use Rattle.naming.specs.String.{plain_from, nest_of}
use Rattle.naming.specs.Licensees.{after}
use Rattle.naming.specs.Working.Faults.{first_of}
use Rattle.syntax.specs.Working.Faults.{against, misplaced_at}
use Rattle.naming.specs.Working.Identifying.{Sight, Done, named, of_kept, string_named, is_plain, plain_named, Naming}
use Rattle.syntax.specs.declared.fault.Fault.{Fault}
use Rattle.naming.specs.declared.list.State.{State}
use Rattle.naming.specs.declared.identifier.Named.TheVariants.{At, Nobody}
use Rattle.naming.specs.declared.list.Licensed.{Licensed}

-- the state and the token behind what was read, or the first fault
abbrev pub Licensing : Type 0
Licensing = Result Licensed Fault

abbrev pub read_to : State → Token → Licensing
read_to u n = Ok (record { state = u; next = n })

-- an answer, the pool, the table and the code
pub data Ran : Type 0 where
  ran : Licensing → List ℕ → List ℕ → List ℕ → Ran

-- an answer and the code
pub data Wrote : Type 0 where
  wrote : Licensing → List ℕ → Wrote

abbrev pub refused_licensed : Token → Licensing
refused_licensed t = Err (misplaced_at t)

-- the index, the code's end, the number of licensees and the first fault
abbrev pub state_at : Index → ℕ → ℕ → Fault → State
state_at x z n f = record { index = x; size = z; listed = n; fault = f }

-- a state whose code ends elsewhere
abbrev pub sized : State → ℕ → State
sized st size = state_at st.index size st.listed st.fault

-- the index's count and end, the code's end, the number of licensees and the first fault
abbrev pub state_of : ℕ → ℕ → ℕ → ℕ → Fault → State
state_of c e z n f = state_at (index_of c e) z n f

-- a licensee whose first token that is no bracket stands at that place; where it is nobody, POLICY stands in, whose number is 0
unfoldable pub placed_in : List ℕ → State → ℕ → Naming → Wrote
placed_in code st place (Err f) = wrote (Err f) code
placed_in code st place (Ok (Nobody n)) =
    pick (leb most_licensees st.listed) (wrote (Err (against 0 0)) code)
    (wrote (read_to (state_at st.index (above code st.size) (st.listed + 1) (first_of st.fault (against 10 place))) n) (pushed code st.size 0))
placed_in code st place (Ok (At i x n)) =
    pick (leb most_licensees st.listed) (wrote (Err (against 0 0)) code)
    (pick (leb 32768 i) (wrote (Err (against 0 0)) code) (wrote (read_to (state_at x (above code st.size) (st.listed + 1) st.fault) n) (pushed code st.size i)))

abbrev pub on_wrote : List ℕ → List ℕ → Wrote → Ran
on_wrote pool places (wrote r code) = ran r pool places code

abbrev pub on_named : List ℕ → State → ℕ → Done → Ran
on_named code st place (named e pool places) = on_wrote pool places (placed_in code st place e)

-- a name or a clear literal alone, before the token n
unfoldable pub before_in : List ℕ → Sight → List ℕ → List ℕ → List ℕ → State → Token → Token → Ran
before_in s look pool places code st t n =
    pick (leb most_licensees st.listed) (ran (Err (against 7 t.start)) pool places code)
    (on_named code st t.start (plain_named s look pool places st.index.count st.index.end t n))

-- a clear literal alone, before the token n
unfoldable pub literal_in : List ℕ → List ℕ → List ℕ → List ℕ → State → ℕ → ℕ → Token → Ran
literal_in s pool places code st start stop n =
    pick (leb most_licensees st.listed) (ran (Err (against 7 start)) pool places code)
    (on_named code st 0 (of_kept n (enter_in pool places st.index.count st.index.end (inner s start stop))))

-- is a licensee with its first token at p one too many?
unfoldable pub is_over : ℕ → ℕ → Bool
is_over listed k = pick (leb most_licensees listed) (begins_string k) false

-- any string
unfoldable pub string_in : List ℕ → Sight → List ℕ → List ℕ → List ℕ → State → ℕ → Token → Ran
string_in s look pool places code st left t =
    pick (is_over st.listed (plain_from left s t).kind) (ran (Err (against 7 (plain_from left s t).start)) pool places code)
    (on_named code st (plain_from left s t).start (string_named s look pool places st.index.count st.index.end (nest_of left) t))

unfoldable pub licensee_in : List ℕ → Sight → List ℕ → List ℕ → List ℕ → State → ℕ → Token → Ran
licensee_in s look pool places code st left t =
    pick (is_plain s t)
    (pick (eqb (next_at s t.end).kind Kind.DOT) (string_in s look pool places code st left t)
    (before_in s look pool places code st t (next_at s t.end)))
    (string_in s look pool places code st left t)

-- how many licensees were read since there were `before`
unfoldable pub items_of : ℕ → ℕ → ℕ
items_of before listed = pick (ltb listed before) 0 (pick (ltb most_licensees (listed - before)) 0 (listed - before))

-- the end of a list
abbrev pub listed_with : List ℕ → List ℕ → ℕ → State → Token → ℕ → Wrote
listed_with s code k st t n =
    pick (ltb n k) (wrote (Err (against 5 t.start)) code) (wrote (read_to (sized st (above code st.size)) (after s t)) (pushed code st.size (k_of_code k n)))

unfoldable pub listed_in : List ℕ → List ℕ → ℕ → ℕ → State → Token → Wrote
listed_in s code k before st t = listed_with s code k st t (items_of before st.listed)

-- the state, the token, the pool, the table and the code
abbrev pub Loop : Type 0
Loop = State × Token × List ℕ × List ℕ × List ℕ

abbrev pub on_item : List ℕ → ℕ → ℕ → State → Ran → Step Loop Ran
on_item s k before st (ran (Err f) pool places code) = done (ran (Err f) pool places code)
on_item s k before st (ran (Ok w) pool places code) =
    pick (eqb w.next.kind Kind.CLOSE) (done (on_wrote pool places (listed_in s code k before w.state w.next)))
    (pick (eqb w.next.kind Kind.COMMA)
    (pick (leb (most_licensees - st.listed) (most_licensees - w.state.listed)) (done (ran (Err (against 0 0)) pool places code)) (next (w.state, after s w.next, pool, places, code)))
    (done (ran (refused_licensed w.next) pool places code)))

abbrev pub list_turn : List ℕ → Sight → ℕ → ℕ → ℕ → Loop → Step Loop Ran
list_turn s look left k before (st, t, pool, places, code) = on_item s k before st (licensee_in s look pool places code st left t)

unfoldable pub list_in : List ℕ → Sight → ℕ → ℕ → ℕ → List ℕ → List ℕ → List ℕ → State → Token → Ran
list_in s look left k before pool places code st t =
    loop (λ x. most_licensees - x.0.listed) (λ x. ran (Err (against 0 0)) x.2 x.3 x.4) (list_turn s look left k before) (st, t, pool, places, code)

-- what comes of a list that is read this far
abbrev pub resumed : List ℕ → Sight → ℕ → ℕ → ℕ → Ran → Ran
resumed s look left k before (ran (Err f) pool places code) = ran (Err f) pool places code
resumed s look left k before (ran (Ok w) pool places code) = list_in s look left k before pool places code w.state w.next

-- read this far, the list gives what it gives from the licensee t on
pub record Leads (s pool places code : List ℕ) (st : State) (t : Token) (x : Ran) : Type 0 where
  pub leads : (look : Sight) (left k before : ℕ) → resumed s look left k before x ≡ list_in s look left k before pool places code st t

unfoldable pub opened_in : ℕ → List ℕ → Sight → ℕ → List ℕ → List ℕ → List ℕ → State → Token → Ran
opened_in left s look k pool places code st t =
    pick (eqb t.kind Kind.OPEN)
    (pick (eqb left 0) (ran (Err (against 7 t.start)) pool places code) (list_in s look (left - 1) k st.listed pool places code st (after s t)))
    (ran (refused_licensed t) pool places code)

abbrev pub of_in : ℕ → List ℕ → Sight → ℕ → List ℕ → List ℕ → List ℕ → State → Token → Ran
of_in left s look k pool places code st t =
    pick (eqb t.kind Kind.OF) (opened_in left s look k pool places code st (after s t)) (ran (refused_licensed t) pool places code)

abbrev pub threshold_of : ℕ → List ℕ → Sight → List ℕ → List ℕ → List ℕ → State → Token → ℕ → Ran
threshold_of left s look pool places code st t k =
    pick (eqb k 0) (ran (Err (against 5 t.start)) pool places code)
    (pick (ltb most_licensees k) (ran (Err (against 5 t.start)) pool places code) (of_in left s look k pool places code st (after s t)))

unfoldable pub threshold_in : ℕ → List ℕ → Sight → List ℕ → List ℕ → List ℕ → State → Token → Ran
threshold_in left s look pool places code st t =
    threshold_of left s look pool places code st t (number_at s t.start t.end)
