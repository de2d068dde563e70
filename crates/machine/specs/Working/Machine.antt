-- The machine, over lists: the numbers of its operands, two each, and the bytes of its strings; the last one is on top. Assumes nothing.
use Rattle.std.specs.Prelude.{Bool, true, false, not, List, [], ◌∷◌, ◌++◌, ℕ, zero, suc, ◌+◌, ◌-◌, ◌/◌, ◌%◌, eqb, leb, ltb, length, get_or, take, drop}
use Rattle.text.specs.Choice.{pick}
use Rattle.text.specs.Scan.{run}
use Rattle.text.specs.declared.Class.{Class}
use Rattle.text.specs.Class.{in_class, digit, word}
use Rattle.text.specs.Digits.{value}
use Rattle.lexical.specs.Literal.{decoded_at}
use Rattle.float.specs.Written.{float_of}
use Rattle.syntax.specs.Code.{decimal_at}
use Rattle.syntax.specs.Op.{LITERAL, NAME, NUMBER, TRUE, DECIMAL, LOOKUP, FLOAT_NEGATE, BOTH, EITHER, BEGIN, PLAIN, VALUED, NESTED, RAISE}
use Rattle.expression.specs.Value.{operand}
use Rattle.expression.specs.Operands.{kind_of, size_of, unpacked, width, value_of, is_text}
use Rattle.expression.specs.Integers.{ranged}
use Rattle.expression.specs.Conditions.{top}
use Rattle.expression.specs.Working.Clauses.{applied, combined}
use Rattle.expression.specs.declared.value.Operand.{Operand}
use Rattle.expression.specs.declared.value.Operand.TheVariants.{Text, Test, Rank, Float, Fault}
use Rattle.limits.specs.Limits.{most_string}

-- the two stacks; or that the machine can't go on
pub data State : Type 0 where
  on : List ℕ → List ℕ → State
  stuck : State

-- an operand put on top, where there is room
unfoldable pub placed : ℕ → List ℕ → List ℕ → Operand → State
placed depth vs bs v = pick (ltb (depth - length vs) 2) stuck (on (vs ++ (kind_of v ∷ size_of v ∷ [])) bs)

-- a string put on top, where there is room; "string over 4,096 bytes" is a fault
unfoldable pub text_step : ℕ → ℕ → List ℕ → List ℕ → List ℕ → State
text_step depth room b vs bs =
    pick (ltb most_string (length b)) (placed depth vs bs Fault) (pick (leb (length bs + length b) room) (placed depth vs (bs ++ b) (Text (length b))) stuck)

-- the operand on top, and what lies below it
unfoldable pub top_of : List ℕ → Operand
top_of vs = pick (ltb (length vs) 2) Fault (unpacked (get_or vs (length vs - 2) 0) (get_or vs (length vs - 1) 0))

unfoldable pub below : List ℕ → List ℕ
below vs = take (length vs - 2) vs

-- an operation on the topmost operand
unfoldable pub unary_on : ℕ → List (List ℕ) → ℕ → Operand → List ℕ → List ℕ → State
unary_on depth vals op x vs bs =
    pick (ltb (length bs) (width x)) stuck
    (placed depth vs (take (length bs - width x) bs) (operand (applied vals op (value_of x (drop (length bs - width x) bs)))))

unfoldable pub unary_step : ℕ → List (List ℕ) → ℕ → List ℕ → List ℕ → State
unary_step depth vals op vs bs = pick (ltb (length vs) 2) stuck (unary_on depth vals op (top_of vs) (below vs) bs)

-- "$" on the topmost operand
unfoldable pub lookup_on : ℕ → ℕ → (List ℕ → List ℕ) → Operand → List ℕ → List ℕ → State
lookup_on depth room look x vs bs =
    pick (ltb (length bs) (width x)) stuck
    (pick (is_text x) (text_step depth room (look (drop (length bs - width x) bs)) vs (take (length bs - width x) bs))
    (placed depth vs (take (length bs - width x) bs) Fault))

unfoldable pub lookup_step : ℕ → ℕ → (List ℕ → List ℕ) → List ℕ → List ℕ → State
lookup_step depth room look vs bs = pick (ltb (length vs) 2) stuck (lookup_on depth room look (top_of vs) (below vs) bs)

-- an operation on two operands: a string that it gives is made of theirs and lies where they lay
unfoldable pub put_below_on : ℕ → List ℕ → List ℕ → ℕ → Operand → State
put_below_on depth vs bs base v = pick (ltb (length bs - base) (width v)) stuck (placed depth vs (take (base + width v) bs) v)

unfoldable pub binary_on : ℕ → List (List ℕ) → ℕ → Operand → Operand → List ℕ → List ℕ → State
binary_on depth vals op x y vs bs =
    pick (ltb (length bs) (width y)) stuck
    (pick (ltb (length bs - width y) (width x)) stuck
    (put_below_on depth vs bs (length bs - width y - width x)
    (operand (combined vals op (value_of x (drop (length bs - width y - width x) (take (length bs - width y) bs))) (value_of y (drop (length bs - width y) bs))))))

unfoldable pub binary_step : ℕ → List (List ℕ) → ℕ → List ℕ → List ℕ → State
binary_step depth vals op vs bs = pick (ltb (length vs) 4) stuck (binary_on depth vals op (top_of (below vs)) (top_of vs) (below (below vs)) bs)

-- the rank on top is brought to the one below it
unfoldable pub raised : ℕ → List (List ℕ) → State → State
raised depth vals (on vs bs) = binary_step depth vals RAISE vs bs
raised depth vals stuck = stuck

-- the longest part from a place on whose bytes are of a class
unfoldable pub run_at : Class → List ℕ → ℕ → List ℕ
run_at k s at = take (run (in_class k) (drop at s)) (drop at s)

-- a literal, a name, a number, a float literal, a test
unfoldable pub push_step : ℕ → ℕ → List ℕ → (List ℕ → List ℕ) → ℕ → ℕ → List ℕ → List ℕ → State
push_step depth room s look op at vs bs =
    pick (eqb op LITERAL) (text_step depth room (decoded_at s at) vs bs)
    (pick (eqb op NAME) (text_step depth room (look (run_at word s at)) vs bs)
    (pick (eqb op NUMBER) (placed depth vs bs (operand (ranged false (value (run_at digit s at)))))
    (pick (eqb op DECIMAL) (placed depth vs bs (Float (float_of (decimal_at s at))))
    (placed depth vs bs (Test (eqb op TRUE))))))

-- does a test that doesn't hold lie on its program's rank, its clause's string passed by?
unfoldable pub is_idle : List ℕ → Bool
is_idle vs = pick (ltb (length vs) 4) false (pick (eqb (get_or vs (length vs - 2) 0) 3) (eqb (get_or vs (length vs - 4) 0) 5) false)

-- a clause is brought to a rank, and that to its program's
unfoldable pub clause_step : ℕ → List (List ℕ) → ℕ → List ℕ → List ℕ → State
clause_step depth vals op vs bs =
    pick (eqb op BEGIN) (placed depth vs bs (Rank 0))
    (pick (eqb op PLAIN) (raised depth vals (unary_step depth vals op vs bs))
    (pick (is_idle vs) (on (below vs) bs) (raised depth vals (binary_step depth vals op vs bs))))

-- an operation on what lies on the stacks
unfoldable pub act_of : ℕ → ℕ → (List ℕ → List ℕ) → List (List ℕ) → ℕ → List ℕ → List ℕ → State
act_of depth room look vals op vs bs =
    pick (eqb op LOOKUP) (lookup_step depth room look vs bs)
    (pick (leb op FLOAT_NEGATE) (unary_step depth vals op vs bs)
    (pick (leb op EITHER) (binary_step depth vals op vs bs) (clause_step depth vals op vs bs)))

-- one entry: an operation and a place
unfoldable pub step_of : ℕ → ℕ → List ℕ → (List ℕ → List ℕ) → List (List ℕ) → ℕ → ℕ → List ℕ → List ℕ → State
step_of depth room s look vals op at vs bs = pick (leb op DECIMAL) (push_step depth room s look op at vs bs) (act_of depth room look vals op vs bs)

unfoldable pub stepped : ℕ → ℕ → List ℕ → (List ℕ → List ℕ) → List (List ℕ) → ℕ → List ℕ → List ℕ → State
stepped depth room s look vals e vs bs = step_of depth room s look vals (e / 65536) (e % 65536) vs bs

-- is a test on top that doesn't hold? 3 is its kind
unfoldable pub is_false : List ℕ → Bool
is_false vs = pick (ltb (length vs) 2) false (eqb (get_or vs (length vs - 2) 0) 3)

-- Such a test lies below k operands when an operation comes: is it no left side of "&&" any more, or not known to be one?
unfoldable pub outer : ℕ → ℕ → Bool
outer op k =
    pick (leb op DECIMAL) false
    (pick (ltb EITHER op) true (pick (eqb k 0) true (pick (leb op FLOAT_NEGATE) false (pick (eqb k 1) (not (eqb op BOTH)) false))))

-- how many operands lie above it then
unfoldable pub above : ℕ → ℕ → ℕ
above op k = pick (leb op DECIMAL) (k + 1) (pick (leb op FLOAT_NEGATE) k (k - 1))

-- and which entry is the next to be run, as far as is known: the one behind the operation where that is the "&&"
unfoldable pub behind_of : ℕ → ℕ → ℕ → ℕ → ℕ
behind_of op k known next = pick (leb op FLOAT_NEGATE) known (pick (eqb k 1) next known)

-- or, where no more is known, the end of the clause whose string lies above it
unfoldable pub stop_at : ℕ → ℕ → ℕ → ℕ → ℕ
stop_at op k known here = pick (eqb op VALUED) (pick (eqb k 1) here known) known

-- "stop once decided": which entry is run next, from the code at j on
unfoldable pub go_on : ℕ → ℕ → ℕ → List ℕ → ℕ
go_on k known j [] = known
go_on k known j (e ∷ es) = pick (outer (e / 65536) k) (stop_at (e / 65536) k known j) (go_on (above (e / 65536) k) (behind_of (e / 65536) k known (j + 1)) (j + 1) es)

-- is a rank on top that is the highest? 5 is its kind
unfoldable pub is_highest : ℕ → List ℕ → Bool
is_highest high vs = pick (ltb (length vs) 2) false (pick (eqb (get_or vs (length vs - 2) 0) 5) (leb high (get_or vs (length vs - 1) 0)) false)

-- Of k programs that have begun above that rank's: does an operation end its own?
unfoldable pub closing : ℕ → ℕ → Bool
closing op k = pick (eqb op NESTED) (eqb k 0) false

-- how many have begun then
unfoldable pub begun : ℕ → ℕ → ℕ
begun op k = pick (eqb op BEGIN) (k + 1) (pick (eqb op NESTED) (k - 1) k)

-- "the maximum over clauses": nothing is higher, so the entry to be run next is the one that ends the program
unfoldable pub ended : ℕ → ℕ → List ℕ → ℕ
ended k j [] = j
ended k j (e ∷ es) = pick (closing (e / 65536) k) j (ended (begun (e / 65536) k) (j + 1) es)

-- how many entries the operand on top makes needless
unfoldable pub needless : ℕ → List ℕ → List ℕ → ℕ
needless high vs es = pick (is_false vs) (go_on 0 0 0 es) (pick (is_highest high vs) (ended 0 0 es) 0)

-- behind an operation; what is merely put on the stacks is not looked at
abbrev pub ahead : ℕ → ℕ → State → List ℕ → ℕ
ahead high op (on vs bs) es = pick (leb op DECIMAL) 0 (needless high vs es)
ahead high op stuck es = 0

-- the entries behind the first m
unfoldable pub exec_behind : ℕ → ℕ → List ℕ → (List ℕ → List ℕ) → List (List ℕ) → ℕ → List ℕ → State → State
exec_behind depth room s look vals m [] st = st
exec_behind depth room s look vals (suc m) (e ∷ es) st = exec_behind depth room s look vals m es st
exec_behind depth room s look vals zero (e ∷ es) (on vs bs) =
    exec_behind depth room s look vals (ahead (top vals) (e / 65536) (stepped depth room s look vals e vs bs) es) es (stepped depth room s look vals e vs bs)
exec_behind depth room s look vals zero (e ∷ es) stuck = stuck

-- all entries
abbrev pub exec : ℕ → ℕ → List ℕ → (List ℕ → List ℕ) → List (List ℕ) → List ℕ → State → State
exec depth room s look vals c st = exec_behind depth room s look vals 0 c st

-- the operand left
unfoldable pub result_of : State → Operand
result_of (on vs bs) = top_of vs
result_of stuck = Fault
