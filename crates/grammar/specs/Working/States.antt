-- States in a Conditions, an Authorizer and a Licensees field, with what stands around them: the automaton by which kinds are seen to begin no
-- sentence. It goes by the tables of crate conditions. Assumes nothing.
use Rattle.std.specs.Prelude.{Bool, true, false, ℕ, zero, suc, eqb}
use Rattle.text.specs.Choice.{pick}
use Rattle.lexical.specs.Kind
use Rattle.lexical.specs.Kind.{ending}
use Rattle.syntax.specs.Operator.{a-string, an-integer, a-float, a_test}
use Rattle.conditions.specs.Table.{PartSort, sorted, word, Want, want-any, want-string, want-number, want-integer, want-float}
use Rattle.conditions.specs.Table
use Rattle.grammar.specs.Conditions.{TRUTH}

-- what was read
abbrev pub TEXT : PartSort
TEXT = sorted a-string

abbrev pub NUMBER : PartSort
NUMBER = sorted an-integer

abbrev pub FLOATING : PartSort
FLOATING = sorted a-float

abbrev pub TEST : PartSort
TEST = sorted a_test

abbrev pub TRUE : PartSort
TRUE = word true

-- where tests stand: in a clause with so many "{" open, or in a round bracket; true: it may still turn out to hold a string or a number
pub data Spot : Type 0 where
  in-clause : ℕ → Spot
  in-bracket : Bool → Spot → Spot

-- what surrounds an operand: tests, the left side of a comparison, a clause's "->", brackets of a string that is then of that sort, brackets of a
-- number; a field of its own; licensees in so many brackets, of which the first number may still turn out to be a string's; a list in so many brackets
pub data Frame : Type 0 where
  tests : Spot → Frame
  right : Spot → Frame
  value : ℕ → Frame
  texts : PartSort → Frame → Frame
  numbers : Frame → Frame
  alone : Frame
  people : ℕ → ℕ → Frame
  item : ℕ → Frame

-- the automaton's states: what may come next, and in which frame
pub data State : Type 0 where
  p-dead : State
  p-over : State
  p-begin : ℕ → State
  p-arrow : ℕ → State
  p-block : ℕ → State
  p-any : Spot → State
  p-text : PartSort → Frame → State
  p-number : Want → Frame → State
  p-have : PartSort → Frame → State
  p-names : State
  p-princ : ℕ → ℕ → State
  p-people : ℕ → State
  p-count : ℕ → State
  p-of : ℕ → State

-- a test and nothing else
abbrev pub strict : Spot → Spot
strict (in-clause d) = in-clause d
strict (in-bracket b S) = in-bracket false S

-- for the tables a word is a name
abbrev pub flat : ℕ → ℕ
flat k = pick (eqb k TRUTH) Kind.NAME k

-- a test, and nothing else; a test, or a bare word that becomes one
abbrev pub settled_test : PartSort → Bool
settled_test (sorted a-string) = false
settled_test (sorted an-integer) = false
settled_test (sorted a-float) = false
settled_test (sorted a_test) = true
settled_test (word b) = false

abbrev pub is_test : PartSort → Bool
is_test (sorted a-string) = false
is_test (sorted an-integer) = false
is_test (sorted a-float) = false
is_test (sorted a_test) = true
is_test (word b) = true

-- where the right operand of a sort is wanted
abbrev pub right_of : PartSort → Frame → State
right_of (sorted a-string) F = p-text TEXT F
right_of (sorted an-integer) F = p-number want-integer F
right_of (sorted a-float) F = p-number want-float F
right_of (sorted a_test) F = p-text TEXT F
right_of (word b) F = p-text TEXT F

abbrev pub close_at : Bool → PartSort → Spot → State
close_at lone sort S =
    pick (settled_test sort) (p-have TEST (tests (strict S)))
    (pick lone (p-have sort (tests S)) (pick (is_test sort) (p-have TEST (tests (strict S))) p-dead))

abbrev pub end_at : PartSort → Spot → ℕ → State
end_at sort (in-clause d) k = pick (is_test sort) (pick (eqb k Kind.ARROW) (p-arrow d) (pick (eqb k Kind.SEMICOLON) (p-begin d) p-dead)) p-dead
end_at sort (in-bracket lone S) k = pick (eqb k Kind.CLOSE) (close_at lone sort S) p-dead

-- licensees: a closing bracket behind a string, one behind what is no string, and the end
abbrev pub shut_at : ℕ → ℕ → State
shut_at u zero = p-dead
shut_at zero (suc n) = p-people n
shut_at (suc u) (suc n) = p-have TEXT (people u n)

abbrev pub shut_people : ℕ → State
shut_people zero = p-dead
shut_people (suc n) = p-people n

abbrev pub last_at : ℕ → State
last_at zero = p-over
last_at (suc n) = p-dead

-- behind a licensee in n brackets
abbrev pub people_at : State → ℕ → ℕ → State
people_at shut n k = pick (eqb k Kind.AND) (p-princ 0 n) (pick (eqb k Kind.OR) (p-princ 0 n) (pick (eqb k Kind.CLOSE) shut (pick (ending k) (last_at n) p-dead)))

abbrev pub leave_at : PartSort → Frame → ℕ → State
leave_at sort (tests S) k =
    pick (Table.binds 2 (Table.operator sort k)) (right_of sort (right (strict S))) (pick (Table.binds 0 (Table.operator sort k)) (p-any (strict S)) (end_at sort S k))
leave_at sort (right S) k = pick (Table.binds 0 (Table.operator (sorted a_test) k)) (p-any (strict S)) (end_at TEST S k)
leave_at sort (value d) k = pick (eqb k Kind.SEMICOLON) (p-begin d) p-dead
leave_at sort (texts r F) k = pick (eqb k Kind.CLOSE) (p-have r F) p-dead
leave_at sort (numbers F) k = pick (eqb k Kind.CLOSE) (p-have sort F) p-dead
leave_at sort alone k = pick (ending k) p-over p-dead
leave_at sort (people u n) k = people_at (shut_at u n) n k
leave_at sort (item n) k = pick (eqb k Kind.COMMA) (p-text TEXT (item n)) (pick (eqb k Kind.CLOSE) (p-people n) p-dead)

abbrev pub have_at : PartSort → Frame → ℕ → State
have_at sort F k = pick (Table.binds 3 (Table.operator sort k)) (right_of sort F) (leave_at sort F k)

-- operands, where they are allowed
abbrev pub go_text : PartSort → Frame → ℕ → State
go_text r F k = pick (eqb k Kind.OPEN) (p-text TEXT (texts r F)) (pick (eqb k Kind.DOLLAR) (p-text r F) (p-have r F))

abbrev pub go_number : Want → Frame → ℕ → State
go_number w F k =
    pick (eqb k Kind.OPEN) (p-number w (numbers F))
    (pick (eqb k Kind.MINUS) (p-number w F)
    (pick (eqb k Kind.FLOAT) (p-have FLOATING F)
    (pick (eqb k Kind.AMPERSAND) (p-text FLOATING F)
    (pick (eqb k Kind.AT) (p-text NUMBER F) (p-have NUMBER F)))))

abbrev pub go_any : Spot → ℕ → State
go_any S k =
    pick (eqb k Kind.OPEN) (p-any (in-bracket true S))
    (pick (eqb k Kind.NOT) (p-any (strict S))
    (pick (eqb k TRUTH) (p-have TRUE (tests S))
    (pick (Table.begins_string k) (go_text TEXT (tests S) k) (go_number want-number (tests S) k))))

-- a licensee, where one is wanted
abbrev pub princ_at : ℕ → ℕ → ℕ → State
princ_at u n k =
    pick (eqb k Kind.OPEN) (p-princ (suc u) (suc n)) (pick (eqb k Kind.DIGITS) (p-count n) (pick (Table.allows want-string (flat k)) (go_text TEXT (people u n) k) p-dead))

abbrev pub over_at : ℕ → State
over_at zero = p-over
over_at (suc d) = p-block d

-- the state behind a token of kind k
unfoldable pub step : State → ℕ → State
step p-dead k = p-dead
step p-over k = p-dead
step (p-begin d) k = pick (Table.allows want-any (flat k)) (go_any (in-clause d) k) (pick (Table.stops d k) (over_at d) p-dead)
step (p-arrow d) k = pick (Table.allows want-string (flat k)) (go_text TEXT (value d) k) (pick (eqb k Kind.OPEN_BRACE) (p-begin (suc d)) p-dead)
step (p-block d) k = pick (eqb k Kind.SEMICOLON) (p-begin d) p-dead
step (p-any S) k = pick (Table.allows want-any (flat k)) (go_any S k) p-dead
step (p-text r F) k = pick (Table.allows want-string (flat k)) (go_text r F k) p-dead
step (p-number w F) k = pick (Table.allows w (flat k)) (go_number w F k) p-dead
step (p-have sort F) k = have_at sort F k
step p-names k = pick (ending k) p-over (princ_at 0 0 k)
step (p-princ u n) k = princ_at u n k
step (p-people n) k = people_at (shut_people n) n k
step (p-count n) k = pick (eqb k Kind.OF) (p-of n) p-dead
step (p-of n) k = pick (eqb k Kind.OPEN) (p-text TEXT (item n)) p-dead
