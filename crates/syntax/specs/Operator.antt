-- The operators of expressions, and what each takes and gives. Assumes nothing.
use Rattle.std.specs.Prelude.{Bool, true, false}

-- before an operand: "$", "@", unary "-" of integers, "!", "&", unary "-" of floats
pub data Unary : Type 0 where
  lookup : Unary
  convert : Unary
  negate : Unary
  opposite : Unary
  to-float : Unary
  float-negate : Unary

-- "Both sides of a comparison have one type"
pub data Side : Type 0 where
  strings : Side
  integers : Side

-- "==", "!=", "<", ">", "<=", ">="
pub data Relation : Type 0 where
  equal : Relation
  unequal : Relation
  less : Relation
  greater : Relation
  at_most : Relation
  at_least : Relation

-- "<", ">", "<=", ">=" of floats: "Equality tests of floats are refused"
pub data Ordering : Type 0 where
  float-less : Ordering
  float-greater : Ordering
  float_at_most : Ordering
  float-at-least : Ordering

-- between operands: "."; "^", "*", "/", "%", "+", "-" of integers; a comparison of strings or integers; "~=";
-- "^", "*", "/", "+", "-" and a comparison of floats; "&&", "||"
pub data Binary : Type 0 where
  join : Binary
  power : Binary
  times : Binary
  over : Binary
  remainder : Binary
  plus : Binary
  minus : Binary
  comparison : Side → Relation → Binary
  matches : Binary
  float-power : Binary
  float-times : Binary
  float-over : Binary
  float-plus : Binary
  float-minus : Binary
  float-order : Ordering → Binary
  both : Binary
  either : Binary

-- what an expression is: "a string, an integer or a 32-bit float", or a test
pub data Sort : Type 0 where
  a-string : Sort
  an-integer : Sort
  a-float : Sort
  a_test : Sort

abbrev pub side_sort : Side → Sort
side_sort strings = a-string
side_sort integers = an-integer

-- what an operator takes
abbrev pub unary_takes : Unary → Sort
unary_takes lookup = a-string
unary_takes convert = a-string
unary_takes negate = an-integer
unary_takes opposite = a_test
unary_takes to-float = a-string
unary_takes float-negate = a-float

abbrev pub binary_takes : Binary → Sort
binary_takes join = a-string
binary_takes power = an-integer
binary_takes times = an-integer
binary_takes over = an-integer
binary_takes remainder = an-integer
binary_takes plus = an-integer
binary_takes minus = an-integer
binary_takes (comparison side relation) = side_sort side
binary_takes matches = a-string
binary_takes float-power = a-float
binary_takes float-times = a-float
binary_takes float-over = a-float
binary_takes float-plus = a-float
binary_takes float-minus = a-float
binary_takes (float-order order) = a-float
binary_takes both = a_test
binary_takes either = a_test

-- and gives
abbrev pub unary_gives : Unary → Sort
unary_gives lookup = a-string
unary_gives convert = an-integer
unary_gives negate = an-integer
unary_gives opposite = a_test
unary_gives to-float = a-float
unary_gives float-negate = a-float

abbrev pub binary_gives : Binary → Sort
binary_gives join = a-string
binary_gives power = an-integer
binary_gives times = an-integer
binary_gives over = an-integer
binary_gives remainder = an-integer
binary_gives plus = an-integer
binary_gives minus = an-integer
binary_gives (comparison side relation) = a_test
binary_gives matches = a_test
binary_gives float-power = a-float
binary_gives float-times = a-float
binary_gives float-over = a-float
binary_gives float-plus = a-float
binary_gives float-minus = a-float
binary_gives (float-order order) = a_test
binary_gives both = a_test
binary_gives either = a_test

-- "$", which computes the name that it reads
abbrev pub is_lookup : Unary → Bool
is_lookup lookup = true
is_lookup convert = false
is_lookup negate = false
is_lookup opposite = false
is_lookup to-float = false
is_lookup float-negate = false
