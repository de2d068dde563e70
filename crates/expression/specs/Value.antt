-- What an expression gives, and what the machine's operand for it is. Assumes nothing.
use Rattle.std.specs.Prelude.{Bool, List, [], ℕ, length, Float as Single}
use Rattle.text.specs.declared.Integer.{Integer}
use Rattle.expression.specs.declared.value.Operand.{Operand}
use Rattle.expression.specs.declared.value.Operand.TheVariants.{Text, Number, Test, Rank, Float, Fault}

-- a string, an integer, a 32-bit float, a test, the rank of a program; "an error"
pub data Value : Type 0 where
  text : List ℕ → Value
  integer : Integer → Value
  test : Bool → Value
  rank : ℕ → Value
  float : Single → Value
  fault : Value

-- where a value of one kind is wanted, another is a fault
abbrev pub on_text : (List ℕ → Value) → Value → Value
on_text f (text b) = f b
on_text f (integer i) = fault
on_text f (test t) = fault
on_text f (rank n) = fault
on_text f (float x) = fault
on_text f fault = fault

abbrev pub on_integer : (Integer → Value) → Value → Value
on_integer f (text b) = fault
on_integer f (integer i) = f i
on_integer f (test t) = fault
on_integer f (rank n) = fault
on_integer f (float x) = fault
on_integer f fault = fault

abbrev pub on_test : (Bool → Value) → Value → Value
on_test f (text b) = fault
on_test f (integer i) = fault
on_test f (test t) = f t
on_test f (rank n) = fault
on_test f (float x) = fault
on_test f fault = fault

abbrev pub on_float : (Single → Value) → Value → Value
on_float f (text b) = fault
on_float f (integer i) = fault
on_float f (test t) = fault
on_float f (rank n) = fault
on_float f (float x) = f x
on_float f fault = fault

-- the operand: a string is its length
unfoldable pub operand : Value → Operand
operand (text b) = Text (length b)
operand (integer i) = Number i.negative i.size
operand (test t) = Test t
operand (rank n) = Rank n
operand (float x) = Float x
operand fault = Fault

-- the bytes of a string; other values have none
unfoldable pub bytes_of : Value → List ℕ
bytes_of (text b) = b
bytes_of (integer i) = []
bytes_of (test t) = []
bytes_of (rank n) = []
bytes_of (float x) = []
bytes_of fault = []
