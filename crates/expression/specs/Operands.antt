-- The machine's operands: two numbers on its stack, and the bytes of a string. Assumes nothing.
use Rattle.std.specs.Prelude.{Bool, true, false, List, ℕ, eqb, Float as Single}
use Rattle.std.specs.Float.{binary32}
use Rattle.std.specs.Float.Ieee.{to_bits, of_bits}
use Rattle.text.specs.Choice.{pick}
use Rattle.text.specs.Decimal.{integer as signed}
use Rattle.text.specs.declared.Integer.{Integer}
use Rattle.float.specs.Bits.{float_at}
use Rattle.expression.specs.Value.{Value, text, integer, test, rank, float, fault}
use Rattle.expression.specs.declared.value.Operand.{Operand}
use Rattle.expression.specs.declared.value.Packed.{Packed}
use Rattle.expression.specs.declared.value.Operand.TheVariants.{Text, Number, Test, Rank, Float, Fault}

-- the two numbers
unfoldable pub kind_of : Operand → ℕ
kind_of (Text n) = 0
kind_of (Number b m) = pick b 2 1
kind_of (Test t) = pick t 4 3
kind_of (Rank n) = 5
kind_of (Float f) = 7
kind_of Fault = 6

unfoldable pub size_of : Operand → ℕ
size_of (Text n) = n
size_of (Number b m) = m
size_of (Test t) = 0
size_of (Rank n) = n
size_of (Float f) = to_bits binary32 f
size_of Fault = 0

abbrev pub pack : Operand → Packed
pack v = record { kind = kind_of v; size = size_of v }

-- the operand that they say
unfoldable pub unpacked : ℕ → ℕ → Operand
unpacked k n =
    pick (eqb k 0) (Text n)
    (pick (eqb k 1) (Number false n)
    (pick (eqb k 2) (Number true n)
    (pick (eqb k 3) (Test false)
    (pick (eqb k 4) (Test true)
    (pick (eqb k 5) (Rank n)
    (pick (eqb k 7) (Float (float_at n)) Fault))))))

-- how many bytes it has
unfoldable pub width : Operand → ℕ
width (Text n) = n
width (Number b m) = 0
width (Test t) = 0
width (Rank n) = 0
width (Float f) = 0
width Fault = 0

-- the value of an operand with these bytes
unfoldable pub value_of : Operand → List ℕ → Value
value_of (Text n) a = text a
value_of (Number b m) a = integer (signed b m)
value_of (Test t) a = test t
value_of (Rank n) a = rank n
value_of (Float f) a = float f
value_of Fault a = fault

-- what an operand is, and what it holds
unfoldable pub is_text : Operand → Bool
is_text (Text n) = true
is_text (Number b m) = false
is_text (Test t) = false
is_text (Rank n) = false
is_text (Float f) = false
is_text Fault = false

unfoldable pub is_number : Operand → Bool
is_number (Text n) = false
is_number (Number b m) = true
is_number (Test t) = false
is_number (Rank n) = false
is_number (Float f) = false
is_number Fault = false

unfoldable pub integer_in : Operand → Integer
integer_in (Text n) = signed false 0
integer_in (Number b m) = signed b m
integer_in (Test t) = signed false 0
integer_in (Rank n) = signed false 0
integer_in (Float f) = signed false 0
integer_in Fault = signed false 0

unfoldable pub is_float : Operand → Bool
is_float (Text n) = false
is_float (Number b m) = false
is_float (Test t) = false
is_float (Rank n) = false
is_float (Float f) = true
is_float Fault = false

unfoldable pub float_in : Operand → Single
float_in (Text n) = of_bits binary32 0
float_in (Number b m) = of_bits binary32 0
float_in (Test t) = of_bits binary32 0
float_in (Rank n) = of_bits binary32 0
float_in (Float f) = f
float_in Fault = of_bits binary32 0

unfoldable pub is_test : Operand → Bool
is_test (Text n) = false
is_test (Number b m) = false
is_test (Test t) = true
is_test (Rank n) = false
is_test (Float f) = false
is_test Fault = false

unfoldable pub is_fault : Operand → Bool
is_fault (Text n) = false
is_fault (Number b m) = false
is_fault (Test t) = false
is_fault (Rank n) = false
is_fault (Float f) = false
is_fault Fault = true

unfoldable pub holds_in : Operand → Bool
holds_in (Text n) = false
holds_in (Number b m) = false
holds_in (Test t) = t
holds_in (Rank n) = false
holds_in (Float f) = false
holds_in Fault = false

unfoldable pub rank_in : Operand → ℕ
rank_in (Text n) = 0
rank_in (Number b m) = 0
rank_in (Test t) = 0
rank_in (Rank n) = n
rank_in (Float f) = 0
rank_in Fault = 0

-- the test that it is
unfoldable pub test_in : Operand → Operand
test_in x = pick (is_test x) x Fault
