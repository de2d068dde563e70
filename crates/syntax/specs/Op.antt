-- The numbers of the operations of compiled code. Assumes nothing.
use Rattle.std.specs.Prelude.{ℕ}

-- a literal
abbrev pub LITERAL : ℕ
LITERAL = 0

-- a name
abbrev pub NAME : ℕ
NAME = 1

-- an integer literal
abbrev pub NUMBER : ℕ
NUMBER = 2

-- the test true
abbrev pub TRUE : ℕ
TRUE = 3

-- the test false
abbrev pub FALSE : ℕ
FALSE = 4

-- a float literal
abbrev pub DECIMAL : ℕ
DECIMAL = 5

-- "$"
abbrev pub LOOKUP : ℕ
LOOKUP = 6

-- "@"
abbrev pub CONVERT : ℕ
CONVERT = 7

-- unary "-" of integers
abbrev pub NEGATE : ℕ
NEGATE = 8

-- "!"
abbrev pub OPPOSITE : ℕ
OPPOSITE = 9

-- "&"
abbrev pub TO_FLOAT : ℕ
TO_FLOAT = 10

-- unary "-" of floats
abbrev pub FLOAT_NEGATE : ℕ
FLOAT_NEGATE = 11

-- "." of strings
abbrev pub JOIN : ℕ
JOIN = 12

-- "^" of integers
abbrev pub POWER : ℕ
POWER = 13

-- "*" of integers
abbrev pub TIMES : ℕ
TIMES = 14

-- "/" of integers
abbrev pub OVER : ℕ
OVER = 15

-- "%"
abbrev pub REMAINDER : ℕ
REMAINDER = 16

-- "+" of integers
abbrev pub PLUS : ℕ
PLUS = 17

-- "-" of integers
abbrev pub MINUS : ℕ
MINUS = 18

-- "==" of strings
abbrev pub TEXT_EQUAL : ℕ
TEXT_EQUAL = 19

-- "!=" of strings
abbrev pub TEXT_UNEQUAL : ℕ
TEXT_UNEQUAL = 20

-- "<" of strings
abbrev pub TEXT_LESS : ℕ
TEXT_LESS = 21

-- ">" of strings
abbrev pub TEXT_GREATER : ℕ
TEXT_GREATER = 22

-- "<=" of strings
abbrev pub TEXT_AT_MOST : ℕ
TEXT_AT_MOST = 23

-- ">=" of strings
abbrev pub TEXT_AT_LEAST : ℕ
TEXT_AT_LEAST = 24

-- "~="
abbrev pub MATCHES : ℕ
MATCHES = 25

-- "==" of integers
abbrev pub EQUAL : ℕ
EQUAL = 26

-- "!=" of integers
abbrev pub UNEQUAL : ℕ
UNEQUAL = 27

-- "<" of integers
abbrev pub LESS : ℕ
LESS = 28

-- ">" of integers
abbrev pub GREATER : ℕ
GREATER = 29

-- "<=" of integers
abbrev pub AT_MOST : ℕ
AT_MOST = 30

-- ">=" of integers
abbrev pub AT_LEAST : ℕ
AT_LEAST = 31

-- "^" of floats
abbrev pub FLOAT_POWER : ℕ
FLOAT_POWER = 32

-- "*" of floats
abbrev pub FLOAT_TIMES : ℕ
FLOAT_TIMES = 33

-- "/" of floats
abbrev pub FLOAT_OVER : ℕ
FLOAT_OVER = 34

-- "+" of floats
abbrev pub FLOAT_PLUS : ℕ
FLOAT_PLUS = 35

-- "-" of floats
abbrev pub FLOAT_MINUS : ℕ
FLOAT_MINUS = 36

-- "<" of floats
abbrev pub FLOAT_LESS : ℕ
FLOAT_LESS = 37

-- ">" of floats
abbrev pub FLOAT_GREATER : ℕ
FLOAT_GREATER = 38

-- "<=" of floats
abbrev pub FLOAT_AT_MOST : ℕ
FLOAT_AT_MOST = 39

-- ">=" of floats
abbrev pub FLOAT_AT_LEAST : ℕ
FLOAT_AT_LEAST = 40

-- "&&"
abbrev pub BOTH : ℕ
BOTH = 41

-- "||"
abbrev pub EITHER : ℕ
EITHER = 42

-- a program begins: its rank so far is 0
abbrev pub BEGIN : ℕ
BEGIN = 43

-- a clause that is a test
abbrev pub PLAIN : ℕ
PLAIN = 44

-- a clause with a string
abbrev pub VALUED : ℕ
VALUED = 45

-- a clause with a program
abbrev pub NESTED : ℕ
NESTED = 46

-- the higher of two ranks: a clause's is brought to its program's; no entry stores it
abbrev pub RAISE : ℕ
RAISE = 47
