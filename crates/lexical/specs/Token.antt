-- The token that starts at a place. Assumes nothing.
use Rattle.std.specs.Prelude.{List, ℕ, ◌+◌, eqb, leb, ltb, length, get_or}
use Rattle.text.specs.Choice.{pick}
use Rattle.text.specs.Scan.{past}
use Rattle.lexical.specs.Kind
use Rattle.lexical.specs.Class.{class_of, LETTER, DIGIT, QUOTE}
use Rattle.lexical.specs.Run.{in_run, WORD, NUMERALS}
use Rattle.lexical.specs.Operator.{operator_kind}
use Rattle.lexical.specs.Literal.{literal_end}
use Rattle.lexical.specs.declared.token.Token.{Token}

-- a token of kind k from i to before e
abbrev pub token : ℕ → ℕ → ℕ → Token
token k i e = record { kind = k; start = i; end = e }

-- "the end of text is a token at the text's length"
abbrev pub end_of : List ℕ → Token
end_of s = token Kind.END (length s) (length s)

-- reason 1: "no token can be formed: its start (a NUL in a comment: that byte)"
abbrev pub illegal_at : ℕ → Token
illegal_at i = token Kind.ILLEGAL i i

-- reason 3: "line start"
abbrev pub bad_line : ℕ → Token
bad_line i = token Kind.BAD_LINE i i

-- a line begins at i
abbrev pub next_line : ℕ → Token
next_line i = token Kind.NEXT i i

-- the bytes of a label with its colon or of an operator; 0 for the end and the faults
unfoldable pub width_of : ℕ → ℕ
width_of k =
    pick (ltb k Kind.KEYNOTE_VERSION) 0
    (pick (ltb k Kind.AUTHORIZER) 16
    (pick (eqb k Kind.AUTHORIZER) 11
    (pick (eqb k Kind.LICENSEES) 10
    (pick (eqb k Kind.CONDITIONS) 11
    (pick (eqb k Kind.COMMENT) 8
    (pick (eqb k Kind.SIGNATURE) 10
    (pick (eqb k Kind.OF) 3
    (pick (ltb k Kind.OPEN) 2 1))))))))

-- a token whose kind settles its width, or a fault
abbrev pub fixed : ℕ → ℕ → Token
fixed k i = token k i (i + width_of k)

-- the kind of the operator that stands at i, or ILLEGAL
unfoldable pub operator_at : List ℕ → ℕ → ℕ → ℕ
operator_at s mode i = operator_kind mode (class_of (get_or s i 0)) (get_or s (i + 1) 0) (get_or s (i + 2) 0)

-- the operator at i, or a fault
unfoldable pub operator_token : List ℕ → ℕ → ℕ → Token
operator_token s mode i = fixed (operator_at s mode i) i

-- from its opening quote to behind its closing quote
unfoldable pub literal_token : List ℕ → ℕ → Token
literal_token s i = pick (eqb (literal_end s (i + 1)) 0) (illegal_at i) (token Kind.LITERAL i (literal_end s (i + 1)))

-- the end of ""." digits" at e (46 is "."), or e where they do not stand
unfoldable pub float_end : List ℕ → ℕ → ℕ
float_end s e =
    pick (leb (length s) e) e
    (pick (eqb (get_or s e 0) 46) (pick (leb (past (in_run NUMERALS) s (e + 1)) (e + 1)) e (past (in_run NUMERALS) s (e + 1))) e)

-- digits that end at e, or a float literal that goes on there
abbrev pub number_to : List ℕ → ℕ → ℕ → Token
number_to s i e = pick (eqb (float_end s e) e) (token Kind.DIGITS i e) (token Kind.FLOAT i (float_end s e))

-- "digits, float literal (digits "." digits)", "longest reading"
unfoldable pub number_token : List ℕ → ℕ → Token
number_token s i = number_to s i (past (in_run NUMERALS) s i)

-- the token that starts at i, by the class of its first byte
unfoldable pub token_from : List ℕ → ℕ → ℕ → Token
token_from s mode i =
    pick (eqb (class_of (get_or s i 0)) LETTER) (token Kind.NAME i (past (in_run WORD) s i))
    (pick (eqb (class_of (get_or s i 0)) DIGIT) (number_token s i)
    (pick (eqb (class_of (get_or s i 0)) QUOTE) (literal_token s i)
    (operator_token s mode i)))
