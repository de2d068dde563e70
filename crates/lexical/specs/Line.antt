-- Lines, and the token that comes next in a text. Assumes nothing.
use Rattle.std.specs.Prelude.{Bool, true, List, ℕ, ◌+◌, ◌-◌, eqb, leb, length, get_or}
use Rattle.text.specs.Choice.{pick}
use Rattle.text.specs.Loop.{Step, next, done, loop}
use Rattle.text.specs.Scan.{past}
use Rattle.lexical.specs.Kind
use Rattle.lexical.specs.Class.{class_of, BLANK, NEWLINE, HASH}
use Rattle.lexical.specs.Run.{in_run, BLANKS, FREE}
use Rattle.lexical.specs.Label.{label_kind}
use Rattle.lexical.specs.Token.{end_of, illegal_at, bad_line, next_line, fixed, token_from}
use Rattle.lexical.specs.declared.token.Token.{Token}

-- at e, where a line or a NUL in it ends what is hidden or free
abbrev pub line_end : List ℕ → ℕ → Token
line_end s e = pick (leb (length s) e) (end_of s) (pick (eqb (get_or s e 0) 0) (illegal_at e) (next_line (e + 1)))

-- ""#" outside literals hides the rest of its line"; what Comment holds: "only a NUL in it is refused"
unfoldable pub rest_of_line : List ℕ → ℕ → Token
rest_of_line s i = line_end s (past (in_run FREE) s i)

-- what stands at i, behind the blanks
unfoldable pub visible : List ℕ → ℕ → ℕ → Token
visible s mode i =
    pick (leb (length s) i) (end_of s)
    (pick (eqb (class_of (get_or s i 0)) NEWLINE) (next_line (i + 1))
    (pick (eqb (class_of (get_or s i 0)) HASH) (rest_of_line s i)
    (token_from s mode i)))

-- what comes next inside a line; "What Comment holds is free text without tokens"
unfoldable pub in_line : List ℕ → ℕ → ℕ → Token
in_line s mode i = pick (eqb mode Kind.IN_COMMENT) (rest_of_line s i) (visible s mode (past (in_run BLANKS) s i))

-- "Blank lines (only spaces and tabs)": does the line whose blanks end at e hold nothing else?
unfoldable pub blank_to : List ℕ → ℕ → Bool
blank_to s e = pick (leb (length s) e) true (eqb (class_of (get_or s e 0)) NEWLINE)

-- a line that begins with blanks, which end at e; "text before the first label that "#" doesn't hide"
unfoldable pub indented : List ℕ → ℕ → ℕ → ℕ → Token
indented s mode i e =
    pick (eqb mode Kind.BEFORE) (pick (eqb (class_of (get_or s e 0)) HASH) (rest_of_line s e) (bad_line i))
    (in_line s mode i)

-- "Every line begins with space, tab, "#" or a field label with its colon": what a line that begins at i gives
abbrev pub line_from : List ℕ → ℕ → ℕ → ℕ → Token
line_from s mode i e =
    pick (blank_to s e) (bad_line i)
    (pick (eqb (class_of (get_or s i 0)) HASH) (rest_of_line s i)
    (pick (eqb (class_of (get_or s i 0)) BLANK) (indented s mode i e)
    (fixed (label_kind s i) i)))

-- "A newline that ends the text starts no further line."
unfoldable pub line_at : List ℕ → ℕ → ℕ → Token
line_at s mode i = pick (leb (length s) i) (end_of s) (line_from s mode i (past (in_run BLANKS) s i))

-- one line after the other, until one gives more than the next line
abbrev pub line_turn : List ℕ → ℕ → ℕ → Step ℕ Token
line_turn s mode i =
    pick (leb (length s) i) (done (end_of s))
    (pick (eqb (line_at s mode i).kind Kind.NEXT) (next (line_at s mode i).end) (done (line_at s mode i)))

-- what the lines from i on give
unfoldable pub lines_from : List ℕ → ℕ → ℕ → Token
lines_from s mode i = loop (λ j. length s - j) (λ j. end_of s) (line_turn s mode) i

-- the token that comes next where the one before ended at `at`; the text's first line starts at 0
unfoldable pub token_at : List ℕ → ℕ → ℕ → Token
token_at s mode at =
    pick (eqb at 0) (lines_from s mode 0)
    (pick (eqb (in_line s mode at).kind Kind.NEXT) (lines_from s mode (in_line s mode at).end) (in_line s mode at))
