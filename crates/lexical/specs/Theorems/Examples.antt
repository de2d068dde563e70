-- Worked examples of literals. Assumes nothing.
use Rattle.std.specs.Prelude.{◌≡◌, refl, [], ◌∷◌}
use Rattle.text.specs.Scan.{past}
use Rattle.lexical.specs.Class.{class_of}
use Rattle.lexical.specs.Run.{has_class, in_run}
use Rattle.lexical.specs.Unit.{octal, control, coded, octal_unit, escape_unit, barred, unit_at}
use Rattle.lexical.specs.Literal.{units, units_at, literal_end, decode}

-- \01 and "8"
pub octal-two : decode (92 ∷ 48 ∷ 49 ∷ 56 ∷ []) ≡ 1 ∷ 56 ∷ []
unfolding decode units_at units unit_at past in_run has_class class_of barred escape_unit control octal octal_unit coded
octal-two = refl

-- "00" and "8"
pub octal-zero : decode (92 ∷ 48 ∷ 48 ∷ 56 ∷ []) ≡ 48 ∷ 48 ∷ 56 ∷ []
unfolding decode units_at units unit_at past in_run has_class class_of barred escape_unit control octal octal_unit coded
octal-zero = refl

-- \007 is byte 7
pub octal-three : decode (92 ∷ 48 ∷ 48 ∷ 55 ∷ []) ≡ 7 ∷ []
unfolding decode units_at units unit_at past in_run has_class class_of barred escape_unit control octal octal_unit coded
octal-three = refl

-- "000" and "0"
pub octal-zeros : decode (92 ∷ 48 ∷ 48 ∷ 48 ∷ 48 ∷ []) ≡ 48 ∷ 48 ∷ 48 ∷ 48 ∷ []
unfolding decode units_at units unit_at past in_run has_class class_of barred escape_unit control octal octal_unit coded
octal-zeros = refl

-- "any other backslash vanishes"
pub bare : decode (92 ∷ 49 ∷ 50 ∷ 57 ∷ 92 ∷ 49 ∷ 50 ∷ 92 ∷ 56 ∷ 92 ∷ 78 ∷ []) ≡ 49 ∷ 50 ∷ 57 ∷ 49 ∷ 50 ∷ 56 ∷ 78 ∷ []
unfolding decode units_at units unit_at past in_run has_class class_of barred escape_unit control octal octal_unit coded
bare = refl

-- the largest escape
pub octal-top : decode (92 ∷ 51 ∷ 55 ∷ 55 ∷ []) ≡ 255 ∷ []
unfolding decode units_at units unit_at past in_run has_class class_of barred escape_unit control octal octal_unit coded
octal-top = refl

-- "Backslash-return gives a return"
pub return : decode (92 ∷ 13 ∷ []) ≡ 13 ∷ []
unfolding decode units_at units unit_at past in_run has_class class_of barred escape_unit control octal octal_unit coded
return = refl

-- "backslash-newline drops whitespace up to the next other character"
pub continued : decode (97 ∷ 92 ∷ 10 ∷ 32 ∷ 9 ∷ 10 ∷ 98 ∷ []) ≡ 97 ∷ 98 ∷ []
unfolding decode units_at units unit_at past in_run has_class class_of barred escape_unit control octal octal_unit coded
continued = refl

-- "\n \r \t \f", and a quote and a backslash behind a backslash
pub controls : decode (92 ∷ 110 ∷ 92 ∷ 114 ∷ 92 ∷ 116 ∷ 92 ∷ 102 ∷ 92 ∷ 34 ∷ 92 ∷ 92 ∷ []) ≡ 10 ∷ 13 ∷ 9 ∷ 12 ∷ 34 ∷ 92 ∷ []
unfolding decode units_at units unit_at past in_run has_class class_of barred escape_unit control octal octal_unit coded
controls = refl

-- a literal ends behind its closing quote
pub closed : literal_end (97 ∷ 34 ∷ 98 ∷ []) 0 ≡ 2
unfolding literal_end units_at units unit_at past in_run has_class class_of barred escape_unit control octal octal_unit coded
closed = refl

-- "Above \377 no token"
pub above : literal_end (92 ∷ 52 ∷ 48 ∷ 48 ∷ 34 ∷ []) 0 ≡ 0
unfolding literal_end units_at units unit_at past in_run has_class class_of barred escape_unit control octal octal_unit coded
above = refl

-- "An unescaped newline [..] is illegal"
pub newline : literal_end (97 ∷ 10 ∷ 34 ∷ []) 0 ≡ 0
unfolding literal_end units_at units unit_at past in_run has_class class_of barred escape_unit control octal octal_unit coded
newline = refl

-- "a byte 0 anywhere, is illegal"
pub nul : literal_end (92 ∷ 0 ∷ 34 ∷ []) 0 ≡ 0
unfolding literal_end units_at units unit_at past in_run has_class class_of barred escape_unit control octal octal_unit coded
nul = refl

-- a literal that does not close
pub unclosed : literal_end (97 ∷ 98 ∷ []) 0 ≡ 0
unfolding literal_end units_at units unit_at past in_run has_class class_of barred escape_unit control octal octal_unit coded
unclosed = refl
