-- Operators: which one begins with given bytes, by the longest reading. Assumes nothing.
use Rattle.std.specs.Prelude.{Bool, false, ℕ, eqb, ltb}
use Rattle.text.specs.Choice.{pick}
use Rattle.lexical.specs.Kind
use Rattle.lexical.specs.Class.{BAR, TILDE}

-- == != <= >= ~=, by the first byte's class
unfoldable pub equal_pair : ℕ → ℕ
equal_pair c =
    pick (eqb c Kind.ASSIGN) Kind.EQUAL
    (pick (eqb c Kind.NOT) Kind.UNEQUAL
    (pick (eqb c Kind.LESS) Kind.AT_MOST
    (pick (eqb c Kind.GREATER) Kind.AT_LEAST
    (pick (eqb c TILDE) Kind.MATCHES Kind.ILLEGAL))))

-- an operator of two bytes, by the first one's class and the second: 61 "=", 62 ">", 38 "&", 124 "|"
unfoldable pub pair_of : ℕ → ℕ → ℕ
pair_of c b =
    pick (eqb b 61) (equal_pair c)
    (pick (eqb b 62) (pick (eqb c Kind.MINUS) Kind.ARROW Kind.ILLEGAL)
    (pick (eqb b 38) (pick (eqb c Kind.AMPERSAND) Kind.AND Kind.ILLEGAL)
    (pick (eqb b 124) (pick (eqb c BAR) Kind.OR Kind.ILLEGAL) Kind.ILLEGAL)))

-- an operator of one byte: the class is its kind
unfoldable pub mark_kind : ℕ → ℕ
mark_kind c = pick (ltb c Kind.OPEN) Kind.ILLEGAL c

-- "in Licensees "-of"": 111 "o", 102 "f"
unfoldable pub is_of : ℕ → ℕ → ℕ → ℕ → Bool
is_of mode c b d = pick (eqb mode Kind.IN_LICENSEES) (pick (eqb c Kind.MINUS) (pick (eqb b 111) (eqb d 102) false) false) false

-- the operator that begins with a byte of class c, then b and d; ILLEGAL where none does
unfoldable pub operator_kind : ℕ → ℕ → ℕ → ℕ → ℕ
operator_kind mode c b d = pick (is_of mode c b d) Kind.OF (pick (eqb (pair_of c b) Kind.ILLEGAL) (mark_kind c) (pair_of c b))
