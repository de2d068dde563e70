-- Field labels with their colons. Assumes nothing.
use Rattle.std.specs.Prelude.{List, [], ◌∷◌, ℕ}
use Rattle.text.specs.Choice.{pick}
use Rattle.lexical.specs.Kind.{BAD_LINE, KEYNOTE_VERSION, LOCAL_CONSTANTS, AUTHORIZER, LICENSEES, CONDITIONS, COMMENT, SIGNATURE}
use Rattle.lexical.specs.Word.{stands}

-- keynote-version:
abbrev pub word_keynote_version : List ℕ
word_keynote_version = 107 ∷ 101 ∷ 121 ∷ 110 ∷ 111 ∷ 116 ∷ 101 ∷ 45 ∷ 118 ∷ 101 ∷ 114 ∷ 115 ∷ 105 ∷ 111 ∷ 110 ∷ 58 ∷ []

-- local-constants:
abbrev pub word_local_constants : List ℕ
word_local_constants = 108 ∷ 111 ∷ 99 ∷ 97 ∷ 108 ∷ 45 ∷ 99 ∷ 111 ∷ 110 ∷ 115 ∷ 116 ∷ 97 ∷ 110 ∷ 116 ∷ 115 ∷ 58 ∷ []

-- authorizer:
abbrev pub word_authorizer : List ℕ
word_authorizer = 97 ∷ 117 ∷ 116 ∷ 104 ∷ 111 ∷ 114 ∷ 105 ∷ 122 ∷ 101 ∷ 114 ∷ 58 ∷ []

-- licensees:
abbrev pub word_licensees : List ℕ
word_licensees = 108 ∷ 105 ∷ 99 ∷ 101 ∷ 110 ∷ 115 ∷ 101 ∷ 101 ∷ 115 ∷ 58 ∷ []

-- conditions:
abbrev pub word_conditions : List ℕ
word_conditions = 99 ∷ 111 ∷ 110 ∷ 100 ∷ 105 ∷ 116 ∷ 105 ∷ 111 ∷ 110 ∷ 115 ∷ 58 ∷ []

-- comment:
abbrev pub word_comment : List ℕ
word_comment = 99 ∷ 111 ∷ 109 ∷ 109 ∷ 101 ∷ 110 ∷ 116 ∷ 58 ∷ []

-- signature:
abbrev pub word_signature : List ℕ
word_signature = 115 ∷ 105 ∷ 103 ∷ 110 ∷ 97 ∷ 116 ∷ 117 ∷ 114 ∷ 101 ∷ 58 ∷ []

-- the kind of the label that stands at i, "a field label with its colon", or BAD_LINE where none does
unfoldable pub label_kind : List ℕ → ℕ → ℕ
label_kind s i =
    pick (stands s i word_keynote_version) KEYNOTE_VERSION
    (pick (stands s i word_local_constants) LOCAL_CONSTANTS
    (pick (stands s i word_authorizer) AUTHORIZER
    (pick (stands s i word_licensees) LICENSEES
    (pick (stands s i word_conditions) CONDITIONS
    (pick (stands s i word_comment) COMMENT
    (pick (stands s i word_signature) SIGNATURE BAD_LINE))))))
