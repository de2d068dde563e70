-- The grammars of the fields over kinds of token, production by production: no reader in sight. Conditions has a file of its own, and so have
-- Authorizer and Licensees (Naming).
-- Limits are no part of a grammar: a sentence may be as long as it likes. Assumes nothing.
use Rattle.std.specs.Prelude.{List, [], ◌∷◌, ◌++◌, ℕ}
use Rattle.lexical.specs.Kind

-- "a label with its colon at a line's start (it ends the field before)"; "the end of text is a token"
pub data Ends : ℕ → Type 0 where
  end-of-text : Ends Kind.END
  next-version : Ends Kind.KEYNOTE_VERSION
  next-constants : Ends Kind.LOCAL_CONSTANTS
  next-authorizer : Ends Kind.AUTHORIZER
  next-licensees : Ends Kind.LICENSEES
  next-conditions : Ends Kind.CONDITIONS
  next-comment : Ends Kind.COMMENT
  next-signature : Ends Kind.SIGNATURE

-- a field's sentence: what it holds, and the token that ends it
pub data Field (G : List ℕ → Type 0) : List ℕ → Type 0 where
  field : (ks : List ℕ) (e : ℕ) → G ks → Ends e → Field G (ks ++ e ∷ [])

-- <VersionField>:: "KeyNote-Version:" <VersionString>; 01: "an integer [..] or a literal"
pub data Version : List ℕ → Type 0 where
  version-integer : Version (Kind.DIGITS ∷ [])
  version-literal : Version (Kind.LITERAL ∷ [])

-- <Assignments>:: "" | <AttributeID> "=" <StringLiteral> <Assignments>; 01: "any number of name = literal"
pub data Assignments : List ℕ → Type 0 where
  no-assignment : Assignments []
  assignment : (ks : List ℕ) → Assignments ks → Assignments (Kind.NAME ∷ Kind.ASSIGN ∷ Kind.LITERAL ∷ ks)

-- <Signature>; 01: "one string literal; nothing after it is read", so no token ends it
pub data Signature : List ℕ → Type 0 where
  signature : Signature (Kind.LITERAL ∷ [])
