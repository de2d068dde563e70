-- The grammar of Conditions over kinds of token: types as nonterminals (B02), and the precedence classes in it (B01): a class of a type is a
-- nonterminal, and its operators take the class above on their right, so they group "left to right in a class".
-- Assumes nothing.
use Rattle.std.specs.Prelude.{List, [], ◌∷◌, ◌++◌, ℕ}
use Rattle.lexical.specs.Kind
use Rattle.grammar.specs.Fields.{Field}

-- the classes of a type, from the tightest: one operand, "^", "* / %" or "&&", and the whole
pub data Class : Type 0 where
  operand : Class
  power : Class
  product : Class
  conjunction : Class
  whole : Class

-- A name that spells true or false (in any case) stands here as a kind of its own: ""true" and "false" may also be attribute names".
abbrev pub TRUTH : ℕ
TRUTH = 44

-- <DerefAttribute>:: <AttributeID>
pub data Name : ℕ → Type 0 where
  any_name : Name Kind.NAME
  truth-name : Name TRUTH

-- <StrEx>:: <StrEx> "." <StrEx> | <StringLiteral> | "(" <StrEx> ")" | <DerefAttribute> | "$" <StrEx>; "$" binds above "."
pub data Str : Class → List ℕ → Type 0 where
  str-literal : Str operand (Kind.LITERAL ∷ [])
  str-name : (k : ℕ) → Name k → Str operand (k ∷ [])
  str-lookup : (ks : List ℕ) → Str operand ks → Str operand (Kind.DOLLAR ∷ ks)
  str-bracket : (ks : List ℕ) → Str whole ks → Str operand (Kind.OPEN ∷ ks ++ Kind.CLOSE ∷ [])
  str-one : (ks : List ℕ) → Str operand ks → Str whole ks
  str-join : (ks ls : List ℕ) → Str whole ks → Str operand ls → Str whole (ks ++ Kind.DOT ∷ ls)

-- "* / %"
pub data Product : ℕ → Type 0 where
  times : Product Kind.TIMES
  divide : Product Kind.DIVIDE
  remainder : Product Kind.REMAINDER

-- "+ -"
pub data Sum : ℕ → Type 0 where
  plus : Sum Kind.PLUS
  minus : Sum Kind.MINUS

-- <IntEx>:: <IntEx> "+" <IntEx> | <IntEx> "-" <IntEx> | <IntEx> "*" <IntEx> | <IntEx> "/" <IntEx> | <IntEx> "%" <IntEx> | <IntEx> "^" <IntEx>
-- | "-" <IntEx> | "(" <IntEx> ")" | <IntegerLiteral> | "@" <StrEx>; "unary -, then ^, then * / %, then + -", "@ and $ bind as unary -"
pub data Int : Class → List ℕ → Type 0 where
  int-literal : Int operand (Kind.DIGITS ∷ [])
  int-minus : (ks : List ℕ) → Int operand ks → Int operand (Kind.MINUS ∷ ks)
  int-convert : (ks : List ℕ) → Str operand ks → Int operand (Kind.AT ∷ ks)
  int-bracket : (ks : List ℕ) → Int whole ks → Int operand (Kind.OPEN ∷ ks ++ Kind.CLOSE ∷ [])
  int-one : (ks : List ℕ) → Int operand ks → Int power ks
  int-power : (ks ls : List ℕ) → Int power ks → Int operand ls → Int power (ks ++ Kind.POWER ∷ ls)
  int_up : (ks : List ℕ) → Int power ks → Int product ks
  int-product : (o : ℕ) (ks ls : List ℕ) → Product o → Int product ks → Int power ls → Int product (ks ++ o ∷ ls)
  int-term : (ks : List ℕ) → Int product ks → Int whole ks
  int-sum : (o : ℕ) (ks ls : List ℕ) → Sum o → Int whole ks → Int product ls → Int whole (ks ++ o ∷ ls)

-- "* /": floats have no "%"
pub data FloatTimes : ℕ → Type 0 where
  float-times : FloatTimes Kind.TIMES
  float-divide : FloatTimes Kind.DIVIDE

-- <FloatEx>:: <FloatEx> "+" <FloatEx> | <FloatEx> "-" <FloatEx> | <FloatEx> "*" <FloatEx> | <FloatEx> "/" <FloatEx> | <FloatEx> "^" <FloatEx>
-- | "-" <FloatEx> | "(" <FloatEx> ")" | <FloatLiteral> | "&" <StrEx>; ""&" binds as "@""
pub data Float : Class → List ℕ → Type 0 where
  float-literal : Float operand (Kind.FLOAT ∷ [])
  float-minus : (ks : List ℕ) → Float operand ks → Float operand (Kind.MINUS ∷ ks)
  float_convert : (ks : List ℕ) → Str operand ks → Float operand (Kind.AMPERSAND ∷ ks)
  float-bracket : (ks : List ℕ) → Float whole ks → Float operand (Kind.OPEN ∷ ks ++ Kind.CLOSE ∷ [])
  float_one : (ks : List ℕ) → Float operand ks → Float power ks
  float-power : (ks ls : List ℕ) → Float power ks → Float operand ls → Float power (ks ++ Kind.POWER ∷ ls)
  float_up : (ks : List ℕ) → Float power ks → Float product ks
  float-product : (o : ℕ) (ks ls : List ℕ) → FloatTimes o → Float product ks → Float power ls → Float product (ks ++ o ∷ ls)
  float-term : (ks : List ℕ) → Float product ks → Float whole ks
  float-sum : (o : ℕ) (ks ls : List ℕ) → Sum o → Float whole ks → Float product ls → Float whole (ks ++ o ∷ ls)

-- "<" | ">" | "<=" | ">="
pub data Order : ℕ → Type 0 where
  less : Order Kind.LESS
  greater : Order Kind.GREATER
  at_most : Order Kind.AT_MOST
  at_least : Order Kind.AT_LEAST

-- these, "==" and "!="
pub data Compare : ℕ → Type 0 where
  order : (k : ℕ) → Order k → Compare k
  equal : Compare Kind.EQUAL
  unequal : Compare Kind.UNEQUAL

-- <IntRelExpr> | <FloatRelExpr> | <StringRelExpr>: "Both sides of a comparison have one type." Floats have no "==" and "!=". Behind "~=" a regular
-- expression stands, written as a string
pub data Comparison : List ℕ → Type 0 where
  of-integers : (o : ℕ) (ks ls : List ℕ) → Compare o → Int whole ks → Int whole ls → Comparison (ks ++ o ∷ ls)
  of-floats : (o : ℕ) (ks ls : List ℕ) → Order o → Float whole ks → Float whole ls → Comparison (ks ++ o ∷ ls)
  of-strings : (o : ℕ) (ks ls : List ℕ) → Compare o → Str whole ks → Str whole ls → Comparison (ks ++ o ∷ ls)
  matching : (ks ls : List ℕ) → Str whole ks → Str whole ls → Comparison (ks ++ Kind.MATCHES ∷ ls)

-- <RelExpr>:: "(" <RelExpr> ")" | <RelExpr> "&&" <RelExpr> | <RelExpr> "||" <RelExpr> | "!" <RelExpr> | <IntRelExpr> | <FloatRelExpr>
-- | <StringRelExpr> | "true" | "false"; "! above && above || (house), a comparison inside"
pub data Tests : Class → List ℕ → Type 0 where
  test-truth : Tests operand (TRUTH ∷ [])
  test-comparison : (ks : List ℕ) → Comparison ks → Tests operand ks
  test-not : (ks : List ℕ) → Tests operand ks → Tests operand (Kind.NOT ∷ ks)
  test-bracket : (ks : List ℕ) → Tests whole ks → Tests operand (Kind.OPEN ∷ ks ++ Kind.CLOSE ∷ [])
  test-one : (ks : List ℕ) → Tests operand ks → Tests conjunction ks
  test-and : (ks ls : List ℕ) → Tests conjunction ks → Tests operand ls → Tests conjunction (ks ++ Kind.AND ∷ ls)
  -- <Test>:: <RelExpr>
  test-ands : (ks : List ℕ) → Tests conjunction ks → Tests whole ks
  test-or : (ks ls : List ℕ) → Tests whole ks → Tests conjunction ls → Tests whole (ks ++ Kind.OR ∷ ls)

-- <ConditionsProgram>:: "" | <Clause> ";" <ConditionsProgram>
pub data Clauses : Class → List ℕ → Type 0 where
  no-clause : Clauses whole []
  clause : (ks ls : List ℕ) → Clauses operand ks → Clauses whole ls → Clauses whole (ks ++ Kind.SEMICOLON ∷ ls)
  -- <Clause>:: <Test> "->" "{" <ConditionsProgram> "}" | <Test> "->" <Value> | <Test>; <Value>:: <StrEx>
  tested : (ks : List ℕ) → Tests whole ks → Clauses operand ks
  valued : (ks ls : List ℕ) → Tests whole ks → Str whole ls → Clauses operand (ks ++ Kind.ARROW ∷ ls)
  nested : (ks ls : List ℕ) → Tests whole ks → Clauses whole ls → Clauses operand (ks ++ Kind.ARROW ∷ Kind.OPEN_BRACE ∷ (ls ++ Kind.CLOSE_BRACE ∷ []))

-- a Conditions field with the token that ends it
abbrev pub Conditions : List ℕ → Type 0
Conditions ks = Field (Clauses whole) ks
