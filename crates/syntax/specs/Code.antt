-- Code that says what a tree says: a stack machine's, each operand before its operator. Assumes nothing.
use Rattle.std.specs.Prelude.{true, false, List, [], ◌∷◌, ◌++◌, ℕ, ◌+◌, ◌*◌, ◌<◌, take, drop}
use Rattle.text.specs.Scan.{run}
use Rattle.text.specs.Class.{in_class, digit, word}
use Rattle.text.specs.Digits.{digits_at, value}
use Rattle.lexical.specs.Literal.{decoded_at}
use Rattle.syntax.specs.Operator.{Unary, Binary}
use Rattle.syntax.specs.Operation.{number_of}
use Rattle.syntax.specs.Operation as Operation
use Rattle.syntax.specs.Expr.{Expr, literal, name, number, truth, decimal, unary, binary, Program, none, also, Clause, plain, valued, nested}

-- an entry: the number of an operation, and a place of the text
unfoldable pub entry : ℕ → ℕ → ℕ
entry op at = op * 65536 + at

-- the name that starts at a place
unfoldable pub name_at : List ℕ → ℕ → List ℕ
name_at s at = take (run (in_class word) (drop at s)) (drop at s)

-- the number whose digits start at a place
unfoldable pub number_from : List ℕ → ℕ → ℕ
number_from s at = value (digits_at s at)

-- "float literal (digits "." digits)": the one that starts at a place
unfoldable pub decimal_at : List ℕ → ℕ → List ℕ
decimal_at s at = take (run (in_class digit) (drop at s) + 1 + run (in_class digit) (drop (at + run (in_class digit) (drop at s) + 1) s)) (drop at s)

-- code of an expression in the text s: its places fit an entry
pub data Codes (s : List ℕ) : Expr → List ℕ → Type 0 where
  code-literal : (at : ℕ) → at < 65536 → Codes s (literal (decoded_at s at)) (entry (number_of Operation.literal) at ∷ [])
  code-name : (at : ℕ) → at < 65536 → Codes s (name (name_at s at)) (entry (number_of Operation.name) at ∷ [])
  code-number : (at : ℕ) → at < 65536 → Codes s (number (number_from s at)) (entry (number_of Operation.number) at ∷ [])
  code-true : Codes s (truth true) (entry (number_of (Operation.truth true)) 0 ∷ [])
  code-false : Codes s (truth false) (entry (number_of (Operation.truth false)) 0 ∷ [])
  code-decimal : (at : ℕ) → at < 65536 → Codes s (decimal (decimal_at s at)) (entry (number_of Operation.decimal) at ∷ [])
  code-unary : {op : Unary} {e : Expr} {c : List ℕ} → Codes s e c → Codes s (unary op e) (c ++ (entry (number_of (Operation.unary op)) 0 ∷ []))
  code-binary : {op : Binary} {e f : Expr} {c d : List ℕ} → Codes s e c → Codes s f d → Codes s (binary op e f) (c ++ d ++ (entry (number_of (Operation.binary op)) 0 ∷ []))

-- code of a program and of a clause, behind the code of the program before it
mutual
  pub data ProgramCodes (s : List ℕ) : Program → List ℕ → Type 0 where
    code-none : ProgramCodes s none (entry (number_of Operation.begin) 0 ∷ [])
    code-also : {p : Program} {q : Clause} {c d : List ℕ} → ProgramCodes s p c → ClauseCodes s q d → ProgramCodes s (also p q) (c ++ d)

  pub data ClauseCodes (s : List ℕ) : Clause → List ℕ → Type 0 where
    code-plain : {e : Expr} {c : List ℕ} → Codes s e c → ClauseCodes s (plain e) (c ++ (entry (number_of Operation.plain) 0 ∷ []))
    code-valued : {e f : Expr} {c d : List ℕ} → Codes s e c → Codes s f d → ClauseCodes s (valued e f) (c ++ d ++ (entry (number_of Operation.valued) 0 ∷ []))
    code-nested : {e : Expr} {p : Program} {c d : List ℕ} → Codes s e c → ProgramCodes s p d → ClauseCodes s (nested e p) (c ++ d ++ (entry (number_of Operation.nested) 0 ∷ []))
