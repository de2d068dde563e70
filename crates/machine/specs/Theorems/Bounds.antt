-- Room that is enough: an operand for each entry of the code, and 4,096 bytes for each operand. Assumes nothing.
use Rattle.std.specs.Prelude.{◌≡◌, List, [], ◌∷◌, ◌++◌, ℕ, ◌+◌, ◌*◌, ◌≤◌, length}
use Rattle.std.proofs.Common.{arith, length-append}
use Rattle.syntax.specs.Operator.{Sort, a-string, an-integer, a-float, a_test, unary_gives, binary_gives}
use Rattle.syntax.specs.Operation.{unary_number, binary_number}
use Rattle.syntax.specs.Expr.{Expr, literal, name, number, truth, decimal, unary, binary, Program, none, also, Clause, plain, valued, nested}
use Rattle.syntax.specs.Code.{entry, Codes, code-literal, code-name, code-number, code-true, code-false, code-decimal, code-unary, code-binary, ProgramCodes, code-none, code-also, ClauseCodes, code-plain, code-valued, code-nested}
use Rattle.machine.specs.Working.Need.{need, program_need, clause_need, span_of, span, room, program_room, clause_room}
use Rattle.limits.specs.Limits.{most_string}

append-two : (c d : List ℕ) (x : ℕ) → length (c ++ d ++ (x ∷ [])) ≡ length c + length d + 1
append-two c d x = rw (length-append (c ++ d) (x ∷ []), length-append c d)

pub span-most : (x : Sort) → span_of x ≤ most_string
span-most a-string = omega arith
span-most an-integer = omega arith
span-most a-float = omega arith
span-most a_test = omega arith

some-entry : {s : List ℕ} {e : Expr} {c : List ℕ} → Codes s e c → 1 ≤ length c
some-entry (code-literal at p) = omega arith
some-entry (code-name at p) = omega arith
some-entry (code-number at p) = omega arith
some-entry code-true = omega arith
some-entry code-false = omega arith
some-entry (code-decimal at p) = omega arith
some-entry (code-unary {op = op} {c = c} k) = rw (length-append c (entry (unary_number op) 0 ∷ [])) (omega arith)
some-entry (code-binary {op = op} {c = c} {d = d} k l) = rw (append-two c d (entry (binary_number op) 0)) (omega arith)

program-some : {s : List ℕ} (p : Program) {c : List ℕ} → ProgramCodes s p c → 1 ≤ length c
program-some none code-none = omega arith
program-some (also p q) (code-also {c = c} {d = d} k l) = rw (length-append c d) (omega (arith, program-some p k))

pub need-some : (e : Expr) → 1 ≤ need e
unfolding need
need-some (literal b) = omega arith
need-some (name n) = omega arith
need-some (number n) = omega arith
need-some (truth t) = omega arith
need-some (decimal b) = omega arith
need-some (unary op e) = need-some e
need-some (binary op e f) = omega arith

-- no more operands than entries
pub need-code : {s : List ℕ} {e : Expr} {c : List ℕ} → Codes s e c → need e ≤ length c
unfolding need
need-code (code-literal at p) = omega arith
need-code (code-name at p) = omega arith
need-code (code-number at p) = omega arith
need-code code-true = omega arith
need-code code-false = omega arith
need-code (code-decimal at p) = omega arith
need-code (code-unary {op = op} {c = c} k) = rw (length-append c (entry (unary_number op) 0 ∷ [])) (omega (arith, need-code k))
need-code (code-binary {op = op} {c = c} {d = d} k l) = rw (append-two c d (entry (binary_number op) 0)) (omega (arith, need-code k, need-code l, some-entry k))

mutual
  unfolding program_need clause_need

  pub program-need : {s : List ℕ} (p : Program) {c : List ℕ} → ProgramCodes s p c → program_need p ≤ length c
  program-need none code-none = omega arith
  program-need (also p q) (code-also {c = c} {d = d} k l) = rw (length-append c d) (omega (arith, program-need p k, clause-need q l, program-some p k))

  clause-need : {s : List ℕ} (q : Clause) {c : List ℕ} → ClauseCodes s q c → clause_need q ≤ length c
  clause-need (plain e) (code-plain {c = c} k) = rw (length-append c (entry 44 0 ∷ [])) (omega (arith, need-code k))
  clause-need (valued e f) (code-valued {c = c} {d = d} k l) = rw (append-two c d (entry 45 0)) (omega (arith, need-code k, need-code l, some-entry k))
  clause-need (nested e p) (code-nested {c = c} {d = d} k l) = rw (append-two c d (entry 46 0)) (omega (arith, need-code k, program-need p l, some-entry k))

-- no more bytes than 4,096 for each operand
pub span-least : (e : Expr) → span e ≤ most_string
unfolding span
span-least (literal b) = omega arith
span-least (name n) = omega arith
span-least (number n) = omega arith
span-least (truth t) = omega arith
span-least (decimal b) = omega arith
span-least (unary op e) = span-most (unary_gives op)
span-least (binary op e f) = span-most (binary_gives op)

pub room-need : (e : Expr) → room e ≤ most_string * need e
unfolding room need
room-need (literal b) = omega arith
room-need (name n) = omega arith
room-need (number n) = omega arith
room-need (truth t) = omega arith
room-need (decimal b) = omega arith
room-need (unary op e) = omega (arith, room-need e, span-most (unary_gives op), need-some e)
room-need (binary op e f) = omega (arith, room-need e, room-need f, span-least e)

mutual
  unfolding program_room clause_room program_need clause_need

  pub program-room : (p : Program) → program_room p ≤ most_string * program_need p
  program-room none = omega arith
  program-room (also p q) = omega (arith, program-room p, clause-room q)

  clause-room : (q : Clause) → clause_room q ≤ most_string * clause_need q
  clause-room (plain e) = room-need e
  clause-room (valued e f) = omega (arith, room-need e, room-need f, span-least e)
  clause-room (nested e p) = omega (arith, room-need e, program-room p, span-least e)
