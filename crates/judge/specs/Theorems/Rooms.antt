-- Room that is enough for every Conditions field: "16 brackets open (round and curly together)" bound what lies on the stacks at once.
-- Assumes nothing.
use Rattle.std.specs.Prelude.{◌≡◌, List, ℕ, ◌*◌, ◌≤◌}
use Rattle.std.proofs.Common.{arith}
use Rattle.lexical.specs.declared.token.Token.{Token}
use Rattle.syntax.specs.Expr.{Program}
use Rattle.syntax.specs.Parsed.{ok}
use Rattle.machine.specs.Working.Need.{program_need, program_room}
use Rattle.conditions.specs.Program.{DEPTH, read_block, read_program}
use Rattle.judge.specs.Working.Fit.{Holds, holds-is}
use Rattle.judge.specs.Working.FitProgram.{ProgramFits, block_at}

module _ (s : List ℕ) (t : Token) (p : Program) (n : Token) (e : read_program s t ≡ ok p n) where
  read_fits : ProgramFits 0 p
  unfolding read_program
  read_fits = let k : Holds (ProgramFits 0) (read_block DEPTH s 0 t) = block_at s DEPTH 0 t (omega arith) in holds-is (ProgramFits 0) p n (rw e at k)

  -- within each bracket and outside all: what stands left of "||", "&&", a comparison, "+", "*" and "^"; then the innermost operand and a rank
  pub read-need : program_need p ≤ 104
  read-need = omega (arith, read_fits.0)

  -- within each bracket and outside all: what stands left of "."; then a left side of a comparison, and the innermost string
  pub read-room : program_room p ≤ 19 * 4096
  read-room = omega (arith, read_fits.1)
