-- Conditions in which neither the name nor "$" stands don't read the name. Assumes nothing.
use Rattle.std.specs.Prelude.{◌≡◌, false, List, ℕ}
use Rattle.syntax.specs.Expr.{Program, none, also, Clause, plain, valued, nested}
use Rattle.expression.specs.Reads.{reads, program_reads, clause_reads}
use Rattle.expression.specs.Standing.{names, program_names, clause_names, computes, program_computes, clause_computes}
use Rattle.expression.specs.Theorems.Standing.{either, unread}

mutual
  unfolding program_reads clause_reads program_names clause_names program_computes clause_computes

  pub program-unread : (p : Program) (n : List ℕ) → program_computes p ≡ false → program_names p n ≡ false → program_reads p n ≡ false
  program-unread none n h k = k
  program-unread (also p q) n h k = either (program_computes p) (clause_computes q) (program_names p n) (clause_names q n) (program_reads p n) (clause_reads q n) (λ u v. program-unread p n u v) (λ u v. clause-unread q n u v) h k

  clause-unread : (q : Clause) (n : List ℕ) → clause_computes q ≡ false → clause_names q n ≡ false → clause_reads q n ≡ false
  clause-unread (plain e) n h k = unread e n h k
  clause-unread (valued e f) n h k = either (computes e) (computes f) (names e n) (names f n) (reads e n) (reads f n) (unread e n) (unread f n) h k
  clause-unread (nested e p) n h k = either (computes e) (program_computes p) (names e n) (program_names p n) (reads e n) (program_reads p n) (unread e n) (λ u v. program-unread p n u v) h k
