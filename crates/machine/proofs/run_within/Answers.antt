use Rattle.std.specs.Prelude.{ℕ}
use Rattle.std.proofs.lemmas.List.{length-replicate}
use Rattle.machine.specs.Theorems.Wider.{run-left}
use Rattle.machine.proofs.run_within.Goals as goal

pub returns : goal.returns
returns g c = run-left _ _ _ _ _ _ _ _ _ _ (rw (length-replicate {A = ℕ} g.row.DEPTH 0, length-replicate {A = ℕ} g.row.SPACE 0) at c.run.ensures)
