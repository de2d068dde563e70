use Rattle.std.specs.Prelude.{ℕ}
use Rattle.std.proofs.lemmas.List.{length-replicate}
use Rattle.machine.specs.Working.Giving.{string-left}
use Rattle.machine.proofs.string_within.Goals as goal

pub returns : goal.returns
returns g c = search (string-left, rw (length-replicate {A = ℕ} g.row.DEPTH 0, length-replicate {A = ℕ} g.row.SPACE 0) at c.string_in.ensures)
