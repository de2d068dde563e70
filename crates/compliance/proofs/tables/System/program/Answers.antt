use Rattle.std.proofs.Common.{◌∙◌, ap, refl, Bor, List, ℕ}
use Rattle.compliance.specs.Working.Tables.{program-got}
use Rattle.compliance.proofs.tables.System.program.Goals as goal

pub returns : goal.returns
returns c =
    ap (λ (x : Bor (List ℕ)). x.now) c.unwrap_or.ensures
    ∙ program-got _ _ _ _ _ c.start_of-from.ensures c.index_at-to.ensures _ _ refl c.get.ensures.lookup
