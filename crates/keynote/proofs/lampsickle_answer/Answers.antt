use Rattle.keynote.specs.Theorems.Answers.{refused-outcome, refused-page, accepted-table, accepted-outcome, accepted-page}
use Rattle.keynote.proofs.lampsickle_answer.Goals as goal

pub slice_bounds-answered-end : goal.slice_bounds-answered-end
slice_bounds-answered-end c = let f = accepted-table _ _ _ c.read.ensures.table_after (λ i. (c.type_inv.query i).fits) in search f

pub returns-in-Err : goal.returns-in-Err
returns-in-Err c =
    record {
      value = refused-outcome c.args.query.now _ c.read.result c.read.ensures.table_after c.args.page.now c.in-Err.refusal.number c.in-Err.refusal.at c.in-Err.is _ c.refused.ensures;
      page_after = refused-page c.args.query.now _ c.read.result c.read.ensures.table_after c.args.page.now c.in-Err.refusal.number c.in-Err.refusal.at c.in-Err.is;
    }

pub returns-in-Ok : goal.returns-in-Ok
returns-in-Ok c = record { value = let f = accepted-outcome _ _ _ c.read.ensures.table_after (λ i. (c.type_inv.query i).fits) in search f; page_after = let f = accepted-page _ _ _ c.read.ensures.table_after (λ i. (c.type_inv.query i).fits) in search f }
