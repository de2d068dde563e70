use mathlib.Core.Path.{◌∙◌}
use Rattle.system.specs.Working.Solving.{fill-all, fill-rest}
use Rattle.system.proofs.solved.fill.Goals as goal

pub shape_of-consts-then-w-texts : goal.shape_of-consts-then-w-texts
shape_of-consts-then-w-texts c = c.read_each-w.auto.consts

pub shape_of-pool-then-w-texts : goal.shape_of-pool-then-w-texts
shape_of-pool-then-w-texts c = c.read_each-w.auto.pool

pub shape_of-places-then-w-texts : goal.shape_of-places-then-w-texts
shape_of-places-then-w-texts c = c.read_each-w.auto.places

pub shape_of-page-then-w-texts : goal.shape_of-page-then-w-texts
shape_of-page-then-w-texts c = c.grown.auto.page ∙ c.read_each-w.auto.page ∙ c.put_header.auto.page

pub returns-then-w-texts : goal.returns-then-w-texts
returns-then-w-texts c = fill-rest _ _ _ _ _ _ _ _ _ _ _ _ c.requires _ c.put_header.ensures _ _ _ _ _ _ _ c.read_each-w.ensures c.if-w-texts.true _ _ _ _ c.front.ensures c.front-then-w-texts.ensures c.front-then-w-texts-2.ensures c.front-then-w-texts-3.ensures _ _ c.grown.ensures

pub shape_of-page : goal.shape_of-page
shape_of-page c = c.read_each-w.auto.page ∙ c.put_header.auto.page

pub returns : goal.returns
returns c = fill-all _ _ _ _ _ _ _ _ _ _ _ _ c.requires _ c.put_header.ensures _ _ _ _ _ _ _ c.read_each-w.ensures c.if-w-texts.false _ c.solve_rows.ensures
