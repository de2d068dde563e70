use mathlib.Core.Path.{◌∙◌}
use mathlib.Core.List.{[]}
use Rattle.limits.specs.Limits.{most_consts, most_principals}
use Rattle.system.specs.Working.Sizes.{middle, large}
use Rattle.system.specs.Working.Solving.{zeros-long, kept-long, laid-is, grown-all, grown-rest}
use Rattle.system.proofs.solved.grown.Goals as goal

pub slice_bounds-copy_at-end : goal.slice_bounds-copy_at-end
slice_bounds-copy_at-end c = zeros-long most_consts

pub slice_bounds-copy_at-end-2 : goal.slice_bounds-copy_at-end-2
slice_bounds-copy_at-end-2 c = zeros-long middle.pool

pub slice_bounds-copy_places-end : goal.slice_bounds-copy_places-end
slice_bounds-copy_places-end c = zeros-long most_principals

pub slice_bounds-copy_at-end-3 : goal.slice_bounds-copy_at-end-3
slice_bounds-copy_at-end-3 c = zeros-long most_principals

pub slice_bounds-read_each-end : goal.slice_bounds-read_each-end
slice_bounds-read_each-end c = kept-long most_consts _ c.copy_at.auto.dst

pub slice_bounds-read_each-end-2 : goal.slice_bounds-read_each-end-2
slice_bounds-read_each-end-2 c = kept-long middle.pool _ c.copy_at-2.auto.dst

pub slice_bounds-read_each-end-3 : goal.slice_bounds-read_each-end-3
slice_bounds-read_each-end-3 c = kept-long most_principals _ c.copy_places.auto.dst

pub slice_bounds-front-end : goal.slice_bounds-front-end
slice_bounds-front-end c = kept-long most_consts _ (c.read_each-w.auto.consts ∙ c.copy_at.auto.dst)

pub slice_bounds-front-end-then-w-texts : goal.slice_bounds-front-end-then-w-texts
slice_bounds-front-end-then-w-texts c = kept-long middle.pool _ (c.read_each-w.auto.pool ∙ c.copy_at-2.auto.dst)

pub slice_bounds-front-end-then-w-texts-2 : goal.slice_bounds-front-end-then-w-texts-2
slice_bounds-front-end-then-w-texts-2 c = kept-long most_principals _ (c.read_each-w.auto.places ∙ c.copy_places.auto.dst)

pub slice_bounds-front-end-then-w-texts-3 : goal.slice_bounds-front-end-then-w-texts-3
slice_bounds-front-end-then-w-texts-3 c = kept-long most_principals _ c.copy_at-3.auto.dst

pub shape_of-code-then-w-texts : goal.shape_of-code-then-w-texts
shape_of-code-then-w-texts c = c.grown_large.auto.code ∙ c.read_each-w.auto.code

pub shape_of-authors-then-w-texts : goal.shape_of-authors-then-w-texts
shape_of-authors-then-w-texts c = c.grown_large.auto.authors ∙ c.read_each-w.auto.authors

pub shape_of-conds-then-w-texts : goal.shape_of-conds-then-w-texts
shape_of-conds-then-w-texts c = c.grown_large.auto.conds ∙ c.read_each-w.auto.conds

pub shape_of-ends-then-w-texts : goal.shape_of-ends-then-w-texts
shape_of-ends-then-w-texts c = c.grown_large.auto.ends ∙ c.read_each-w.auto.ends

pub shape_of-page-then-w-texts : goal.shape_of-page-then-w-texts
shape_of-page-then-w-texts c = c.grown_large.auto.page ∙ c.read_each-w.auto.page

pub returns-then-w-texts : goal.returns-then-w-texts
returns-then-w-texts c = grown-rest middle _ _ _ _ _ _ _ _ _ _ _ _ _ _ _ _ _ (laid-is _ _ _ _ c.copy_at.ensures) (laid-is _ _ _ _ c.copy_at-2.ensures) (laid-is _ _ _ _ c.copy_places.ensures) (laid-is _ _ _ _ c.copy_at-3.ensures) _ _ _ _ _ _ _ c.read_each-w.ensures large [] c.if-w-texts.true _ _ _ _ c.front.ensures c.front-then-w-texts.ensures c.front-then-w-texts-2.ensures c.front-then-w-texts-3.ensures _ c.grown_large.ensures

pub slice_bounds-solve_rows-end : goal.slice_bounds-solve_rows-end
slice_bounds-solve_rows-end c = kept-long most_principals _ c.copy_at-3.auto.dst

pub shape_of-code : goal.shape_of-code
shape_of-code c = c.read_each-w.auto.code

pub shape_of-authors : goal.shape_of-authors
shape_of-authors c = c.read_each-w.auto.authors

pub shape_of-conds : goal.shape_of-conds
shape_of-conds c = c.read_each-w.auto.conds

pub shape_of-ends : goal.shape_of-ends
shape_of-ends c = c.read_each-w.auto.ends

pub shape_of-page : goal.shape_of-page
shape_of-page c = c.read_each-w.auto.page

pub returns : goal.returns
returns c = grown-all middle _ _ _ _ _ _ _ _ _ _ _ _ _ _ _ _ _ (laid-is _ _ _ _ c.copy_at.ensures) (laid-is _ _ _ _ c.copy_at-2.ensures) (laid-is _ _ _ _ c.copy_places.ensures) (laid-is _ _ _ _ c.copy_at-3.ensures) _ _ _ _ _ _ _ c.read_each-w.ensures large [] c.if-w-texts.false _ c.solve_rows.ensures
