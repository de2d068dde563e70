use Rattle.system.specs.Working.Solving.{fill-large, fill-middle}
use Rattle.system.proofs.solved.fill_long.Goals as goal

pub returns-then-e-gt-MIDDLE_MOST : goal.returns-then-e-gt-MIDDLE_MOST
returns-then-e-gt-MIDDLE_MOST c = fill-large _ _ _ _ _ _ _ _ _ _ _ _ c.requires _ c.put_header.ensures _ _ _ _ c.front.ensures c.front-2.ensures c.front-3.ensures c.front-4.ensures _ c.if-e-gt-MIDDLE_MOST.true c.grown_large.ensures

pub returns : goal.returns
returns c = fill-middle _ _ _ _ _ _ _ _ _ _ _ _ c.requires _ c.put_header.ensures _ _ _ _ c.front.ensures c.front-2.ensures c.front-3.ensures c.front-4.ensures _ c.if-e-gt-MIDDLE_MOST.false c.grown.ensures
