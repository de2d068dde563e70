use Rattle.compliance.specs.Working.Solve.{blank-words, blank-ranks, solved-is}
use Rattle.compliance.proofs.tables.System.solve_in.Goals as goal

pub count-reached-requires : goal.count-reached-requires
count-reached-requires c = search blank-words

pub settle-rounds-requires : goal.settle-rounds-requires
settle-rounds-requires c = search blank-ranks

pub returns : goal.returns
returns c = solved-is _ _ _ _ _ _ _ _ _ _ _ c.requires _ c.find_reach.ensures.reach_after c.find_reach.ensures.reach_unchanged _ c.count-reached.ensures _ _ c.settle-rounds.ensures _ c.item_or-rank.ensures
