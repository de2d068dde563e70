use Rattle.std.proofs.Common.{rules}
use Rattle.compliance.specs.Working.Reach.{spread-start, spread_end, spread-stop, spread-more, spare-on}
use Rattle.compliance.proofs.tables.System.spread.Goals as goal

pub loop-init : goal.loop-init
loop-init c = (search spread-start, search rules)

pub returns-in_default : goal.returns-in_default
returns-in_default c = record { reach_after = search (spread-stop, c.in_default.ensures); reach_unchanged = search rules }

pub loop-preserved : goal.loop-preserved
loop-preserved c = (spread-more _ _ _ _ _ _ _ c.loop.invariant.0 c.loop-test.true _ c.in-Some.ensures _ _ c.expand.ensures.expanded, search spare-on)

pub returns : goal.returns
returns c = record { reach_after = search spread_end; reach_unchanged = search rules }
