use Rattle.system.specs.Working.Solving.{solve-long, solve-many, solve-is}
use Rattle.system.proofs.solved.solved.Goals as goal

pub returns-then-query-gt-LONG : goal.returns-then-query-gt-LONG
returns-then-query-gt-LONG c = solve-long _ _ _ _ _ _ _ _ c.begin-start.ensures _ _ _ c.begin-alone.ensures _ _ _ _ c.ask_all-index.ensures _ c.if-query-gt-LONG.true c.fill_long.ensures

pub returns-then-texts-gt-SOME_ROWS : goal.returns-then-texts-gt-SOME_ROWS
returns-then-texts-gt-SOME_ROWS c =
    solve-many _ _ _ _ _ _ _ _ c.begin-start.ensures _ _ _ c.begin-alone.ensures _ _ _ _ c.ask_all-index.ensures _ c.if-query-gt-LONG.false
    c.if-texts-gt-SOME_ROWS.true c.fill_long-then-texts-gt-SOME_ROWS.ensures

pub returns : goal.returns
returns c = solve-is _ _ _ _ _ _ _ _ c.begin-start.ensures _ _ _ c.begin-alone.ensures _ _ _ _ c.ask_all-index.ensures _ c.if-query-gt-LONG.false c.if-texts-gt-SOME_ROWS.false c.fill.ensures
