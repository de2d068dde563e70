use Rattle.std.proofs.Common.{◌∙◌, refl, arith}
use Rattle.orders.specs.Working.Blocks.{front_end, front-unlike}
use Rattle.orders.specs.Working.Comparing.{front_long}
use Rattle.orders.proofs.same_from_front.Goals as goal

pub returns-then-a-b : goal.returns-then-a-b
returns-then-a-b c = search front_long

pub returns-then-a-lt10 : goal.returns-then-a-lt10
returns-then-a-lt10 c = front_end _ _ _ _ c.behind_blocks.ensures _ c.is_some.ensures refl

pub returns-then-not-starts_with : goal.returns-then-not-starts_with
returns-then-not-starts_with c =
    front-unlike _ _ 8 (omega (arith, c.if-a-b.false, c.if-a-lt10.false)) _ c.starts_with.ensures.value c.if-not-starts_with.true

-- What is left behind the eights is as alike as both were.
pub returns : goal.returns
returns c =
    front_end _ _ _ _ c.behind_blocks-4.ensures _ c.is_some-2.ensures (c.in-Some-behind_blocks.ensures.0 ∙ c.in-Some.ensures.0)
