use Rattle.index.specs.Working.Walking.{between-up, between-not}
use Rattle.index.proofs.is_between.Goals as goal

pub returns-then-a-b : goal.returns-then-a-b
returns-then-a-b c = search between-up

pub returns-else-a-b : goal.returns-else-a-b
returns-else-a-b c = search between-not
