use Rattle.machine.specs.Working.Giving.{string-enough, string-more}
use Rattle.machine.proofs.+string_on.Goals as goal

pub returns-in-Some : goal.returns-in-Some
returns-in-Some t c = search string-enough

pub returns-then-tier-eq0 : goal.returns-then-tier-eq0
returns-then-tier-eq0 t c = search string-more
