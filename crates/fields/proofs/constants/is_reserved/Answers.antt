use Rattle.fields.specs.Working.Setting.{reserved-none, reserved-some}
use Rattle.fields.proofs.constants.is_reserved.Goals as goal

pub returns-then-name-eq0 : goal.returns-then-name-eq0
returns-then-name-eq0 c = search reserved-none

pub returns : goal.returns
returns c = search reserved-some
