use Rattle.text.specs.Working.Joining.{fits-start, fits-no-comma, fits-no-item, fits_more, fits-end}
use Rattle.text.proofs.joined_fits.Goals as goal
use Rattle.text.proofs.joined_fits.Goals.{then-left-c-via-then-left-c, then-left-c-via-else-left-c+then-left-c-2}

pub loop-i-init : goal.loop-i-init
loop-i-init c = search fits-start

pub returns-then-left-c : goal.returns-then-left-c
returns-then-left-c c = elim c.then-left-c.branch [ then-left-c-via-then-left-c w ↦ search fits-no-comma | then-left-c-via-else-left-c+then-left-c-2 w ↦ search fits-no-item ]

pub loop-i-preserved : goal.loop-i-preserved
loop-i-preserved c = search fits_more

pub returns : goal.returns
returns c = search fits-end
