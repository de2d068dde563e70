use Rattle.machine.specs.Working.Stepping.{lookup-none, lookup-short, lookup-text, lookup-other}
use Rattle.machine.proofs.lookup_step.Goals as goal

pub returns-then-n-lt2 : goal.returns-then-n-lt2
returns-then-n-lt2 c = search lookup-none

pub returns-then-t-w : goal.returns-then-t-w
returns-then-t-w c = search lookup-short

pub returns-then-is_text : goal.returns-then-is_text
returns-then-is_text c = search lookup-text

pub returns : goal.returns
returns c = search lookup-other
