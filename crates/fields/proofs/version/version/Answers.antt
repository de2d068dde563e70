use Rattle.fields.specs.Working.Outs.{version-digits, version-literal, version-none}
use Rattle.fields.proofs.version.version.Goals as goal

pub returns-then-t-eq-DIGITS : goal.returns-then-t-eq-DIGITS
returns-then-t-eq-DIGITS c = search version-digits

pub returns-then-t-eq-LITERAL : goal.returns-then-t-eq-LITERAL
returns-then-t-eq-LITERAL c = search version-literal

pub returns : goal.returns
returns c = search version-none
