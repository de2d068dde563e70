use Rattle.naming.specs.Working.ListWays.{plain-asked, licensee-string, licensee-longer, licensee-name, licensee-literal}
use Rattle.naming.proofs.list.licensee.Goals as goal

pub returns-then-n-eq-DOT : goal.returns-then-n-eq-DOT
returns-then-n-eq-DOT c = search licensee-longer

pub literal_before-requires : goal.literal_before-requires
literal_before-requires c = search plain-asked

pub returns-then-t-ne-NAME : goal.returns-then-t-ne-NAME
returns-then-t-ne-NAME c = search licensee-literal

pub returns-then-is_plain : goal.returns-then-is_plain
returns-then-is_plain c = search licensee-name

pub returns : goal.returns
returns c = search licensee-string
