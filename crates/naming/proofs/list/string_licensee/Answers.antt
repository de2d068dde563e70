use Rattle.naming.specs.Working.ListWays.{string-most, string-placed}
use Rattle.naming.proofs.list.string_licensee.Goals as goal

pub returns-then-is_over : goal.returns-then-is_over
returns-then-is_over c = search (string-most, string-placed)

pub returns : goal.returns
returns c = search (string-most, string-placed)
