use Rattle.std.proofs.Common.{rules}
use Rattle.text.specs.Working.Pairs.{pair-large, pair-copied}
use Rattle.text.proofs.put_pair.Goals as goal

pub returns-in_default : goal.returns-in_default
returns-in_default c = search (rules, pair-large)

pub returns : goal.returns
returns c = search (rules, pair-copied)
