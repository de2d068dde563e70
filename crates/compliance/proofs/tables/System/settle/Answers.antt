use Rattle.compliance.specs.Working.RoundWays.{blank-kept, settle_is}
use borrow.Author.Rules.{rules}
use Rattle.compliance.proofs.tables.System.settle.Goals as goal

pub settle_on-requires : goal.settle_on-requires
settle_on-requires c = search (rules, blank-kept)

pub returns : goal.returns
returns c = search settle_is
