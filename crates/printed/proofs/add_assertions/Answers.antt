use Rattle.printed.specs.Working.Adding.{assertions-none, assertions-more, assertions-all}
use borrow.Author.Rules.{rules}
use Rattle.printed.proofs.add_assertions.Goals as goal

pub loop-i-init : goal.loop-i-init
loop-i-init c = (search assertions-none, search rules)

pub loop-i-preserved : goal.loop-i-preserved
loop-i-preserved c = (search assertions-more, search rules)

pub returns : goal.returns
returns c = search assertions-all
