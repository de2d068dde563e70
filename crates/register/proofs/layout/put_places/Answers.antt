use Rattle.register.specs.Working.Bytes.{put-start, put-more, put-done, contents-long}
use borrow.Author.Rules.{rules}
use Rattle.register.proofs.layout.put_places.Goals as goal

pub loop-i-init : goal.loop-i-init
loop-i-init c = (search rules, search put-start)

pub loop-i-preserved : goal.loop-i-preserved
loop-i-preserved c = (search rules, search put-more)

pub returns : goal.returns
returns c = (search put-done, search contents-long)
