use Rattle.naming.specs.Working.Whole.{clear-slash, clear-quote, clear-rest}
use Rattle.naming.proofs.whole.is_clear.Goals as goal

pub returns-then-unquoted : goal.returns-then-unquoted
returns-then-unquoted c = search clear-rest

pub returns-then-straight : goal.returns-then-straight
returns-then-straight c = search clear-quote

pub returns : goal.returns
returns c = search clear-slash
