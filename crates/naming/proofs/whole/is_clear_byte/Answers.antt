use Rattle.naming.specs.Working.Whole.{byte-slash, byte-quote, byte-rest}
use Rattle.naming.proofs.whole.is_clear_byte.Goals as goal

pub returns-then-b-eq92 : goal.returns-then-b-eq92
returns-then-b-eq92 c = search byte-slash

pub returns-then-b-eq34 : goal.returns-then-b-eq34
returns-then-b-eq34 c = search byte-quote

pub returns : goal.returns
returns c = search byte-rest
