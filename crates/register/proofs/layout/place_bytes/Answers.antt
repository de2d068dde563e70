use borrow.Author.Rules.{rules}
use Rattle.register.specs.Working.Bytes.{held_bytes, free_bytes}
use Rattle.register.proofs.layout.place_bytes.Goals as goal

pub returns-then-p : goal.returns-then-p
returns-then-p c = held_bytes c.args.p c.if-p.true c.to_be_bytes.result c.to_be_bytes-then-p.result (search rules) (search rules)

pub returns : goal.returns
returns c = search free_bytes
