use Rattle.std.specs.Prelude.{fold}
use Rattle.std.proofs.Common.{◌≡◌, ◌∙◌, rules}
use Rattle.text.specs.Working.Holding.{hold, held-fold}
use Rattle.text.proofs.number.Goals as goal

pub returns : goal.returns
returns c =
    let e : c.fold.result ≡ fold hold 0 c.args.digits.now = search rules in
    e ∙ held-fold c.args.digits.now
