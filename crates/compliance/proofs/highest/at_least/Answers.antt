use Rattle.std.proofs.Common.{rules, ◌≡◌, count_by, leb, ◌∙◌, sym}
use Rattle.compliance.specs.Working.Highest.{counted}
use Rattle.compliance.proofs.highest.at_least.Goals as goal

pub returns : goal.returns
returns c =
    let e : c.count.result ≡ count_by (leb c.args.v) c.args.values.now = search rules in
    e ∙ sym (counted c.args.v c.args.values.now)
