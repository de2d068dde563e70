use Rattle.std.proofs.Common.{rules, ◌≡◌, sum_by, ◌∙◌}
use Rattle.std.specs.Int.Count.{ones}
use Rattle.compliance.specs.Working.Words.{ones-are}
use Rattle.compliance.proofs.words.count.Goals as goal

pub returns : goal.returns
returns c =
    let e : c.sum.result ≡ sum_by ones c.args.words.now = search rules in
    e ∙ ones-are c.args.words.now (λ k. (c.type_inv.words k).fits)
