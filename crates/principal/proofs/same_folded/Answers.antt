use Rattle.principal.specs.Working.Comparing.{caseless_equal}
use Rattle.principal.proofs.same_folded.Goals as goal

pub returns : goal.returns
returns c = caseless_equal c.args.a.now c.args.b.now _ c.eq_ignore_ascii_case.ensures.test
