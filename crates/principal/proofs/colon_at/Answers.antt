use Rattle.std.specs.Prelude.{position}
use Rattle.std.specs.Option.{unwrap_or}
use Rattle.std.proofs.Common.{◌≡◌, ◌∙◌, ap, eqb, length, rules, tests}
use Rattle.std.proofs.lemmas.Iterator.Search.{position_from_yields_List}
use Rattle.std.proofs.lemmas.Iterator.{YieldsList-from_slice}
use Rattle.principal.specs.Working.Comparing.{colon-position}
use Rattle.principal.proofs.colon_at.Goals as goal

pub returns : goal.returns
returns c =
    let e : c.position.result ≡ position (λ b. eqb b 58) c.args.id.now
    = position_from_yields_List _ _ _ _ c.position.ensures.ran (YieldsList-from_slice c.args.id.now cc) (λ x b q k. search (rules, tests)) in
    c.unwrap_or.ensures ∙ ap (λ o. unwrap_or o (length c.args.id.now)) e ∙ colon-position c.args.id.now
