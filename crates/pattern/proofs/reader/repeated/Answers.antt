use Rattle.pattern.specs.Working.Parse.{way-once, way-opt, way-plus, way-star}
use Rattle.pattern.proofs.reader.repeated.Goals as goal

pub returns-in-Some : goal.returns-in-Some
returns-in-Some c = way-star _ _ _ _ _ c.in-Some.ensures _ c.link.ensures _ c.or_empty.ensures

pub returns-in-Some-eat : goal.returns-in-Some-eat
returns-in-Some-eat c = way-plus _ _ _ _ c.in_default.ensures _ c.in-Some-eat.ensures _ c.link-in-Some-eat.ensures

pub returns-in-Some-eat-2 : goal.returns-in-Some-eat-2
returns-in-Some-eat-2 c = way-opt _ _ _ _ c.in_default.ensures c.in_default-eat.ensures _ c.in-Some-eat-2.ensures _ c.or_empty-in-Some-eat-2.ensures

pub returns : goal.returns
returns c = way-once _ _ _ _ c.in_default.ensures c.in_default-eat.ensures c.in_default-eat-2.ensures
