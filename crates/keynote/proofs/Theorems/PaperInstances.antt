-- Worked instances of W-211's supposition: an assertion outside the reach, and one that isn't. Assumes nothing.
use Rattle.keynote.specs.Answer.{reading}
use Rattle.keynote.specs.Paper.{Outside}
use Rattle.keynote.specs.Rulings.{supplied, bytes, paper_web, by_a, by_b, broken, rulings}
use Rattle.keynote.specs.Theorems.PaperInstances.{outside-no, outside-yes}

-- POLICY licenses a, a licenses r, b licenses r: b's is outside, and so is a text that is set aside
pub b-outside : Outside paper_web (supplied (bytes by_b))
b-outside = outside-yes paper_web (reading paper_web (supplied (bytes by_b))) rulings.outside_b

pub broken-outside : Outside paper_web (supplied (bytes broken))
broken-outside = outside-yes paper_web (reading paper_web (supplied (bytes broken))) rulings.outside-broken

-- a's isn't
pub a-inside : Outside paper_web (supplied (bytes by_a)) → ⊥
a-inside = outside-no paper_web (reading paper_web (supplied (bytes by_a))) rulings.inside-a
