-- Worked instances of W-211's supposition: an assertion outside the reach, and one that isn't. Assumes nothing.
use Rattle.std.specs.Prelude.{◌≡◌, refl, true, false, not}
use Rattle.text.specs.Choice.{split, clash}
use Rattle.record.specs.Query.{Query}
use Rattle.principal.specs.Members.{member}
use Rattle.compliance.specs.Reach.{reach}
use Rattle.compliance.specs.Theorems.Reach.{reach-sound, reach-complete}
use Rattle.assertion.specs.Read.{Read, kept, dropped}
use Rattle.keynote.specs.Answer.{system}
use Rattle.keynote.specs.Paper.{ReadOutside, set-aside, unreached}
use Rattle.keynote.specs.Working.Outsiders.{is_outside}

-- what the test tells
pub outside-yes : (q : Query) (r : Read) → is_outside q r ≡ true → ReadOutside q r
unfolding is_outside
outside-yes q (kept a) h = unreached a (λ k. let m : member a.authorizer (reach (system q)) ≡ true = reach-complete (system q) k in let z : not true ≡ true = rw m at h in clash z refl)
outside-yes q (dropped r p) h = set-aside r p

pub outside-no : (q : Query) (r : Read) → is_outside q r ≡ false → ReadOutside q r → ⊥
unfolding is_outside
outside-no q (kept a) h (unreached b n) = split (member a.authorizer (reach (system q)))
    (λ e. n (reach-sound (system q) a.authorizer e))
    (λ e. let z : not false ≡ false = rw e at h in clash refl z)
outside-no q (dropped r p) h (set-aside s o) = clash refl h
