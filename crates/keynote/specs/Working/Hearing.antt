-- Tests that tell whether the Conditions of a kept assertion made within the reach are such, and whether a text otherwise well formed is. Assumes nothing.
use Rattle.std.specs.Prelude.{Bool, false, ◌||◌, List, [], ◌∷◌}
use Rattle.text.specs.Choice.{pick}
use Rattle.record.specs.Query.{Query, Supplied}
use Rattle.principal.specs.Principal.{Principal}
use Rattle.principal.specs.Members.{member}
use Rattle.compliance.specs.Reach.{reach}
use Rattle.assertion.specs.Assertion.{Assertion, Conditions}
use Rattle.assertion.specs.Said.{Said}
use Rattle.assertion.specs.Form.{Form, formed, unformed, read_assertion}
use Rattle.keynote.specs.Answer.{readings, kept_of, system}

unfoldable pub such_in : List Principal → (Conditions → Bool) → List Assertion → Bool
such_in ps f [] = false
such_in ps f (a ∷ l) = pick (member a.authorizer ps) (f a.conditions) false || such_in ps f l

unfoldable pub heard_such : (Conditions → Bool) → Query → Bool
heard_such f q = such_in (reach (system q)) f (kept_of (readings q))

abbrev pub formed_such : (Said → Bool) → Form → Bool
formed_such f (formed a) = f a
formed_such f (unformed r p) = false

unfoldable pub any_such : (Said → Bool) → List Supplied → Bool
any_such f [] = false
any_such f (x ∷ l) = formed_such f (read_assertion x.standing x.text) || any_such f l

unfoldable pub supplied_such : (Said → Bool) → Query → Bool
supplied_such f q = any_such f q.assertions
