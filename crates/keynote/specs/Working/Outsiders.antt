-- A test that tells whether an assertion, as it is read, is outside the reach. Assumes nothing.
use Rattle.std.specs.Prelude.{Bool, true, not}
use Rattle.record.specs.Query.{Query}
use Rattle.principal.specs.Members.{member}
use Rattle.compliance.specs.Reach.{reach}
use Rattle.assertion.specs.Read.{Read, kept, dropped}
use Rattle.keynote.specs.Answer.{system}

unfoldable pub is_outside : Query → Read → Bool
is_outside q (kept a) = not (member a.authorizer (reach (system q)))
is_outside q (dropped r p) = true
