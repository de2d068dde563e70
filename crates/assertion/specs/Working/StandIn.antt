-- Working definitions: what the tables take for an identifier. Where an expression identifies nobody POLICY stands in, which the index has. Assumes nothing.
use Rattle.std.proofs.Math.Option.{Option, none, some}
use Rattle.record.specs.Query.{Query}
use Rattle.principal.specs.Principal.{Principal}
use Rattle.naming.specs.Source.{Author}
use Rattle.naming.specs.Theorems.StandIn.{licensed_now}
use Rattle.naming.specs.Theorems.Authorized.{author_now}
use Rattle.assertion.specs.Assertion.{Assertion}
use Rattle.assertion.specs.Said.{Said}

-- of a sketch
abbrev pub entered_by : Query → Option Author → Option Principal
entered_by q none = none
entered_by q (some a) = some (author_now q a)

unfoldable pub entered_as : Query → Said → Assertion
entered_as q a = record { authorizer = author_now q a.author; licensees = licensed_now q a.licensees; conditions = a.conditions }
