-- What a well-formed text asserts in a query, or why it is set aside there. Assumes nothing.
use Rattle.std.specs.Prelude.{ℕ}
use Rattle.record.specs.Query.{Query}
use Rattle.naming.specs.Naming.{author, licensed}
use Rattle.naming.specs.Fault.{Fault, clear, faulty, earlier, author_fault, licensees_fault}
use Rattle.assertion.specs.Assertion.{Assertion}
use Rattle.assertion.specs.Said.{Said}
use Rattle.assertion.specs.Form.{Form, formed, unformed}
use Rattle.assertion.specs.Read.{Read, kept, dropped}

-- the assertion over the principals that its expressions identify
unfoldable pub meant : Query → Said → Assertion
meant q a = record { authorizer = author q a.author; licensees = licensed q a.licensees; conditions = a.conditions }

-- "the earliest place first"
unfoldable pub fault_of : Query → ℕ → Said → Fault
fault_of q standing a = earlier (author_fault standing q a.author) (licensees_fault q a.licensees)

abbrev pub judged : Query → Said → Fault → Read
judged q a clear = kept (meant q a)
judged q a (faulty r p) = dropped r p

-- reasons 9 and 10, "both only in a text otherwise well formed"
abbrev pub resolved : Query → ℕ → Form → Read
resolved q standing (unformed r p) = dropped r p
resolved q standing (formed a) = judged q a (fault_of q standing a)
