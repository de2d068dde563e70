-- An assertion as its text says it, before any query. Assumes nothing.
use Rattle.naming.specs.Source.{Licensees, Author}
use Rattle.assertion.specs.Assertion.{Conditions}

-- "By RFC 2704 Authorizer and Licensees may hold any string expression"
pub record Said : Type 0 where
  pub author : Author
  pub licensees : Licensees
  pub conditions : Conditions
