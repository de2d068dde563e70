-- Which principals an assertion names in a query. Assumes nothing.
use Rattle.std.specs.Prelude.{map}
use Rattle.principal.specs.Principal.{Principal}
use Rattle.compliance.specs.Licensees as Compliance
use Rattle.record.specs.Query.{Query}
use Rattle.expression.specs.Value.{bytes_of}
use Rattle.expression.specs.Names.{Environment, environment}
use Rattle.expression.specs.Conditions.{evaluate}
use Rattle.naming.specs.Source.{Source, Sources, one, and, or, k_of, Licensees, missing, empty, given, Author}

-- "principals by reference": what an expression identifies; no bytes where it "evaluates to an error"
unfoldable pub identified : Environment → Source → Principal
identified env x = bytes_of (evaluate env x.says)

-- the licensees' expression over principals
unfoldable pub people : Environment → Sources → Compliance.Expression
people env (one x) = Compliance.name (identified env x)
people env (and a b) = Compliance.and (people env a) (people env b)
people env (or a b) = Compliance.or (people env a) (people env b)
people env (k_of k xs) = Compliance.k_of k (map (identified env) xs)

-- in a query: names are looked up as in Conditions, by the constants that stand before the field
unfoldable pub author : Query → Author → Principal
author q a = identified (environment q a.constants) a.by

unfoldable pub licensed : Query → Licensees → Compliance.Licensees
licensed q missing = Compliance.missing
licensed q empty = Compliance.empty
licensed q (given constants e) = Compliance.given (people (environment q constants) e)
