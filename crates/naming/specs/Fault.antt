-- Reasons 9 and 10, "both only in a text otherwise well formed". Assumes nothing.
use Rattle.std.specs.Prelude.{List, [], ◌∷◌, map, ℕ, eqb, ltb, leb, length}
use Rattle.text.specs.Choice.{pick}
use Rattle.limits.specs.Limits.{most_identifier}
use Rattle.principal.specs.Principal.{Principal, same, policy}
use Rattle.record.specs.Query.{Query}
use Rattle.expression.specs.Names.{Environment, environment}
use Rattle.naming.specs.Source.{Source, Licensees, missing, empty, given, Author, sources}
use Rattle.naming.specs.Naming.{identified, author}

-- nothing against it, or a reason and its place
pub data Fault : Type 0 where
  clear : Fault
  faulty : ℕ → ℕ → Fault

-- "the earliest place first"
abbrev pub earlier : Fault → Fault → Fault
earlier clear g = g
earlier (faulty r p) clear = faulty r p
earlier (faulty r p) (faulty r' p') = pick (leb p p') (faulty r p) (faulty r' p')

-- 10 "evaluates to an error or outside 1 to 256 bytes"
unfoldable pub size_fault : ℕ → Principal → Fault
size_fault at p = pick (eqb (length p) 0) (faulty 10 at) (pick (ltb most_identifier (length p)) (faulty 10 at) clear)

unfoldable pub source_fault : Environment → Source → Fault
source_fault env x = size_fault x.place (identified env x)

-- "2 verified credential"
abbrev pub verified : ℕ
verified = 2

-- 9 "a verified credential whose Authorizer evaluates to POLICY"
unfoldable pub policy_fault : ℕ → ℕ → Principal → Fault
policy_fault standing at p = pick (eqb standing verified) (pick (same p policy) (faulty 9 at) clear) clear

unfoldable pub author_fault : ℕ → Query → Author → Fault
author_fault standing q a = earlier (source_fault (environment q a.constants) a.by) (policy_fault standing a.by.place (author q a))

unfoldable pub first_fault : List Fault → Fault
first_fault [] = clear
first_fault (f ∷ l) = earlier f (first_fault l)

unfoldable pub licensees_fault : Query → Licensees → Fault
licensees_fault q missing = clear
licensees_fault q empty = clear
licensees_fault q (given constants e) = first_fault (map (source_fault (environment q constants)) (sources e))
