-- What must be true when an assertion is read into the tables, and what is true then. Assumes nothing.
use Rattle.std.specs.Prelude.{◌≡◌, true, ℕ, ◌+◌, ◌*◌, ◌≤◌, length, take, Err}
use mathlib.Core.List.{List, ◌++◌, Memᴰ as Mem}
use Rattle.limits.specs.Limits.{most_text, most_licensees, most_constants, most_named, most_counted, most_entered, most_numbers, most_code, most_lengths}
use Rattle.text.specs.Join.{joined}
use Rattle.record.specs.Query.{Query}
use Rattle.record.specs.Encode.{string_bytes}
use Rattle.record.specs.Lies.{Lie, StringAt, AttributeAt}
use Rattle.principal.specs.Principal.{Principal}
use Rattle.principal.specs.Members.{member}
use Rattle.compliance.specs.Licensees.{Expression, given, licensees}
use Rattle.principal.specs.Places.{place}
use Rattle.compliance.specs.Tables.{compiled, Formed}
use Rattle.index.specs.Index.{enter_all, Holds}
use Rattle.expression.specs.Names.{environment}
use Rattle.expression.specs.Conditions.{conditions}
use Rattle.assertion.specs.Assertion.{Assertion, Conditions, absent, stated}
use Rattle.assertion.specs.Read.{Read, kept, dropped}
use Rattle.assertion.specs.Working.Field.{Given, Tables}
use Rattle.assertion.specs.Working.Reading.{ReadInto, read_by, assessed}
use Rattle.assertion.specs.Theorems.Left.{First}
use Rattle.syntax.specs.Working.Faults.{against}
use Rattle.index.specs.Working.Adding.{index_of}

-- the query's record is at hand, the index holds the names, POLICY first, and there is room for one assertion more
pub record Ready (q : Query) (g : Given) (x : Tables) (names : List Principal) (count end size : ℕ) : Type 0 where
  pub short : length g.text ≤ most_text
  pub values : Lie (StringAt g.query) g.values q.values
  pub attributes : Lie (AttributeAt g.query) g.names q.attributes
  pub begun : take g.start x.consts ≡ string_bytes (joined q.values) ++ string_bytes (joined q.requesters)
  pub values-short : length (joined q.values) ≤ 65535
  pub requesters-short : length (joined q.requesters) ≤ 65535
  pub few : length q.values ≤ 256
  pub constants-room : most_constants ≤ length x.constants
  pub consts-room : g.start + most_lengths + length g.text ≤ length x.consts
  pub holds : Holds x.pool x.places count end names
  pub tight : end ≤ most_counted * count
  pub places-room : count + most_named ≤ length x.places
  pub pool-room : end + most_entered ≤ length x.pool
  pub numbers : length names + most_named ≤ most_numbers
  pub first : First names
  pub code-room : size + most_code ≤ length x.code

-- the tables after an assertion: as long as before, and the two joined texts stand
pub record After (g : Given) (x y : Tables) : Type 0 where
  pub consts : length y.consts ≡ length x.consts
  pub constants : length y.constants ≡ length x.constants
  pub pool : length y.pool ≡ length x.pool
  pub places : length y.places ≡ length x.places
  pub code : length y.code ≡ length x.code
  pub begun : take g.start y.consts ≡ take g.start x.consts

-- the rank of Conditions: of a missing field the number given
unfoldable pub worth : ℕ → Query → Conditions → ℕ
worth top q absent = top
worth top q (stated cs p) = conditions (environment q cs) p

-- The same fault, and the index and the programs stand as before; or the same assertion: its principals stand behind the others in the index,
-- its Licensees' program behind the others, and its Authorizer's number and its Conditions' rank are given.
pub data ReadAs (q : Query) (g : Given) (top : ℕ) (x : Tables) (names : List Principal) (count end size : ℕ) : Read → ReadInto → Type 0 where
  as_dropped : (r p : ℕ) (y : Tables) → (r ≡ 0 → ⊥) → After g x y → Holds y.pool y.places count end names → take size y.code ≡ take size x.code
      → ReadAs q g top x names count end size (dropped r p) (read_by (Err (against r p)) y)
  as-kept : (a : Assertion) (ps : List Principal) (i k c e z : ℕ) (y : Tables) → After g x y → length ps ≤ most_named
      → Holds y.pool y.places c e (enter_all names ps) → e ≤ most_counted * c
      → i ≡ place (enter_all names ps) a.authorizer → member a.authorizer (enter_all names ps) ≡ true
      → ((p : Principal) → Mem p (licensees a.licensees) → member p (enter_all names ps) ≡ true)
      → ((e : Expression) → a.licensees ≡ given e → Formed e) → length (licensees a.licensees) ≤ most_licensees
      → take z y.code ≡ take size x.code ++ compiled (enter_all names ps) a.licensees
      → z ≡ size + length (compiled (enter_all names ps) a.licensees) → z ≤ size + most_code
      → k ≡ worth top q a.conditions → ReadAs q g top x names count end size (kept a) (read_by (assessed i (index_of c e) z k) y)
