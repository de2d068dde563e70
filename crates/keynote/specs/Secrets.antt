-- Which attributes an answer may depend on, and when two queries are alike but for others. Assumes nothing.
use Rattle.std.specs.Prelude.{◌≡◌, Bool, true, false, ◌||◌, ℕ}
use mathlib.Core.List.{List, [], ◌∷◌, Memᴰ as Mem}
use Rattle.text.specs.Choice.{pick}
use Rattle.record.specs.Query.{Query, Supplied}
use Rattle.compliance.specs.Reach.{InReach}
use Rattle.expression.specs.Reads.{reads, program_reads, is_set, Alike}
use Rattle.naming.specs.Source.{Source, Licensees, missing, empty, given, Author, sources}
use Rattle.assertion.specs.Assertion.{Assertion, Conditions, absent, stated}
use Rattle.assertion.specs.Said.{Said}
use Rattle.assertion.specs.Form.{formed, read_assertion}
use Rattle.keynote.specs.Answer.{readings, kept_of, system}

-- "dereferences a name from the query in its Conditions when the name stands there as a string and no Local-Constants field earlier in the text sets it";
-- Conditions with a "$" dereference every name that isn't set
unfoldable pub dereferences : Conditions → List ℕ → Bool
dereferences absent n = false
dereferences (stated cs p) n = pick (is_set cs n) false (program_reads p n)

-- one of the expressions reads the name; "a "$" in either counts as reading all"
unfoldable pub any_reads : List Source → List ℕ → Bool
any_reads [] n = false
any_reads (x ∷ l) n = reads x.says n || any_reads l n

-- "dereferenced from the query in Authorizer or Licensees": no Local-Constants field earlier in the text sets it
unfoldable pub author_reads : Author → List ℕ → Bool
author_reads a n = pick (is_set a.constants n) false (reads a.by.says n)

unfoldable pub licensees_read : Licensees → List ℕ → Bool
licensees_read missing n = false
licensees_read empty n = false
licensees_read (given cs e) n = pick (is_set cs n) false (any_reads (sources e) n)

unfoldable pub naming_reads : Said → List ℕ → Bool
naming_reads a n = author_reads a.author n || licensees_read a.licensees n

-- a text of the query, "otherwise well formed, reached or not", says this
pub record Supplies (q : Query) (a : Said) : Type 0 where
  pub by : Supplied
  pub among : Mem by q.assertions
  pub says : read_assertion by.standing by.text ≡ formed a

-- the name is dereferenced in the Conditions of a kept assertion made by a principal that POLICY reaches, or in Authorizer or Licensees of any text
pub data Dereferenced (q : Query) (n : List ℕ) : Type 0 where
  in-conditions : (a : Assertion) → Mem a (kept_of (readings q)) → InReach (system q) a.authorizer → dereferences a.conditions n ≡ true → Dereferenced q n
  in-naming : (a : Said) → Supplies q a → naming_reads a n ≡ true → Dereferenced q n

-- "all else in them is equal, item by item and in order": values of attributes may differ but where R holds of the name
pub record AlikeWhere (R : List ℕ → Type 0) (q q' : Query) : Type 0 where
  pub values : q.values ≡ q'.values
  pub requesters : q.requesters ≡ q'.requesters
  pub attributes : Alike R q.attributes q'.attributes
  pub assertions : q.assertions ≡ q'.assertions

-- "alike but for the values of some attributes": those of which S holds
abbrev pub AlikeBut : (List ℕ → Type 0) → Query → Query → Type 0
AlikeBut S q q' = AlikeWhere (λ n. S n → ⊥) q q'
