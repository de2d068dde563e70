-- Demand 3 as the outline and W-203 word it: two suppositions about the kept assertions that POLICY hears, the reach as a relation, and two about
-- every text otherwise well formed. Read this first; `Secrets` has the same as one supposition. Assumes nothing.
use Rattle.std.specs.Prelude.{◌≡◌, false, ℕ, length}
use mathlib.Core.List.{List}
use Rattle.text.specs.Choice.{clash}
use Rattle.record.specs.Query.{Query}
use Rattle.record.specs.Read.{accepted}
use Rattle.record.specs.Record.{read_record}
use Rattle.compliance.specs.Theorems.Reach.{reach-sound}
use Rattle.expression.specs.Standing.{computes}
use Rattle.assertion.specs.Said.{Said}
use Rattle.keynote.specs.Answer.{system}
use Rattle.keynote.specs.Outcome.{needed, outcome}
use Rattle.keynote.specs.Secrets.{naming_reads, Dereferenced, in-conditions, in-naming, AlikeBut}
use Rattle.keynote.specs.Theorems.Demand3.{SameAnswer}
use Rattle.keynote.proofs.Theorems.Demand3.{demand-3-accepted}
use Rattle.keynote.specs.Mission.{Heard, Unread, author-unread, author_names, conditions-unread, licensees-unread, licensees_compute, licensees_name, naming, naming_computed, neither}

naming-unread : (a : Said) (n : List ℕ) → naming_computed a ≡ false → naming a n ≡ false → naming_reads a n ≡ false
unfolding naming naming_computed naming_reads
naming-unread a n h k =
    let u : _ = neither (computes a.author.by.says) (licensees_compute a.licensees) h in
    let v : _ = neither (author_names a.author n) (licensees_name a.licensees n) k in
    rw (author-unread a.author n u.0 v.0) (licensees-unread a.licensees n u.1 v.1)

-- so none of them is dereferenced
pub unread-free : {S : List ℕ → Type 0} {q : Query} → Unread S q → (n : List ℕ) → S n → Dereferenced q n → ⊥
unread-free {q = q} u n z (in-conditions a m i d) =
    let heard : Heard q a = record { kept = m; reached = reach-sound (system q) a.authorizer i } in
    clash d (conditions-unread a.conditions n (u.uncomputed a heard) (u.unnamed a heard n z))
unread-free u n z (in-naming a s d) = clash d (naming-unread a n (u.naming-plain a s) (u.naming-none a s n z))

-- Demand 3. Two records are accepted, as queries "alike but for the values of some attributes" (S holds of their names). None of these names
-- stands in the Conditions of an assertion heard, and no assertion heard uses "$" there; none is dereferenced in Authorizer or Licensees of any text
-- otherwise well formed, reached or not, and none has a "$" in either. Then, on any two pages where both are answered, rank, rounds, reached and all
-- 3 + 3n bytes of the report are equal.
pub demand-3-heard : (S : List ℕ → Type 0) (s s' : List ℕ) (q q' : Query) → read_record s ≡ accepted q → read_record s' ≡ accepted q'
    → AlikeBut S q q' → Unread S q
    → (page page' : List ℕ) → (outcome s (length page)).number ≡ 0 → (outcome s' (length page')).number ≡ 0
    → SameAnswer s s' page page' (needed q)
demand-3-heard S s s' q q' e e' k u = demand-3-accepted S s s' q q' e e' k (unread-free u)
