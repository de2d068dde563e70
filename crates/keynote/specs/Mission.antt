-- Demand 3 as the outline and W-203 word it: two suppositions about the kept assertions that POLICY hears, the reach as a relation, and two about
-- every text otherwise well formed. Read this first; `Secrets` has the same as one supposition. Assumes nothing.
use Rattle.std.specs.Prelude.{◌≡◌, refl, Bool, true, false, ◌||◌, ℕ}
use mathlib.Core.List.{List, [], ◌∷◌, Memᴰ as Mem}
use Rattle.text.specs.Choice.{pick, split, clash}
use Rattle.record.specs.Query.{Query}
use Rattle.compliance.specs.Reach.{Reachable}
use Rattle.syntax.specs.Expr.{Expr, none, also, plain}
use Rattle.expression.specs.Reads.{reads, program_reads, clause_reads, is_set}
use Rattle.expression.specs.Standing.{names, computes, program_names, clause_names, program_computes, clause_computes}
use Rattle.expression.proofs.Theorems.Standing.{program-unread}
use Rattle.naming.specs.Source.{Source, Licensees, missing, empty, given, Author, sources}
use Rattle.assertion.specs.Assertion.{Assertion, Conditions, absent, stated}
use Rattle.assertion.specs.Said.{Said}
use Rattle.keynote.specs.Answer.{readings, kept_of, system}
use Rattle.keynote.specs.Secrets.{dereferences, any_reads, author_reads, licensees_read, Supplies}

-- "the name stands there as a string and no Local-Constants field earlier in the text sets it"
unfoldable pub standing : Conditions → List ℕ → Bool
standing absent n = false
standing (stated cs p) n = pick (is_set cs n) false (program_names p n)

-- the Conditions use "$"
unfoldable pub computed : Conditions → Bool
computed absent = false
computed (stated cs p) = program_computes p

-- the same of string expressions where principals stand: the name stands in one of them, one of them uses "$"
unfoldable pub any_names : List Source → List ℕ → Bool
any_names [] n = false
any_names (x ∷ l) n = names x.says n || any_names l n

unfoldable pub any_computes : List Source → Bool
any_computes [] = false
any_computes (x ∷ l) = computes x.says || any_computes l

-- "every name dereferenced from the query in Authorizer"
unfoldable pub author_names : Author → List ℕ → Bool
author_names a n = pick (is_set a.constants n) false (names a.by.says n)

-- "or Licensees"
unfoldable pub licensees_name : Licensees → List ℕ → Bool
licensees_name missing n = false
licensees_name empty n = false
licensees_name (given cs e) n = pick (is_set cs n) false (any_names (sources e) n)

-- "a "$" in either"
unfoldable pub licensees_compute : Licensees → Bool
licensees_compute missing = false
licensees_compute empty = false
licensees_compute (given cs e) = any_computes (sources e)

unfoldable pub naming : Said → List ℕ → Bool
naming a n = author_names a.author n || licensees_name a.licensees n

unfoldable pub naming_computed : Said → Bool
naming_computed a = computes a.author.by.says || licensees_compute a.licensees

-- a kept assertion, "made by its Authorizer"; "POLICY reaches the principals in the reach"
pub record Heard (q : Query) (a : Assertion) : Type 0 where
  pub kept : Mem a (kept_of (readings q))
  pub reached : Reachable (system q) a.authorizer

-- where neither supposition fails nothing is dereferenced
pub conditions-unread : (c : Conditions) (n : List ℕ) → computed c ≡ false → standing c n ≡ false → dereferences c n ≡ false
unfolding computed standing dereferences
conditions-unread absent n h k = k
conditions-unread (stated cs p) n h k = split (is_set cs n) (λ e. rw e) (λ e. rw e (program-unread p n h (rw e at k)))

pub neither : (a b : Bool) → a || b ≡ false → (a ≡ false) × (b ≡ false)
neither true b h = clash refl h
neither false b h = (refl, h)

expression-unread : (e : Expr) (n : List ℕ) → computes e ≡ false → names e n ≡ false → reads e n ≡ false
unfolding program_reads clause_reads program_names clause_names program_computes clause_computes
expression-unread e n h k = program-unread (also none (plain e)) n h k

any-unread : (l : List Source) (n : List ℕ) → any_computes l ≡ false → any_names l n ≡ false → any_reads l n ≡ false
unfolding any_reads any_names any_computes
any-unread [] n h k = refl
any-unread (x ∷ l) n h k =
    let u : _ = neither (computes x.says) (any_computes l) h in
    let v : _ = neither (names x.says n) (any_names l n) k in
    rw (expression-unread x.says n u.0 v.0) (any-unread l n u.1 v.1)

pub author-unread : (a : Author) (n : List ℕ) → computes a.by.says ≡ false → author_names a n ≡ false → author_reads a n ≡ false
unfolding author_names author_reads
author-unread a n h k = split (is_set a.constants n) (λ e. rw e) (λ e. rw e (expression-unread a.by.says n h (rw e at k)))

pub licensees-unread : (l : Licensees) (n : List ℕ) → licensees_compute l ≡ false → licensees_name l n ≡ false → licensees_read l n ≡ false
unfolding licensees_compute licensees_name licensees_read
licensees-unread missing n h k = k
licensees-unread empty n h k = k
licensees-unread (given cs e) n h k = split (is_set cs n) (λ f. rw f) (λ f. rw f (any-unread (sources e) n h (rw f at k)))

-- the four suppositions, of the names that may differ
pub record Unread (S : List ℕ → Type 0) (q : Query) : Type 0 where
  pub unnamed : (a : Assertion) → Heard q a → (n : List ℕ) → S n → standing a.conditions n ≡ false
  pub uncomputed : (a : Assertion) → Heard q a → computed a.conditions ≡ false
  pub naming-none : (a : Said) → Supplies q a → (n : List ℕ) → S n → naming a n ≡ false
  pub naming-plain : (a : Said) → Supplies q a → naming_computed a ≡ false
