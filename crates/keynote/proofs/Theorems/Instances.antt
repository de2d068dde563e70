-- Worked instances of what demand 3 supposes: queries of which it holds, and of which it doesn't. Assumes nothing.
use Rattle.std.specs.Prelude.{◌≡◌, refl, false, List, ℕ}
use Rattle.std.proofs.Common.{⊎_elim, arith}
use Rattle.expression.specs.Reads.{alike[], alike∷}
use Rattle.assertion.specs.Assertion.{Assertion}
use Rattle.assertion.specs.Said.{Said}
use Rattle.keynote.specs.Secrets.{Supplies, Dereferenced, AlikeWhere}
use Rattle.keynote.specs.Mission.{Heard, standing, computed, naming, naming_computed, Unread}
use Rattle.keynote.specs.Rulings.{bytes, set, secret_query, is_read, is_named, stands, stands_naming, one, other, seen, computing, naming_b, naming_other, naming_computing, rulings}
use Rattle.keynote.specs.Theorems.Hearing.{none-heard, none-supplied, none-dereferenced, is-dereferenced, is-named}
use Rattle.keynote.specs.Theorems.Instances.{Secret, head_of, rest, value-differs}

-- ---- it holds

-- "idle" is read outside the reach only, "hidden" where a constant hides it, "unread" nowhere; and nobody is named by them
idle-free : Dereferenced one (bytes "idle") → ⊥
unfolding is_read is_named
idle-free = none-dereferenced one (bytes "idle") rulings.idle-unread rulings.idle-unnamed

hidden-free : Dereferenced one (bytes "hidden") → ⊥
unfolding is_read is_named
hidden-free = none-dereferenced one (bytes "hidden") rulings.hidden-unread rulings.hidden-unnamed

unread-free : Dereferenced one (bytes "unread") → ⊥
unfolding is_read is_named
unread-free = none-dereferenced one (bytes "unread") rulings.unread-unread rulings.unread-unnamed

-- the values of all three differ, in length too, and the queries are alike in demand 3's sense
pub alike-one-other : AlikeWhere (Dereferenced one) one other
unfolding secret_query set
alike-one-other = record {
  values = refl;
  requesters = refl;
  attributes = alike∷ refl (λ d. absurd (idle-free d)) (alike∷ refl (λ d. absurd (hidden-free d)) (alike∷ refl (λ d. absurd (unread-free d)) (alike∷ refl (λ d. refl) alike[])));
  assertions = refl;
}

none-stands : (a : Assertion) → Heard one a → (n : List ℕ) → Secret n → standing a.conditions n ≡ false
unfolding stands
none-stands a h n k = ⊎_elim
    (λ e. rw e (none-heard (λ c. standing c (bytes "idle")) one rulings.idle-stands a h))
    (⊎_elim
    (λ e. rw e (none-heard (λ c. standing c (bytes "hidden")) one rulings.hidden-stands a h))
    (λ e. rw e (none-heard (λ c. standing c (bytes "unread")) one rulings.unread-stands a h)))
    k

none-computes : (a : Assertion) → Heard one a → computed a.conditions ≡ false
none-computes = none-heard computed one rulings.none-computed

none_named : (a : Said) → Supplies one a → (n : List ℕ) → Secret n → naming a n ≡ false
unfolding stands_naming
none_named a h n k = ⊎_elim
    (λ e. rw e (none-supplied (λ b. naming b (bytes "idle")) one rulings.idle-stands-naming a h))
    (⊎_elim
    (λ e. rw e (none-supplied (λ b. naming b (bytes "hidden")) one rulings.hidden-stands-naming a h))
    (λ e. rw e (none-supplied (λ b. naming b (bytes "unread")) one rulings.unread-stands-naming a h)))
    k

pub secrets-unread : Unread Secret one
secrets-unread = record {
  unnamed = none-stands;
  uncomputed = none-computes;
  naming-none = none_named;
  naming-plain = none-supplied naming_computed one rulings.none-naming-computed;
}

-- ---- it doesn't hold

-- a, whom POLICY reaches, reads "seen"; its values differ
seen-dereferenced : Dereferenced one (bytes "seen")
unfolding is_read
seen-dereferenced = is-dereferenced one (bytes "seen") rulings.seen_read

pub not-alike-one-seen : AlikeWhere (Dereferenced one) one seen → ⊥
unfolding secret_query set bytes
not-alike-one-seen k = value-differs seen-dereferenced (λ e. omega arith) (rest (rest (rest k.attributes)))

-- with "$" in its Conditions "idle" is read too
pub computing-reads : Dereferenced computing (bytes "idle")
unfolding is_read
computing-reads = is-dereferenced computing (bytes "idle") rulings.computed-idle

-- b, whom POLICY doesn't reach, licenses whom "unread" says: so it is read, and the queries that differ in it aren't alike
unread-named : Dereferenced naming_b (bytes "unread")
unfolding is_named
unread-named = is-named naming_b (bytes "unread") rulings.unread-named

pub not-alike-naming : AlikeWhere (Dereferenced naming_b) naming_b naming_other → ⊥
unfolding secret_query set bytes
not-alike-naming k = value-differs unread-named (λ e. omega arith) (head_of (rest (rest k.attributes)))

-- with "$" in his Licensees it is read too
pub naming-computing-reads : Dereferenced naming_computing (bytes "unread")
unfolding is_named
naming-computing-reads = is-named naming_computing (bytes "unread") rulings.computed-named
