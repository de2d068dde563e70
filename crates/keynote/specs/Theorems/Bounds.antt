-- How large an answer's numbers can be. Assumes nothing.
use Rattle.std.specs.Prelude.{◌≡◌, refl, true, length}
use Rattle.std.proofs.Common.{sym, ap, ◌∙◌, ⊎_elim, arith, length-append}
use mathlib.Core.List.Memᴰ.{cases_cons as mem-∷}
use mathlib.Core.List.Memᴰ.{head as here}
use mathlib.Core.List.Memᴰ.{tail as there}
use mathlib.Core.List.{List, [], ◌∷◌, ◌++◌, map, Memᴰ as Mem}
use Prim.Native.Nat.{ℕ, ◌+◌, ◌*◌, ◌-◌, ◌≤◌, zero-le}
use Rattle.std.proofs.lemmas.List.{length-map}
use Rattle.record.specs.Query.{Query, Supplied}
use Rattle.record.specs.Read.{accepted}
use Rattle.record.specs.Record.{read_record}
use Rattle.record.specs.Valid.{Valid}
use Rattle.record.specs.RoundTrip.{Bytes}
use Rattle.record.proofs.Laws.RoundTrip.{read_back}
use Rattle.limits.specs.Limits.{most_licensees, most_values, most_assertions, most_report, most_reached}
use Rattle.principal.specs.Principal.{Principal, policy}
use Rattle.principal.specs.Members.{member, member-here, member-there, member-left, member_right, distinct-le}
use Rattle.compliance.specs.Licensees.{licensees}
use Rattle.compliance.specs.System.{Assertion, System}
use Rattle.compliance.specs.Reach.{Reachable, root, licensee, namings}
use Rattle.compliance.specs.Rounds.{rank, reached}
use Rattle.compliance.specs.Theorems.Monotone.{round-le}
use Rattle.compliance.specs.Theorems.Reach.{reach-sound, reach-distinct}
use Rattle.expression.specs.Conditions.{top}
use Rattle.assertion.specs.Assertion.{Assertion as Claim}
use Rattle.assertion.specs.Read.{Read, kept, dropped}
use Rattle.keynote.specs.Answer.{ranked, reading, readings, kept_of, system, class_given, rounds_of, reached_of}
use Rattle.keynote.specs.Theorems.Few.{FewRead, few-kept, few-dropped, assertion-few}
use Rattle.keynote.specs.Theorems.Demand2.{rounds-few}
use Rattle.keynote.specs.Outcome.{needed}
use Rattle.keynote.specs.Report.{report_size}

-- ---- the reach is POLICY and those who are named

unfoldable all_named : List Assertion → List Principal
all_named [] = []
all_named (a ∷ l) = licensees a.field ++ all_named l

all-length : (l : List Assertion) → length (all_named l) ≡ namings l
unfolding all_named namings
all-length [] = refl
all-length (a ∷ l) = omega (arith, length-append (licensees a.field) (all_named l), all-length l)

named_in : (l : List Assertion) (a : Assertion) → Mem a l → (q : Principal) → member q (licensees a.field) ≡ true → member q (all_named l) ≡ true
unfolding all_named
named_in [] a m q n = elim m [ ]
named_in (b ∷ l) a m q n = ⊎_elim
    (λ (e : a ≡ b). member-left q (licensees b.field) (all_named l) (ap (λ (x : Assertion). member q (licensees x.field)) (sym e) ∙ n))
    (λ k. member_right q (licensees b.field) (all_named l) (named_in l a k q n))
    (mem-∷ m)

reachable-named : (s : System) (p : Principal) → Reachable s p → member p (policy ∷ all_named s.assertions) ≡ true
reachable-named s p (root e) = member-here p policy (all_named s.assertions) e
reachable-named s p (licensee a m i r n) = member-there p policy (all_named s.assertions) (named_in s.assertions a m p n)

pub reached-named : (s : System) → reached s ≤ 1 + namings s.assertions
unfolding reached
reached-named s = omega (arith, distinct-le (reach-distinct s) (policy ∷ all_named s.assertions) (λ q i. reachable-named s q (reach-sound s q i)), all-length s.assertions)

-- ---- how many are named

module _ (q : Query) where
  said-few : (l : List Claim) → ((a : Claim) → Mem a l → length (licensees a.licensees) ≤ most_licensees) → namings (map (ranked q) l) ≤ length l * most_licensees
  unfolding namings ranked
  said-few [] h = zero-le
  said-few (a ∷ l) h = omega (arith, h a (here refl), said-few l (λ b m. h b (there m)))

one-few : {r : Read} → FewRead r → (l : List Read) (a : Claim) → ((b : Claim) → Mem b (kept_of l) → length (licensees b.licensees) ≤ most_licensees)
    → Mem a (kept_of (r ∷ l)) → length (licensees a.licensees) ≤ most_licensees
unfolding kept_of
one-few (few-kept b h) l a g m = ⊎_elim (λ (e : a ≡ b). rw (← e) at h) (g a) (mem-∷ m)
one-few (few-dropped r p) l a g m = g a m

reads-few : (q : Query) (l : List Supplied) (a : Claim) → Mem a (kept_of (map (reading q) l)) → length (licensees a.licensees) ≤ most_licensees
unfolding reading kept_of
reads-few q [] a m = elim m [ ]
reads-few q (x ∷ l) a m = one-few (assertion-few q x.standing x.text) (map (reading q) l) a (reads-few q l) m

kept-fewer : (l : List Read) → length (kept_of l) ≤ length l
unfolding kept_of
kept-fewer [] = zero-le
kept-fewer (kept a ∷ l) = omega (arith, kept-fewer l)
kept-fewer (dropped r p ∷ l) = omega (arith, kept-fewer l)

-- POLICY, and at most 16 for each assertion
pub reached-few : (q : Query) → reached_of q ≤ 1 + length q.assertions * most_licensees
unfolding reached_of system readings
reached-few q =
    let l : List Claim = kept_of (map (reading q) q.assertions) in
    let a : reached (system q) ≤ 1 + namings (map (ranked q) l) = reached-named (system q) in
    let b : namings (map (ranked q) l) ≤ length l * most_licensees = said-few q l (reads-few q q.assertions) in
    let c : length l ≤ length q.assertions = omega (arith, kept-fewer (map (reading q) q.assertions), length-map q.assertions (reading q)) in
    omega (arith, a, b, c)

-- no class is over the top
pub class-top : (q : Query) → class_given q ≤ length q.values - 1
unfolding class_given rank system top
class-top q = round-le (system q) _ policy

-- ---- a record that is accepted

pub record Bounded (q : Query) : Type 0 where
  pub rank : class_given q ≤ most_values - 1
  pub reached : reached_of q ≤ most_reached
  pub rounds : rounds_of q ≤ most_reached
  pub report : needed q ≤ most_report

pub bounded : (s : List ℕ) → Bytes s → (q : Query) → read_record s ≡ accepted q → Bounded q
unfolding needed report_size
bounded s b q e =
    let v : Valid q = (read_back s b q e).0 in
    let vs : length q.values ≤ most_values = v.values.0.1 in
    let ns : length q.assertions ≤ most_assertions = v.assertions.0.1 in
    let r : reached_of q ≤ most_reached = omega (arith, reached-few q) in
    record { rank = omega (arith, class-top q); reached = r; rounds = omega (arith, rounds-few q); report = omega arith }
