-- Demand 2, of the definition: an answer is the least solution, its rounds and reached are those of the rounds and of the reach; every text otherwise
-- well formed whose identifiers evaluate is kept and takes part, and no other does; every other is named by a reason and a place in its text.
-- Assumes nothing.
use Rattle.std.specs.Prelude.{◌≡◌, refl, true, ℕ, zero, suc, ◌+◌, ◌*◌, ◌-◌, ◌≤◌, ◌<◌, length, get_or, drop}
use Rattle.std.proofs.Common.{sym, ap, ◌∙◌, subst, ⊎_elim, arith, length-append, length-drop}
use Rattle.std.proofs.Math.Option.{some}
use mathlib.Core.List.Memᴰ
use mathlib.Core.List.Memᴰ.{cases_cons as mem-∷}
use mathlib.Core.List.Memᴰ.{head as here}
use mathlib.Core.List.Memᴰ.{tail as there}
use mathlib.Core.List.{List, [], ◌∷◌, ◌++◌, map, Memᴰ as Mem}
use Rattle.std.proofs.Math.ListN.{get_elem?, length-map}
use Rattle.std.proofs.Math.Seq.{drop-append_seam}
use Rattle.limits.specs.Limits.{most_text}
use Rattle.text.specs.Choice.{clash}
use Rattle.text.specs.Counted.{pair_at}
use Rattle.record.specs.Query.{Query, Supplied}
use Rattle.record.specs.Read.{accepted}
use Rattle.record.specs.Record.{read_record}
use Rattle.record.specs.Valid.{Each, each∷, SuppliedOk}
use Rattle.record.specs.RoundTrip.{Bytes}
use Rattle.record.proofs.Laws.RoundTrip.{read_back}
use Rattle.principal.specs.Principal.{Principal, policy}
use Rattle.principal.specs.Members.{member, Distinct, distinct-le}
use Rattle.compliance.specs.Licensees.{Rank}
use Rattle.compliance.specs.System.{Assertion, round, Least}
use Rattle.compliance.specs.Reach.{reach, Reachable}
use Rattle.compliance.specs.Rounds.{mentioned, rank, rounds, reached}
use Rattle.compliance.specs.Theorems.Reach.{reach-sound, reach-complete, reach-distinct}
use Rattle.compliance.specs.Theorems.Settle.{rank-least, least-unique, settled-equal, equal-settled, rounds-settled, rounds-first, rounds-bound, rounds-times, rounds-rank, rounds-end}
use Rattle.expression.specs.Conditions.{top}
use Rattle.assertion.specs.Assertion.{Assertion as Claim}
use Rattle.assertion.specs.Read.{Read, kept, dropped}
use Rattle.assertion.specs.Said.{Said}
use Rattle.assertion.specs.Form.{formed, read_assertion}
use Rattle.assertion.specs.Resolved.{meant}
use Rattle.assertion.specs.Evaluates.{Evaluates}
use Rattle.assertion.specs.Theorems.Evaluated.{evaluates-kept, kept-evaluates, SetAside, dropped-why}
use Rattle.keynote.specs.Answer.{ranked, reading, readings, kept_of, system, class_given, rounds_of, reached_of}
use Rattle.keynote.specs.Report.{reason_of, report, report_size}
use Rattle.keynote.specs.Outcome.{answer, needed, outcome, page_after}
use Rattle.keynote.specs.declared.Outcome.{Outcome}
use Rattle.keynote.specs.Theorems.Report.{Entry, report-head, report-entry, report-needed}
use Rattle.keynote.specs.Theorems.Answered.{outcome-answered, page-answered}
use Rattle.keynote.specs.Theorems.Numbers.{Accepted, answered-is}
use Rattle.keynote.specs.Theorems.PlacesAssertion.{PlacedRead, assertion-placed, zero-kept}

-- ---- the class

-- "Least solution: ranks that satisfy the equations, none higher than in any other ranks that do"
pub class-least : (q : Query) → Least (system q) (rank (system q)) × (class_given q ≡ rank (system q) policy)
unfolding class_given
class-least q = (rank-least (system q), refl)

-- whatever ranks are a least solution, the class is POLICY's
pub class-is : (q : Query) (r : Rank) → Least (system q) r → class_given q ≡ r policy
unfolding class_given
class-is q r l = sym (least-unique (system q) r l policy)

-- ---- the rounds

-- two rounds are equal on the principals that POLICY reaches
abbrev pub EqualOnReach : Query → ℕ → ℕ → Type 0
EqualOnReach q n m = (p : Principal) → Reachable (system q) p → round (system q) n p ≡ round (system q) m p

-- "Rounds is the first n whose next round is equal on the reach"
pub rounds-equal : (q : Query) → EqualOnReach q (rounds_of q) (suc (rounds_of q))
unfolding rounds_of
rounds-equal q p i = settled-equal (system q) (rounds (system q)) (rounds-settled (system q)) p (reach-complete (system q) i)

pub rounds-least : (q : Query) (n : ℕ) → n < rounds_of q → EqualOnReach q n (suc n) → ⊥
unfolding rounds_of
rounds-least q n l e = clash (equal-settled (system q) n (λ p i. e p (reach-sound (system q) p i))) (rounds-first (system q) n l)

-- "it is at most the number of principals in the reach times (values minus 1)", and at most that number
pub rounds-few : (q : Query) → rounds_of q ≤ reached_of q
unfolding rounds_of reached_of
rounds-few q = rounds-bound (system q)

pub rounds-product : (q : Query) → rounds_of q ≤ reached_of q * (length q.values - 1)
unfolding rounds_of reached_of system top
rounds-product q = rounds-times (system q)

-- that round is the least solution for every principal in the reach
pub rounds-solve : (q : Query) (p : Principal) → Reachable (system q) p → round (system q) (rounds_of q) p ≡ rank (system q) p
unfolding rounds_of
rounds-solve q p i = rounds-rank (system q) p (reach-complete (system q) i)

-- "that the rounds end at the least solution is proved": from some round on each is it, for every principal
abbrev pub RoundsEnd : Query → Type 0
RoundsEnd q = (m : ℕ) × ((n : ℕ) → m ≤ n → (p : Principal) → round (system q) n p ≡ rank (system q) p)

pub rounds-last : (q : Query) → RoundsEnd q
rounds-last q = (suc (length (mentioned (system q).assertions)), rounds-end (system q))

-- ---- the reach

-- "Reached is that number of principals": so many can be reached, each counted once
pub record Reached (q : Query) (n : ℕ) : Type 0 where
  pub those : List Principal
  pub sound : (p : Principal) → member p those ≡ true → Reachable (system q) p
  pub complete : (p : Principal) → Reachable (system q) p → member p those ≡ true
  pub distinct : Distinct those
  pub number : length those ≡ n

pub reached-is : (q : Query) → Reached q (reached_of q)
unfolding reached_of reached
reached-is q = record {
  those = reach (system q);
  sound = reach-sound (system q);
  complete = λ p i. reach-complete (system q) i;
  distinct = reach-distinct (system q);
  number = refl;
}

-- no other number is
pub reached-only : (q : Query) (n : ℕ) → Reached q n → n ≡ reached_of q
reached-only q n r =
    let o : Reached q (reached_of q) = reached-is q in
    let a = distinct-le r.distinct o.those (λ p m. o.complete p (r.sound p m)) in
    let b = distinct-le o.distinct r.those (λ p m. r.complete p (o.sound p m)) in
    omega (arith, r.number, o.number)

-- ---- kept and dropped assertions

pub kept_in_lem : (l : List Read) (a : Claim) → Mem (kept a) l → Mem a (kept_of l)
unfolding kept_of
kept_in_lem [] a m = elim m [ ]
kept_in_lem (kept b ∷ l) a m = ⊎_elim (λ (e : kept a ≡ kept b). here cc) (λ n. there (kept_in_lem l a n)) (mem-∷ m)
kept_in_lem (dropped r p ∷ l) a m = ⊎_elim (λ (e : kept a ≡ dropped r p). let z : ◌≡◌ {A = ℕ} 0 1 = cc in absurd (omega arith)) (λ n. kept_in_lem l a n) (mem-∷ m)

pub kept_from : (l : List Read) (a : Claim) → Mem a (kept_of l) → Mem (kept a) l
unfolding kept_of
kept_from [] a m = elim m [ ]
kept_from (kept b ∷ l) a m = ⊎_elim (λ e. here (ap kept e)) (λ n. there (kept_from l a n)) (mem-∷ m)
kept_from (dropped r p ∷ l) a m = there (kept_from l a m)

from-map : {A B : Type 0} (f : A → B) (l : List A) (b : B) → Mem b (map f l) → (a : A) × (Mem a l × (b ≡ f a))
from-map f [] b m = elim m [ ]
from-map f (x ∷ l) b m = ⊎_elim (λ e. (x, (here refl, e))) (λ n. let (a, (k, e)) = from-map f l b n in (a, (there k, e))) (mem-∷ m)

pub map_at : {A B : Type 0} (f : A → B) (l : List A) (i : ℕ) (a : A) → get_elem? l i ≡ some a → get_elem? (map f l) i ≡ some (f a)
map_at f [] i a e = let z : ◌≡◌ {A = ℕ} 0 1 = cc in absurd (omega arith)
map_at f (x ∷ l) zero a e = let z : x ≡ a = cc in ap (λ y. some (f y)) z
map_at f (x ∷ l) (suc i) a e = map_at f l i a e

-- every kept assertion is in the system
pub kept-takes-part : (q : Query) (a : Claim) → Mem (kept a) (readings q) → Mem (ranked q a) (system q).assertions
unfolding system
kept-takes-part q a m = Memᴰ.map (ranked q) (kept_in_lem (readings q) a m)

-- and nothing else is
pub only-kept-take-part : (q : Query) (b : Assertion) → Mem b (system q).assertions → (a : Claim) × (Mem (kept a) (readings q) × (b ≡ ranked q a))
unfolding system
only-kept-take-part q b m =
    let (a, (n, e)) = from-map (ranked q) (kept_of (readings q)) b m in
    (a, (kept_from (readings q) a n, e))

-- reading i is of assertion i
pub reading-at : (q : Query) (i : ℕ) (a : Supplied) → get_elem? q.assertions i ≡ some a → get_elem? (readings q) i ≡ some (reading q a)
unfolding readings
reading-at q i a e = map_at (reading q) q.assertions i a e

-- every assertion stands in the report: 0 and 0 where it is kept, else the reason against it and its place
pub reported : (q : Query) (i : ℕ) (a : Supplied) → get_elem? q.assertions i ≡ some a → Entry (report (readings q)) i (reading q a)
reported q i a e = report-entry (readings q) i _ (reading-at q i a e)

-- "a text otherwise well formed" whose identifiers evaluate is kept
pub well-formed-kept : (q : Query) (a : Supplied) (b : Said) → read_assertion a.standing a.text ≡ formed b → Evaluates q a.standing b
    → reading q a ≡ kept (meant q b)
unfolding reading
well-formed-kept q a b e h = rw e (evaluates-kept q a.standing b h)

-- and no other
pub kept-well-formed : (q : Query) (a : Supplied) (c : Claim) → reading q a ≡ kept c
    → (b : Said) × ((read_assertion a.standing a.text ≡ formed b) × (Evaluates q a.standing b × (c ≡ meant q b)))
unfolding reading
kept-well-formed q a c h = kept-evaluates q a.standing (read_assertion a.standing a.text) c h

-- the others: for what is against the text, or for the first of what is against its identifiers
pub set-aside-why : (q : Query) (a : Supplied) (r p : ℕ) → reading q a ≡ dropped r p → SetAside q a.standing r p (read_assertion a.standing a.text)
unfolding reading
set-aside-why q a r p h = dropped-why q a.standing r p (read_assertion a.standing a.text) h

text-short : (seen l : List Supplied) → Each SuppliedOk seen l → (i : ℕ) (a : Supplied) → get_elem? l i ≡ some a → length a.text ≤ most_text
text-short seen [] e i a g = let z : ◌≡◌ {A = ℕ} 0 1 = cc in absurd (omega arith)
text-short seen (x ∷ l) (each∷ k t) zero a g = let z : x ≡ a = cc in rw (← z) k.1.1
text-short seen (x ∷ l) (each∷ k t) (suc i) a g = text-short _ l t i a g

found_in_lem : {A : Type 0} (l : List A) (i : ℕ) (a : A) → get_elem? l i ≡ some a → Mem a l
found_in_lem [] i a e = let z : ◌≡◌ {A = ℕ} 0 1 = cc in absurd (omega arith)
found_in_lem (x ∷ l) zero a e = let z : x ≡ a = cc in here (sym z)
found_in_lem (x ∷ l) (suc i) a e = there (found_in_lem l i a e)

module _ (s : List ℕ) (bytes : Bytes s) (q : Query) (acc : read_record s ≡ accepted q) (i : ℕ) (a : Supplied) (at : get_elem? q.assertions i ≡ some a) where
  short : length a.text < 65536
  short = omega (arith, text-short [] q.assertions (read_back s bytes q acc).0.assertions.1 i a at)

  -- "Every other assertion is named by number and place": kept, or set aside with a reason from 1 to 10 and a place in its text or at its end
  pub placed_at : PlacedRead a.text (reading q a)
  unfolding reading
  placed_at = assertion-placed q a.standing a.text short

  -- reason 0 is of an assertion that takes part
  pub zero-takes-part : reason_of (reading q a) ≡ 0 → (b : Claim) × ((reading q a ≡ kept b) × Mem (ranked q b) (system q).assertions)
  zero-takes-part z =
      let (b, k) = zero-kept q a short z in
      (b, (k, kept-takes-part q b (subst (λ (r : Read). Mem r (readings q)) k (found_in_lem (readings q) i _ (reading-at q i a at)))))

-- ---- the report at the front of a page

front_at : (l m : List ℕ) (i : ℕ) → i < length l → get_or (l ++ m) i 0 ≡ get_or l i 0
front_at [] m i h = absurd (omega arith)
front_at (x ∷ l) m zero h = refl
front_at (x ∷ l) m (suc i) h = front_at l m i (omega arith)

front-pair : (l m : List ℕ) (i : ℕ) → i + 1 < length l → pair_at (l ++ m) i ≡ pair_at l i
unfolding pair_at
front-pair l m i h = omega (arith, front_at l m i (omega arith), front_at l m (i + 1) h)

found_below : {A : Type 0} (l : List A) (i : ℕ) (a : A) → get_elem? l i ≡ some a → i < length l
found_below [] i a e = let z : ◌≡◌ {A = ℕ} 0 1 = cc in absurd (omega arith)
found_below (x ∷ l) zero a e = omega arith
found_below (x ∷ l) (suc i) a e = omega (arith, found_below l i a e)

module _ (q : Query) (rest : List ℕ) where
  long : length (report (readings q)) ≡ 3 + 3 * length q.assertions
  unfolding needed report_size
  long = report-needed q

  many : length (readings q) ≡ length q.assertions
  unfolding readings
  many = length-map q.assertions (reading q)

  page-head : (get_or (report (readings q) ++ rest) 0 0 ≡ 1) × (pair_at (report (readings q) ++ rest) 1 ≡ 3 * length q.assertions)
  page-head =
      let (f, g) = report-head (readings q) in
      (front_at (report (readings q)) rest 0 (omega (arith, long)) ∙ f, omega (arith, front-pair (report (readings q)) rest 1 (omega (arith, long)), g, many))

  page-entry : (i : ℕ) (a : Supplied) → get_elem? q.assertions i ≡ some a → Entry (report (readings q) ++ rest) i (reading q a)
  page-entry i a e =
      let x : Entry (report (readings q)) i (reading q a) = reported q i a e in
      let b : i < length q.assertions = found_below q.assertions i a e in
      record {
        reason = front_at (report (readings q)) rest (3 + 3 * i) (omega (arith, long)) ∙ x.reason;
        place = front-pair (report (readings q)) rest (3 + 3 * i + 1) (omega (arith, long)) ∙ x.place;
      }

  page-beyond : drop (needed q) (report (readings q) ++ rest) ≡ rest
  page-beyond = ap (λ (n : ℕ). drop n (report (readings q) ++ rest)) (sym (report-needed q)) ∙ drop-append_seam (report (readings q)) rest

page-size : (q : Query) (page : List ℕ) → needed q ≤ length page → length (report (readings q) ++ drop (needed q) page) ≡ length page
page-size q page h = omega (arith, length-append (report (readings q)) (drop (needed q) page), report-needed q, length-drop (needed q) page)

-- ---- the whole

-- what an answer to a query tells, with the page after it
pub record Answered (q : Query) (o : Outcome) (page after : List ℕ) : Type 0 where
  pub number : o.number ≡ 0
  pub place : o.place ≡ 0
  pub solution : Least (system q) (rank (system q))
  pub class : (r : Rank) → Least (system q) r → o.rank ≡ r policy
  pub settled : EqualOnReach q o.rounds (suc o.rounds)
  pub first : (n : ℕ) → n < o.rounds → EqualOnReach q n (suc n) → ⊥
  pub product : o.rounds ≤ o.reached * (length q.values - 1)
  pub ends : RoundsEnd q
  pub reached : Reached q o.reached
  pub each : (a : Claim) → Mem (kept a) (readings q) → Mem (ranked q a) (system q).assertions
  pub only : (b : Assertion) → Mem b (system q).assertions → (a : Claim) × (Mem (kept a) (readings q) × (b ≡ ranked q a))
  pub head : (get_or after 0 0 ≡ 1) × (pair_at after 1 ≡ 3 * length q.assertions)
  pub well-formed : (x : Supplied) (a : Said) → Mem x q.assertions → read_assertion x.standing x.text ≡ formed a → Evaluates q x.standing a
      → Mem (ranked q (meant q a)) (system q).assertions
  pub entries : (i : ℕ) (a : Supplied) → get_elem? q.assertions i ≡ some a → Entry after i (reading q a)
  pub placed : (i : ℕ) (a : Supplied) → get_elem? q.assertions i ≡ some a → PlacedRead a.text (reading q a)
  pub zero-kept : (i : ℕ) (a : Supplied) → get_elem? q.assertions i ≡ some a → get_or after (3 + 3 * i) 0 ≡ 0
      → (b : Claim) × ((reading q a ≡ kept b) × Mem (ranked q b) (system q).assertions)
  pub beyond : drop (needed q) after ≡ drop (needed q) page
  pub size : length after ≡ length page

well-formed-takes-part : (q : Query) (x : Supplied) (a : Said) → Mem x q.assertions → read_assertion x.standing x.text ≡ formed a
    → Evaluates q x.standing a → Mem (ranked q (meant q a)) (system q).assertions
unfolding readings
well-formed-takes-part q x a m e h =
    kept-takes-part q (meant q a)
    (subst (λ (r : Read). Mem r (map (reading q) q.assertions)) (well-formed-kept q x a e h) (Memᴰ.map (reading q) m))

entry-told : (q : Query) (page after : List ℕ) → after ≡ report (readings q) ++ drop (needed q) page
    → (i : ℕ) (a : Supplied) → get_elem? q.assertions i ≡ some a → Entry after i (reading q a)
entry-told q page after ae i a g = subst (λ (x : List ℕ). Entry x i (reading q a)) (sym ae) (page-entry q (drop (needed q) page) i a g)

told : (s : List ℕ) → Bytes s → (q : Query) → read_record s ≡ accepted q → (page : List ℕ) → needed q ≤ length page
    → (o : Outcome) (after : List ℕ) → o ≡ answer q → after ≡ report (readings q) ++ drop (needed q) page → Answered q o page after
unfolding answer
told s bytes q acc page h o after oe ae = record {
  number = ap (λ (x : Outcome). x.number) oe;
  place = ap (λ (x : Outcome). x.place) oe;
  solution = rank-least (system q);
  class = λ r l. ap (λ (x : Outcome). x.rank) oe ∙ class-is q r l;
  settled = subst (λ (n : ℕ). EqualOnReach q n (suc n)) (sym (ap (λ (x : Outcome). x.rounds) oe)) (rounds-equal q);
  first = λ n l. rounds-least q n (subst (λ (m : ℕ). n < m) (ap (λ (x : Outcome). x.rounds) oe) l);
  product = omega (arith, ap (λ (x : Outcome). x.rounds) oe, ap (λ (x : Outcome). x.reached * (length q.values - 1)) oe, rounds-product q);
  ends = rounds-last q;
  reached = subst (Reached q) (sym (ap (λ (x : Outcome). x.reached) oe)) (reached-is q);
  each = kept-takes-part q;
  only = only-kept-take-part q;
  well-formed = well-formed-takes-part q;
  head = subst (λ (x : List ℕ). (get_or x 0 0 ≡ 1) × (pair_at x 1 ≡ 3 * length q.assertions)) (sym ae) (page-head q (drop (needed q) page));
  entries = entry-told q page after ae;
  placed = placed_at s bytes q acc;
  zero-kept = λ i a g z. zero-takes-part s bytes q acc i a g (sym (entry-told q page after ae i a g).reason ∙ z);
  beyond = ap (drop (needed q)) ae ∙ page-beyond q (drop (needed q) page);
  size = ap length ae ∙ page-size q page h;
}

-- Demand 2: a record that is accepted is answered, on every page that is large enough
pub demand-2 : (s : List ℕ) → Bytes s → (q : Query) → read_record s ≡ accepted q → (page : List ℕ) → needed q ≤ length page
    → Answered q (outcome s (length page)) page (page_after s page)
demand-2 s bytes q e page h = told s bytes q e page h (outcome s (length page)) (page_after s page) (outcome-answered s q e (length page) h) (page-answered s q e page h)

-- so it is wherever the number is 0
pub demand-2-accepted : (s : List ℕ) → Bytes s → (page : List ℕ) → (outcome s (length page)).number ≡ 0
    → (q : Query) × ((read_record s ≡ accepted q) × Answered q (outcome s (length page)) page (page_after s page))
demand-2-accepted s bytes page h =
    let a : Accepted s (length page) = answered-is s (length page) h in
    (a.query, (a.read, demand-2 s bytes a.query a.read page a.fits))
