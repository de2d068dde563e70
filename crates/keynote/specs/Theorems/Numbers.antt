-- "Numbers are given only as tabled": a record is refused with 1 to 8 or 10, so that number 0 is an answer and 9 a page that is too small.
-- Assumes nothing.
use Rattle.std.specs.Prelude.{◌≡◌, refl, Bool, true, false, ◌⊎◌, eqb, ltb, leb, length, get_or}
use Rattle.std.proofs.Common.{sym, ap, ◌∙◌, subst, inl, inr, arith, ltb-true, ltb-false}
use mathlib.Core.List.{List, [], ◌∷◌, ◌++◌}
use Prim.Native.Nat.{ℕ, zero, suc, ◌+◌, ◌≤◌, ◌<◌}
use Rattle.text.specs.Choice.{pick, split}
use Rattle.text.specs.Equal.{equal}
use Rattle.text.specs.Scan.{run}
use Rattle.text.specs.Class.{in_class, plain}
use Rattle.text.specs.Counted.{pair_at}
use Rattle.limits.specs.Limits.{most_record}
use Rattle.principal.specs.Principal.{policy}
use Rattle.record.specs.Query.{Query, Attribute, Supplied}
use Rattle.record.specs.Read.{Read, got, bad, and_then, Verdict, accepted, refused}
use Rattle.record.specs.Field.{within, count_at, length_at, content_at, field_at, name_front, permitted, askable, among, distinct}
use Rattle.record.specs.Item.{plain_at, value_at, requester_at, attribute_name_at, attribute_at, assertion_at, items_at, group_at}
use Rattle.record.specs.Record.{query_at, ended, read_record}
use Rattle.keynote.specs.Outcome.{refused_with, answer, needed, judged, outcome}
use Rattle.keynote.specs.declared.Outcome.{Outcome}

-- the numbers of a record that is refused: up to 8, and 10
abbrev pub RecordNumber : ℕ → Type 0
RecordNumber n = (n ≤ 8) ⊎ (n ≡ 10)

-- a reader that refuses does so with 3 to 8, or 10
data Fine {A : Type 0} : Read A → Type 0 where
  f-got : (a : A) (p : ℕ) → Fine (got a p)
  f-bad : (n p : ℕ) → 3 ≤ n → RecordNumber n → Fine (bad n p)

no : {A : Type 0} (n p : ℕ) → 3 ≤ n → n ≤ 8 → Fine {A = A} (bad n p)
no n p h k = f-bad n p h (inl k)

pick-fine : {A : Type 0} (b : Bool) {x y : Read A} → Fine x → Fine y → Fine (pick b x y)
pick-fine true f g = f
pick-fine false f g = g

then-fine : {A B : Type 0} {r : Read A} (k : A → ℕ → Read B) → Fine r → ((a : A) (p : ℕ) → Fine (k a p)) → Fine (and_then r k)
then-fine k (f-got a p) g = g a p
then-fine k (f-bad n p h l) g = f-bad n p h l

within-fine : (least most n next number at : ℕ) → 3 ≤ number → number ≤ 8 → Fine (within least most n next number at)
within-fine least most n next number at h k = pick-fine (ltb n least) (no number at h k) (pick-fine (ltb most n) (no number at h k) (f-got n next))

permitted-fine : {A : Type 0} (front : ℕ) (b : List ℕ) (at : ℕ) {r : Read A} → Fine r → Fine (permitted front b at r)
permitted-fine front b at f = pick-fine (ltb front (length b)) (no 6 (at + front) (omega arith) (omega arith)) f

askable-fine : {A : Type 0} (b : List ℕ) (at : ℕ) {r : Read A} → Fine r → Fine (askable b at r)
askable-fine b at f = pick-fine (equal b policy) (f-bad 10 at (omega arith) (inr refl)) f

distinct-fine : {A : Type 0} (b : List ℕ) (seen : List (List ℕ)) (at : ℕ) {r : Read A} → Fine r → Fine (distinct b seen at r)
distinct-fine b seen at f = pick-fine (among b seen) (no 7 at (omega arith) (omega arith)) f

module _ (s : List ℕ) where
  count-fine : (least most at : ℕ) → Fine (count_at s least most at)
  unfolding count_at
  count-fine least most at = pick-fine (leb (length s) at) (no 3 at (omega arith) (omega arith)) (within-fine least most (get_or s at 0) (at + 1) 4 at (omega arith) (omega arith))

  length-fine : (least most at : ℕ) → Fine (length_at s least most at)
  unfolding length_at
  length-fine least most at = pick-fine (ltb (length s) (at + 2)) (no 3 at (omega arith) (omega arith)) (within-fine least most (pair_at s at) (at + 2) 5 at (omega arith) (omega arith))

  content-fine : (n at : ℕ) → Fine (content_at s n at)
  unfolding content_at
  content-fine n at = pick-fine (ltb (length s) (at + n)) (no 3 at (omega arith) (omega arith)) (f-got _ _)

  field-fine : (least most at : ℕ) → Fine (field_at s least most at)
  unfolding field_at
  field-fine least most at = then-fine _ (length-fine least most at) (λ n p. content-fine n p)

  plain-fine : (least most at : ℕ) → Fine (plain_at s least most at)
  unfolding plain_at
  plain-fine least most at = then-fine _ (field-fine least most at) (λ b p. permitted-fine (run (in_class plain) b) b (at + 2) (f-got b p))

  value-fine : (seen : List (List ℕ)) (at : ℕ) → Fine (value_at s seen at)
  unfolding value_at
  value-fine seen at = then-fine _ (plain-fine _ _ at) (λ b p. distinct-fine b seen (at + 2) (f-got b p))

  requester-fine : (seen : List (List ℕ)) (at : ℕ) → Fine (requester_at s seen at)
  unfolding requester_at
  requester-fine seen at = then-fine _ (plain-fine _ _ at) (λ b p. askable-fine b (at + 2) (f-got b p))

  name-fine : (seen : List (List ℕ)) (at : ℕ) → Fine (attribute_name_at s seen at)
  unfolding attribute_name_at
  name-fine seen at = then-fine _ (field-fine _ _ at) (λ b p. permitted-fine (name_front b) b (at + 2) (distinct-fine b seen (at + 2) (f-got b p)))

  attribute-fine : (seen : List Attribute) (at : ℕ) → Fine (attribute_at s seen at)
  unfolding attribute_at
  attribute-fine seen at = then-fine _ (name-fine _ at) (λ n p. then-fine _ (plain-fine _ _ p) (λ v q. f-got _ q))

  assertion-fine : (seen : List Supplied) (at : ℕ) → Fine (assertion_at s seen at)
  unfolding assertion_at
  assertion-fine seen at =
      pick-fine (leb (length s) at) (no 3 at (omega arith) (omega arith))
      (pick-fine (ltb _ (get_or s at 0)) (no 8 at (omega arith) (omega arith)) (then-fine _ (field-fine _ _ (at + 1)) (λ t p. f-got _ p)))

  items-fine : {A : Type 0} (item : List A → ℕ → Read A) → ((seen : List A) (at : ℕ) → Fine (item seen at)) → (n : ℕ) (seen : List A) (at : ℕ) → Fine (items_at item n seen at)
  unfolding items_at
  items-fine item f zero seen at = f-got seen at
  items-fine item f (suc n) seen at = then-fine _ (f seen at) (λ a p. items-fine item f n (seen ++ (a ∷ [])) p)

  group-fine : {A : Type 0} (least most : ℕ) (item : List A → ℕ → Read A) → ((seen : List A) (at : ℕ) → Fine (item seen at)) → (at : ℕ) → Fine (group_at s least most item at)
  unfolding group_at
  group-fine least most item f at = then-fine _ (count-fine least most at) (λ n p. items-fine item f n [] p)

  query-fine : (at : ℕ) → Fine (query_at s at)
  unfolding query_at
  query-fine at =
      then-fine _ (group-fine _ _ (value_at s) value-fine at) (λ v p.
      then-fine _ (group-fine _ _ (requester_at s) requester-fine p) (λ r q.
      then-fine _ (group-fine _ _ (attribute_at s) attribute-fine q) (λ a t.
      then-fine _ (group-fine _ _ (assertion_at s) assertion-fine t) (λ c u. f-got _ u))))

-- a verdict's numbers are those of the table
pub data Tabled : Verdict → Type 0 where
  t-accepted : (q : Query) → Tabled (accepted q)
  t-refused : (n p : ℕ) → 1 ≤ n → RecordNumber n → Tabled (refused n p)

pick-tabled : (b : Bool) {x y : Verdict} → Tabled x → Tabled y → Tabled (pick b x y)
pick-tabled true f g = f
pick-tabled false f g = g

ended-tabled : (s : List ℕ) {r : Read Query} → Fine r → Tabled (ended s r)
ended-tabled s (f-got q p) = pick-tabled (ltb p (length s)) (t-refused 3 p (omega arith) (inl (omega arith))) (t-accepted q)
ended-tabled s (f-bad n p h k) = t-refused n p (omega arith) k

pub record-tabled : (s : List ℕ) → Tabled (read_record s)
unfolding read_record
record-tabled s =
    pick-tabled (ltb most_record (length s)) (t-refused 1 0 (omega arith) (inl (omega arith)))
    (pick-tabled (eqb (length s) 0) (t-refused 2 0 (omega arith) (inl (omega arith)))
    (pick-tabled (eqb (get_or s 0 0) 1) (ended-tabled s (query-fine s 1)) (t-refused 2 0 (omega arith) (inl (omega arith)))))

-- the three cases of a record and a page
pub data Case (s : List ℕ) (room : ℕ) : Type 0 where
  is-refused : (n p : ℕ) → 1 ≤ n → RecordNumber n → read_record s ≡ refused n p → outcome s room ≡ refused_with n p → Case s room
  is-small : (q : Query) → read_record s ≡ accepted q → room < needed q → outcome s room ≡ refused_with 9 0 → Case s room
  is-answered : (q : Query) → read_record s ≡ accepted q → needed q ≤ room → outcome s room ≡ answer q → Case s room

verdict-case : (s : List ℕ) (room : ℕ) {v : Verdict} → Tabled v → read_record s ≡ v → Case s room
unfolding outcome judged
verdict-case s room (t-refused n p h k) e = is-refused n p h k e (rw e)
verdict-case s room (t-accepted q) e = split (ltb room (needed q))
    (λ h. is-small q e (ltb-true room (needed q) h) (rw (e, h)))
    (λ h. is-answered q e (ltb-false room (needed q) h) (rw (e, h)))

pub cases : (s : List ℕ) (room : ℕ) → Case s room
cases s room = verdict-case s room (record-tabled s) refl

-- "accepted is number 0"
pub record Accepted (s : List ℕ) (room : ℕ) : Type 0 where
  pub query : Query
  pub read : read_record s ≡ accepted query
  pub fits : needed query ≤ room

refusal-number : (n p : ℕ) (o : Outcome) → o.number ≡ 0 → o ≡ refused_with n p → n ≡ 0
unfolding refused_with
refusal-number n p o e f = sym (ap (λ (x : Outcome). x.number) f) ∙ e

from-case : {s : List ℕ} {room : ℕ} → (outcome s room).number ≡ 0 → Case s room → Accepted s room
from-case {s} {room} e (is-refused n p h k r o) = absurd (omega (arith, refusal-number n p (outcome s room) e o))
from-case {s} {room} e (is-small q r h o) = absurd (omega (arith, refusal-number 9 0 (outcome s room) e o))
from-case {s} {room} e (is-answered q r h o) = record { query = q; read = r; fits = h }

pub answered-is : (s : List ℕ) (room : ℕ) → (outcome s room).number ≡ 0 → Accepted s room
answered-is s room e = from-case e (cases s room)

-- the query of an answered record is the one that it says
pub answered-fits : (s : List ℕ) (q : Query) → read_record s ≡ accepted q → (room : ℕ) → (outcome s room).number ≡ 0 → needed q ≤ room
answered-fits s q e room h =
    let a : Accepted s room = answered-is s room h in
    let z : a.query ≡ q = same-query (sym a.read ∙ e) in
    subst (λ (x : Query). needed x ≤ room) z a.fits
  where
    same-query : {q q' : Query} → accepted q ≡ accepted q' → q ≡ q'
    same-query e = cc
