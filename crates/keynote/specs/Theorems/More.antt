-- "More paper never lowers a class": an assertion more, the assertions in another order, and one replaced outside the reach; of the
-- definition, and of what two records give. Assumes nothing.
use Rattle.std.specs.Prelude.{◌≡◌, refl, ℕ, suc, ◌+◌, ◌*◌, ◌≤◌, length, get_or, take}
use Rattle.std.proofs.Common.{sym, ◌∙◌, ⊎_elim, arith, length-append}
use Rattle.std.proofs.Math.Path.{ap, subst}
use Rattle.std.proofs.Math.Option.{some}
use mathlib.Core.List.Memᴰ
use mathlib.Core.List.Memᴰ.{append_cases as mem-++}
use mathlib.Core.List.Memᴰ.{cases_cons as mem-∷}
use mathlib.Core.List.Memᴰ.{head as here}
use mathlib.Core.List.Memᴰ.{tail as there}
use mathlib.Core.List.Permᴰ
use mathlib.Core.List.Permᴰ.{cons as p∷}
use mathlib.Core.List.Permᴰ.{nil as p[]}
use mathlib.Core.List.Permᴰ.{swap as pswap}
use mathlib.Core.List.Permᴰ.{trans as ptrans}
use mathlib.Core.List.{List, [], ◌∷◌, ◌++◌, map, append_assoc, Memᴰ as Mem, Permᴰ as Perm}
use Rattle.std.proofs.Math.ListN.{get_elem?}
use Rattle.std.proofs.lemmas.List.{length-map}
use Rattle.text.specs.Counted.{pair_at, pair_bytes}
use Rattle.record.specs.Query.{Query, Supplied, Attribute}
use Rattle.record.specs.Read.{accepted}
use Rattle.record.specs.Record.{read_record}
use Rattle.compliance.specs.System.{Assertion}
use Rattle.compliance.specs.Reach.{InReach}
use Rattle.compliance.specs.Theorems.Reach.{reach-sound}
use Rattle.compliance.specs.Theorems.Grow.{Within, rank-grows, rounds-order, reached-order, rank-order}
use Rattle.expression.specs.Conditions.{top, conditions}
use Rattle.expression.specs.Names.{Environment, environment}
use Rattle.assertion.specs.Assertion.{Assertion as Claim, Conditions, absent, stated}
use Rattle.naming.specs.Source.{Source}
use Rattle.naming.specs.Naming.{identified}
use Rattle.assertion.specs.Read.{Read, kept, dropped}
use Rattle.assertion.specs.Form.{read_assertion}
use Rattle.assertion.specs.Theorems.Agreed.{map_same, Agree, resolved-agree}
use Rattle.keynote.specs.Answer.{worth, ranked, reading, readings, kept_of, system, class_given, rounds_of, reached_of}
use Rattle.keynote.specs.Paper.{EqualBut, ReadOutside, set-aside, unreached, Outside}
use Rattle.keynote.specs.Report.{entry_bytes, entries_bytes, report, report_size}
use Rattle.keynote.specs.Outcome.{answer, needed, outcome, page_after}
use Rattle.keynote.specs.Theorems.Report.{Entry, entries-length, report-entry}
use Rattle.keynote.specs.Theorems.Answered.{report-written}
use Rattle.keynote.specs.Theorems.Numbers.{answered-fits}
use Rattle.keynote.specs.Theorems.Demand2.{kept_in_lem, kept_from, map_at}

pub equal-back : {q q' : Query} → EqualBut q q' → EqualBut q' q
equal-back k = record { values = sym k.values; requesters = sym k.requesters; attributes = sym k.attributes }

-- an assertion is then worth the same
environment-equal : {q q' : Query} → EqualBut q q' → (cs : List Attribute) → environment q cs ≡ environment q' cs
unfolding environment
environment-equal k cs = cc (k.values, k.requesters, k.attributes)

worth-equal : {q q' : Query} → EqualBut q q' → (c : Conditions) → worth q c ≡ worth q' c
unfolding worth
worth-equal k absent = ap top k.values
worth-equal k (stated cs p) = ap (λ (e : Environment). conditions e p) (environment-equal k cs)

ranked_equal : {q q' : Query} → EqualBut q q' → (a : Claim) → ranked q a ≡ ranked q' a
unfolding ranked
ranked_equal k a = ap (λ (n : ℕ). record { authorizer = a.authorizer; conditions = n; field = a.licensees }) (worth-equal k a.conditions)

-- and its text is read the same
identified-equal : {q q' : Query} → EqualBut q q' → (cs : List Attribute) (x : Source) → Agree q q' cs x
identified-equal k cs x = ap (λ (e : Environment). identified e x) (environment-equal k cs)

pub reading-equal : {q q' : Query} → EqualBut q q' → (x : Supplied) → reading q x ≡ reading q' x
unfolding reading
reading-equal {q} {q'} k x = resolved-agree q q' x.standing (read_assertion x.standing x.text)
    (λ a e. (identified-equal k a.author.constants a.author.by, λ cs l y f m. identified-equal k cs y))

readings-equal : {q q' : Query} → EqualBut q q' → (l : List Supplied) → map (reading q) l ≡ map (reading q') l
readings-equal {q} {q'} k l = map_same (reading q) (reading q') l (λ x m. reading-equal k x)

-- ---- which assertions a system has

from-map : {A B X : Type 0} (g : A → B) (l : List A) (b : B) → Mem b (map g l) → ((a : A) → Mem a l → b ≡ g a → X) → X
from-map g [] b m f = elim m [ ]
from-map g (a ∷ l) b m f = ⊎_elim (λ e. f a (here refl) e) (λ n. from-map g l b n (λ c k. f c (there k))) (mem-∷ m)

kept_here : (q : Query) (l : List Supplied) (x : Supplied) (a : Claim) → Mem x l → reading q x ≡ kept a → Mem a (kept_of (map (reading q) l))
kept_here q l x a m e = kept_in_lem (map (reading q) l) a (subst (λ (r : Read). Mem r (map (reading q) l)) e (Memᴰ.map (reading q) m))

kept_there : {X : Type 0} (q : Query) (l : List Supplied) (a : Claim) → Mem a (kept_of (map (reading q) l)) → ((x : Supplied) → Mem x l → reading q x ≡ kept a → X) → X
kept_there q l a m f = from-map (reading q) l (kept a) (kept_from (map (reading q) l) a m) (λ x n e. f x n (sym e))

system-from : {X : Type 0} (q : Query) (b : Assertion) → Mem b (system q).assertions
    → ((x : Supplied) (a : Claim) → Mem x q.assertions → reading q x ≡ kept a → b ≡ ranked q a → X) → X
unfolding system readings
system-from q b m f = from-map (ranked q) (kept_of (map (reading q) q.assertions)) b m (λ a n e. kept_there q q.assertions a n (λ x k r. f x a k r e))

system-in : (q : Query) (x : Supplied) (a : Claim) → Mem x q.assertions → reading q x ≡ kept a → Mem (ranked q a) (system q).assertions
unfolding system readings
system-in q x a m e = Memᴰ.map (ranked q) (kept_here q q.assertions x a m e)

-- an assertion of q's system is one of q''s, if q' has the text
pub system-moves : {q q' : Query} → EqualBut q q' → (b : Assertion) → Mem b (system q).assertions
    → ((x : Supplied) (a : Claim) → Mem x q.assertions → reading q x ≡ kept a → b.authorizer ≡ a.authorizer → Mem x q'.assertions) → Mem b (system q').assertions
unfolding ranked
system-moves {q} {q'} k b m h = system-from q b m (λ x a n e f.
    subst (λ (c : Assertion). Mem c (system q').assertions) (sym (f ∙ ranked_equal k a)) (system-in q' x a (h x a n e (ap (λ (c : Assertion). c.authorizer) f)) (sym (reading-equal k x) ∙ e)))

-- ---- one assertion more, or many

within_of : {q q' : Query} → EqualBut q q' → ((x : Supplied) → Mem x q.assertions → Mem x q'.assertions) → Within (system q) (system q')
unfolding system
within_of {q} {q'} k h = record { more = λ b m. system-moves k b m (λ x a n e f. h x n); asked = k.requesters; topped = ap top k.values }

-- "adding an assertion never lowers the rank"
pub class-grows : (q q' : Query) → EqualBut q q' → ((x : Supplied) → Mem x q.assertions → Mem x q'.assertions) → class_given q ≤ class_given q'
unfolding class_given
class-grows q q' k h = rank-grows (system q) (system q') (within_of k h) _

pub class-added : (q q' : Query) → EqualBut q q' → (x : Supplied) (front back : List Supplied) → q.assertions ≡ front ++ back → q'.assertions ≡ front ++ (x ∷ back)
    → class_given q ≤ class_given q'
class-added q q' k x front back e e' = class-grows q q' k (λ y m. subst (λ (l : List Supplied). Mem y l) (sym e')
    (⊎_elim (λ n. Memᴰ.append_left (x ∷ back) n) (λ n. Memᴰ.append_right front (there n)) (mem-++ front (subst (λ (l : List Supplied). Mem y l) e m))))

-- ---- another order

mem-perm : {A : Type 0} {a : A} {l m : List A} → Perm l m → Mem a l → Mem a m
mem-perm p[] m = m
mem-perm (p∷ e d) m = ⊎_elim (λ z. here (z ∙ e)) (λ n. there (mem-perm d n)) (mem-∷ m)
mem-perm (pswap e₁ e₂) m = ⊎_elim (λ z. there (here (z ∙ e₁))) (λ n. ⊎_elim (λ z. here (z ∙ e₂)) (λ n'. there (there n')) (mem-∷ n)) (mem-∷ m)
mem-perm (ptrans d₁ d₂) m = mem-perm d₂ (mem-perm d₁ m)

perm-long : {A : Type 0} {l m : List A} → Perm l m → length l ≡ length m
perm-long p[] = refl
perm-long (p∷ e d) = ap suc (perm-long d)
perm-long (pswap e₁ e₂) = refl
perm-long (ptrans d₁ d₂) = perm-long d₁ ∙ perm-long d₂

perm-map : {A B : Type 0} (f : A → B) {l m : List A} → Perm l m → Perm (map f l) (map f m)
perm-map f p[] = p[]
perm-map f (p∷ e d) = p∷ (ap f e) (perm-map f d)
perm-map f (pswap e₁ e₂) = pswap (ap f e₁) (ap f e₂)
perm-map f (ptrans d₁ d₂) = ptrans (perm-map f d₁) (perm-map f d₂)

module _ (q q' : Query) (k : EqualBut q q') (d : Perm q.assertions q'.assertions) where
  forth : Within (system q) (system q')
  forth = within_of k (λ x m. mem-perm d m)

  pub back : Within (system q') (system q)
  back = within_of (equal-back k) (λ x m. mem-perm (Permᴰ.symm d) m)

  -- "reordering assertions changes no rank, rounds or reached"
  pub answer-reordered : answer q ≡ answer q'
  unfolding answer class_given rounds_of reached_of
  answer-reordered = cc (rank-order (system q) (system q') forth back _, rounds-order (system q) (system q') forth back, reached-order (system q) (system q') forth back)

  -- "and permutes the report's entries"
  pub entries-reordered : Perm (map entry_bytes (readings q)) (map entry_bytes (readings q'))
  unfolding readings
  entries-reordered =
      subst (λ (l : List Read). Perm (map entry_bytes (map (reading q) q.assertions)) (map entry_bytes l)) (readings-equal k q'.assertions)
      (perm-map entry_bytes (perm-map (reading q) d))

  pub needed-reordered : needed q ≡ needed q'
  unfolding needed
  needed-reordered = ap report_size (perm-long d)

-- an assertion has its entry wherever it stands
pub entry-moves : (q q' : Query) → EqualBut q q' → (x : Supplied) (i j : ℕ) → get_elem? q.assertions i ≡ some x → get_elem? q'.assertions j ≡ some x
    → (get_or (report (readings q)) (3 + 3 * i) 0 ≡ get_or (report (readings q')) (3 + 3 * j) 0) × (pair_at (report (readings q)) (3 + 3 * i + 1) ≡ pair_at (report (readings q')) (3 + 3 * j + 1))
unfolding readings
entry-moves q q' k x i j e e' =
    let a : Entry (report (map (reading q) q.assertions)) i (reading q x) = report-entry (map (reading q) q.assertions) i (reading q x) (map_at (reading q) q.assertions i x e) in
    let b : Entry (report (map (reading q') q'.assertions)) j (reading q x) = rw (reading-equal k x) (report-entry (map (reading q') q'.assertions) j (reading q' x) (map_at (reading q') q'.assertions j x e')) in
    (a.reason ∙ sym b.reason, a.place ∙ sym b.place)

-- ---- one replaced outside the reach

-- one outside isn't read as an assertion made within the reach
pub outside-not : (q : Query) (r : Read) → ReadOutside q r → (a : Claim) → r ≡ kept a → InReach (system q) a.authorizer → ⊥
outside-not q (dropped r p) (set-aside s o) a e i = let z : ◌≡◌ {A = ℕ} 0 1 = cc in omega arith
outside-not q (kept b) (unreached c n) a e i = let z : b ≡ a = cc in n (reach-sound (system q) b.authorizer (rw z i))

pub other : (front back : List Supplied) (x y : Supplied) {z : Supplied} → (z ≡ x → ⊥) → Mem z (front ++ (x ∷ back)) → Mem z (front ++ (y ∷ back))
other front back x y n m = ⊎_elim
    (λ k. Memᴰ.append_left (y ∷ back) k)
    (λ k. Memᴰ.append_right front (⊎_elim (λ e. absurd (n e)) (λ j. there j) (mem-∷ k)))
    (mem-++ front m)

entries-split : (l m : List Read) → entries_bytes (l ++ m) ≡ entries_bytes l ++ entries_bytes m
unfolding entries_bytes
entries-split [] m = refl
entries-split (r ∷ l) m = ap (λ (c : List ℕ). entry_bytes r ++ c) (entries-split l m) ∙ sym (append_assoc (entry_bytes r) (entries_bytes l) (entries_bytes m))

map-split : {A B : Type 0} (f : A → B) (l m : List A) → map f (l ++ m) ≡ map f l ++ map f m
map-split f [] m = refl
map-split f (a ∷ l) m = ap (λ c. f a ∷ c) (map-split f l m)

-- a report up to the entry behind those of `front`, in all of n
unfoldable pub report_front : Query → ℕ → List Supplied → List ℕ
report_front q n front = 1 ∷ pair_bytes (3 * n) ++ entries_bytes (map (reading q) front)

pub front_long : (q : Query) (n : ℕ) (front : List Supplied) → length (report_front q n front) ≡ 3 + 3 * length front
unfolding report_front pair_bytes
front_long q n front = omega (arith, entries-length (map (reading q) front), length-map front (reading q))

-- a report with one entry between others
unfoldable pub report_with : Query → List Supplied → Supplied → List Supplied → List ℕ
report_with q front x back = report_front q (length front + suc (length back)) front ++ (entry_bytes (reading q x) ++ entries_bytes (map (reading q) back))

-- a report, split at an entry: what stands before it and behind it doesn't depend on it
pub report-split : (q : Query) (x : Supplied) (front back : List Supplied) → q.assertions ≡ front ++ (x ∷ back) → report (readings q) ≡ report_with q front x back
unfolding report readings report_front report_with entries_bytes
report-split q x front back e =
    let n : length (map (reading q) q.assertions) ≡ length front + suc (length back) = length-map q.assertions (reading q) ∙ ap length e ∙ length-append front (x ∷ back) in
    let body : entries_bytes (map (reading q) q.assertions) ≡ entries_bytes (map (reading q) front) ++ (entry_bytes (reading q x) ++ entries_bytes (map (reading q) back))
    = ap (λ (c : List Supplied). entries_bytes (map (reading q) c)) e ∙ ap entries_bytes (map-split (reading q) front (x ∷ back)) ∙ entries-split (map (reading q) front) (map (reading q) (x ∷ back)) in
    ap (λ (m : ℕ). 1 ∷ pair_bytes (3 * m) ++ entries_bytes (map (reading q) q.assertions)) n
    ∙ ap (λ (c : List ℕ). 1 ∷ pair_bytes (3 * (length front + suc (length back))) ++ c) body
    ∙ sym (append_assoc (1 ∷ pair_bytes (3 * (length front + suc (length back)))) (entries_bytes (map (reading q) front)) (entry_bytes (reading q x) ++ entries_bytes (map (reading q) back)))

-- the same of another query that is equal but for its assertions
pub report-with : {q q' : Query} → EqualBut q q' → (front : List Supplied) (x : Supplied) (back : List Supplied) → report_with q front x back ≡ report_with q' front x back
unfolding report_front report_with
report-with k front x back = rw (readings-equal k front, reading-equal k x, readings-equal k back)

-- ---- of two records, each read as a query and answered on a page of any size: number 0

module _ (s s' : List ℕ) (q q' : Query) (is : read_record s ≡ accepted q) (is' : read_record s' ≡ accepted q') (k : EqualBut q q')
    (page page' : List ℕ) (ok : (outcome s (length page)).number ≡ 0) (ok' : (outcome s' (length page')).number ≡ 0) where
  pub page-reordered : (x : Supplied) (i j : ℕ) → get_elem? q.assertions i ≡ some x → get_elem? q'.assertions j ≡ some x
      → (get_or (take (needed q) (page_after s page)) (3 + 3 * i) 0 ≡ get_or (take (needed q') (page_after s' page')) (3 + 3 * j) 0)
      × (pair_at (take (needed q) (page_after s page)) (3 + 3 * i + 1) ≡ pair_at (take (needed q') (page_after s' page')) (3 + 3 * j + 1))
  page-reordered x i j e e' = rw (
    report-written s q is page (answered-fits s q is (length page) ok),
    report-written s' q' is' page' (answered-fits s' q' is' (length page') ok'),
  ) (entry-moves q q' k x i j e e')

  -- "replacing an assertion outside the reach by any text that is set aside, or whose authorizer stays outside that reach, changes only its own report entry"
  module _ (x y : Supplied) (front back : List Supplied) (e : q.assertions ≡ front ++ (x ∷ back)) (e' : q'.assertions ≡ front ++ (y ∷ back)) (old : Outside q x) (new : Outside q y) where
    pub page-replaced : (take (needed q) (page_after s page) ≡ report_with q front x back) × (take (needed q') (page_after s' page') ≡ report_with q front y back)
    page-replaced = (
      report-written s q is page (answered-fits s q is (length page) ok) ∙ report-split q x front back e,
      report-written s' q' is' page' (answered-fits s' q' is' (length page') ok') ∙ report-split q' y front back e' ∙ sym (report-with k front y back),
    )
