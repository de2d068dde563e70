-- The assertions of a query, read one after the other into the tables, give its answer and its report. Assumes nothing.
use Rattle.std.specs.Prelude.{◌≡◌, true, get_or, take, drop, replicate, leb, ltb}
use Rattle.std.proofs.Math.Path.{refl, ap, subst}
use Rattle.std.proofs.Common.{sym, ◌∙◌, add-one, take_at, drop-drop}
use Rattle.std.proofs.Math.Bool.{false}
use mathlib.Core.List.{List, [], ◌∷◌, ◌++◌, map, append_assoc, append-nil}
use Prim.Native.Nat.{ℕ, suc, ◌+◌, ◌-◌, ◌*◌, ◌≤◌, ◌<◌}
use native.Mathlib.Omega.{arith}
use Rattle.std.proofs.Math.Nat.{add-zero}
use Rattle.std.proofs.Math.ListN.{length}
use Rattle.std.proofs.lemmas.List.{length-replicate, length-map}
use borrow.Author.Tests.{le-leb, le-ltb, lt-ltb, leb-true}
use Rattle.limits.specs.Limits.{most_assertions, most_text, most_named, most_entered, most_joined, most_lengths, most_code, most_programs}
use Rattle.text.specs.Choice.{split, clash}
use Rattle.text.specs.Join.{joined}
use Rattle.text.specs.Counted.{counted, pair_bytes}
use Rattle.record.specs.Query.{Query, Supplied}
use Rattle.record.specs.Read.{accepted}
use Rattle.record.specs.Record.{read_record}
use Rattle.record.specs.Lies.{Lie, lie[], lie∷, StringAt, AttributeAt, AssertionAt, Lies}
use Rattle.record.proofs.Laws.Located.{read-lies}
use Rattle.record.specs.Places.{string_size, attribute_size, assertion_size, places_from, requesters_start, attributes_start, assertions_start}
use Rattle.record.specs.Valid.{Valid, SuppliedOk}
use Rattle.record.specs.Valid.{Each as EachOf, each[], each∷}
use Rattle.record.specs.RoundTrip.{Bytes}
use Rattle.record.proofs.Laws.RoundTrip.{read_back}
use Rattle.principal.specs.Principal.{policy}
use Rattle.compliance.specs.System.{Assertion}
use Rattle.compliance.specs.Rounds.{rank, rounds, reached}
use Rattle.compliance.specs.Theorems.Filling.{asking}
use Rattle.compliance.specs.Theorems.Filling.{reading as system_of}
use Rattle.compliance.proofs.Theorems.Represent.{represented}
use Rattle.compliance.specs.declared.Solution.{Solution}
use Rattle.expression.specs.Conditions.{top}
use Rattle.assertion.specs.Read.{Read}
use Rattle.assertion.specs.Form.{read_assertion}
use Rattle.assertion.specs.Resolved.{resolved}
use Rattle.assertion.specs.Working.Field.{Given, given}
use Rattle.assertion.specs.Working.Reading.{read_in}
use Rattle.assertion.specs.Theorems.Left.{first_alone, first_more}
use Rattle.assertion.specs.Theorems.Ready.{Ready, ReadAs}
use Rattle.assertion.proofs.Theorems.Reads.{read_as}
use Rattle.system.specs.Working.Noting.{ends_at, header_into}
use Rattle.system.specs.Working.Each.{Fixed, fixed, Store, store, one_in, Each, on_one, full, full_at, each_from}
use Rattle.system.specs.Working.Sizes.{Size, small, middle, large, middle_most, some_rows, some_code}
use Rattle.system.specs.Working.Solving.{Solved, solved_by, top_of, rows_give, grown_in, on_stretch, filled_in, filled_long}
use Rattle.index.specs.declared.Index.{Index}
use Rattle.system.specs.declared.note.Ends.{Ends}
use Rattle.keynote.specs.Answer.{ranked, reading, readings, kept_of, system, class_given, rounds_of, reached_of}
use Rattle.keynote.specs.Report.{entry_bytes, entries_bytes, report, report_size}
use Rattle.keynote.specs.Outcome.{needed}
use Rattle.keynote.specs.Theorems.PlacesAssertion.{Small, AllSmall, small∷, readings-small}
use Rattle.system.specs.Theorems.Started.{Started, start_names}
use Rattle.system.specs.Theorems.Stocked.{asked-covers}
use Rattle.keynote.specs.Theorems.Paged.{header_is}
use Rattle.keynote.specs.Working.Made.{Made, Reached, joining, joining-is, before, noted-made}
use Rattle.keynote.specs.Working.Grown.{Within, made-larger, small-middle, small-large, middle-large}
use Rattle.keynote.specs.Working.Made.{reached as reached-at}

-- as many places as items
lie-length : {A : Type 0} {At : ℕ → A → Type 0} {vs : List ℕ} {l : List A} → Lie At vs l → length vs ≡ length l
lie-length lie[] = refl
lie-length (lie∷ h t) = ap suc (lie-length t)

-- what the assertions are read with, all the way
pub record Fit (s : List ℕ) (q : Query) (values names : List ℕ) (start t : ℕ) (sheet : List ℕ) (most room : ℕ) : Type 0 where
  pub values-lie : Lie (StringAt s) values q.values
  pub names-lie : Lie (AttributeAt s) names q.attributes
  pub start-low : start ≤ most_joined
  pub values-short : length (joined q.values) ≤ 65535
  pub requesters-short : length (joined q.requesters) ≤ 65535
  pub few : length q.values ≤ 256
  pub top-is : t ≡ top q.values
  pub at_most : most ≤ room
  pub all : room ≤ most_assertions
  pub paper : 3 + 3 * most ≤ length sheet

-- the places of a query's items in its record
abbrev pub values_at : Query → List ℕ
values_at q = places_from string_size 2 2 q.values

abbrev pub requesters_at : Query → List ℕ
requesters_at q = places_from string_size 2 (requesters_start q) q.requesters

abbrev pub attributes_at : Query → List ℕ
attributes_at q = places_from attribute_size 2 (attributes_start q) q.attributes

abbrev pub assertions_at : Query → List ℕ
assertions_at q = places_from assertion_size 3 (assertions_start q) q.assertions

-- the three numbers, and the page with the report in front
abbrev pub solved_as : Query → List ℕ → Solved
solved_as q page = solved_by (record { rank = class_given q; rounds = rounds_of q; reached = reached_of q }) (report (readings q) ++ drop (needed q) page)

-- the three numbers of the system that those assertions make, and the page
abbrev gives : Query → List Assertion → List ℕ → Solved
gives q l page =
    solved_by (record { rank = rank (system_of l q.requesters (top q.values)) policy; rounds = rounds (system_of l q.requesters (top q.values)); reached = reached (system_of l q.requesters (top q.values)) })
    page

-- the solver over the fronts gives the system's three numbers
solved-at : {size : Size} {room : ℕ} {q : Query} {start : ℕ} {direct : List ℕ} {l : List Assertion} {i : ℕ} {e : Ends} {x : Store} {a c d page : List ℕ} (t : ℕ) → t ≡ top q.values
    → Made size room q start direct l i e x a c d → (front sheet : List ℕ) → page ≡ front ++ drop (3 + 3 * i) sheet
    → solved_by (rows_give a c d x.code direct e t) page ≡ gives q l (front ++ drop (3 + 3 * i) sheet)
unfolding rows_give
solved-at {size = size} {q = q} {direct = direct} {l = l} {i = i} {e = e} {x = x} {a = a} {c = c} {d = d} t te made front sheet pe =
    let m : take e.index.count direct ≡ map (asking q.requesters) made.names
    = ap (take e.index.count) made.stock.marks
    ∙ take_at (map (asking q.requesters) made.names) (replicate (size.places - length made.names) 0) e.index.count (length-map made.names (asking q.requesters) ∙ sym made.holds.counted) in
    rw (te, pe, m)
    (ap (λ (w : Solution). solved_by w (front ++ drop (3 + 3 * i) sheet))
    (represented made.names (take e.kept a) (take e.kept c) (take e.kept d) (take e.size x.code) (map (asking q.requesters) made.names) (top q.values)
    (system_of l q.requesters (top q.values)) made.stock.filling.represents))

gives_same : (q : Query) (sheet : List ℕ) {l l' : List Assertion} {f f' : List ℕ} {i i' : ℕ} → l ≡ l' → f ≡ f' → i ≡ i'
    → gives q l (f ++ drop (3 + 3 * i) sheet) ≡ gives q l' (f' ++ drop (3 + 3 * i') sheet)
gives_same q sheet a b c = rw (a, b, c)

-- where no table is too small there is room
full-not : (consts start text pool end places count : ℕ) → full consts start text pool end places count ≡ false
    → (start + most_lengths + text ≤ consts) × (end + most_entered ≤ pool) × (count + most_named ≤ places)
unfolding full
full-not consts start text pool end places count not =
    split (leb (start + most_lengths + text) consts)
    (λ a. split (leb (end + most_entered) pool)
    (λ b. split (leb (count + most_named) places)
    (λ c. (leb-true (start + most_lengths + text) consts a, leb-true (end + most_entered) pool b, leb-true (count + most_named) places c))
    (λ c. let z : true ≡ false = rw (a, b, c) at not in clash refl z))
    (λ b. let z : true ≡ false = rw (a, b) at not in clash refl z))
    (λ a. let z : true ≡ false = rw a at not in clash refl z)

drop-next : (l : List ℕ) (i p : ℕ) (ps : List ℕ) → drop i l ≡ p ∷ ps → drop (suc i) l ≡ ps
drop-next l i p ps e = ap (λ (n : ℕ). drop n l) (sym (add-one i)) ∙ sym (drop-drop 1 i l) ∙ ap (drop 1) e

small-head : {r : Read} {l : List Read} → AllSmall (r ∷ l) → Small r
small-head (small∷ h t) = h

small-tail : {r : Read} {l : List Read} → AllSmall (r ∷ l) → AllSmall l
small-tail (small∷ h t) = t

module _ {s : List ℕ} {q : Query} {values names : List ℕ} {start t : ℕ} {sheet : List ℕ} {most room : ℕ} (fit : Fit s q values names start t sheet most room) where
  abbrev all : Fixed
  all = fixed s values names t start

  abbrev given_at : ℕ → Given
  given_at v = given (counted s v) (get_or s (v - 3) 0) s values names start

  -- there is room for one assertion more
  ready : {size : Size} {direct : List ℕ} {l : List Assertion} {i : ℕ} {e : Ends} {x : Store} {a c d : List ℕ} (made : Made size room q start direct l i e x a c d) → i < room
      → (v : ℕ) → length (counted s v) ≤ most_text → full_at all v e x ≡ false → Ready q (given_at v) (before x) made.names e.index.count e.index.end e.size
  ready {e = e} {x = x} made h v short not =
      let free = full-not (length x.consts) start (length (counted s v)) (length x.pool) e.index.end (length x.places) e.index.count not in
      record {
        short = short;
        values = fit.values-lie;
        attributes = fit.names-lie;
        begun = made.begun;
        values-short = fit.values-short;
        requesters-short = fit.requesters-short;
        few = fit.few;
        constants-room = omega arith;
        consts-room = free.0;
        holds = made.holds;
        tight = made.tight;
        first = made.first;
        places-room = free.2;
        pool-room = free.1;
        numbers = omega (arith, made.holds.counted, made.few, h, fit.all);
        code-room = omega (arith, made.low, h, made.code-long);
      }

  same-reading : (v : ℕ) (u : Supplied) → AssertionAt s v u → resolved q (get_or s (v - 3) 0) (read_assertion (get_or s (v - 3) 0) (counted s v)) ≡ reading q u
  unfolding reading
  same-reading v u at =
      ap (λ (n : ℕ). resolved q n (read_assertion n (counted s v))) at.1 ∙ ap (λ (t : List ℕ). resolved q u.standing (read_assertion u.standing t)) at.0

  -- one assertion more
  step : {size : Size} {direct : List ℕ} {l : List Assertion} {i : ℕ} {e : Ends} {x : Store} {a c d : List ℕ} (made : Made size room q start direct l i e x a c d) → i < most → (v : ℕ) (u : Supplied) → AssertionAt s v u
      → full_at all v e x ≡ false → length u.text ≤ most_text → Small (reading q u) → (front page : List ℕ) → length front ≡ 3 + 3 * i → page ≡ front ++ drop (3 + 3 * i) sheet
      → Reached size room q start direct sheet (joining q l (reading q u)) (suc i) (front ++ entry_bytes (reading q u)) (on_one a c d page i e (one_in all v x e.index.count e.index.end e.size))
  unfolding one_in
  step {size = size} {i = i} {e = e} {x = x} made h v u at not short few front page fe pe =
      let less : i < room = omega (arith, h, fit.at_most) in
      let free = full-not (length x.consts) start (length (counted s v)) (length x.pool) e.index.end (length x.places) e.index.count not in
      let wide : e.index.count + most_named ≤ size.places = omega (arith, free.2, made.places-long) in
      let b : length (counted s v) ≤ most_text = omega (arith, short, ap length at.0) in
      let r : ReadAs q (given_at v) t (before x) made.names e.index.count e.index.end e.size (reading q u) (read_in (given_at v) t (before x) e.index.count e.index.end e.size)
      = subst (λ (w : Read). ReadAs q (given_at v) t (before x) made.names e.index.count e.index.end e.size w (read_in (given_at v) t (before x) e.index.count e.index.end e.size))
      (same-reading v u at) (read_as t (ready made less v b not)) in
      noted-made made less fit.all wide (given_at v) refl t fit.top-is front sheet page fe pe (omega (arith, h, fit.paper)) (reading q u)
      (read_in (given_at v) t (before x) e.index.count e.index.end e.size) few r

  at-short : (v : ℕ) (u : Supplied) → AssertionAt s v u → length u.text ≤ most_text → length (counted s v) ≤ most_text
  at-short v u at short = omega (arith, short, ap length at.0)

  -- large tables are never too small
  never-full : {direct : List ℕ} {l : List Assertion} {i : ℕ} {e : Ends} {x : Store} {a c d : List ℕ} → Made large room q start direct l i e x a c d → i < room
      → (v : ℕ) → length (counted s v) ≤ most_text → full_at all v e x ≡ false
  unfolding full
  never-full {e = e} {x = x} made h v short =
      rw (
        le-leb (start + most_lengths + length (counted s v)) (length x.consts) (omega (arith, fit.start-low, short, made.consts-long)),
        le-leb (e.index.end + most_entered) (length x.pool) (omega (arith, made.tight, made.few, h, fit.all, made.pool-long)),
        le-leb (e.index.count + most_named) (length x.places) (omega (arith, made.few, h, fit.all, made.places-long)),
      )

  -- that the assertions from the one with the number i on, read into tables of a size and then of the sizes behind it, give the answer
  abbrev Solves : Size → List Size → Type 0
  Solves size sizes =
      (texts ps : List ℕ) (m seen : List Supplied) → Lie (AssertionAt s) ps m → EachOf SuppliedOk seen m → AllSmall (map (reading q) m)
      → (direct : List ℕ) (l : List Assertion) (i : ℕ) (front : List ℕ) (z : Each) → i + length m ≤ most → i + length m ≡ length texts → drop i texts ≡ ps
      → Reached size room q start direct sheet l i front z
      → on_stretch sizes all texts direct (each_from all ps i z)
      ≡ gives q (l ++ map (ranked q) (kept_of (map (reading q) m))) ((front ++ entries_bytes (map (reading q) m)) ++ drop (3 + 3 * (i + length m)) sheet)

  -- one is read, and the others as supposed
  next-same : (m : List Supplied) (l : List Assertion) (i : ℕ) (front : List ℕ) (u : Supplied)
      → gives q (joining q l (reading q u) ++ map (ranked q) (kept_of (map (reading q) m)))
      (((front ++ entry_bytes (reading q u)) ++ entries_bytes (map (reading q) m)) ++ drop (3 + 3 * (suc i + length m)) sheet)
      ≡ gives q (l ++ map (ranked q) (kept_of (map (reading q) (u ∷ m)))) ((front ++ entries_bytes (map (reading q) (u ∷ m))) ++ drop (3 + 3 * (i + length (u ∷ m))) sheet)
  unfolding entries_bytes
  next-same m l i front u =
      let k : suc i + length m ≡ i + suc (length m) = omega arith in
      gives_same q sheet (joining-is q l (reading q u) (map (reading q) m)) (append_assoc front (entry_bytes (reading q u)) (entries_bytes (map (reading q) m))) k

  -- none is left
  solved-all : {size : Size} (direct : List ℕ) (l : List Assertion) (i : ℕ) (front : List ℕ) {e : Ends} {x : Store} {a c d page : List ℕ} → Made size room q start direct l i e x a c d
      → page ≡ front ++ drop (3 + 3 * i) sheet
      → solved_by (rows_give a c d x.code direct e t) page ≡ gives q (l ++ map (ranked q) (kept_of (map (reading q) []))) ((front ++ entries_bytes (map (reading q) [])) ++ drop (3 + 3 * (i + 0)) sheet)
  unfolding kept_of entries_bytes
  solved-all direct l i front made pe = rw (append-nil l, append-nil front, add-zero i) (solved-at t fit.top-is made front sheet pe)

  -- in large tables
  each_last : Solves large []
  unfolding each_from on_stretch
  each_last texts _ _ seen lie[] each[] fews direct l i front _ h n de (reached-at e x a c d page made fe pe) = solved-all direct l i front made pe
  each_last texts _ _ seen (lie∷ {v = v} {vs = vs} {a = u} {l = m} at lies) (each∷ ok oks) fews direct l i front _ h n de (reached-at e x a c d page made fe pe) =
      let not : full_at all v e x ≡ false = never-full made (omega (arith, h, fit.at_most)) v (at-short v u at ok.1.1) in
      let k : suc i + length m ≡ i + suc (length m) = omega arith in
      rw not
      (each_last texts vs m _ lies oks (small-tail fews) direct (joining q l (reading q u)) (suc i) (front ++ entry_bytes (reading q u))
      (on_one a c d page i e (one_in all v x e.index.count e.index.end e.size)) (omega (arith, h)) (k ∙ n) (drop-next texts i v vs de)
      (step made (omega (arith, h)) v u at not ok.1.1 (small-head fews) front page fe pe)
      ∙ next-same m l i front u)

  -- in tables of a size that fits into the next
  module _ (size next : Size) (sizes : List Size) (within : Within size next) (later : Solves next sizes) where
    each_more : Solves size (next ∷ sizes)
    unfolding each_from on_stretch
    each_more texts _ _ seen lie[] each[] fews direct l i front _ h n de (reached-at e x a c d page made fe pe) =
        rw (le-ltb i (length texts) (omega (arith, n))) (solved-all direct l i front made pe)
    each_more texts _ _ seen (lie∷ {v = v} {vs = vs} {a = u} {l = m} at lies) (each∷ ok oks) fews direct l i front _ h n de (reached-at e x a c d page made fe pe) =
        split (full_at all v e x)
        (λ f. rw (f, lt-ltb i (length texts) (omega (arith, n)), de)
        (later texts (v ∷ vs) (u ∷ m) seen (lie∷ at lies) (each∷ ok oks) fews _ l i front _ h n de
        (reached-at e _ a c d page (made-larger made next within fit.start-low) fe pe)))
        (λ f. let k : suc i + length m ≡ i + suc (length m) = omega arith in
        rw f
        (each_more texts vs m _ lies oks (small-tail fews) direct (joining q l (reading q u)) (suc i) (front ++ entry_bytes (reading q u))
        (on_one a c d page i e (one_in all v x e.index.count e.index.end e.size)) (omega (arith, h)) (k ∙ n) (drop-next texts i v vs de)
        (step made (omega (arith, h)) v u at f ok.1.1 (small-head fews) front page fe pe)
        ∙ next-same m l i front u))

  each-middle : Solves middle (large ∷ [])
  each-middle = each_more middle large [] middle-large each_last

  each-small : Solves small (middle ∷ large ∷ [])
  each-small = each_more small middle (large ∷ []) small-middle each-middle

-- before the first
start-made : (s : List ℕ) (q : Query) (start : ℕ) (consts : List ℕ) (x : Index) (pool places direct : List ℕ) → Started s q start consts x pool places direct
    → (room : ℕ) (code a c d : List ℕ) → length code ≡ room * most_code → length a ≡ room → length c ≡ room → length d ≡ room
    → Made small room q start direct [] 0 (ends_at x 0 0) (store consts pool places code) a c d
start-made s q start consts x pool places direct st room code a c d ke ae ce de = record {
  names = start_names q;
  holds = st.holds;
  stock = record {
    filling = st.filling;
    covers = asked-covers (policy ∷ []) q.requesters;
    marks = st.marks ∙ ap (λ (n : ℕ). map (asking q.requesters) (start_names q) ++ replicate (small.places - n) 0) st.holds.counted;
  };
  tight = st.tight;
  first = first_more (policy ∷ []) q.requesters first_alone;
  few = omega (arith, st.few);
  low = omega arith;
  rows = omega arith;
  authors-long = ae;
  conds-long = ce;
  ends-long = de;
  consts-long = st.consts-long;
  pool-long = st.pool-long;
  places-long = st.places-long;
  code-long = ke;
  begun = st.begun;
}

front-start : (n : ℕ) → length (1 ∷ pair_bytes n) ≡ 3
unfolding pair_bytes
front-start n = refl

-- the page at the end is the report, and the rest as it was
page-end : (q : Query) (n : ℕ) (page : List ℕ) → n ≡ length q.assertions
    → ((1 ∷ pair_bytes (3 * n)) ++ entries_bytes (map (reading q) q.assertions)) ++ drop (3 + 3 * (0 + length q.assertions)) page ≡ report (readings q) ++ drop (needed q) page
unfolding report readings needed report_size
page-end q n page e =
    let z : 0 + length q.assertions ≡ length q.assertions = omega arith in
    let w : 3 * n ≡ 3 * length (map (reading q) q.assertions) = omega (arith, e, length-map q.assertions (reading q)) in
    rw (z, w)

top-same : (q : Query) (values : List ℕ) → length values ≡ length q.values → length q.values ≤ 256 → top_of values ≡ top q.values
unfolding top
top-same q values e h = omega (arith, e, h)

module _ (s : List ℕ) (q : Query) (page : List ℕ) (start : ℕ) (consts : List ℕ) (x : Index) (pool places direct : List ℕ) (st : Started s q start consts x pool places direct)
    (values names texts : List ℕ) where
  module _ (vl : Lie (StringAt s) values q.values) (nl : Lie (AttributeAt s) names q.attributes) (tl : Lie (AssertionAt s) texts q.assertions)
      (oks : EachOf SuppliedOk [] q.assertions) (smalls : AllSmall (map (reading q) q.assertions)) (low : length q.values ≤ 256)
      (paper : 3 + 3 * length q.assertions ≤ length page) where
    n : length texts ≡ length q.assertions
    n = lie-length tl

    te : top_of values ≡ top q.values
    te = top-same q values (lie-length vl) low

    page-is : ◌≡◌ {A = Solved} (gives q (map (ranked q) (kept_of (map (reading q) q.assertions))) (((1 ∷ pair_bytes (3 * length texts)) ++ entries_bytes (map (reading q) q.assertions)) ++ drop (3 + 3 * (0 + length q.assertions)) page))
        (solved_as q page)
    unfolding class_given rounds_of reached_of system readings
    page-is = ap (solved_by (record { rank = rank (system q) policy; rounds = rounds (system q); reached = reached (system q) })) (page-end q (length texts) page n)

    -- with so many rows
    module _ (room : ℕ) (few : length q.assertions ≤ room) (all : room ≤ most_assertions) where
      fit : Fit s q values names start (top_of values) page (length q.assertions) room
      fit = record {
        values-lie = vl;
        names-lie = nl;
        start-low = st.start-low;
        values-short = st.values-short;
        requesters-short = st.requesters-short;
        few = low;
        top-is = te;
        at_most = few;
        all = all;
        paper = paper;
      }

      made : Made small room q start direct [] 0 (ends_at x 0 0) (store consts pool places (replicate (room * most_code) 0)) (replicate room 0) (replicate room 0) (replicate room 0)
      made = start-made s q start consts x pool places direct st room (replicate (room * most_code) 0) (replicate room 0) (replicate room 0) (replicate room 0)
          (length-replicate {A = ℕ} (room * most_code) 0) (length-replicate {A = ℕ} room 0) (length-replicate {A = ℕ} room 0) (length-replicate {A = ℕ} room 0)

      head-is : header_into page (length texts) ≡ (1 ∷ pair_bytes (3 * length texts)) ++ drop 3 page
      head-is = header_is page (length texts) (omega (arith, paper)) (omega (arith, n, few, all))

    -- in small tables first
    filled-from : length q.assertions ≤ some_rows → filled_in s values names texts start consts pool places direct x page
        ≡ solved_as q page
    unfolding filled_in
    filled-from few =
        each-small (fit some_rows few (omega arith)) texts texts q.assertions [] tl oks smalls direct [] 0 (1 ∷ pair_bytes (3 * length texts)) _ (omega arith) (omega (arith, n)) refl
        (reached-at (ends_at x 0 0) (store consts pool places (replicate some_code 0)) (replicate some_rows 0) (replicate some_rows 0) (replicate some_rows 0) (header_into page (length texts))
        (made some_rows few (omega arith)) (front-start (3 * length texts)) (head-is some_rows few (omega arith)))
        ∙ page-is

    -- in tables of any size that the small ones fit into, at once
    module _ (few : length q.assertions ≤ most_assertions) where
      grown-from : (size : Size) (sizes : List Size) → Within small size → Solves (fit most_assertions few (omega arith)) size sizes
          → grown_in size sizes (fixed s values names (top_of values) start) texts (take start consts) (take x.end pool) (take x.count places) (take x.count direct)
          (replicate most_programs 0) (replicate most_assertions 0) (replicate most_assertions 0) (replicate most_assertions 0) (header_into page (length texts)) 0 (ends_at x 0 0)
          ≡ solved_as q page
      unfolding grown_in
      grown-from size sizes within solves =
          solves texts texts q.assertions [] tl oks smalls _ [] 0 (1 ∷ pair_bytes (3 * length texts)) _ (omega arith) (omega (arith, n)) refl
          (reached-at (ends_at x 0 0) _ (replicate most_assertions 0) (replicate most_assertions 0) (replicate most_assertions 0) (header_into page (length texts))
          (made-larger (made most_assertions few (omega arith)) size within st.start-low) (front-start (3 * length texts)) (head-is most_assertions few (omega arith)))
          ∙ page-is

      long-from : filled_long s values names texts start consts pool places direct x page ≡ solved_as q page
      unfolding filled_long
      long-from =
          split (ltb middle_most x.end)
          (λ h. rw h (grown-from large [] small-large (each_last (fit most_assertions few (omega arith)))))
          (λ h. rw h (grown-from middle (large ∷ []) small-middle (each-middle (fit most_assertions few (omega arith)))))

small-readings : (s : List ℕ) (q : Query) → Bytes s → read_record s ≡ accepted q → AllSmall (map (reading q) q.assertions)
unfolding readings
small-readings s q b e = readings-small s b q e

page-room : (q : Query) (page : List ℕ) → needed q ≤ length page → 3 + 3 * length q.assertions ≤ length page
unfolding needed report_size
page-room q page h = h

-- The tables that are filled with the assertions of an accepted query give its answer, and the page its report: small ones first, or large ones at once.
module _ (s : List ℕ) (q : Query) (b : Bytes s) (e : read_record s ≡ accepted q) (page : List ℕ) (room : needed q ≤ length page)
    (start : ℕ) (consts : List ℕ) (x : Index) (pool places direct : List ℕ) (st : Started s q start consts x pool places direct) where
  valid : Valid q
  valid = (read_back s b q e).0

  lies : Lies s q
  lies = read-lies s q e

  pub filled_is : length q.assertions ≤ some_rows → filled_in s (values_at q) (attributes_at q) (assertions_at q)
      start consts pool places direct x page
      ≡ solved_as q page
  filled_is few =
      filled-from s q page start consts x pool places direct st (values_at q) (attributes_at q)
      (assertions_at q) lies.values lies.attributes lies.assertions valid.assertions.1
      (small-readings s q b e) (omega (arith, valid.values.0.1)) (page-room q page room) few

  pub long-is : filled_long s (values_at q) (attributes_at q) (assertions_at q)
      start consts pool places direct x page
      ≡ solved_as q page
  long-is =
      long-from s q page start consts x pool places direct st (values_at q) (attributes_at q)
      (assertions_at q) lies.values lies.attributes lies.assertions valid.assertions.1
      (small-readings s q b e) (omega (arith, valid.values.0.1)) (page-room q page room) valid.assertions.0.1
