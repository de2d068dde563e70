-- A query solved by the tables, from what its assertions fill them with. Assumes nothing.
use Rattle.std.specs.Prelude.{◌≡◌, refl, List, [], ◌++◌, ℕ, ◌+◌, ◌≤◌, ltb, length, take, replicate}
use Rattle.std.proofs.Common.{◌∙◌, arith, ltb-false}
use Rattle.std.proofs.lemmas.List.{length-replicate}
use Rattle.limits.specs.Limits.{most_values_joined, most_requesters_joined, most_joined}
use Rattle.text.specs.CopyLaws.{put-length}
use Rattle.text.specs.Copy.{put}
use Rattle.text.specs.Choice.{split}
use Rattle.text.specs.Join.{joined}
use Rattle.record.specs.Query.{Query}
use Rattle.record.specs.Encode.{string_bytes}
use Rattle.record.specs.Read.{accepted}
use Rattle.record.specs.Record.{read_record}
use Rattle.record.specs.Lies.{Lies}
use Rattle.record.specs.Places.{assertion_size, assertions_start}
use Rattle.record.proofs.Laws.Located.{read-lies}
use Rattle.record.specs.Valid.{Valid}
use Rattle.record.specs.RoundTrip.{Bytes}
use Rattle.record.proofs.Laws.RoundTrip.{read_back}
use Rattle.constants.specs.Constants.{Written, written, begun_into}
use Rattle.constants.specs.Theorems.Begun.{begun-is}
use Rattle.expression.specs.Conditions.{top}
use Rattle.index.specs.declared.Index.{Index}
use Rattle.system.specs.Working.Sizes.{small, some_rows, long_record}
use Rattle.system.specs.Working.Asking.{Asked, Begun}
use Rattle.system.specs.Working.Solving.{filled_in, filled_long, on_asked, on_begun, on_written, solved_in}
use Rattle.keynote.specs.Outcome.{needed}
use Rattle.keynote.specs.Working.Filled.{values_at, requesters_at, attributes_at, assertions_at, solved_as, long-is, filled_is}
use Rattle.system.specs.Theorems.Started.{start_names, Started}
use Rattle.system.specs.Theorems.Marked.{Stage, Staged, staged, all-staged}
use Rattle.keynote.specs.Theorems.Parts.{places-length}
use Rattle.system.specs.Theorems.Starting.{lie-strings, values-joined, requesters-joined, string-length, beginning, begun-fits, Rooted, rooted, begin-rooted}

-- that the assertions, read into tables that are started, give them
abbrev pub Filled : List ℕ → Query → List ℕ → Type 0
Filled s q page =
    (start : ℕ) (consts : List ℕ) (x : Index) (pool places direct : List ℕ) → Started s q start consts x pool places direct
    → (filled_long s (values_at q) (attributes_at q) (assertions_at q) start consts pool places direct x page ≡ solved_as q page)
    × (length q.assertions ≤ some_rows → filled_in s (values_at q) (attributes_at q) (assertions_at q) start consts pool places direct x page ≡ solved_as q page)

-- the buffer of constants as begun
pub data Opened (q : Query) : Written → Type 0 where
  opened : (start : ℕ) (consts : List ℕ) → take start consts ≡ string_bytes (joined q.values) ++ string_bytes (joined q.requesters) → start ≤ most_joined → length consts ≡ small.consts
      → Opened q (written start consts)

module _ (q : Query) (v : Valid q) (d : List ℕ) (long : length d ≡ small.consts) where
  pub begun_opened : Opened q (begun_into d (joined q.values) (joined q.requesters))
  begun_opened =
      let a : List ℕ = joined q.values in
      let b : List ℕ = joined q.requesters in
      let ha : length a ≤ most_values_joined = values-joined q v in
      let hb : length b ≤ most_requesters_joined = requesters-joined q v in
      let e : written (2 + length a + 2 + length b) (beginning d a b) ≡ begun_into d a b = begun-fits d a b (omega (arith, ha)) (omega (arith, hb)) (omega (arith, ha, hb, long)) in
      let one : length (put d 0 (string_bytes a)) ≡ length d = put-length d 0 (string_bytes a) (omega (arith, string-length a, ha, long)) in
      let two : length (beginning d a b) ≡ length (put d 0 (string_bytes a))
      = put-length (put d 0 (string_bytes a)) (2 + length a) (string_bytes b) (omega (arith, string-length b, ha, hb, long, one)) in
      rw (← e) (opened (2 + length a + 2 + length b) (beginning d a b) (begun-is d a b (2 + length a + 2 + length b) (beginning d a b) e (λ z. omega arith)).0
      (omega (arith, ha, hb)) (two ∙ one ∙ long))

-- what is there before the assertions are read
pub started-is : (s : List ℕ) (q : Query) → Valid q → (start : ℕ) (consts : List ℕ)
    → take start consts ≡ string_bytes (joined q.values) ++ string_bytes (joined q.requesters) → start ≤ most_joined → length consts ≡ small.consts
    → (x : Index) (pool places direct : List ℕ) → Stage q.requesters (top q.values) q.requesters (start_names q) x pool places direct
    → Started s q start consts x pool places direct
started-is s q v start consts b l c x pool places direct st = record {
  holds = st.holds;
  tight = st.tight;
  few = omega (arith, st.few, v.requesters.0.1);
  marks = st.marks;
  filling = st.filling;
  pool-long = st.pool-long;
  places-long = st.places-long;
  begun = b;
  start-low = l;
  consts-long = c;
  values-short = omega (arith, values-joined q v);
  requesters-short = omega (arith, requesters-joined q v);
}

module _ (s : List ℕ) (q : Query) (b : Bytes s) (e : read_record s ≡ accepted q) (page : List ℕ) (filled : Filled s q page) where
  valid : Valid q
  valid = (read_back s b q e).0

  lies : Lies s q
  lies = read-lies s q e

  module _ (start : ℕ) (consts : List ℕ) (begins : take start consts ≡ string_bytes (joined q.values) ++ string_bytes (joined q.requesters))
      (low : start ≤ most_joined) (long : length consts ≡ small.consts) where
    on-asked : {a : Asked} → Staged q.requesters (top q.values) q.requesters (start_names q) a
        → on_asked s (values_at q) (attributes_at q) (assertions_at q) start consts page a ≡ solved_as q page
    on-asked (staged x pool places direct st) =
        let both = filled start consts x pool places direct (started-is s q valid start consts begins low long x pool places direct st) in
        split (ltb long_record (length s)) (λ h. rw h both.0)
        (λ h. rw h (split (ltb some_rows (length (assertions_at q))) (λ k. rw k both.0)
        (λ k. rw k (both.1 (omega (arith, ltb-false some_rows (length (assertions_at q)) k, places-length assertion_size 3 (assertions_start q) q.assertions))))))

    on-begun : {k : Begun} → Rooted q.requesters (top q.values) (replicate small.places 0) k
        → on_begun s (values_at q) (requesters_at q) (attributes_at q) (assertions_at q) start consts page k ≡ solved_as q page
    on-begun (rooted x pool places st) =
        on-asked (all-staged q.requesters (top q.values) s lies.requesters valid.requesters.1 [] _ (omega (arith, valid.requesters.0.1)) (staged x pool places (replicate small.places 0) st))

  on-written : {w : Written} → Opened q w → on_written s (values_at q) (requesters_at q) (attributes_at q) (assertions_at q) page w ≡ solved_as q page
  on-written (opened start consts begins low long) =
      on-begun start consts begins low long
      (begin-rooted q.requesters (top q.values) (replicate small.pool 0) (replicate small.places 0) (length-replicate {A = ℕ} small.pool 0) (length-replicate {A = ℕ} small.places 0) (replicate small.places 0) refl)

  pub solved-by : solved_in s (values_at q) (requesters_at q) (attributes_at q) (assertions_at q) page ≡ solved_as q page
  unfolding solved_in
  solved-by =
      rw (lie-strings s lies.values, lie-strings s lies.requesters) (on-written (begun_opened q valid (replicate small.consts 0) (length-replicate {A = ℕ} small.consts 0)))

-- an accepted query solved by the tables is what the definition answers
pub solved-is : (s : List ℕ) (q : Query) → Bytes s → read_record s ≡ accepted q → (page : List ℕ) → needed q ≤ length page
    → solved_in s (values_at q) (requesters_at q) (attributes_at q) (assertions_at q) page ≡ solved_as q page
solved-is s q b e page h = solved-by s q b e page (λ start consts x pool places direct st. (long-is s q b e page h start consts x pool places direct st, filled_is s q b e page h start consts x pool places direct st))
