-- The tables begun with a query's values and requesters are as they have to be before its assertions are read. Assumes nothing.
use Rattle.std.specs.Prelude.{◌≡◌, refl, ℕ, suc, ◌+◌, ◌-◌, ◌*◌, ◌≤◌, length, replicate}
use Rattle.std.proofs.Common.{◌∙◌, arith, length-append, le-leb, le-ltb, ne_eqb}
use mathlib.Core.List.{List, [], ◌∷◌, ◌++◌, map}
use Rattle.limits.specs.Limits.{most_value, most_requester, most_identifier, most_values_joined, most_requesters_joined}
use Rattle.text.specs.Copy.{put}
use Rattle.text.specs.CopyLaws.{put-length}
use Rattle.text.specs.Counted.{counted}
use Rattle.text.specs.Join.{followed, joined}
use Rattle.record.specs.Query.{Query}
use Rattle.record.specs.Encode.{string_bytes, items_bytes}
use Rattle.record.specs.Lies.{Lie, lie[], lie∷, StringAt}
use Rattle.record.specs.Valid.{Each, each[], each∷, Valid, ValueOk, RequesterOk}
use Rattle.principal.specs.Principal.{Principal, policy}
use Rattle.principal.specs.Members.{member, d[]}
use Rattle.index.specs.Entry.{entries_from}
use Rattle.index.specs.Tree.{tree-none}
use Rattle.index.specs.Index.{enter, Holds}
use Rattle.compliance.specs.Theorems.Filling.{asking, fill_start}
use Rattle.constants.specs.Constants.{written, counted_into, begun_into}
use Rattle.index.specs.Working.Entering.{Kept}
use Rattle.naming.specs.Theorems.Entry.{EntryRead, entry_at, entry_read}
use Rattle.index.specs.declared.Index.{Index}
use Rattle.system.specs.Working.Sizes.{small}
use Rattle.system.specs.Working.Asking.{Begun, begun, on_begun, begin_in}
use Rattle.system.specs.Theorems.Marked.{Stage}

-- ---- the joined texts

-- what lies at the places is the list
pub lie-strings : (s : List ℕ) {vs : List ℕ} {l : List (List ℕ)} → Lie (StringAt s) vs l → map (counted s) vs ≡ l
lie-strings s lie[] = refl
lie-strings s (lie∷ {v = v} {vs = vs} {a = b} {l = l} at t) = rw (at, lie-strings s t)

pub data Short (n : ℕ) : List (List ℕ) → Type 0 where
  short[] : Short n []
  short∷ : {b : List ℕ} {l : List (List ℕ)} → length b ≤ n → Short n l → Short n (b ∷ l)

values-few : {seen l : List (List ℕ)} → Each ValueOk seen l → Short most_value l
values-few each[] = short[]
values-few (each∷ k t) = short∷ k.0.0.1 (values-few t)

requesters-few : {seen l : List (List ℕ)} → Each RequesterOk seen l → Short most_requester l
requesters-few each[] = short[]
requesters-few (each∷ k t) = short∷ k.0.0.1 (requesters-few t)

-- each value with its comma, and each requester with its own
followed-values : {l : List (List ℕ)} → Short most_value l → length (followed l) ≤ (most_value + 1) * length l
unfolding followed
followed-values short[] = omega arith
followed-values (short∷ {b = b} {l = l} h t) = omega (arith, h, followed-values t, length-append b (followed l))

followed-requesters : {l : List (List ℕ)} → Short most_requester l → length (followed l) ≤ (most_requester + 1) * length l
unfolding followed
followed-requesters short[] = omega arith
followed-requesters (short∷ {b = b} {l = l} h t) = omega (arith, h, followed-requesters t, length-append b (followed l))

joined-values : {l : List (List ℕ)} → Short most_value l → length (joined l) ≤ (most_value + 1) * length l
unfolding joined
joined-values short[] = omega arith
joined-values (short∷ {b = b} {l = l} h t) = omega (arith, h, followed-values t, length-append b (followed l))

joined-requesters : {l : List (List ℕ)} → Short most_requester l → length (joined l) ≤ (most_requester + 1) * length l
unfolding joined
joined-requesters short[] = omega arith
joined-requesters (short∷ {b = b} {l = l} h t) = omega (arith, h, followed-requesters t, length-append b (followed l))

pub values-joined : (q : Query) → Valid q → length (joined q.values) ≤ most_values_joined
values-joined q v = omega (arith, joined-values (values-few v.values.1), v.values.0.1)

pub requesters-joined : (q : Query) → Valid q → length (joined q.requesters) ≤ most_requesters_joined
requesters-joined q v = omega (arith, joined-requesters (requesters-few v.requesters.1), v.requesters.0.1)

-- ---- the buffer of constants

pub string-length : (a : List ℕ) → length (string_bytes a) ≡ 2 + length a
unfolding string_bytes
string-length a = omega arith

abbrev pub beginning : List ℕ → List ℕ → List ℕ → List ℕ
beginning d a b = put (put d 0 (string_bytes a)) (2 + length a) (string_bytes b)

-- where both texts fit they are written
pub begun-fits : (d a b : List ℕ) → length a ≤ 65535 → length b ≤ 65535 → 2 + length a + 2 + length b ≤ length d
    → written (2 + length a + 2 + length b) (beginning d a b) ≡ begun_into d a b
unfolding begun_into counted_into
begun-fits d a b ha hb h =
    let l : length (put d 0 (string_bytes a)) ≡ length d = put-length d 0 (string_bytes a) (omega (arith, string-length a, h)) in
    let z : 0 + 2 + length a ≡ 2 + length a = refl in
    rw (
      le-ltb 65535 (length a) ha,
      le-leb (2 + length a) (length d) (omega (arith, h)),
      ne_eqb (2 + length a) 0 (λ e. omega arith),
      le-ltb 65535 (length b) hb,
      le-leb (2 + length a + 2 + length b) (length (put d 0 (string_bytes a))) (omega (arith, h, l)),
    )

-- ---- POLICY

pub data Rooted (requesters : List Principal) (top : ℕ) (direct : List ℕ) : Begun → Type 0 where
  rooted : (x : Index) (pool places : List ℕ) → Stage requesters top [] (policy ∷ []) x pool places direct → Rooted requesters top direct (begun x pool places)

holds-none : (pool places : List ℕ) → Holds pool places 0 0 []
unfolding items_bytes entries_from
holds-none pool places = record {
  bytes = refl;
  entries = refl;
  tree = tree-none places;
  distinct = d[];
  counted = refl;
  ends = refl;
  in_pool = omega arith;
  in_table = omega arith;
  near = omega arith;
}

enter-first : enter [] policy ≡ policy ∷ []
unfolding enter member
enter-first = refl

nobody-asks : asking [] policy ≡ 0
unfolding member
nobody-asks = refl

policy-short : length policy ≤ most_identifier
unfolding policy
policy-short = omega arith

first-zero : (n x : ℕ) → x ≡ 1 → replicate {A = ℕ} (suc n) 0 ≡ map (asking []) (policy ∷ []) ++ replicate {A = ℕ} (suc n - x) 0
first-zero n x e = let z : suc n - x ≡ n = omega (arith, e) in rw (z, nobody-asks)

module _ (requesters : List Principal) (top : ℕ) (pool places : List ℕ) (pl : length pool ≡ small.pool) (ll : length places ≡ small.places) (direct : List ℕ) (zero : direct ≡ replicate small.places 0) where
  first-rooted : {k : Kept} → EntryRead pool places 0 0 [] policy k → Rooted requesters top direct (on_begun k)
  first-rooted (entry_at c e pool' places' h t f g p l) =
      let hs : Holds pool' places' c e (policy ∷ []) = rw enter-first at h in
      rooted _ pool' places' (record {
        holds = hs;
        tight = t;
        few = f;
        marks = zero ∙ first-zero (small.places - 1) c hs.counted;
        filling = fill_start requesters top;
        pool-long = p ∙ pl;
        places-long = l ∙ ll;
      })

  pub begin-rooted : Rooted requesters top direct (begin_in pool places)
  unfolding begin_in
  begin-rooted = first-rooted (entry_read pool places 0 0 [] (holds-none pool places) (omega arith) policy policy-short (omega arith) (omega (arith, ll)) (omega (arith, pl)))
