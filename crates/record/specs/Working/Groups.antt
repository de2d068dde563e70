-- Working definitions: items and groups with the table of their places, and the ways out of each. Assumes nothing.
use Rattle.std.specs.Prelude.{◌≡◌, Result, Ok, Err, eqb, ltb, leb, length, get_or, set}
use Rattle.std.proofs.Math.Path.{sym, ap}
use Rattle.std.proofs.Common.{◌∙◌, not-suc-le-zero}
use mathlib.Core.List.{List}
use Prim.Native.Nat.{ℕ, zero, suc, ◌+◌, ◌-◌, ◌<◌, ◌≤◌}
use native.Mathlib.Omega.{arith}
use borrow.Author.Tests.{lt-ltb, le-ltb, le-leb, lt-leb, eq-eqb, ne_eqb}
use Rattle.text.specs.Choice.{pick}
use Rattle.limits.specs.Limits.{most_record, least_values, most_values, least_requesters, most_requesters, least_attributes, most_attributes, least_assertions, most_assertions}
use Rattle.record.specs.Refusal.{Refused}
use Rattle.record.specs.Reading.{Reading, Accepted, Told, told}
use Rattle.record.specs.Working.Moves.{Moved, To, cursor, seen_of, count_move, item_move}
use Rattle.record.specs.declared.Cursor.{Cursor}
use Rattle.record.specs.declared.Refusal.{Refusal}
use Rattle.record.specs.declared.Step.{Step}
use Rattle.record.specs.declared.Pair.{Pair}
use Rattle.record.specs.declared.Group.{Group}
use Rattle.record.specs.declared.Group.TheVariants.{Values, Requesters, Attributes, Assertions}

-- two groups read, or a refusal
abbrev pub Groups : Type 0
Groups = Result Pair Refusal

abbrev pub Paired : ℕ → ℕ → Cursor → Groups
Paired v w c = Ok (record { first = v; second = w; next = c })

-- what a step gives, and the table after it
pub data Ran : Type 0 where
  ran : Moved → List ℕ → Ran

pub data Both : Type 0 where
  both : Groups → List ℕ → Both

-- the number that is meant for a group
unfoldable pub by_group : Group → ℕ → ℕ → ℕ → ℕ → ℕ
by_group Values v r a c = v
by_group Requesters v r a c = r
by_group Attributes v r a c = a
by_group Assertions v r a c = c

abbrev pub least_count : Group → ℕ
least_count g = by_group g least_values least_requesters least_attributes least_assertions

abbrev pub most_count : Group → ℕ
most_count g = by_group g most_values most_requesters most_attributes most_assertions

abbrev pub on_move : Moved → List ℕ → (ℕ → ℕ → Ran) → Ran
on_move (Ok m) t k = k m.value m.next.at
on_move (Err r) t k = ran (Err r) t

abbrev pub items_body : (ℕ → List ℕ → ℕ → Ran) → Group → List ℕ → ℕ → ℕ → List ℕ → ℕ → Ran
items_body rest g s from i t at =
    pick (leb (length t) i) (ran (Refused 9 0) t) (on_move (item_move g s (seen_of s t from i) at) t (λ v p. rest (i + 1) (set t i v) p))

-- so many items from entry i on
unfoldable pub items_into : Group → List ℕ → ℕ → ℕ → ℕ → List ℕ → ℕ → Ran
items_into g s from zero i t at = ran (To i (cursor at)) t
items_into g s from (suc n) i t at = items_body (λ j u p. items_into g s from n j u p) g s from i t at

unfoldable pub group_into : Group → List ℕ → List ℕ → ℕ → ℕ → Ran
group_into g s t from at = on_move (count_move s (least_count g) (most_count g) at) t (λ n p. items_into g s from n from t p)

abbrev pub on_ran : Ran → (ℕ → ℕ → List ℕ → Both) → Both
on_ran (ran (Ok m) t) k = k m.value m.next.at t
on_ran (ran (Err r) t) k = both (Err r) t

unfoldable pub groups_into : Group → Group → List ℕ → List ℕ → ℕ → ℕ → Both
groups_into one two s t from at =
    on_ran (group_into one s t from at) (λ v p u. on_ran (group_into two s u v p) (λ w q x. both (Paired v w (cursor q)) x))

abbrev pub on_both : Both → (ℕ → ℕ → ℕ → List ℕ → Told) → Told
on_both (both (Ok e) t) k = k e.first e.second e.next.at t
on_both (both (Err r) t) k = told (Err r) t

unfoldable pub rest_into : List ℕ → List ℕ → ℕ → ℕ → ℕ → Told
rest_into s t v w at =
    on_both (groups_into Attributes Assertions s t w at) (λ x y p u. pick (ltb p (length s)) (told (Refused 3 p) u) (told (Accepted v w x y) u))

unfoldable pub table_into : List ℕ → List ℕ → Told
table_into s t =
    pick (ltb most_record (length s)) (told (Refused 1 0) t)
    (pick (eqb (length s) 0) (told (Refused 2 0) t)
    (pick (eqb (get_or s 0 0) 1) (on_both (groups_into Values Requesters s t 0 1) (λ v w p u. rest_into s u v w p)) (told (Refused 2 0) t)))

-- `items`
items-unfold : (g : Group) (s : List ℕ) (from n i : ℕ) (t : List ℕ) (at : ℕ) → 0 < n
    → items_into g s from n i t at ≡ items_body (λ j u p. items_into g s from (n - 1) j u p) g s from i t at
unfolding items_into
items-unfold g s from zero i t at h = absurd (not-suc-le-zero h)
items-unfold g s from (suc n) i t at h =
    let e : n ≡ suc n - 1 = omega arith in ap (λ (k : ℕ). items_body (λ j u p. items_into g s from k j u p) g s from i t at) e

module _ (g : Group) (s : List ℕ) (from n i : ℕ) (t : List ℕ) (at : ℕ) (r : Ran) (inv : items_into g s from n i t at ≡ r) where
  pub items-done : n ≤ 0 → ran (To i (cursor at)) t ≡ r
  unfolding items_into
  items-done h = let z : n ≡ 0 = omega arith in rw z at inv

  module _ (h : 0 < n) where
    pub items-room : length t ≤ i → ran (Refused 9 0) t ≡ r
    items-room l = let z : items_body (λ j u p. items_into g s from (n - 1) j u p) g s from i t at ≡ r = sym (items-unfold g s from n i t at h) ∙ inv in rw (le-leb (length t) i l) at z

    module _ (l : i < length t) (m : Moved) (me : m ≡ item_move g s (seen_of s t from i) at) where
      body : on_move m t (λ v p. items_into g s from (n - 1) (i + 1) (set t i v) p) ≡ r
      body =
          let z : items_body (λ j u p. items_into g s from (n - 1) j u p) g s from i t at ≡ r = sym (items-unfold g s from n i t at h) ∙ inv in
          rw (lt-leb (length t) i l, ← me) at z

      pub items_refused : (k p : ℕ) → m ≡ Refused k p → ran m t ≡ r
      items_refused k p e = let z : on_move m t (λ v p. items_into g s from (n - 1) (i + 1) (set t i v) p) ≡ r = body in rw e (rw e at z)

      pub items_more : (v : ℕ) (c : Cursor) → m ≡ To v c → items_into g s from (n - 1) (i + 1) (set t i v) c.at ≡ r
      items_more v c e = let z : on_move m t (λ v p. items_into g s from (n - 1) (i + 1) (set t i v) p) ≡ r = body in rw e at z

-- the loop over n items, at item k
module _ (g : Group) (s : List ℕ) (from n k i : ℕ) (t : List ℕ) (at : ℕ) (r : Ran) (inv : items_into g s from (n - k) i t at ≡ r) where
  pub items-end : n ≤ k → ran (To i (cursor at)) t ≡ r
  items-end h = items-done g s from (n - k) i t at r inv (omega arith)

  module _ (h : k < n) where
    some : 0 < n - k
    some = omega arith

    pub items-full : length t ≤ i → ran (Refused 9 0) t ≡ r
    items-full l = items-room g s from (n - k) i t at r inv some l

    module _ (l : i < length t) (m : Moved) (me : m ≡ item_move g s (seen_of s t from i) at) where
      pub items-error : (e : Refusal) → m ≡ Err e → (x : Moved) → x ≡ Err e → ran x t ≡ r
      items-error e is x xe = ap (λ (y : Moved). ran y t) (xe ∙ sym is) ∙ items_refused g s from (n - k) i t at r inv some l m me e.number e.at is

      pub items-next : (st : Step) → m ≡ Ok st → items_into g s from (n - (k + 1)) (i + 1) (set t i st.value) st.next.at ≡ r
      items-next st is =
          let z : n - (k + 1) ≡ n - k - 1 = omega arith in
          rw z (items_more g s from (n - k) i t at r inv some l m me st.value st.next is)

-- `group_at`
module _ (g : Group) (s t : List ℕ) (from at least most : ℕ) (le : least ≡ least_count g) (mo : most ≡ most_count g) (m : Moved) (me : m ≡ count_move s least most at) where
  pub group-count : (k p : ℕ) → m ≡ Refused k p → ran m t ≡ group_into g s t from at
  unfolding group_into
  group-count k p e = simp (sym le, sym mo, sym me, e)

  pub group-items : (n : ℕ) (c : Cursor) → m ≡ To n c → (r : Moved) (u : List ℕ) → ran r u ≡ items_into g s from n from t c.at → ran r u ≡ group_into g s t from at
  unfolding group_into
  group-items n c e r u re = simp (sym le, sym mo, sym me, e) re

-- `groups_at`
module _ (one two : Group) (s t : List ℕ) (from at : ℕ) (m : Moved) (u : List ℕ) (me : ran m u ≡ group_into one s t from at) where
  pub groups-first : (k p : ℕ) → m ≡ Refused k p → both (Refused k p) u ≡ groups_into one two s t from at
  unfolding groups_into
  groups-first k p e = simp (sym me, e)

  module _ (v : ℕ) (c : Cursor) (e : m ≡ To v c) (m₂ : Moved) (x : List ℕ) (me₂ : ran m₂ x ≡ group_into two s u v c.at) where
    pub groups-second : (k p : ℕ) → m₂ ≡ Refused k p → both (Refused k p) x ≡ groups_into one two s t from at
    unfolding groups_into
    groups-second k p e₂ = simp (sym me, e, sym me₂, e₂)

    pub groups-ends : (w : ℕ) (d : Cursor) → m₂ ≡ To w d → both (Paired v w d) x ≡ groups_into one two s t from at
    unfolding groups_into
    groups-ends w d e₂ = simp (sym me, e, sym me₂, e₂)

-- `rest_at`
module _ (s t : List ℕ) (v w at : ℕ) (m : Groups) (u : List ℕ) (me : both m u ≡ groups_into Attributes Assertions s t w at) where
  pub rest-refused : (k p : ℕ) → m ≡ Refused k p → told (Refused k p) u ≡ rest_into s t v w at
  unfolding rest_into
  rest-refused k p e = simp (sym me, e)

  module _ (x y : ℕ) (c : Cursor) (e : m ≡ Paired x y c) where
    pub rest-left : c.at < length s → told (Refused 3 c.at) u ≡ rest_into s t v w at
    unfolding rest_into
    rest-left h = simp (sym me, e, lt-ltb _ _ h)

    pub rest-accepted : length s ≤ c.at → told (Accepted v w x y) u ≡ rest_into s t v w at
    unfolding rest_into
    rest-accepted h = simp (sym me, e, le-ltb _ _ h)

-- `record_at`
module _ (s t : List ℕ) where
  pub table-long : most_record < length s → told (Refused 1 0) t ≡ table_into s t
  unfolding table_into
  table-long h = simp (lt-ltb _ _ h)

  module _ (h : length s ≤ most_record) where
    pub table_empty : length s ≡ 0 → told (Refused 2 0) t ≡ table_into s t
    unfolding table_into
    table_empty z = simp (le-ltb _ _ h, eq-eqb _ _ z)

    module _ (nz : length s ≡ 0 → ⊥) where
      pub table-version : (get_or s 0 0 ≡ 1 → ⊥) → told (Refused 2 0) t ≡ table_into s t
      unfolding table_into
      table-version n = simp (le-ltb _ _ h, ne_eqb _ _ nz, ne_eqb _ _ n)

      module _ (one : get_or s 0 0 ≡ 1) (m : Groups) (u : List ℕ) (me : both m u ≡ groups_into Values Requesters s t 0 1) where
        pub table-refused : (k p : ℕ) → m ≡ Refused k p → told (Refused k p) u ≡ table_into s t
        unfolding table_into
        table-refused k p e = simp (le-ltb _ _ h, ne_eqb _ _ nz, eq-eqb _ _ one, sym me, e)

        pub table-rest : (v w : ℕ) (c : Cursor) → m ≡ Paired v w c → (r : Reading) (x : List ℕ) → told r x ≡ rest_into s u v w c.at → told r x ≡ table_into s t
        unfolding table_into
        table-rest v w c e r x re = simp (le-ltb _ _ h, ne_eqb _ _ nz, eq-eqb _ _ one, sym me, e) re
