-- What the index holds: the principals entered, in order. Assumes nothing.
use Rattle.std.specs.Prelude.{◌≡◌, true, false, eqb, take, drop, set}
use Rattle.std.proofs.Math.Path.{refl, ap}
use Rattle.std.proofs.Common.{sym, ◌∙◌, arith, add-one, take-append-drop, take-suc-set, take_at, take-take, length-take-le, get_or-take}
use mathlib.Core.List.{List, [], ◌∷◌, ◌++◌, map, append_assoc, append-nil, map-append}
use Prim.Native.Nat.{ℕ, zero, suc, ◌+◌, ◌%◌, ◌<◌, ◌≤◌}
use Rattle.std.proofs.Math.ListN.{length, get_or, length-append, length-set, get_or-map}
use Rattle.std.proofs.Math.Seq.{set-set, take-append_seam, map-set_same, get_or-set_same, get_or-set_other}
use borrow.Author.Tests.{le-ltb, le-leb, lt-leb, eqb-true, eqb-false}
use Rattle.text.specs.Choice.{split, clash}
use Rattle.text.specs.Copy.{put, copy_at}
use Rattle.text.specs.CopyLaws.{put-length}
use Rattle.text.specs.Counted.{counted}
use Rattle.record.specs.Encode.{string_bytes, items_bytes}
use Rattle.record.specs.Places.{string_size}
use Rattle.record.specs.Stands.{Stands, stands-left, stands-right, counted-at}
use Rattle.principal.specs.Principal.{Principal, same, same-sym, same-trans}
use Rattle.principal.specs.Members.{member, Distinct, d[], d∷, member-here, member-there, member-left}
use Rattle.principal.specs.Tag.{tag}
use Rattle.principal.specs.Places.{place}
use Rattle.principal.specs.Theorems.Added.{distinct-added}
use Rattle.index.specs.Index.{Holds}
use Rattle.index.specs.Tree.{Reaches, Tree, Ends, ends_low, tree-first, tree-fewer, tree-more}
use Rattle.index.specs.Entry.{packed, plain, identifier_at, is_at, linked, entries_from, plain_at_lem, plain-name, plain-none, at_tag, linked-plain, packed-place, packed-tag, packed-plain, packed-is}
use Rattle.index.specs.EnterLaws.{place_same, place-below}
use Rattle.index.specs.Working.Walking.{walked, walk-found, Stops, walk-stops, found}
use Rattle.index.specs.Working.Adding.{counted_into, append_into, principal_into}
use Rattle.index.specs.Working.Entering.{numbered, link_into, enter_new, on_walked, enter_in, known}

string-length : (id : List ℕ) → length (string_bytes id) ≡ 2 + length id
unfolding string_bytes
string-length id = omega arith

-- principals that lie one behind the other are what their entries are of
module _ (pool : List ℕ) where
  lies-on : (b : Principal) (l : List Principal) (at p : ℕ) → Stands pool at (items_bytes string_bytes (b ∷ l)) p → Stands pool (at + (2 + length b)) (items_bytes string_bytes l) p
  unfolding items_bytes
  lies-on b l at p st =
      let e : at + length (string_bytes b) ≡ at + (2 + length b) = ap (λ (n : ℕ). at + n) (string-length b) in
      rw e at (stands-right (string_bytes b) (items_bytes string_bytes l) st)

  lies_at : (b : Principal) (l : List Principal) (at p : ℕ) → Stands pool at (items_bytes string_bytes (b ∷ l)) p → counted pool (at + 2) ≡ b
  unfolding items_bytes
  lies_at b l at p st = counted-at b (stands-left (string_bytes b) (items_bytes string_bytes l) st)

  lies-near : (b : Principal) (l : List Principal) (at p : ℕ) → Stands pool at (items_bytes string_bytes (b ∷ l)) p → at + 2 ≤ p
  unfolding items_bytes
  lies-near b l at p st = omega (arith, st.behind, length-append (string_bytes b) (items_bytes string_bytes l), string-length b)

  entry_at : (id : Principal) (l : List Principal) (at p : ℕ) → p < 1048576 → Stands pool at (items_bytes string_bytes l) p → (j : ℕ) → j < length l
      → is_at pool id (get_or (entries_from at l) j 0) ≡ same id (get_or l j [])
  unfolding entries_from string_size
  entry_at id [] at p n st j h = let no : ⊥ = omega (arith, h) in absurd no
  entry_at id (b ∷ l) at p n st zero h = packed-is (at + 2) (omega (arith, n, lies-near b l at p st)) b pool id (lies_at b l at p st)
  entry_at id (b ∷ l) at p n st (suc j) h = entry_at id l (at + (2 + length b)) p n (lies-on b l at p st) j (omega (arith, h))

  names_at : (l : List Principal) (at p : ℕ) → p < 1048576 → Stands pool at (items_bytes string_bytes l) p → map (identifier_at pool) (entries_from at l) ≡ l
  unfolding entries_from identifier_at string_size
  names_at [] at p n st = refl
  names_at (b ∷ l) at p n st =
      rw (packed-place (at + 2) (omega (arith, n, lies-near b l at p st)) b, lies_at b l at p st, names_at l (at + (2 + length b)) p n (lies-on b l at p st))

  plain-names : (es : List ℕ) → map (identifier_at pool) (map plain es) ≡ map (identifier_at pool) es
  plain-names [] = refl
  plain-names (e ∷ es) = rw (plain-name pool e, plain-names es)

member-at : (p : Principal) (l : List Principal) (j : ℕ) → j < length l → same p (get_or l j []) ≡ true → member p l ≡ true
member-at p [] j h e = let no : ⊥ = omega (arith, h) in absurd no
member-at p (q ∷ l) zero h e = member-here p q l e
member-at p (q ∷ l) (suc j) h e = member-there p q l (member-at p l j (omega (arith, h)) e)

-- of principals each once, one at most is the same as p
distinct-one : {l : List Principal} → Distinct l → (p : Principal) (i j : ℕ) → i < length l → j < length l
    → same p (get_or l i []) ≡ true → same p (get_or l j []) ≡ true → i ≡ j
distinct-one d[] p i j h k e f = let no : ⊥ = omega (arith, h) in absurd no
distinct-one (d∷ {p = q} {l = l} n d) p zero zero h k e f = refl
distinct-one (d∷ {p = q} {l = l} n d) p zero (suc j) h k e f = clash (member-at q l j (omega (arith, k)) (same-trans q p (get_or l j []) (same-sym p q e) f)) n
distinct-one (d∷ {p = q} {l = l} n d) p (suc i) zero h k e f = clash (member-at q l i (omega (arith, h)) (same-trans q p (get_or l i []) (same-sym p q f) e)) n
distinct-one (d∷ {p = q} {l = l} n d) p (suc i) (suc j) h k e f = ap suc (distinct-one d p i j (omega (arith, h)) (omega (arith, k)) e f)

distinct-front : (l m : List Principal) → Distinct (l ++ m) → Distinct l
distinct-front [] m d = d[]
distinct-front (p ∷ l) m (d∷ n d) = d∷ (split (member p l) (λ y. clash (member-left p l m y) n) (λ y. y)) (distinct-front l m d)

module _ {pool places : List ℕ} {count end : ℕ} {names : List Principal} (holds : Holds pool places count end names) where
  stands : Stands pool 0 (items_bytes string_bytes names) end
  stands = record {
    behind = omega (arith, holds.ends);
    here = sym (take-append-drop end pool) ∙ ap (λ (x : List ℕ). x ++ drop end pool) holds.bytes;
    inside = holds.in_pool;
  }

  -- an entry is of the principal with its number
  entry-is : (id : Principal) (j : ℕ) → j < count → is_at pool id (get_or places j 0) ≡ same id (get_or names j [])
  entry-is id j h =
      let g : plain (get_or places j 0) ≡ get_or (entries_from 0 names) j 0
      = ap plain (sym (get_or-take count places j 0 h)) ∙ sym (get_or-map plain (take count places) j 0) ∙ rw (holds.entries, plain-none) in
      sym (plain_at_lem pool id (get_or places j 0)) ∙ rw g (entry_at pool id names 0 end holds.near stands j (omega (arith, h, holds.counted)))

  -- a principal that is there is found at its place among the names
  pub walk-known : (id : Principal) → member id names ≡ true → walked pool places count id count 0 (tag id) ≡ found (place names id)
  walk-known id m =
      let j = place names id in
      let l : place names id < count = omega (arith, place-below names id m, holds.counted) in
      let here : is_at pool id (get_or places (place names id) 0) ≡ true = entry-is id (place names id) l ∙ place_same names id [] m in
      let r : Reaches places 0 (get_or places (place names id) 0 % 1048576) (place names id) = holds.tree.reached (place names id) l in
      let t : get_or places (place names id) 0 % 1048576 ≡ tag id = at_tag pool id (get_or places (place names id) 0) here in
      walk-found pool places count id holds.in_table (rw t at r) count (omega arith) l here
      (λ a b y. distinct-one holds.distinct id a (place names id) (omega (arith, b, holds.counted)) (place-below names id m) (sym (entry-is id a b) ∙ y) (place_same names id [] m))

  -- for one that isn't, the search ends where it is to follow
  pub walk-unknown : (id : Principal) → member id names ≡ false → 0 < count → Stops pool places count id holds.in_table count 0 (tag id)
  walk-unknown id m some =
      walk-stops pool places count id holds.in_table
      (λ a h. split (is_at pool id (get_or places a 0))
      (λ y. clash (member-at id names a (omega (arith, h, holds.counted)) (sym (entry-is id a h) ∙ y)) m) (λ y. y))
      count 0 (tag id) some (omega arith)

  pub names-are : map (identifier_at pool) (take count places) ≡ names
  names-are = sym (plain-names pool (take count places)) ∙ rw holds.entries (names_at pool names 0 end holds.near stands)

map-take : (f : ℕ → ℕ) (n : ℕ) (l : List ℕ) → map f (take n l) ≡ take n (map f l)
map-take f zero l = refl
map-take f (suc n) [] = refl
map-take f (suc n) (x ∷ l) = rw (map-take f n l)

items-snoc : (l : List Principal) (id : Principal) → items_bytes string_bytes (l ++ (id ∷ [])) ≡ items_bytes string_bytes l ++ string_bytes id
unfolding items_bytes
items-snoc [] id = append-nil (string_bytes id)
items-snoc (b ∷ l) id = rw (items-snoc l id) (sym (append_assoc (string_bytes b) (items_bytes string_bytes l) (string_bytes id)))

entries-snoc : (l : List Principal) (id : Principal) (at : ℕ)
    → entries_from at (l ++ (id ∷ [])) ≡ entries_from at l ++ (packed (at + length (items_bytes string_bytes l) + 2) (tag id) ∷ [])
unfolding entries_from items_bytes string_size
entries-snoc [] id at = let z : at + 2 ≡ at + 0 + 2 = omega arith in rw z
entries-snoc (b ∷ l) id at =
    let z : at + (2 + length b) + length (items_bytes string_bytes l) + 2 ≡ at + length (string_bytes b ++ items_bytes string_bytes l) + 2
    = omega (arith, length-append (string_bytes b) (items_bytes string_bytes l), string-length b) in
    rw (entries-snoc l id (at + (2 + length b)), z)

front-put : (pool : List ℕ) (at : ℕ) (x : List ℕ) → at ≤ length pool → take (at + length x) (put pool at x) ≡ take at pool ++ x
unfolding put
front-put pool at x h =
    take_at (take at pool ++ x) (drop (at + length x) pool) (at + length x) (length-append (take at pool) x ∙ ap (λ (n : ℕ). n + length x) (length-take-le at pool h))

module _ {pool places : List ℕ} {count end : ℕ} {names : List Principal} (holds : Holds pool places count end names) (id : Principal) (absent : member id names ≡ false)
    (short : length id ≤ 65535) (near : end + 2 + length id < 1048576) (few : count < 4096) (room : count < length places) (fits : end + 2 + length id ≤ length pool) where
  abbrev fresh : ℕ
  fresh = packed (end + 2) (tag id)

  abbrev after : ℕ → ℕ → List ℕ
  after last rest = link_into (set places count fresh) last rest count

  -- where there is room, an identifier is entered behind the others
  add-gives : (last rest : ℕ) → enter_new pool places count end id last rest
      ≡ numbered (known (count + 1) count (end + 2 + length id)) (put pool end (string_bytes id)) (after last rest)
  unfolding enter_new principal_into append_into counted_into copy_at
  add-gives last rest =
      rw (
        lt-leb 4096 count few,
        lt-leb 1048574 end (omega (arith, near)),
        lt-leb (length places) count room,
        le-ltb 65535 (length id) short,
        le-leb (end + length (string_bytes id)) (length pool) (omega (arith, string-length id)),
        set-set places count (end + 2) fresh,
      )

  module _ (last rest : ℕ) where
    after-plain : map plain (after last rest) ≡ map plain (set places count fresh)
    unfolding link_into
    after-plain = map-set_same plain (set places count fresh) last (linked (get_or (set places count fresh) last 0) rest count) 0 (linked-plain (get_or (set places count fresh) last 0) rest count few)

    after-long : length (after last rest) ≡ length places
    unfolding link_into
    after-long = length-set (set places count fresh) last _ ∙ length-set places count fresh

    after-entries : map plain (take (count + 1) (after last rest)) ≡ entries_from 0 (names ++ (id ∷ []))
    after-entries =
        let z : end + 2 ≡ 0 + length (items_bytes string_bytes names) + 2 = omega (arith, holds.ends) in
        map-take plain (count + 1) (after last rest) ∙ ap (take (count + 1)) after-plain ∙ sym (map-take plain (count + 1) (set places count fresh))
        ∙ rw (add-one count, take-suc-set places count fresh room, map-append plain (take count places) (fresh ∷ []), holds.entries, packed-plain (end + 2) (omega (arith, near)) id)
        (rw z (sym (entries-snoc names id 0)))

    -- the new entry is a leaf of the tree
    after-tree : Ends places count 0 (tag id) last rest → 0 < count → Tree (after last rest) (count + 1)
    unfolding link_into
    after-tree ends some =
        let low : last < count = ends_low ends some in
        let old : (i : ℕ) → i < count → get_or (set places count fresh) i 0 ≡ get_or places i 0
        = λ i h. get_or-set_other places count i fresh 0 (λ e. let no : ⊥ = omega (arith, e, h) in no) in
        let inside : last < length (set places count fresh) = omega (arith, low, room, length-set places count fresh) in
        tree-more places (after last rest) count last rest (tag id) fresh holds.tree ends some few
        (λ i h n. get_or-set_other (set places count fresh) last i (linked (get_or (set places count fresh) last 0) rest count) 0 n ∙ old i h)
        (get_or-set_same (set places count fresh) last (linked (get_or (set places count fresh) last 0) rest count) 0 inside ∙ ap (λ (x : ℕ). linked x rest count) (old last low))
        (get_or-set_other (set places count fresh) last count (linked (get_or (set places count fresh) last 0) rest count) 0 (λ e. let no : ⊥ = omega (arith, e, low) in no)
        ∙ get_or-set_same places count fresh 0 room)
        (packed-tag (end + 2) (omega (arith, near)) id)

    after_holds : Tree (after last rest) (count + 1) → Holds (put pool end (string_bytes id)) (after last rest) (count + 1) (end + 2 + length id) (names ++ (id ∷ []))
    after_holds t =
        let e : end + 2 + length id ≡ end + length (string_bytes id) = omega (arith, string-length id) in
        let l : length (put pool end (string_bytes id)) ≡ length pool = put-length pool end (string_bytes id) (omega (arith, string-length id)) in
        record {
          bytes = rw (e, front-put pool end (string_bytes id) holds.in_pool, holds.bytes) (sym (items-snoc names id));
          entries = after-entries;
          tree = t;
          distinct = distinct-added holds.distinct id absent;
          counted = omega (arith, holds.counted, length-append names (id ∷ []));
          ends = rw (items-snoc names id) (omega (arith, holds.ends, length-append (items_bytes string_bytes names) (string_bytes id), string-length id));
          in_pool = omega (arith, fits, l);
          in_table = omega (arith, room, after-long);
          near = near;
        }

  -- a principal that isn't there is entered behind the others
  pub record Fresh : Type 0 where
    pub table : List ℕ
    pub gives : enter_in pool places count end id ≡ numbered (known (count + 1) count (end + 2 + length id)) (put pool end (string_bytes id)) table
    pub held : Holds (put pool end (string_bytes id)) table (count + 1) (end + 2 + length id) (names ++ (id ∷ []))
    pub long : length table ≡ length places

  first : count ≡ 0 → Fresh
  unfolding enter_in walked
  first z = record {
    table = after 0 (tag id);
    gives = rw (ap (λ (n : ℕ). on_walked pool places count end id (walked pool places count id n 0 (tag id))) z) (add-gives 0 (tag id));
    held = after_holds 0 (tag id) (let t : Tree (after 0 (tag id)) 1 = tree-first (after 0 (tag id)) in let w : count + 1 ≡ 1 = omega (arith, z) in rw w t);
    long = after-long 0 (tag id);
  }

  later : 0 < count → Fresh
  unfolding enter_in
  later some =
      let s = walk-unknown holds id absent some in
      record {
        table = after s.last s.rest;
        gives = rw s.gives (add-gives s.last s.rest);
        held = after_holds s.last s.rest (after-tree s.last s.rest s.ends some);
        long = after-long s.last s.rest;
      }

  pub fresh-entered : Fresh
  fresh-entered = split (eqb count 0) (λ e. first (eqb-true count 0 e)) (λ e. later (some-count (eqb-false count 0 e)))
    where
      some-count : (count ≡ 0 → ⊥) → 0 < count
      some-count f = omega (arith, f)

items-append : (l m : List Principal) → items_bytes string_bytes (l ++ m) ≡ items_bytes string_bytes l ++ items_bytes string_bytes m
unfolding items_bytes
items-append [] m = refl
items-append (b ∷ l) m = rw (items-append l m) (sym (append_assoc (string_bytes b) (items_bytes string_bytes l) (items_bytes string_bytes m)))

-- the entries of the first principals are the first entries
entries-front : (l m : List Principal) (at : ℕ) → take (length l) (entries_from at (l ++ m)) ≡ entries_from at l
unfolding entries_from
entries-front [] m at = refl
entries-front (b ∷ l) m at = ap (λ (x : List ℕ). packed (at + 2) (tag b) ∷ x) (entries-front l m (at + string_size b))

-- an index of more principals holds each front of them
pub holds-front : {pool places : List ℕ} {count end : ℕ} (names more : List Principal) → Holds pool places count end (names ++ more)
    → Holds pool places (length names) (length (items_bytes string_bytes names)) names
holds-front {pool} {places} {count} {end} names more holds =
    let l : length (names ++ more) ≡ length names + length more = length-append names more in
    let b : length (items_bytes string_bytes (names ++ more)) ≡ length (items_bytes string_bytes names) + length (items_bytes string_bytes more)
    = ap length (items-append names more) ∙ length-append (items_bytes string_bytes names) (items_bytes string_bytes more) in
    record {
      bytes =
          sym (take-take (length (items_bytes string_bytes names)) end pool (omega (arith, holds.ends)))
          ∙ ap (take (length (items_bytes string_bytes names))) (holds.bytes ∙ items-append names more)
          ∙ take-append_seam (items_bytes string_bytes names) (items_bytes string_bytes more);
      entries =
          ap (map plain) (sym (take-take (length names) count places (omega (arith, holds.counted)))) ∙ map-take plain (length names) (take count places)
          ∙ ap (take (length names)) holds.entries ∙ entries-front names more 0;
      tree = tree-fewer holds.tree (omega (arith, holds.counted));
      distinct = distinct-front names more holds.distinct;
      counted = refl;
      ends = refl;
      in_pool = omega (arith, holds.ends, holds.in_pool);
      in_table = omega (arith, holds.counted, holds.in_table);
      near = omega (arith, holds.ends, holds.near);
    }
