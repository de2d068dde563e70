-- One assertion more: the tables, the index and the page after it. Assumes nothing.
use Rattle.std.specs.Prelude.{◌≡◌, refl, true, ℕ, suc, ◌+◌, ◌*◌, ◌%◌, ◌≤◌, ◌<◌, take, drop, set, replicate}
use Rattle.std.proofs.Common.{sym, ◌∙◌, subst, arith, add-one, length-set, take-suc-set, length-take-le}
use mathlib.Core.List.{List, [], ◌∷◌, ◌++◌, map, Memᴰ as Mem}
use Rattle.std.proofs.Math.ListN.{length}
use Rattle.std.proofs.Math.Seq.{append_snoc}
use Rattle.std.proofs.lemmas.Bool.{lt-leb}
use Rattle.limits.specs.Limits.{most_assertions, most_licensees, most_constants, most_asking, most_named, most_counted, most_code}
use Rattle.text.specs.Join.{joined}
use Rattle.record.specs.Query.{Query}
use Rattle.record.specs.Encode.{string_bytes}
use Rattle.principal.specs.Principal.{Principal}
use Rattle.principal.specs.Members.{member}
use Rattle.compliance.specs.System.{Assertion}
use Rattle.compliance.specs.Licensees.{Expression, licensees}
use Rattle.compliance.specs.Licensees.{given as stating}
use Rattle.principal.specs.Places.{place}
use Rattle.compliance.specs.Tables.{compiled, Formed}
use Rattle.index.specs.Index.{enter_all, Holds}
use Rattle.index.specs.EnterLaws.{place-below}
use Rattle.expression.specs.Conditions.{top}
use Rattle.assertion.specs.Assertion.{Assertion as Said, Conditions, absent, stated}
use Rattle.assertion.specs.Read.{Read, kept, dropped}
use Rattle.assertion.specs.Working.Field.{Given, Tables, tabled}
use Rattle.assertion.specs.Working.Reading.{ReadInto}
use Rattle.assertion.specs.Theorems.Ready.{After, ReadAs, as_dropped, as-kept}
use Rattle.assertion.specs.Theorems.Ready.{worth as rank_of}
use Rattle.assertion.specs.Theorems.Left.{enter-all-length, First, first_more}
use Rattle.system.specs.Working.Noting.{entry_into, rowed, row_into, ends_at, note_in}
use Rattle.system.specs.Working.Each.{Store, store, one_of, Each, each_by, on_one}
use Rattle.system.specs.Working.Sizes.{Size}
use Rattle.system.specs.declared.note.Ends.{Ends}
use Rattle.syntax.specs.Working.Faults.{against}
use Rattle.naming.specs.Working.Faults.{clear_at}
use Rattle.index.specs.Working.Adding.{index_of}
use Rattle.keynote.specs.Answer.{worth, ranked, kept_of}
use Rattle.keynote.specs.Report.{reason_of, place_of, entry_bytes}
use Rattle.keynote.specs.Theorems.PlacesAssertion.{Small}
use Rattle.system.specs.Theorems.Stocked.{Stock, stock-all, stock-row}
use Rattle.keynote.specs.Theorems.Paged.{front_long, entry-is}

-- after i assertions: the kept ones l stand in the tables, which have so many rows
pub record Made (size : Size) (room : ℕ) (q : Query) (start : ℕ) (direct : List ℕ) (l : List Assertion) (i : ℕ) (e : Ends) (x : Store) (a c d : List ℕ) : Type 0 where
  pub names : List Principal
  pub holds : Holds x.pool x.places e.index.count e.index.end names
  pub stock : Stock size.places q.requesters (top q.values) direct (take e.kept a) (take e.kept c) (take e.kept d) (take e.size x.code) l names
  pub tight : e.index.end ≤ most_counted * e.index.count
  pub first : First names
  pub few : e.index.count ≤ most_asking + most_named * i
  pub low : e.size ≤ most_code * i
  pub rows : e.kept ≤ i
  pub authors-long : length a ≡ room
  pub conds-long : length c ≡ room
  pub ends-long : length d ≡ room
  pub consts-long : length x.consts ≡ size.consts
  pub pool-long : length x.pool ≡ size.pool
  pub places-long : length x.places ≡ size.places
  pub code-long : length x.code ≡ room * most_code
  pub begun : take start x.consts ≡ string_bytes (joined q.values) ++ string_bytes (joined q.requesters)

-- and on the page the entries stand in front of what was there
pub data Reached (size : Size) (room : ℕ) (q : Query) (start : ℕ) (direct sheet : List ℕ) (l : List Assertion) (i : ℕ) (front : List ℕ) : Each → Type 0 where
  reached : (e : Ends) (x : Store) (a c d page : List ℕ) → Made size room q start direct l i e x a c d → length front ≡ 3 + 3 * i → page ≡ front ++ drop (3 + 3 * i) sheet
      → Reached size room q start direct sheet l i front (each_by e x a c d page)

-- the kept assertions with one more, unless it is dropped
unfoldable pub joining : Query → List Assertion → Read → List Assertion
joining q l (kept a) = l ++ (ranked q a ∷ [])
joining q l (dropped r p) = l

pub joining-is : (q : Query) (l : List Assertion) (r : Read) (m : List Read) → joining q l r ++ map (ranked q) (kept_of m) ≡ l ++ map (ranked q) (kept_of (r ∷ m))
unfolding joining kept_of
joining-is q l (kept a) m = append_snoc l (ranked q a) (map (ranked q) (kept_of m))
joining-is q l (dropped r p) m = refl

-- the rank that the tables hold is the meaning's
worth-same : (t : ℕ) (q : Query) (c : Conditions) → t ≡ top q.values → rank_of t q c ≡ worth q c
unfolding rank_of worth
worth-same t q absent e = e
worth-same t q (stated cs p) e = refl

row_in : (a c d : List ℕ) (k author rank size room : ℕ) → length a ≡ room → length c ≡ room → length d ≡ room → k < room
    → row_into a c d k author rank size ≡ rowed (k + 1) (set a k (author % 65536)) (set c k rank) (set d k (size % 65536))
unfolding row_into
row_in a c d k author rank size room ae ce de h =
    rw (lt-leb (length a) k (omega (arith, ae, h)), lt-leb (length c) k (omega (arith, ce, h)), lt-leb (length d) k (omega (arith, de, h)))

-- a table's front with one entry more
front-set : (l : List ℕ) (k v w : ℕ) → k < length l → v ≡ w → take (k + 1) (set l k v) ≡ take k l ++ (w ∷ [])
front-set l k v w h e = rw (add-one k, e) (take-suc-set l k w h)

-- the tables before an assertion, and what is stored of those after it
abbrev pub before : Store → Tables
before x = tabled x.consts (replicate most_constants 0) x.pool x.places x.code

abbrev stored : Tables → Store
stored y = store y.consts y.pool y.places y.code

module _ {size : Size} {room : ℕ} {q : Query} {start : ℕ} {direct : List ℕ} {l : List Assertion} {i : ℕ} {e : Ends} {x : Store} {a c d : List ℕ} (made : Made size room q start direct l i e x a c d)
    (more : i < room) (all : room ≤ most_assertions) (wide : e.index.count + most_named ≤ size.places) (g : Given) (ge : g.start ≡ start) where
  begun-after : (y : Tables) → After g (before x) y → take start y.consts ≡ string_bytes (joined q.values) ++ string_bytes (joined q.requesters)
  begun-after y after = subst (λ (n : ℕ). take n y.consts ≡ take n x.consts) ge after.begun ∙ made.begun

  -- an assertion that is dropped
  made-dropped : (y : Tables) → After g (before x) y → Holds y.pool y.places e.index.count e.index.end made.names → take e.size y.code ≡ take e.size x.code
      → Made size room q start direct l (suc i) e (stored y) a c d
  made-dropped y after holds code = record {
    names = made.names;
    holds = holds;
    stock = subst (λ (m : List ℕ). Stock size.places q.requesters (top q.values) direct (take e.kept a) (take e.kept c) (take e.kept d) m l made.names) (sym code) made.stock;
    tight = made.tight;
    first = made.first;
    few = omega (arith, made.few);
    low = omega (arith, made.low);
    rows = omega (arith, made.rows);
    authors-long = made.authors-long;
    conds-long = made.conds-long;
    ends-long = made.ends-long;
    consts-long = after.consts ∙ made.consts-long;
    pool-long = after.pool ∙ made.pool-long;
    places-long = after.places ∙ made.places-long;
    code-long = after.code ∙ made.code-long;
    begun = begun-after y after;
  }

  size-front : length (take e.size x.code) ≡ e.size
  size-front = length-take-le e.size x.code (omega (arith, made.low, more, made.code-long))

  rows-front : length (take e.kept a) < most_assertions
  rows-front =
      let n : length (take e.kept a) ≡ e.kept = length-take-le e.kept a (omega (arith, made.rows, more, made.authors-long)) in
      omega (arith, n, made.rows, more, all)

  -- one that is kept
  module _ (s : Said) (ps : List Principal) (u k n m z : ℕ) (y : Tables) (after : After g (before x) y) (few : length ps ≤ most_named)
      (holds : Holds y.pool y.places n m (enter_all made.names ps)) (tight : m ≤ most_counted * n)
      (ue : u ≡ place (enter_all made.names ps) s.authorizer) (known : member s.authorizer (enter_all made.names ps) ≡ true)
      (named : (p : Principal) → Mem p (licensees s.licensees) → member p (enter_all made.names ps) ≡ true)
      (formed : (f : Expression) → s.licensees ≡ stating f → Formed f) (sixteen : length (licensees s.licensees) ≤ most_licensees)
      (wrote : take z y.code ≡ take e.size x.code ++ compiled (enter_all made.names ps) s.licensees)
      (ends : z ≡ e.size + length (compiled (enter_all made.names ps) s.licensees)) (most : z ≤ e.size + most_code) (ke : k ≡ worth q s.conditions) where
    counts : length (enter_all made.names ps) ≤ most_asking + most_named * suc i
    counts = omega (arith, enter-all-length made.names ps, few, made.few, made.holds.counted)

    low-author : u % 65536 ≡ place (enter_all made.names ps) s.authorizer
    low-author =
        let b : place (enter_all made.names ps) s.authorizer < length (enter_all made.names ps) = place-below (enter_all made.names ps) s.authorizer known in
        omega (arith, ue, b, counts, more, all)

    low_end : z % 65536 ≡ length (take e.size x.code) + length (compiled (enter_all made.names ps) s.licensees)
    low_end =
        let w : z % 65536 ≡ z = omega (arith, most, made.low, more, all) in
        omega (arith, w, ends, size-front)

    stocked : Stock size.places q.requesters (top q.values) direct (take e.kept a) (take e.kept c) (take e.kept d) (take e.size x.code) l (enter_all made.names ps)
    stocked = stock-all made.names ps (omega (arith, few, made.few, made.holds.counted, more, all)) (omega (arith, few, wide, made.holds.counted)) made.stock

    kept-stock : Stock size.places q.requesters (top q.values) direct (take (e.kept + 1) (set a e.kept (u % 65536))) (take (e.kept + 1) (set c e.kept k))
        (take (e.kept + 1) (set d e.kept (z % 65536))) (take z y.code) (l ++ (ranked q s ∷ [])) (enter_all made.names ps)
    unfolding ranked
    kept-stock =
        stock-row stocked (ranked q s) known named formed sixteen rows-front
        (take (e.kept + 1) (set a e.kept (u % 65536))) (take (e.kept + 1) (set c e.kept k)) (take (e.kept + 1) (set d e.kept (z % 65536))) (take z y.code)
        (front-set a e.kept (u % 65536) (place (enter_all made.names ps) s.authorizer) (omega (arith, made.rows, more, made.authors-long)) low-author)
        (front-set c e.kept k (worth q s.conditions) (omega (arith, made.rows, more, made.conds-long)) ke)
        (front-set d e.kept (z % 65536) (length (take e.size x.code) + length (compiled (enter_all made.names ps) s.licensees))
        (omega (arith, made.rows, more, made.ends-long)) low_end)
        wrote

    made_kept : Made size room q start direct (l ++ (ranked q s ∷ [])) (suc i) (ends_at (index_of n m) z (e.kept + 1)) (stored y) (set a e.kept (u % 65536)) (set c e.kept k) (set d e.kept (z % 65536))
    made_kept = record {
      names = enter_all made.names ps;
      holds = holds;
      stock = kept-stock;
      tight = tight;
      first = first_more made.names ps made.first;
      few = omega (arith, holds.counted, counts);
      low = omega (arith, most, made.low);
      rows = omega (arith, made.rows);
      authors-long = length-set a e.kept (u % 65536) ∙ made.authors-long;
      conds-long = length-set c e.kept k ∙ made.conds-long;
      ends-long = length-set d e.kept (z % 65536) ∙ made.ends-long;
      consts-long = after.consts ∙ made.consts-long;
      pool-long = after.pool ∙ made.pool-long;
      places-long = after.places ∙ made.places-long;
      code-long = after.code ∙ made.code-long;
      begun = begun-after y after;
    }

  -- what was read of it is noted: its row where it is kept, and its entry
  pub noted-made : (t : ℕ) → t ≡ top q.values → (front sheet page : List ℕ) → length front ≡ 3 + 3 * i → page ≡ front ++ drop (3 + 3 * i) sheet → 3 * i + 6 ≤ length sheet
      → (r : Read) (w : ReadInto) → Small r → ReadAs q g t (before x) made.names e.index.count e.index.end e.size r w
      → Reached size room q start direct sheet (joining q l r) (suc i) (front ++ entry_bytes r) (on_one a c d page i e (one_of w))
  unfolding note_in joining reason_of place_of
  noted-made t te front sheet page fe pe fits _ _ small (as_dropped r p y some after holds code) =
      reached e (stored y) a c d (entry_into page i (against r p)) (made-dropped y after holds code) (front_long front i (dropped r p) fe)
      (rw pe (entry-is front sheet i (dropped r p) fe fits small))
  noted-made t te front sheet page fe pe fits _ _ small (as-kept s ps u k n m z y after few holds tight ue known named formed sixteen wrote ends most ke) =
      rw (row_in a c d e.kept u k z room made.authors-long made.conds-long made.ends-long (omega (arith, made.rows, more)))
      (reached (ends_at (index_of n m) z (e.kept + 1)) (stored y) (set a e.kept (u % 65536)) (set c e.kept k) (set d e.kept (z % 65536)) (entry_into page i clear_at)
      (made_kept s ps u k n m z y after few holds tight ue known named formed sixteen wrote ends most (ke ∙ worth-same t q s.conditions te)) (front_long front i (kept s) fe)
      (rw pe (entry-is front sheet i (kept s) fe fits small)))
