-- Working definitions: the assertions of a query read one after the other, and the ways out of the functions that do it. Assumes nothing.
use Rattle.std.specs.Prelude.{◌≡◌, Bool, true, false, ℕ, suc, ◌+◌, ◌-◌, ◌<◌, ◌≤◌, length, get_or, drop, replicate, ltb, leb}
use Rattle.std.proofs.Common.{sym, ◌∙◌, arith, add-one, drop_of_length-le, drop-cons}
use mathlib.Core.List.{List, [], ◌∷◌}
use Rattle.std.proofs.Math.ListN.{get_or-eq_default}
use borrow.Author.Tests.{lt-ltb, le-ltb, lt-leb, le-leb, leb-true, leb-false}
use Rattle.limits.specs.Limits.{most_constants, most_named, most_entered, most_lengths}
use Rattle.text.specs.Choice.{pick, split}
use Rattle.text.specs.Counted.{counted}
use Rattle.assertion.specs.Working.Field.{given, tabled}
use Rattle.assertion.specs.Working.Reading.{Assessment, ReadInto, read_by, read_in}
use Rattle.system.specs.Working.Noting.{Noted, noted, note_in}
use Rattle.system.specs.declared.note.Ends.{Ends}

-- what stays as it is: the record, the places of its values and attributes, the highest rank, and where constants begin
pub record Fixed : Type 0 where
  pub bytes : List ℕ
  pub values : List ℕ
  pub names : List ℕ
  pub top : ℕ
  pub start : ℕ

abbrev pub fixed : List ℕ → List ℕ → List ℕ → ℕ → ℕ → Fixed
fixed bytes values names top start = record { bytes = bytes; values = values; names = names; top = top; start = start }

-- constants, identifiers and their places, and licensees' programs
pub record Store : Type 0 where
  pub consts : List ℕ
  pub pool : List ℕ
  pub places : List ℕ
  pub code : List ℕ

abbrev pub store : List ℕ → List ℕ → List ℕ → List ℕ → Store
store consts pool places code = record { consts = consts; pool = pool; places = places; code = code }

pub data One : Type 0 where
  one_by : Assessment → Store → One

abbrev pub one_of : ReadInto → One
one_of (read_by r x) = one_by r (store x.consts x.pool x.places x.code)

-- the assertion at a place, with entries for its constants
unfoldable pub one_in : Fixed → ℕ → Store → ℕ → ℕ → ℕ → One
one_in f at x count end size =
    one_of (read_in (given (counted f.bytes at) (get_or f.bytes (at - 3) 0) f.bytes f.values f.names f.start) f.top
    (tabled x.consts (replicate most_constants 0) x.pool x.places x.code) count end size)

-- the ends, the tables, the rows and the page
pub data Each : Type 0 where
  each_by : Ends → Store → List ℕ → List ℕ → List ℕ → List ℕ → Each

abbrev pub on_noted : Store → Noted → Each
on_noted x (noted e a c d page) = each_by e x a c d page

abbrev pub on_one : List ℕ → List ℕ → List ℕ → List ℕ → ℕ → Ends → One → Each
on_one a c d page i e (one_by r x) = on_noted x (note_in a c d page i e r)

-- is a table too small for one assertion more?
unfoldable pub full : ℕ → ℕ → ℕ → ℕ → ℕ → ℕ → ℕ → Bool
full consts start text pool end places count =
    pick (leb (start + most_lengths + text) consts) (pick (leb (end + most_entered) pool) (pick (leb (count + most_named) places) false true) true) true

abbrev pub full_at : Fixed → ℕ → Ends → Store → Bool
full_at f at e x = full (length x.consts) f.start (length (counted f.bytes at)) (length x.pool) e.index.end (length x.places) e.index.count

-- how far the reading went
pub data Went : Type 0 where
  went_by : ℕ → Each → Went

-- the assertions at those places, the first of which has the number i, while there is room
unfoldable pub each_from : Fixed → List ℕ → ℕ → Each → Went
each_from f [] i z = went_by i z
each_from f (p ∷ ps) i (each_by e x a c d page) =
    pick (full_at f p e x) (went_by i (each_by e x a c d page)) (each_from f ps (suc i) (on_one a c d page i e (one_in f p x e.index.count e.index.end e.size)))

-- `byte_at` and `standing_at`
pub byte_past : (s : List ℕ) (at : ℕ) → length s ≤ at → 0 ≡ get_or s at 0
byte_past s at h = sym (get_or-eq_default s 0 h)

pub standing-low : (s : List ℕ) (at r : ℕ) → at < 3 → r ≡ get_or s 0 0 → r ≡ get_or s (at - 3) 0
standing-low s at r h e = let z : at - 3 ≡ 0 = omega (arith, h) in e ∙ rw z

-- `read_one`
pub one-is : (bytes values names : List ℕ) (top start at : ℕ) (x : Store) (count end size : ℕ) (text : List ℕ) (standing : ℕ) (r : Assessment) (consts constants pool places code : List ℕ)
    → text ≡ counted bytes at → standing ≡ get_or bytes (at - 3) 0
    → read_by r (tabled consts constants pool places code)
    ≡ read_in (given text standing bytes values names start) top (tabled x.consts (replicate most_constants 0) x.pool x.places x.code) count end size
    → one_by r (store consts pool places code) ≡ one_in (fixed bytes values names top start) at x count end size
unfolding one_in
one-is bytes values names top start at x count end size text standing r consts constants pool places code te se e = rw (← te, ← se, ← e)

-- `is_full`
module _ (consts start text pool end places count : ℕ) where
  abbrev is : Bool
  is = full consts start text pool end places count

  no_text : consts < start + most_lengths + text → true ≡ is
  unfolding full
  no_text h = rw (lt-leb _ _ h)

  no-pool : pool < end + most_entered → true ≡ is
  unfolding full
  no-pool h = split (leb (start + most_lengths + text) consts) (λ e. rw (e, lt-leb _ _ h)) (λ e. rw e)

  pub full_start : consts < start → true ≡ is
  full_start h = no_text (omega (arith, h))

  pub full-lengths : start ≤ consts → consts - start < most_lengths → true ≡ is
  full-lengths h k = no_text (omega (arith, h, k))

  pub full-text : start ≤ consts → most_lengths ≤ consts - start → consts - start - most_lengths < text → true ≡ is
  full-text h k l = no_text (omega (arith, h, k, l))

  pub full-end : pool < end → true ≡ is
  full-end h = no-pool (omega (arith, h))

  pub full-pool : end ≤ pool → pool - end < most_entered → true ≡ is
  full-pool h k = no-pool (omega (arith, h, k))

  pub full-count : places < count → true ≡ is
  unfolding full
  full-count h =
      split (leb (start + most_lengths + text) consts)
      (λ e. split (leb (end + most_entered) pool) (λ f. rw (e, f, lt-leb (count + most_named) places (omega (arith, h)))) (λ f. rw (e, f))) (λ e. rw e)

  pub full-places : start ≤ consts → most_lengths ≤ consts - start → text ≤ consts - start - most_lengths → end ≤ pool → most_entered ≤ pool - end → count ≤ places → ltb (places - count) most_named ≡ is
  unfolding full
  full-places h k l m n o =
      rw (le-leb (start + most_lengths + text) consts (omega (arith, h, k, l)), le-leb (end + most_entered) pool (omega (arith, m, n)))
      (split (leb (count + most_named) places)
      (λ e. rw (e, le-ltb (places - count) most_named (omega (arith, leb-true (count + most_named) places e, o)))) (λ e. rw (e, lt-ltb (places - count) most_named (omega (arith, leb-false (count + most_named) places e, o)))))

-- `read_each`, with the invariant `each_from f (drop i ps) i .. ≡ z`
module _ (bytes values names : List ℕ) (top start : ℕ) (ps : List ℕ) (i : ℕ) (e : Ends) (x : Store) (a c d page : List ℕ) (z : Went)
    (inv : each_from (fixed bytes values names top start) (drop i ps) i (each_by e x a c d page) ≡ z) where
  abbrev f : Fixed
  f = fixed bytes values names top start

  pub each-end : length ps ≤ i → went_by i (each_by e x a c d page) ≡ z
  unfolding each_from
  each-end h = let w : each_from f [] i (each_by e x a c d page) ≡ z = rw (drop_of_length-le ps h) at inv in w

  module _ (h : i < length ps) (at : ℕ) (ate : at ≡ get_or ps i 0) (text : List ℕ) (te : text ≡ counted bytes at)
      (b : Bool) (be : b ≡ full (length x.consts) start (length text) (length x.pool) e.index.end (length x.places) e.index.count) where
    here : pick b (went_by i (each_by e x a c d page)) (each_from f (drop (suc i) ps) (suc i) (on_one a c d page i e (one_in f at x e.index.count e.index.end e.size))) ≡ z
    unfolding each_from
    here = rw (be, te, ate) (rw (drop-cons ps i 0 h) at inv)

    pub each-full : b ≡ true → went_by i (each_by e x a c d page) ≡ z
    each-full k = rw k at here

    module _ (k : b ≡ false) (r : Assessment) (y : Store) (re : one_by r y ≡ one_in f at x e.index.count e.index.end e.size) (u : Ends) (a' c' d' page' : List ℕ)
        (ne : noted u a' c' d' page' ≡ note_in a c d page i e r) where
      pub each_more : each_from f (drop (i + 1) ps) (i + 1) (each_by u y a' c' d' page') ≡ z
      each_more =
          let on : i + 1 ≡ suc i = add-one i in
          let w : each_from f (drop (suc i) ps) (suc i) (on_one a c d page i e (one_in f at x e.index.count e.index.end e.size)) ≡ z = rw k at here in
          rw on (rw (← re, ← ne) at w)
