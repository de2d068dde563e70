-- Working laws: the ways out of `copy_entries` and `read`. Assumes nothing.
use Rattle.std.specs.Prelude.{◌≡◌, List, ℕ, ◌+◌, ◌≤◌, take, replicate}
use Rattle.std.proofs.Math.Path.{sym}
use Rattle.std.proofs.Common.{ap, ◌∙◌}
use native.Mathlib.Omega.{arith}
use Rattle.std.proofs.Math.ListN.{length}
use Rattle.text.specs.Copy.{put}
use Rattle.text.specs.CopyLaws.{put-length}
use Rattle.limits.specs.Limits.{most_items}
use Rattle.record.specs.Record.{read_record}
use Rattle.record.specs.Places.{places}
use Rattle.record.specs.Reading.{Reading, Accepted, accepted-last, told, group_ends, leaves, read_into, tabled, tabled_verdict}
use Rattle.record.specs.Working.Groups.{table_into}
use Rattle.record.proofs.Working.Tables.{table-tie}
use Rattle.record.specs.Refusal.{Refused}
use Rattle.record.specs.Working.Entry.{Took, accepted-of, all-places, empty, front_of, refused-of, room}

module _ (s table : List ℕ) (m : Reading) (u : List ℕ) (me : told m u ≡ table_into s (replicate most_items 0)) where
  from_empty : told m u ≡ table_into s empty
  unfolding empty
  from_empty = me

  pub read-refused : (k p : ℕ) → m ≡ Refused k p → told m table ≡ read_into s table
  unfolding read_into leaves
  read-refused k p e = rw (e, refused-of (table-tie s empty room) m u from_empty k p e)

  pub tabled-refused : (k p : ℕ) → m ≡ Refused k p → tabled m ≡ tabled_verdict (read_record s)
  unfolding tabled tabled_verdict
  tabled-refused k p e = rw (e, refused-of (table-tie s empty room) m u from_empty k p e)

  module _ (v r a c : ℕ) (e : m ≡ Accepted v r a c) where
    took : Took empty (read_record s) u v r a c
    took = accepted-of (table-tie s empty room) m u from_empty v r a c e

    count-is : c ≡ length (places took.query)
    unfolding group_ends
    count-is =
        let f : Accepted v r a c ≡ group_ends took.query = took.ends in
        let g : c ≡ length took.query.values + length took.query.requesters + length took.query.attributes + length took.query.assertions
        = accepted-last v r a c (length took.query.values) (length took.query.values + length took.query.requesters)
        (length took.query.values + length took.query.requesters + length took.query.attributes)
        (length took.query.values + length took.query.requesters + length took.query.attributes + length took.query.assertions) f in
        g ∙ sym (all-places took.query)

    pub read-few : c ≤ most_items
    read-few = omega (arith, count-is, took.few)

    pub read_table : (x : List ℕ) → length x ≡ most_items → c ≤ length x
    read_table x h = omega (arith, read-few)

    pub read_found : c ≤ length u
    read_found =
        let l : length u ≡ length empty = ap length took.holds ∙ put-length empty 0 (places took.query) (omega (arith, took.few, room)) in
        omega (arith, read-few, room)

    front-is : take c u ≡ places took.query
    front-is = front_of empty u (places took.query) c took.holds count-is

    pub read-accepted : (x : List ℕ) → x ≡ put table 0 (take c u) → told (Accepted v r a c) x ≡ read_into s table
    unfolding read_into leaves
    read-accepted x xe = rw (took.is, ← took.ends, xe, front-is)

    pub tabled-accepted : tabled (Accepted v r a c) ≡ tabled_verdict (read_record s)
    unfolding tabled tabled_verdict
    tabled-accepted = rw took.is
