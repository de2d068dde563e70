-- The ways out of the functions that are called from outside. Assumes nothing.
use Rattle.std.specs.Prelude.{◌≡◌, refl, List, [], ◌∷◌, ◌++◌, ℕ, ◌+◌, ◌-◌, ◌<◌, ◌≤◌, min, take, Ok, Err}
use Rattle.std.proofs.Math.Path.{sym}
use Rattle.std.proofs.Common.{ap, ◌∙◌, arith}
use Rattle.std.proofs.Math.ListN.{length}
use Rattle.journal.specs.Page.{least_page, closing, size_bytes, entry}
use Rattle.journal.specs.Stores.{Store, stored, placed}
use Rattle.journal.specs.Journal.{number, granted, append_verdict, outcome, entry_stores, appending, AppendCut, Appended}
use Rattle.journal.specs.Working.Walk.{end_at, rest_of}
use Rattle.journal.specs.Working.Placing.{placed-length, placed-append}
use Rattle.journal.specs.Working.Rooms.{Room, room, entry_length, Roomy, roomy-facts}
use Rattle.journal.specs.Theorems.Content.{content-is}
use Rattle.journal.specs.declared.Outcome.{Outcome}
use Rattle.journal.specs.declared.Refusal.{Refusal}
use Rattle.journal.specs.Working.Requests.{allowed_all, appends, rest-long, rest_at, take_min, verdict-at, verdict-not}

-- the stores of an entry are its bytes from the first to the last
stores-are : (at : ℕ) (a : List ℕ) → entry_stores at a ≡ placed at (entry a)
unfolding entry_stores entry
stores-are at a =
    sym (placed-append at (size_bytes a) (a ++ (closing ∷ []))
    ∙ ap (λ (ss : List Store). placed at (size_bytes a) ++ ss) (placed-append (at + 2) a (closing ∷ [])))

pub appending-is : (p a : List ℕ) → least_page ≤ length p → appending p (rest_of p) a ≡ placed (end_at p 1) (entry a)
unfolding appending
appending-is p a h = rw (rest_at p h) (stores-are (end_at p 1) a)

-- ---- appending
module _ (budget : ℕ) (p a : List ℕ) (r : Room) (re : r ≡ room p a) where
  pub append-not : (n : Refusal) → r ≡ Err n → (k : ℕ) → k ≡ number n → (o : Outcome) → o ≡ outcome k → AppendCut budget p a o p
  unfolding room
  append-not n rv k ke o oe =
      let v = verdict-not (append_verdict p (rest_of p) a) n (end_at p 1) (sym re ∙ rv) in
      appends (take budget) p a o p (oe ∙ ap outcome ke ∙ v.0) (v.1 _ p)

  module _ (e : ℕ) (rv : r ≡ Ok e) where
    found : (append_verdict p (rest_of p) a ≡ granted) × (e ≡ end_at p 1)
    unfolding room
    found = verdict-at (append_verdict p (rest_of p) a) e (end_at p 1) (sym re ∙ rv)

    spacious : Roomy p a
    spacious = roomy-facts p a found.0

    room_fits : e + (length a + 3) ≤ length p
    room_fits = omega (arith, found.1, spacious.fits, rest-long p)

    pub append-short : length a < 65536
    append-short = omega (arith, room_fits, spacious.fine.most)

    module _ (count : ℕ) (ce : count ≡ min budget (length a + 3)) where
      pub append-within : e + count ≤ length p
      append-within = omega (arith, room_fits)

      pub append-few : count ≤ length a + 3
      append-few = omega arith

      pub append-done : (m : List ℕ) → m ≡ stored p (take count (placed e (entry a))) → (o : Outcome) → o ≡ outcome 0 → AppendCut budget p a o m
      append-done m me o oe =
          let n : length (placed e (entry a)) ≡ length a + 3 = placed-length e (entry a) ∙ entry_length a in
          let s : m ≡ stored p (take budget (appending p (rest_of p) a))
          = me ∙ (rw (ce, take_min budget (length a + 3) (placed e (entry a)) n, found.1, sym (appending-is p a spacious.fine.least)) refl) in
          appends (take budget) p a o m (rw found.0 oe) (rw found.0 s)

appending-few : (p a rest : List ℕ) → rest ≡ rest_of p → append_verdict p rest a ≡ granted → length (appending p rest a) ≤ length p
unfolding appending
appending-few p a rest e h =
    let g : Roomy p a = roomy-facts p a (rw e at h) in
    let n : length rest ≡ length (rest_of p) = ap length e in
    let m : length (entry_stores (length p - length rest) a) ≡ length (entry a)
    = ap length (stores-are (length p - length rest) a) ∙ placed-length (length p - length rest) (entry a) in
    omega (arith, m, entry_length a, g.fits, n, rest-long p)

pub append-whole : (p a : List ℕ) (o : Outcome) (q : List ℕ) → AppendCut (length p) p a o q → Appended p a o q
append-whole p a o q c =
    let e : c.rest ≡ rest_of p = (content-is p c.content).1 in
    record {
      answers = c.answers;
      rest = c.rest;
      content = c.content;
      result = c.result;
      page = c.page ∙ allowed_all (append_verdict p c.rest a) (length p) (appending p c.rest a) p (appending-few p a c.rest e);
    }
