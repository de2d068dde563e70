-- Working laws: the ways out of the cursor's steps. Assumes nothing.
use Rattle.std.specs.Prelude.{◌≡◌, refl, Bool, true, false, List, map, ltb, length, get_or, take, drop}
use Rattle.std.proofs.Math.Path.{sym}
use Rattle.std.proofs.Common.{ap, ◌∙◌, drop_of_length-le, length-take, length-drop}
use Prim.Native.Nat.{ℕ, suc, min, ◌+◌, ◌-◌, ◌<◌, ◌≤◌}
use native.Mathlib.Omega.{arith}
use Rattle.std.proofs.Math.Numerals.{add-one}
use Rattle.std.proofs.Math.ListN.{get_or-eq_default}
use Rattle.std.proofs.Math.Seq.{drop-cons, take-nil}
use borrow.Author.Tests.{ltb-true, ltb-false, lt-ltb, le-ltb, le-leb, lt-leb}
use Rattle.text.specs.Choice.{pick, split}
use Rattle.text.specs.Scan.{run}
use Rattle.text.specs.Class.{is_letter, in_class, plain, word}
use Rattle.text.specs.Equal.{equal}
use Rattle.text.specs.Counted.{part, pair_at, counted}
use Rattle.limits.specs.Limits.{least_value, most_value, least_requester, most_requester, least_name, most_name, least_setting, most_setting, least_text, most_text, most_standing}
use Rattle.principal.specs.Principal.{policy}
use Rattle.record.specs.Field.{name_front, among}
use Rattle.record.specs.Working.Moves.{Moved, To, cursor, seen_of, count_move, length_move, content_move, field_move, plain_move, value_move, requester_move, name_move, attribute_move, assertion_move, item_move}
use Rattle.record.specs.declared.Cursor.{Cursor}
use Rattle.record.specs.Refusal.{Refused}
use Rattle.record.specs.declared.Group.{Group}
use Rattle.record.specs.declared.Group.TheVariants.{Values, Requesters, Attributes, Assertions}

-- `name_front`
module _ (b : List ℕ) where
  pub name-empty : length b ≤ 0 → 0 ≡ name_front b
  unfolding name_front is_letter
  name-empty h = rw (get_or-eq_default b 0 h)

  module _ (l : Bool) (le : l ≡ is_letter (get_or b 0 0)) where
    pub name-letter : l ≡ true → (k : ℕ) → k ≡ run (in_class word) b → k ≡ name_front b
    unfolding name_front
    name-letter t k e = simp (sym le, t) e

    pub name-other : l ≡ false → 0 ≡ name_front b
    unfolding name_front
    name-other t = simp (sym le, t)

-- `repeated`
unfoldable pub among_rest : List ℕ → List ℕ → ℕ → ℕ → ℕ → Bool
among_rest s t start upto i = among (counted s start) (seen_of s t i upto)

pub among-start : (s t : List ℕ) (start upto i : ℕ) → among_rest s t start upto i ≡ among (counted s start) (seen_of s t i upto)
unfolding among_rest
among-start s t start upto i = refl

module _ (s t : List ℕ) (start upto i : ℕ) (r : Bool) (inv : among_rest s t start upto i ≡ r) where
  pub among-end : upto ≤ i → false ≡ r
  unfolding among_rest seen_of part among
  among-end h = let z : upto - i ≡ 0 = omega arith in rw z at inv

  module _ (h : i < upto) where
    pub among-past : length t ≤ i → false ≡ r
    unfolding among_rest seen_of part among
    among-past l = rw (drop_of_length-le t l, take-nil (upto - i)) at inv

    module _ (l : i < length t) (x y : List ℕ) (xe : x ≡ counted s start) (ye : y ≡ counted s (get_or t i 0)) (e : Bool) (ee : e ≡ equal x y) where
      among-step : among_rest s t start upto i ≡ pick e true (among_rest s t start upto (i + 1))
      unfolding among_rest seen_of part among
      among-step =
          let n : upto - i ≡ suc (upto - (i + 1)) = omega arith in
          rw (n, drop-cons t i 0 l, ← add-one i, ← xe, ← ye, ← ee)
          (ap (λ (v : List ℕ). pick e true (among v (map (counted s) (take (upto - (i + 1)) (drop (i + 1) t))))) (sym xe))

      pub among-hit : e ≡ true → true ≡ r
      among-hit q = let z : pick e true (among_rest s t start upto (i + 1)) ≡ r = sym among-step ∙ inv in rw q at z

      pub among-more : e ≡ false → among_rest s t start upto (i + 1) ≡ r
      among-more q = let z : pick e true (among_rest s t start upto (i + 1)) ≡ r = sym among-step ∙ inv in rw q at z

pub among-out : (s t : List ℕ) (start upto i : ℕ) (r : Bool) → among_rest s t start upto i ≡ r → min upto (length t) ≤ i → false ≡ r
among-out s t start upto i r inv h =
    split (ltb i upto)
    (λ e. let l : i < upto = ltb-true i upto e in among-past s t start upto i r inv l (omega arith))
    (λ e. let l : upto ≤ i = ltb-false i upto e in among-end s t start upto i r inv l)

-- `count`
module _ (s : List ℕ) (least most at : ℕ) where
  pub count_none : length s ≤ at → Refused 3 at ≡ count_move s least most at
  unfolding count_move
  count_none h = simp (le-leb _ _ h)

  module _ (h : at < length s) (n : ℕ) (ne : n ≡ get_or s at 0) where
    pub count-below : n < least → Refused 4 at ≡ count_move s least most at
    unfolding count_move
    count-below l = simp (lt-leb _ _ h, sym ne, lt-ltb _ _ l)

    module _ (l : least ≤ n) where
      pub count-above : most < n → Refused 4 at ≡ count_move s least most at
      unfolding count_move
      count-above m = simp (lt-leb _ _ h, sym ne, le-ltb _ _ l, lt-ltb _ _ m)

      pub count-to : n ≤ most → To n (cursor (at + 1)) ≡ count_move s least most at
      unfolding count_move
      count-to m = simp (lt-leb _ _ h, sym ne, le-ltb _ _ l, le-ltb _ _ m)

  -- `length`
  pub length-past : length s < at → Refused 3 at ≡ length_move s least most at
  unfolding length_move
  length-past h = rw (lt-ltb (length s) (at + 2) (omega arith))

  module _ (h : at ≤ length s) where
    pub length-short : length s - at < 2 → Refused 3 at ≡ length_move s least most at
    unfolding length_move
    length-short k = rw (lt-ltb (length s) (at + 2) (omega arith))

    module _ (k : 2 ≤ length s - at) (n : ℕ) (ne : n ≡ pair_at s at) where
      length-fits : ltb (length s) (at + 2) ≡ false
      length-fits = le-ltb (length s) (at + 2) (omega arith)

      pub length-below : n < least → Refused 5 at ≡ length_move s least most at
      unfolding length_move
      length-below l = simp (length-fits, sym ne, lt-ltb _ _ l)

      module _ (l : least ≤ n) where
        pub length_above : most < n → Refused 5 at ≡ length_move s least most at
        unfolding length_move
        length_above m = simp (length-fits, sym ne, le-ltb _ _ l, lt-ltb _ _ m)

        pub length_to : n ≤ most → To n (cursor (at + 2)) ≡ length_move s least most at
        unfolding length_move
        length_to m = simp (length-fits, sym ne, le-ltb _ _ l, le-ltb _ _ m)

-- `content`
module _ (s : List ℕ) (n at : ℕ) where
  pub content-past : length s < at → Refused 3 at ≡ content_move s n at
  unfolding content_move
  content-past h = rw (lt-ltb (length s) (at + n) (omega arith))

  module _ (h : at ≤ length s) where
    pub content-short : length s - at < n → Refused 3 at ≡ content_move s n at
    unfolding content_move
    content-short k = rw (lt-ltb (length s) (at + n) (omega arith))

    pub content-to : n ≤ length s - at → To at (cursor (at + n)) ≡ content_move s n at
    unfolding content_move
    content-to k = rw (le-ltb (length s) (at + n) (omega arith))

-- `field`
module _ (s : List ℕ) (least most at : ℕ) (m : Moved) (me : m ≡ length_move s least most at) where
  pub field-refused : (n p : ℕ) → m ≡ Refused n p → m ≡ field_move s least most at
  unfolding field_move
  field-refused n p e = simp (sym me, e)

  pub field-to : (v : ℕ) (c : Cursor) → m ≡ To v c → (r : Moved) → r ≡ content_move s v c.at → r ≡ field_move s least most at
  unfolding field_move
  field-to v c e r re = simp (sym me, e) re

-- a byte that is not permitted lies in the record
pub counted-room : (s : List ℕ) (at : ℕ) → length (counted s at) ≤ length s - at
unfolding counted part
counted-room s at =
    split (ltb at 2) (λ a. rw a (omega arith))
    (λ a. split (ltb (length s) at) (λ b. rw (a, b) (omega arith))
    (λ b. split (ltb (length s - at) (pair_at s (at - 2))) (λ d. rw (a, b, d) (omega arith))
    (λ d. rw (a, b, d) (simp (length-take, length-drop) (omega arith)))))

pub byte-room : (s : List ℕ) (at k : ℕ) (b : List ℕ) → b ≡ counted s at → k < length b → at + k < length s
byte-room s at k b e h = let l : length b ≤ length s - at = rw e (counted-room s at) in omega arith

-- `plain`
module _ (s : List ℕ) (least most at : ℕ) (m : Moved) (me : m ≡ field_move s least most at) where
  pub plain-refused : (n p : ℕ) → m ≡ Refused n p → m ≡ plain_move s least most at
  unfolding plain_move
  plain-refused n p e = simp (sym me, e)

  module _ (v : ℕ) (c : Cursor) (e : m ≡ To v c) (b : List ℕ) (be : b ≡ counted s v) (k : ℕ) (ke : k ≡ run (in_class plain) b) where
    pub plain_byte : k < length b → Refused 6 (v + k) ≡ plain_move s least most at
    unfolding plain_move
    plain_byte h = simp (sym me, e, sym be, sym ke, lt-ltb _ _ h)

    pub plain-to : length b ≤ k → To v c ≡ plain_move s least most at
    unfolding plain_move
    plain-to h = simp (sym me, e, sym be, sym ke, le-ltb _ _ h)

-- `compliance_value`
module _ (s : List ℕ) (seen : List (List ℕ)) (at : ℕ) (m : Moved) (me : m ≡ plain_move s least_value most_value at) where
  pub value-refused : (n p : ℕ) → m ≡ Refused n p → m ≡ value_move s seen at
  unfolding value_move
  value-refused n p e = simp (sym me, e)

  module _ (v : ℕ) (c : Cursor) (e : m ≡ To v c) (f : Bool) (fe : f ≡ among (counted s v) seen) where
    pub value-again : f ≡ true → Refused 7 v ≡ value_move s seen at
    unfolding value_move
    value-again t = simp (sym me, e, sym fe, t)

    pub value-to : f ≡ false → To v c ≡ value_move s seen at
    unfolding value_move
    value-to t = simp (sym me, e, sym fe, t)

-- `requester`
module _ (s : List ℕ) (at : ℕ) (m : Moved) (me : m ≡ plain_move s least_requester most_requester at) where
  pub requester-refused : (n p : ℕ) → m ≡ Refused n p → m ≡ requester_move s at
  unfolding requester_move
  requester-refused n p e = simp (sym me, e)

  module _ (v : ℕ) (c : Cursor) (e : m ≡ To v c) (b : List ℕ) (be : b ≡ counted s v) (f : Bool) (fe : f ≡ equal b policy) where
    pub requester-policy : f ≡ true → Refused 10 v ≡ requester_move s at
    unfolding requester_move
    requester-policy t = simp (sym me, e, sym be, sym fe, t)

    pub requester-to : f ≡ false → To v c ≡ requester_move s at
    unfolding requester_move
    requester-to t = simp (sym me, e, sym be, sym fe, t)

-- `name`
module _ (s : List ℕ) (seen : List (List ℕ)) (at : ℕ) (m : Moved) (me : m ≡ field_move s least_name most_name at) where
  pub name-refused : (n p : ℕ) → m ≡ Refused n p → m ≡ name_move s seen at
  unfolding name_move
  name-refused n p e = simp (sym me, e)

  module _ (v : ℕ) (c : Cursor) (e : m ≡ To v c) (b : List ℕ) (be : b ≡ counted s v) (k : ℕ) (ke : k ≡ name_front b) where
    pub name-byte : k < length b → Refused 6 (v + k) ≡ name_move s seen at
    unfolding name_move
    name-byte h = simp (sym me, e, sym be, sym ke, lt-ltb _ _ h)

    module _ (h : length b ≤ k) (f : Bool) (fe : f ≡ among (counted s v) seen) where
      pub name-again : f ≡ true → Refused 7 v ≡ name_move s seen at
      unfolding name_move
      name-again t = let fb : f ≡ among b seen = rw be fe in simp (sym me, e, sym be, sym ke, le-ltb _ _ h, sym fb, t)

      pub name-to : f ≡ false → To v c ≡ name_move s seen at
      unfolding name_move
      name-to t = let fb : f ≡ among b seen = rw be fe in simp (sym me, e, sym be, sym ke, le-ltb _ _ h, sym fb, t)

-- `attribute`
module _ (s : List ℕ) (seen : List (List ℕ)) (at : ℕ) (m : Moved) (me : m ≡ name_move s seen at) where
  pub attribute-name : (n p : ℕ) → m ≡ Refused n p → m ≡ attribute_move s seen at
  unfolding attribute_move
  attribute-name n p e = simp (sym me, e)

  module _ (v : ℕ) (c : Cursor) (e : m ≡ To v c) (m₂ : Moved) (me₂ : m₂ ≡ plain_move s least_setting most_setting c.at) where
    pub attribute-value : (n p : ℕ) → m₂ ≡ Refused n p → m₂ ≡ attribute_move s seen at
    unfolding attribute_move
    attribute-value n p e₂ = simp (sym me, e, sym me₂, e₂)

    pub attribute-to : (w : ℕ) (d : Cursor) → m₂ ≡ To w d → To v d ≡ attribute_move s seen at
    unfolding attribute_move
    attribute-to w d e₂ = simp (sym me, e, sym me₂, e₂)

-- `assertion`
module _ (s : List ℕ) (at : ℕ) where
  pub assertion-none : length s ≤ at → Refused 3 at ≡ assertion_move s at
  unfolding assertion_move
  assertion-none h = simp (le-leb _ _ h)

  module _ (h : at < length s) where
    pub assertion-standing : most_standing < get_or s at 0 → Refused 8 at ≡ assertion_move s at
    unfolding assertion_move
    assertion-standing k = simp (lt-leb _ _ h, lt-ltb _ _ k)

    pub assertion-field : get_or s at 0 ≤ most_standing → (r : Moved) → r ≡ field_move s least_text most_text (at + 1) → r ≡ assertion_move s at
    unfolding assertion_move
    assertion-field k r e = simp (lt-leb _ _ h, le-ltb _ _ k) e

-- `item`
module _ (g : Group) (s : List ℕ) (seen : List (List ℕ)) (at : ℕ) (r : Moved) where
  pub item-value : g ≡ Values → r ≡ value_move s seen at → r ≡ item_move g s seen at
  unfolding item_move
  item-value h e = rw h e

  pub item-requester : g ≡ Requesters → r ≡ requester_move s at → r ≡ item_move g s seen at
  unfolding item_move
  item-requester h e = rw h e

  pub item-attribute : g ≡ Attributes → r ≡ attribute_move s seen at → r ≡ item_move g s seen at
  unfolding item_move
  item-attribute h e = rw h e

  pub item-assertion : g ≡ Assertions → r ≡ assertion_move s at → r ≡ item_move g s seen at
  unfolding item_move
  item-assertion h e = rw h e
