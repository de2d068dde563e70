-- The ways out of the functions of `literal`. Assumes nothing.
use mathlib.Core.Path.{◌≡◌, refl, sym, ap, ◌∙◌}
use mathlib.Core.Bool.{Bool, true, false}
use mathlib.Core.List.{List, [], ◌∷◌}
use Prim.Native.Nat.{ℕ, ◌+◌, ◌-◌, ◌≤◌, ◌<◌, ◌^◌}
use native.Mathlib.Omega.{arith}
use native.Mathlib.Nat.{lt_of_le_of_lt}
use mir.Syntax.{w64}
use mir.Val.{Fits}
use native.Mathlib.Numerals.{add-one}
use lib.Dec.{eqb, leb}
use lib.ListN.{length, get_or, set, length-set, get_or-eq_default}
use lib.Seq.{sets}
use borrow.Author.Tests.{eqb-true, lt-ltb, le-ltb, le-leb}
use Rattle.lexical.specs.declared.unit.Unit.{Unit}
use Rattle.lexical.specs.Unit.{GIVES, kind, width, unit_at}
use Rattle.lexical.specs.declared.unit.Unit.TheVariants.{Drops, Gives, Closes, Spoils}
use Rattle.lexical.specs.Found.{found}
use Rattle.lexical.specs.Theorems.UnitLaws.{unit-moves, unit-closing}
use Rattle.lexical.specs.Literal.{units_at, given, literal_end, decoded_at}
use Rattle.lexical.specs.Theorems.LiteralLaws.{units-more, units-last, units-end}
use Rattle.lexical.specs.Decode.{ran, decode_into, within, decode_within}
use Rattle.lexical.specs.declared.literal.DecodeError.TheVariants.{Long, Full}
use Rattle.std.proofs.Common.{inl, inr}
use Rattle.std.specs.Prelude.{◌⊎◌, Some, None, Ok, Err}
use Rattle.text.specs.Scan.{past, past_end}
use Rattle.lexical.specs.Working.Short.{near, near-short}
use Rattle.lexical.specs.Working.Plain.{plain, bare_end, end-plain, quote-within, end-quote}

module _ (s : List ℕ) (i : ℕ) (u : Unit) (ue : u ≡ unit_at s i) where
  -- the units from here, by the unit at hand
  first_more : kind u ≤ GIVES → units_at s i ≡ u ∷ units_at s (i + width u)
  first_more h = rw ue (units-more s i (rw (sym ue) h))

  first-last : GIVES < kind u → units_at s i ≡ u ∷ []
  first-last h = rw ue (units-last s i (rw (sym ue) h))

  moves : kind u ≤ GIVES → (1 ≤ width u) × (i + width u ≤ length s)
  moves h = rw ue (unit-moves s i (rw (sym ue) h))

-- a place within the text
within-fits : (s : List ℕ) (n : ℕ) → n ≤ length s → length s < 2 ^ 64 → Fits w64 n
within-fits s n h l = record { fits = lt_of_le_of_lt h l }

-- behind a unit that gives no byte
module _ (s : List ℕ) (i w : ℕ) (e : Drops w ≡ unit_at s i) where
  drops-units : units_at s i ≡ Drops w ∷ units_at s (i + w)
  drops-units = first_more s i (Drops w) e (omega arith)

  pub drops-moves : (1 ≤ w) × (i + w ≤ length s)
  drops-moves = moves s i (Drops w) e (omega arith)

  pub drops-fits : length s < 2 ^ 64 → Fits w64 (i + w)
  drops-fits l = within-fits s (i + w) drops-moves.1 l

  pub drops-less : length s - (i + w) < length s - i
  drops-less = omega (arith, drops-moves.0, drops-moves.1)

  pub drops-end : (r : ℕ) → literal_end s i ≡ r → literal_end s (i + w) ≡ r
  unfolding literal_end
  drops-end r inv = rw drops-units at inv

  pub drops-given : given (units_at s i) ≡ given (units_at s (i + w))
  drops-given = rw drops-units refl

-- behind one that gives a byte
module _ (s : List ℕ) (i w b : ℕ) (e : Gives w b ≡ unit_at s i) where
  gives-units : units_at s i ≡ Gives w b ∷ units_at s (i + w)
  gives-units = first_more s i (Gives w b) e (omega arith)

  pub gives-moves : (1 ≤ w) × (i + w ≤ length s)
  gives-moves = moves s i (Gives w b) e (omega arith)

  pub gives-fits : length s < 2 ^ 64 → Fits w64 (i + w)
  gives-fits l = within-fits s (i + w) gives-moves.1 l

  pub gives-less : length s - (i + w) < length s - i
  gives-less = omega (arith, gives-moves.0, gives-moves.1)

  pub gives-end : (r : ℕ) → literal_end s i ≡ r → literal_end s (i + w) ≡ r
  unfolding literal_end
  gives-end r inv = rw gives-units at inv

  pub gives-given : given (units_at s i) ≡ b ∷ given (units_at s (i + w))
  gives-given = rw gives-units refl

-- at the last unit
module _ (s : List ℕ) (i : ℕ) where
  module _ (e : Closes ≡ unit_at s i) where
    pub closes-fits : length s < 2 ^ 64 → Fits w64 (i + 1)
    closes-fits l = let h : i < length s = (unit-closing s i (rw (sym e) refl)).0 in within-fits s (i + 1) (omega arith) l

    pub closes-end : (r : ℕ) → literal_end s i ≡ r → Some (i + 1) ≡ found r
    unfolding literal_end
    closes-end r inv = let z : i + 1 ≡ r = rw (first-last s i Closes e (omega arith)) at inv in rw (sym z, add-one i) refl

    pub closes-given : given (units_at s i) ≡ []
    closes-given = rw (first-last s i Closes e (omega arith)) refl

  module _ (e : Spoils ≡ unit_at s i) where
    pub spoils-end : (r : ℕ) → literal_end s i ≡ r → None ≡ found r
    unfolding literal_end
    spoils-end r inv = let z : 0 ≡ r = rw (first-last s i Spoils e (omega arith)) at inv in rw (sym z) refl

    pub spoils-given : given (units_at s i) ≡ []
    spoils-given = rw (first-last s i Spoils e (omega arith)) refl

last-given : (s : List ℕ) (i : ℕ) (u : Unit) → u ≡ unit_at s i → (u ≡ Closes) ⊎ (u ≡ Spoils) → given (units_at s i) ≡ []
last-given s i u e (inl c) = closes-given s i (sym c ∙ e)
last-given s i u e (inr c) = spoils-given s i (sym c ∙ e)

given-end : (s : List ℕ) (i : ℕ) → length s ≤ i → given (units_at s i) ≡ []
given-end s i h = rw (units-end s i h) refl

pub ruleset ending = (drops-fits, drops-less, drops-end, gives-fits, gives-less, gives-end, closes-fits, closes-end, spoils-end)

-- a turn of `literal_length`, where n bytes were given before i
module _ (s : List ℕ) (start : ℕ) where
  pub length_none : length s ≤ start → 0 ≡ length (decoded_at s start)
  unfolding decoded_at
  length_none h = let l : length s ≤ start + 1 = omega arith in rw (given-end s (start + 1) l) refl

  pub length-start : 0 + length (given (units_at s (start + 1))) ≡ length (decoded_at s start)
  unfolding decoded_at
  length-start = omega arith

module _ (s : List ℕ) (i n r : ℕ) (inv : n + length (given (units_at s i)) ≡ r) where
  pub length-last : (u : Unit) → u ≡ unit_at s i → (u ≡ Closes) ⊎ (u ≡ Spoils) → n ≡ r
  length-last u e h = omega (arith, inv, ap length (last-given s i u e h))

  pub length-drops : (w : ℕ) → Drops w ≡ unit_at s i → n + length (given (units_at s (i + w))) ≡ r
  length-drops w e = rw (drops-given s i w e) at inv

  pub length-gives : (w b : ℕ) → Gives w b ≡ unit_at s i → n + 1 + length (given (units_at s (i + w))) ≡ r
  length-gives w b e = omega (arith, inv, ap length (gives-given s i w b e))

module _ (s : List ℕ) (i n : ℕ) (low : n ≤ i) where
  module _ (w b : ℕ) (e : Gives w b ≡ unit_at s i) where
    pub low-gives : n + 1 ≤ i + w
    low-gives = omega (arith, low, (gives-moves s i w b e).0)

    pub low-fits : length s < 2 ^ 64 → Fits w64 (n + 1)
    low-fits l = within-fits s (n + 1) (omega (arith, low-gives, (gives-moves s i w b e).1)) l

pub ruleset counting = (length_none, length-start, length-last, low-fits, drops-fits, drops-less, gives-fits, gives-less)

-- a turn of `write`: what is left to store is what was to store, and fits
module _ (s : List ℕ) (i : ℕ) (m : List ℕ) (top : ℕ) where
  module _ (r : List ℕ) (inv : sets m top (given (units_at s i)) ≡ r) where
    pub write-last : (u : Unit) → u ≡ unit_at s i → (u ≡ Closes) ⊎ (u ≡ Spoils) → m ≡ r
    write-last u e h = rw (last-given s i u e h) at inv

    pub write-drops : (w : ℕ) → Drops w ≡ unit_at s i → sets m top (given (units_at s (i + w))) ≡ r
    write-drops w e = rw (drops-given s i w e) at inv

    pub write-gives : (w b : ℕ) → Gives w b ≡ unit_at s i → sets (set m top b) (top + 1) (given (units_at s (i + w))) ≡ r
    write-gives w b e = rw (add-one top) (rw (gives-given s i w b e) at inv)

  module _ (room : top + length (given (units_at s i)) ≤ length m) where
    pub room-drops : (w : ℕ) → Drops w ≡ unit_at s i → top + length (given (units_at s (i + w))) ≤ length m
    room-drops w e = rw (drops-given s i w e) at room

    module _ (w b : ℕ) (e : Gives w b ≡ unit_at s i) where
      pub room-here : top < length m
      room-here = omega (arith, room, ap length (gives-given s i w b e))

      pub room-gives : top + 1 + length (given (units_at s (i + w))) ≤ length (set m top b)
      room-gives = omega (arith, room, ap length (gives-given s i w b e), length-set m top b)

pub ruleset writing = (write-last, write-gives, room-here, room-gives, drops-fits, drops-less, gives-fits, gives-less)

module _ (s : List ℕ) (start : ℕ) (m : List ℕ) (at n : ℕ) (ne : n ≡ length (decoded_at s start)) where
  pub into-none : length m < at → ran false m ≡ decode_into s start m at
  unfolding decode_into
  into-none h = simp (lt-ltb _ _ h)

  module _ (h : at ≤ length m) where
    pub into-full : length m - at < n → ran false m ≡ decode_into s start m at
    unfolding decode_into
    into-full k = simp (le-ltb _ _ h, sym ne, lt-ltb _ _ k)

    module _ (k : n ≤ length m - at) where
      pub into-past : length s ≤ start → ran true m ≡ decode_into s start m at
      unfolding decode_into decoded_at
      into-past l =
          let e : given (units_at s (start + 1)) ≡ [] = given-end s (start + 1) (omega (arith, l)) in
          simp (le-ltb _ _ h, e, le-ltb (length m - at) 0 (omega arith))

      pub into-room : at + length (given (units_at s (start + 1))) ≤ length m
      unfolding decoded_at
      into-room = omega (arith, ne, h, k)

      pub into-all : (b : List ℕ) → b ≡ sets m at (given (units_at s (start + 1))) → ran true b ≡ decode_into s start m at
      unfolding decode_into decoded_at
      into-all b e = simp (le-ltb _ _ h, sym ne, le-ltb _ _ k, sym e)

-- `decode_within`
module _ (s : List ℕ) (start : ℕ) (m : List ℕ) (at most n : ℕ) (ne : n ≡ length (decoded_at s start)) where
  pub within-long : most < n → within (Err Long) m ≡ decode_within s start m at most
  unfolding decode_within
  within-long h = rw (← ne, lt-ltb _ _ h)

  module _ (h : n ≤ most) (c : Bool) (b : List ℕ) (ce : ran c b ≡ decode_into s start m at) where
    pub within-put : c ≡ true → within (Ok n) b ≡ decode_within s start m at most
    unfolding decode_within
    within-put y = rw (← ne, le-ltb _ _ h, ← ce, y)

    pub within-full : c ≡ false → within (Err Full) b ≡ decode_within s start m at most
    unfolding decode_within
    within-full y = rw (← ne, le-ltb _ _ h, ← ce, y)

-- a literal whose plain bytes from i on end at e
module _ (s : List ℕ) (i e : ℕ) (ee : e ≡ past plain s i) (t : Bool) (te : t ≡ eqb (get_or s e 0) 34) where
  end-units : (r : ℕ) → r ≡ literal_end s e → r ≡ literal_end s i
  end-units r re = re ∙ ap (literal_end s) ee ∙ sym (end-plain s i)

  module _ (h : t ≡ true) where
    at-quote : get_or s e 0 ≡ 34
    at-quote = eqb-true _ _ (sym te ∙ h)

    pub quote-fits : length s < 2 ^ 64 → Fits w64 (e + 1)
    quote-fits l = let k : e + 1 ≤ length s = omega (arith, quote-within s e at-quote) in record { fits = lt_of_le_of_lt k l }

    pub end-found : e + 1 ≡ literal_end s i
    end-found = end-units (e + 1) (sym (end-quote s e at-quote))

-- whether a literal is short
pub short-near : (s : List ℕ) (start end most : ℕ) (t : Bool) → t ≡ near s start end most → t ≡ true → true ≡ leb (length (decoded_at s start)) most
short-near s start end most t te h = sym (le-leb _ _ (near-short s start end most (sym te ∙ h)))

-- where a literal of plain bytes closes
pub bare-past : (s : List ℕ) (start : ℕ) → length s ≤ start → None ≡ bare_end s start
unfolding bare_end
bare-past s start h =
    let p : past plain s (start + 1) ≡ start + 1 = past_end plain s (start + 1) (omega (arith, h)) in
    let z : get_or s (start + 1) 0 ≡ 0 = get_or-eq_default s 0 (omega (arith, h)) in
    simp (p, z)

pub ruleset short = (short-near)

pub ruleset bare = (bare-past)

pub ruleset into = (into-none, into-full, into-past, into-room, into-all)

pub ruleset inside = (within-long, within-put, within-full)
