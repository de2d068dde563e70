-- The reach as flags, one for each principal, in the code's shape, and the ways of its functions. Assumes nothing.
use Rattle.std.specs.Prelude.{◌≡◌, refl, Bool, true, false, not, List, [], ◌∷◌, ℕ, zero, suc, ◌+◌, ◌-◌, ◌≤◌, ◌<◌, eqb, ltb, get_or, set, take, drop, Option, MatchOption}
use Rattle.std.proofs.Math.Path.{sym}
use Rattle.std.proofs.Common.{◌∙◌, drop_of_length-le, drop-cons, drop-set-lt, get_or-take, le_refl}
use native.Mathlib.Omega.{arith}
use Rattle.std.proofs.Math.Numerals.{add-one}
use Rattle.std.proofs.Math.Nat.{sub-zero}
use Rattle.std.proofs.Math.ListN.{length, length-take, get_or-eq_default}
use Rattle.std.proofs.Math.Seq.{set_out, take-set-lt}
use borrow.Author.Tests.{lt-ltb, le-ltb}
use Rattle.text.specs.Choice.{pick}
use Rattle.compliance.specs.Codes.{top_code}
use Rattle.compliance.specs.Tables.{program_of}
use Rattle.compliance.specs.Working.Tables.{one_less}
use Rattle.compliance.specs.Working.Words.{flags_of, flags_in, spare_in}

-- the principal that an instruction names, flagged
unfoldable pub marked : ℕ → List ℕ → List ℕ
marked op reach = pick (ltb op top_code) (set reach op 1) reach

-- those that a program names
unfoldable pub marked_all : List ℕ → List ℕ → List ℕ
marked_all [] reach = reach
marked_all (op ∷ ops) reach = marked_all ops (marked op reach)

-- assertion j is not expanded, and its authorizer is reached
unfoldable pub open_at : List ℕ → List Bool → List ℕ → ℕ → Bool
open_at authors done reach j = pick (get_or done j false) false (eqb (get_or reach (get_or authors j 0) 0) 1)

-- the first such of k assertions from j on
unfoldable pub open_from : List ℕ → List Bool → List ℕ → ℕ → ℕ → ℕ
open_from authors done reach zero j = j
open_from authors done reach (suc k) j = pick (open_at authors done reach j) j (open_from authors done reach k (suc j))

-- the first such of all, if there is one
abbrev pub FirstOpen : List ℕ → List Bool → List ℕ → Option ℕ → Type 0
FirstOpen authors done reach o =
    MatchOption o (open_from authors done reach (length authors) 0 ≡ length authors)
    (λ j. (j ≡ open_from authors done reach (length authors) 0) × (j < length authors))

-- at most k assertions expanded
unfoldable pub spread_from : List ℕ → List ℕ → List ℕ → ℕ → List Bool → List ℕ → List ℕ
spread_from authors ends code zero done reach = reach
spread_from authors ends code (suc k) done reach =
    pick (ltb (open_from authors done reach (length authors) 0) (length authors))
    (spread_from authors ends code k (set done (open_from authors done reach (length authors) 0) true) (marked_all (program_of ends code (open_from authors done reach (length authors) 0)) reach))
    reach

-- what `expand` leaves of its two tables
pub record Expanded (done : List Bool) (reach : List ℕ) (done' : List Bool) (reach' : List ℕ) : Type 0 where
  pub expanded : done ≡ done'
  pub flags : reach ≡ reach'

-- ---- the ways

-- `mark`, over words for n flags
module _ (ws : List ℕ) (n op : ℕ) where
  module _ (h : op < top_code) (i : ℕ) (e : i ≡ op) where
    module _ (k : i < n) (vs : List ℕ) (s : flags_of vs ≡ set (flags_of ws) i 1) where
      pub mark-in : flags_in n vs ≡ marked op (flags_in n ws)
      unfolding marked flags_in
      mark-in = rw (lt-ltb op top_code h, ← e, s) (take-set-lt n (flags_of ws) i 1 k)

      pub mark-spare : spare_in n vs ≡ spare_in n ws
      unfolding spare_in
      mark-spare = rw s (drop-set-lt n (flags_of ws) i 1 k)

    pub mark-far : n ≤ i → flags_in n ws ≡ marked op (flags_in n ws)
    unfolding marked flags_in
    mark-far k = rw (lt-ltb op top_code h, ← e) (sym (set_out (take n (flags_of ws)) i 1 (omega (arith, k, length-take n (flags_of ws)))))

  pub mark-none : top_code ≤ op → flags_in n ws ≡ marked op (flags_in n ws)
  unfolding marked
  mark-none h = rw (le-ltb op top_code h)

-- what is to spare stays, from call to call
pub spare-on : (a b c : List ℕ) → a ≡ b → b ≡ c → a ≡ c
spare-on a b c e f = e ∙ f

-- `is_reached`
module _ (ws : List ℕ) (n i : ℕ) where
  pub reached-at : i < n → (b : Bool) → b ≡ eqb (get_or (flags_of ws) i 0) 1 → b ≡ eqb (get_or (flags_in n ws) i 0) 1
  unfolding flags_in
  reached-at h b e = e ∙ rw (get_or-take n (flags_of ws) i 0 h)

  pub reached-past : n ≤ i → ltb i n ≡ eqb (get_or (flags_in n ws) i 0) 1
  unfolding flags_in
  reached-past h =
      let e : get_or (take n (flags_of ws)) i 0 ≡ 0 = get_or-eq_default (take n (flags_of ws)) 0 (omega (arith, h, length-take n (flags_of ws))) in
      rw (le-ltb i n h, e)

unfoldable pub mark_from : List ℕ → ℕ → List ℕ → List ℕ
mark_from code i reach = marked_all (drop i code) reach

pub mark-start : (code reach : List ℕ) → mark_from code 0 reach ≡ marked_all code reach
unfolding mark_from
mark-start code reach = refl

module _ (code : List ℕ) (i : ℕ) (reach a : List ℕ) (inv : mark_from code i reach ≡ a) where
  pub mark-more : i < length code → (z : List ℕ) → z ≡ marked (get_or code i 0) reach → mark_from code (i + 1) z ≡ a
  unfolding mark_from marked_all
  mark-more h z e = rw (add-one i, e) (rw (drop-cons code i 0 h) at inv)

  pub mark-end : length code ≤ i → reach ≡ a
  unfolding mark_from marked_all
  mark-end h = rw (drop_of_length-le code h) at inv

module _ (authors : List ℕ) (done : List Bool) (reach : List ℕ) (j : ℕ) (d : Bool) (de : d ≡ get_or done j false) where
  pub open-flag : d ≡ false → (p : ℕ) → p ≡ get_or authors j 0 → (b : Bool) → b ≡ eqb (get_or reach p 0) 1 → b ≡ open_at authors done reach j
  unfolding open_at
  open-flag h p pe b be = simp (sym de, h, sym pe, sym be)

  pub open_done : d ≡ true → not d ≡ open_at authors done reach j
  unfolding open_at
  open_done h = simp (sym de, h)

pub open-start : (authors : List ℕ) (done : List Bool) (reach : List ℕ) → open_from authors done reach (length authors - 0) 0 ≡ open_from authors done reach (length authors) 0
open-start authors done reach = rw sub-zero

module _ (authors : List ℕ) (done : List Bool) (reach : List ℕ) (j r : ℕ) (inv : open_from authors done reach (length authors - j) j ≡ r) where
  pub open_none : length authors ≤ j → j ≤ length authors → r ≡ length authors
  unfolding open_from
  open_none h g = let z : length authors - j ≡ 0 = omega arith in omega (arith, rw z at inv, h, g)

  module _ (h : j < length authors) (o : Bool) (oe : o ≡ open_at authors done reach j) where
    pub open-here : o ≡ true → j ≡ r
    unfolding open_from
    open-here t = rw (one_less (length authors) j h, ← oe, t) at inv

    pub open-later : o ≡ false → open_from authors done reach (length authors - (j + 1)) (j + 1) ≡ r
    unfolding open_from
    open-later f = rw (add-one j) (rw (one_less (length authors) j h, ← oe, f, add-one j) at inv)

module _ (prog : List ℕ) (done : List Bool) (reach m z : List ℕ) (j : ℕ) (ze : z ≡ marked_all prog reach) where
  pub expand-in : prog ≡ m → Expanded (set done j true) z (set done j true) (marked_all m reach)
  expand-in e = record { expanded = refl; flags = rw (← e) ze }

  pub expand-out : prog ≡ m → length done ≤ j → Expanded done z (set done j true) (marked_all m reach)
  expand-out e h = record { expanded = sym (set_out done j true h); flags = rw (← e) ze }

module _ (authors ends code : List ℕ) where
  pub spread-start : (done : List Bool) (reach : List ℕ) → spread_from authors ends code (length authors - 0) done reach ≡ spread_from authors ends code (length authors) done reach
  spread-start done reach = rw sub-zero

  module _ (n : ℕ) (done : List Bool) (reach a : List ℕ) (inv : spread_from authors ends code (length authors - n) done reach ≡ a) where
    pub spread_end : length authors ≤ n → reach ≡ a
    unfolding spread_from
    spread_end h = let z : length authors - n ≡ 0 = omega arith in rw z at inv

    module _ (h : n < length authors) where
      pub spread-stop : open_from authors done reach (length authors) 0 ≡ length authors → reach ≡ a
      unfolding spread_from
      spread-stop e = rw (one_less (length authors) n h, e, le-ltb (length authors) (length authors) (le_refl _)) at inv

      pub spread-more : (j : ℕ) → (j ≡ open_from authors done reach (length authors) 0) × (j < length authors) → (d : List Bool) (z : List ℕ) → Expanded d z (set done j true) (marked_all (program_of ends code j) reach)
          → spread_from authors ends code (length authors - (n + 1)) d z ≡ a
      unfolding spread_from
      spread-more j (je, k) d z e = rw (e.expanded, e.flags) (rw (one_less (length authors) n h, ← je, lt-ltb j (length authors) k) at inv)

pub found-is : (authors ends code : List ℕ) (done : List Bool) (reach r z : List ℕ) → r ≡ marked 0 reach → z ≡ spread_from authors ends code (length authors) done r
    → z ≡ spread_from authors ends code (length authors) done (marked 0 reach)
found-is authors ends code done reach r z re ze = ze ∙ rw re
