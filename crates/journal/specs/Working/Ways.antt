-- The ways out of the journal's functions, and the turns of their loops. Assumes nothing.
use Rattle.std.specs.Prelude.{◌≡◌, Bool, true, false, ◌&&◌, ℕ, suc, ◌+◌, ◌-◌, ◌/◌, ◌%◌, ◌<◌, ◌≤◌, min, eqb, set, take, Option, Some, None, Ok, Err}
use Rattle.std.proofs.Math.Path.{refl, sym, ap}
use Rattle.std.proofs.Common.{◌∙◌, le_refl, add-one, length-append, length-set, drop_of_length-le}
use mathlib.Core.List.{List, [], ◌∷◌, ◌++◌}
use native.Mathlib.Omega.{arith}
use Rattle.std.proofs.Math.ListN.{length, get_or, drop, length-drop}
use Rattle.std.proofs.lemmas.List.{take-append-le}
use Rattle.std.proofs.Math.Seq.{get_or-append_seam, drop-cons, take_all}
use borrow.Author.Tests.{lt-ltb, le-ltb, eq-eqb, ne_eqb}
use Rattle.text.specs.Choice.{pick, split}
use Rattle.text.specs.All.{all}
use Rattle.text.specs.Counted.{pair_at}
use Rattle.journal.specs.Page.{least_page, most_page, version, closing, is_zero, zeros, entry}
use Rattle.journal.specs.Stores.{Store, stored, placed}
use Rattle.journal.specs.Journal.{granted, page_verdict, recover_verdict, append_verdict}
use Rattle.journal.specs.Working.Walk.{behind, finished_at, entry_behind, end_at, rest_of}
use Rattle.journal.specs.Working.Walks.{Finished, finished-facts, facts-finished, unfinished, Walk, w[], w∷, walk-within, walk-in, stops-in, walk_is}
use Rattle.journal.specs.Working.Placing.{stored-none, stored_next, placed-length, placed-take, placed_at}
use Rattle.journal.specs.Working.Rooms.{Room, room_of, opened, room, further, room_at, entry_length, Fine, Judged, is-fine, is-not, judged, fine-further}
use Rattle.journal.specs.declared.Refusal.{Refusal}
use Rattle.journal.specs.declared.Refusal.TheVariants.{WrongSize, WrongVersion, Unclean, NoRoom}

-- the next entry
behind-none : (p : List ℕ) (at : ℕ) → (Finished p at → ⊥) → None ≡ entry_behind p at
unfolding entry_behind
behind-none p at n = rw (unfinished p at n) refl

module _ (p : List ℕ) (at left n : ℕ) (le : left ≡ length p - at) (ne : n ≡ pair_at p at) where
  pub behind-empty : n ≡ 0 → None ≡ entry_behind p at
  behind-empty z = behind-none p at (λ f. let w : 0 < pair_at p at = f.above in omega arith)

  pub behind-short : left < 3 → None ≡ entry_behind p at
  behind-short h = behind-none p at (λ f. let w : at + pair_at p at + 3 ≤ length p = f.within in omega arith)

  pub behind-over : left - 3 < n → None ≡ entry_behind p at
  behind-over h = behind-none p at (λ f. let w : at + pair_at p at + 3 ≤ length p = f.within in omega arith)

  pub behind-open : (get_or p (at + n + 2) 0 ≡ closing → ⊥) → None ≡ entry_behind p at
  behind-open h = behind-none p at (λ f. h (rw ne f.closed))

  pub behind-closed : (n ≡ 0 → ⊥) → 3 ≤ left → n ≤ left - 3 → get_or p (at + n + 2) 0 ≡ closing → Some (at + n + 3) ≡ entry_behind p at
  unfolding entry_behind behind
  behind-closed z three fit c =
      let a : 0 < pair_at p at = rw (sym ne) (omega arith) in
      let w : at + pair_at p at + 3 ≤ length p = rw (sym ne) (omega arith) in
      let d : get_or p (at + pair_at p at + 2) 0 ≡ 1 = rw (sym ne) c in
      rw (facts-finished p at (record { above = a; within = w; closed = d }), ne) refl

-- the end of the finished entries, step by step
end_is : {p : List ℕ} {at e : ℕ} {l : List (List ℕ)} → Walk p at l e → finished_at p e ≡ false → end_at p at ≡ e
unfolding end_at
end_is {p} {at} w s = (walk_is w s (length p - at) (omega arith)).1

end-at-stop : (p : List ℕ) (at : ℕ) → finished_at p at ≡ false → end_at p at ≡ at
end-at-stop p at h = end_is w[] h

end-at-more : (p : List ℕ) (at : ℕ) → finished_at p at ≡ true → end_at p at ≡ end_at p (at + pair_at p at + 3)
unfolding end_at
end-at-more p at h =
    let b : ℕ = at + pair_at p at + 3 in
    end_is (w∷ (finished-facts p at h) refl (walk-in (length p - b) p b)) (stops-in (length p - b) p b (omega arith))

pub end-within : (p : List ℕ) (at : ℕ) → at ≤ length p → end_at p at ≤ length p
unfolding end_at
end-within p at h = walk-within (walk-in (length p - at) p at) h

no-entry : {x : ℕ} {P : Type 0} → Some x ≡ None → P
no-entry h = let z : ◌≡◌ {A = ℕ} 0 1 = cc in let no : ⊥ = omega arith in absurd no

some-entry : {x y : ℕ} → Some x ≡ Some y → x ≡ y
some-entry h = cc

module _ (p : List ℕ) (at : ℕ) (o : Option ℕ) (oe : o ≡ entry_behind p at) where
  -- where an entry stands, it ends at the place found
  entry-is : (x : ℕ) → o ≡ Some x → (finished_at p at ≡ true) × (x ≡ at + pair_at p at + 3)
  unfolding entry_behind behind
  entry-is x ox =
      split (finished_at p at)
      (λ e. (e, some-entry (sym ox ∙ oe ∙ rw e refl)))
      (λ e. no-entry (sym ox ∙ oe ∙ rw e refl))

  pub end-more : (r x : ℕ) → end_at p at ≡ r → o ≡ Some x → end_at p x ≡ r
  end-more r x inv ox = let f = entry-is x ox in rw f.1 (sym (end-at-more p at f.0) ∙ inv)

  pub end-stop : (r : ℕ) → end_at p at ≡ r → o ≡ None → at ≡ r
  unfolding entry_behind
  end-stop r inv on =
      split (finished_at p at)
      (λ e. let z : None ≡ Some (behind p at) = sym on ∙ oe ∙ (rw e refl) in no-entry (sym z))
      (λ e. sym (end-at-stop p at e) ∙ inv)

  pub end-less : (x : ℕ) → o ≡ Some x → length p - x < length p - at
  end-less x ox =
      let f = entry-is x ox in
      let w : at + pair_at p at + 3 ≤ length p = (finished-facts p at f.0).within in
      omega (arith, f.1)

-- zeros: what is known of those passed, and what is left
and-true : (b : Bool) → (b && true) ≡ b
and-true true = refl
and-true false = refl

and-head : (b c d : Bool) → ((b && c) && d) ≡ (b && pick c d false)
and-head true true d = refl
and-head true false d = refl
and-head false c d = refl

module _ (p : List ℕ) (at : ℕ) (b r : Bool) (inv : (b && zeros (drop at p)) ≡ r) where
  pub zeros-end : length p ≤ at → b ≡ r
  unfolding zeros all
  zeros-end h = sym (and-true b) ∙ ap (λ (s : List ℕ). b && all is_zero s) (sym (drop_of_length-le p {i = at} h)) ∙ inv

  pub zeros-more : at < length p → ((b && eqb (get_or p at 0) 0) && zeros (drop (at + 1) p)) ≡ r
  unfolding zeros all
  zeros-more h =
      let s : drop at p ≡ get_or p at 0 ∷ drop (at + 1) p = drop-cons p at 0 h ∙ ap (λ (k : ℕ). get_or p at 0 ∷ drop k p) (sym (add-one at)) in
      and-head b (eqb (get_or p at 0) 0) (all is_zero (drop (at + 1) p)) ∙ ap (λ (l : List ℕ). b && all is_zero l) (sym s) ∙ inv

-- the page's end
module _ (p : List ℕ) where
  pub end-small : length p < least_page → Err WrongSize ≡ opened p
  unfolding opened recover_verdict
  end-small h = simp (lt-ltb _ _ h)

  module _ (h₁ : least_page ≤ length p) where
    pub end-large : most_page < length p → Err WrongSize ≡ opened p
    unfolding opened recover_verdict
    end-large h = simp (le-ltb _ _ h₁, lt-ltb _ _ h)

    module _ (h₂ : length p ≤ most_page) where
      pub end-foreign : (get_or p 0 0 ≡ version → ⊥) → Err WrongVersion ≡ opened p
      unfolding opened recover_verdict
      end-foreign h = simp (le-ltb _ _ h₁, le-ltb _ _ h₂, ne_eqb _ _ h)

      pub end-found : get_or p 0 0 ≡ version → (e : ℕ) → e ≡ end_at p 1 → Ok e ≡ opened p
      unfolding opened recover_verdict
      end-found h e ee = simp (le-ltb _ _ h₁, le-ltb _ _ h₂, eq-eqb _ _ h, ee)

pub at-not : {P : Type 0} {n : Refusal} {e : ℕ} → ◌≡◌ {A = Room} (Err n) (Ok e) → P
at-not h = let z : ◌≡◌ {A = ℕ} 0 1 = cc in let no : ⊥ = omega arith in absurd no

pub at_same : {d e : ℕ} → ◌≡◌ {A = Room} (Ok d) (Ok e) → e ≡ d
at_same h = cc

-- what a found place says
pub opened-at : (p : List ℕ) (e : ℕ) → opened p ≡ Ok e → Fine p × (e ≡ end_at p 1)
unfolding opened recover_verdict
opened-at p e h = of (judged p)
  where
    of : Judged p → Fine p × (e ≡ end_at p 1)
    of (is-fine f v) = (f, at_same (sym (ap (λ x. room_of x (end_at p 1)) (v granted)) ∙ h))
    of (is-not r v) = at-not (sym (ap (λ x. room_of x (end_at p 1)) (v granted)) ∙ h)

pub opened-within : (p : List ℕ) (e : ℕ) (r : Room) → r ≡ opened p → r ≡ Ok e → e ≤ length p
opened-within p e r re rv =
    let o = opened-at p e (sym re ∙ rv) in
    let l : least_page ≤ length p = o.0.least in
    rw o.1 (end-within p 1 (omega arith))

-- the room at a place
module _ (p : List ℕ) (e n : ℕ) (rest : List ℕ) (te : rest ≡ take (length p - e) (drop e p)) (z : Bool) (ze : z ≡ zeros rest) where
  re : rest ≡ drop e p
  re = te ∙ take_all (length p - e) (drop e p) (omega (arith, length-drop e p))

  at-is : z ≡ zeros (drop e p)
  at-is = ze ∙ ap zeros re

  pub at-unclean : z ≡ false → Err Unclean ≡ room_at p e n
  unfolding room_at
  at-unclean h = simp (sym at-is, h)

  module _ (h₁ : z ≡ true) where
    over : length rest < n + 3 → Err NoRoom ≡ room_at p e n
    unfolding room_at
    over h = let l : length (drop e p) < n + 3 = omega (arith, ap length re) in simp (sym at-is, h₁, lt-ltb _ _ l)

    pub at-tiny : length rest < 3 → Err NoRoom ≡ room_at p e n
    at-tiny h = over (omega arith)

    module _ (h₂ : 3 ≤ length rest) where
      pub at-over : length rest - 3 < n → Err NoRoom ≡ room_at p e n
      at-over h = over (omega arith)

      pub at-enough : n ≤ length rest - 3 → Ok e ≡ room_at p e n
      unfolding room_at
      at-enough h = let l : n + 3 ≤ length (drop e p) = omega (arith, ap length re) in simp (sym at-is, h₁, le-ltb _ _ l)

-- the room for an answer
module _ (p a : List ℕ) where
  pub room-empty : length a ≡ 0 → Err WrongSize ≡ room p a
  unfolding room append_verdict
  room-empty h = simp (eq-eqb _ _ h)

  module _ (h : length a ≡ 0 → ⊥) (r : Room) (re : r ≡ opened p) where
    pub room-not : (n : Refusal) → r ≡ Err n → Err n ≡ room p a
    unfolding room append_verdict opened recover_verdict
    room-not n rv = rw (ne_eqb _ _ h) (of (judged p))
      where
        of : Judged p → Err n ≡ room_of (page_verdict p (further (rest_of p) (length (entry a)))) (end_at p 1)
        of (is-fine f v) = at-not (sym rv ∙ re ∙ ap (λ x. room_of x (end_at p 1)) (v granted))
        of (is-not q v) = sym rv ∙ re ∙ ap (λ x. room_of x (end_at p 1)) (v granted ∙ sym (v _))

    pub room-there : (e : ℕ) → r ≡ Ok e → (x : Room) → x ≡ room_at p e (length a) → x ≡ room p a
    unfolding room append_verdict room_at rest_of
    room-there e rv x xe =
        let o = opened-at p e (sym re ∙ rv) in
        rw (ne_eqb _ _ h, fine-further p o.0, entry_length a, sym o.1) xe

-- the turns of the two loops that store
pub store-start : (m₀ : List ℕ) (ss : List Store) → m₀ ≡ stored m₀ (take 0 ss)
store-start m₀ ss = stored-none m₀ ss

pub store-end : (m₀ m : List ℕ) (ss : List Store) (j count : ℕ) → m ≡ stored m₀ (take j ss) → j ≤ count → count ≤ j → m ≡ stored m₀ (take count ss)
store-end m₀ m ss j count inv h k = let s : count ≡ j = omega arith in rw s inv

module _ (m₀ : List ℕ) (at : ℕ) (a : List ℕ) (count j : ℕ) (m : List ℕ) (inv : m ≡ stored m₀ (take j (placed at a))) where
  pub answer-more : count ≤ length a → j < count → set m (at + j) (get_or a j 0) ≡ stored m₀ (take (j + 1) (placed at a))
  answer-more c h =
      let l : j < length a = omega arith in
      let k : j < length (placed at a) = rw (placed-length at a) l in
      rw inv (stored_next m₀ (placed at a) j (at + j) (get_or a j 0) k (placed_at at a j l))

-- the stores of an entry
closing-next : (q : List ℕ) (at : ℕ) (a : List ℕ) → set (stored q (take (length a) (placed at a))) (at + length a) closing
    ≡ stored q (take (length a + 1) (placed at (a ++ (closing ∷ []))))
closing-next q at a =
    let l : length (a ++ (closing ∷ [])) ≡ length a + 1 = length-append a (closing ∷ []) in
    let k : length a < length (placed at (a ++ (closing ∷ []))) = rw (placed-length at (a ++ (closing ∷ []))) (omega (arith, l)) in
    let f : take (length a) (placed at (a ++ (closing ∷ []))) ≡ take (length a) (placed at a)
    = placed-take (length a) at (a ++ (closing ∷ [])) ∙ ap (placed at) (take-append-le (length a) a (closing ∷ []) (le_refl (length a)))
    ∙ sym (placed-take (length a) at a) in
    let g : get_or (placed at (a ++ (closing ∷ []))) (length a) (0, 0) ≡ (at + length a, closing)
    = placed_at at (a ++ (closing ∷ [])) (length a) (omega (arith, l)) ∙ ap (λ (b : ℕ). (at + length a, b)) (get_or-append_seam a closing [] 0) in
    rw (sym f) (stored_next q (placed at (a ++ (closing ∷ []))) (length a) (at + length a) closing k g)

module _ (p : List ℕ) (at : ℕ) (a : List ℕ) (count : ℕ) where
  pub write-none : count ≡ 0 → p ≡ stored p (take count (placed at (entry a)))
  write-none z = rw z (stored-none p (placed at (entry a)))

  pub write-one : count ≡ 1 → set p at (length a / 256) ≡ stored p (take count (placed at (entry a)))
  unfolding stored placed entry
  write-one o = rw o refl

  -- the page behind the length's stores
  abbrev begun : List ℕ
  begun = set (set p at (length a / 256)) (at + 1) (length a % 256)

  behind-length : (k : ℕ) → stored p (take (suc (suc k)) (placed at (entry a))) ≡ stored begun (take k (placed (at + 2) (a ++ (closing ∷ []))))
  unfolding stored placed entry
  behind-length k = let s : at + 1 + 1 ≡ at + 2 = omega arith in rw s refl

  module _ (h₀ : count ≡ 0 → ⊥) (h₁ : count ≡ 1 → ⊥) where
    two : count ≡ suc (suc (count - 2))
    two = omega arith

    module _ (b : ℕ) (be : b ≡ min (count - 2) (length a)) (m : List ℕ) (me : m ≡ stored begun (take b (placed (at + 2) a))) where
      pub write-part : count - 2 ≤ length a → m ≡ stored p (take count (placed at (entry a)))
      write-part h =
          let s : b ≡ count - 2 = omega arith in
          rw two
          (me ∙ (rw (
            s,
            behind-length (count - 2),
            placed-take (count - 2) (at + 2) (a ++ (closing ∷ [])),
            placed-take (count - 2) (at + 2) a,
            take-append-le (count - 2) a (closing ∷ []) h,
          ) refl))

      pub write-whole : count ≤ length a + 3 → length a < count - 2 → set m (at + length a + 2) closing ≡ stored p (take count (placed at (entry a)))
      write-whole c h =
          let s : b ≡ length a = omega arith in
          let k : count ≡ suc (suc (length a + 1)) = omega arith in
          let i : at + length a + 2 ≡ at + 2 + length a = omega arith in
          rw (k, i, me, s) (closing-next begun (at + 2) a ∙ sym (behind-length (length a + 1)))

-- the places stored to are on the page
module _ (p : List ℕ) (at count : ℕ) (fit : at + count ≤ length p) (h₀ : count ≡ 0 → ⊥) (h₁ : count ≡ 1 → ⊥) (x : ℕ) where
  pub second-within : at + 1 < length (set p at x)
  second-within = omega (arith, length-set p at x)

  module _ (y : ℕ) where
    both_long : length (set (set p at x) (at + 1) y) ≡ length p
    both_long = length-set (set p at x) (at + 1) y ∙ length-set p at x

    pub answer-within : (b n : ℕ) → b ≡ min (count - 2) n → at + 2 + b ≤ length (set (set p at x) (at + 1) y)
    answer-within b n be = omega (arith, both_long)

    pub answer-few : (b n : ℕ) → b ≡ min (count - 2) n → b ≤ n
    answer-few b n be = omega arith

    module _ (m : List ℕ) (me : length m ≡ length (set (set p at x) (at + 1) y)) where
      pub closing-within : (n : ℕ) → n < count - 2 → at + n + 2 < length m
      closing-within n h = omega (arith, both_long, me)

-- the page keeps its length
module _ (p : List ℕ) (i j x y : ℕ) (m : List ℕ) (me : length m ≡ length (set (set p i x) j y)) where
  pub answer-long : length m ≡ length p
  answer-long = me ∙ length-set (set p i x) j y ∙ length-set p i x

  pub closing-long : (k z : ℕ) → length (set m k z) ≡ length p
  closing-long k z = length-set m k z ∙ answer-long
