-- Working laws of writing as much as fits: the ways out of `add`, and that one text behind another is both in one. Assumes nothing.
use Rattle.std.specs.Prelude.{◌≡◌, Bool, true, false, leb}
use Rattle.std.proofs.Math.Path.{refl, sym, ap}
use Rattle.std.proofs.Common.{◌∙◌, arith, take_all, length-take-le, le-leb, leb-true, leb-false}
use mathlib.Core.List.{List, [], ◌++◌}
use Prim.Native.Nat.{ℕ, ◌+◌, ◌-◌, ◌<◌, ◌≤◌, min}
use Rattle.std.proofs.Math.ListN.{length, take, length-append, length-take}
use Rattle.std.proofs.Math.Seq.{take-nil, take-append-add}
use Rattle.std.proofs.lemmas.List.{take-append-le, take_min}
use Rattle.text.specs.Choice.{pick, split}
use Rattle.text.specs.Copy.{Copied, copied, put, copy_at}
use Rattle.text.specs.CopyLaws.{put-nil, put-append, put-length}
use Rattle.printed.specs.Fill.{Filled, filled, fill_at}

-- both parts of what is written
both : {r s : ℕ} {o p : List ℕ} → r ≡ s → o ≡ p → filled r o ≡ filled s p
both {r} {s} {o} {p} e f = rw (e, f)

abbrev after : Copied → List ℕ
after (copied b o) = o

-- a copy that fits
copy-fits : (out : List ℕ) (at : ℕ) (x : List ℕ) (b : Bool) (o : List ℕ) → at + length x ≤ length out → copied b o ≡ copy_at out at x → o ≡ put out at x
unfolding copy_at
copy-fits out at x b o h e = ap after (e ∙ ap (λ (t : Bool). pick t (copied true (put out at x)) (copied false out)) (le-leb (at + length x) (length out) h))

module _ (out : List ℕ) (at : ℕ) where
  -- no room
  pub fill_none : (x : List ℕ) → length out ≤ at → filled at out ≡ fill_at out at x
  unfolding fill_at
  fill_none x h =
      let z : length out - at ≡ 0 = omega (arith, h) in
      both (omega (arith, h)) (sym (ap (λ (k : ℕ). put out at (take k x)) z ∙ put-nil out at))

  -- nothing to write
  pub fill-nil : filled at out ≡ fill_at out at []
  unfolding fill_at
  fill-nil = both (omega arith) (sym (ap (put out at) (take-nil (length out - at)) ∙ put-nil out at))

  -- room for a part
  fill-part : (x : List ℕ) → at ≤ length out → length out - at ≤ length x → filled (length out) (put out at (take (length out - at) x)) ≡ fill_at out at x
  unfolding fill_at
  fill-part x h k = both (omega (arith, h, k)) refl

  -- room for the whole
  fill-whole : (x : List ℕ) → at ≤ length out → length x ≤ length out - at → filled (at + length x) (put out at x) ≡ fill_at out at x
  unfolding fill_at
  fill-whole x h k = both (omega (arith, h, k)) (ap (λ (y : List ℕ). put out at y) (sym (take_all (length out - at) x k)))

  -- `add` of what fits
  pub add-cut : (x part : List ℕ) (b : Bool) (o : List ℕ) → at < length out → part ≡ take (length out - at) x → copied b o ≡ copy_at out at part → filled (at + length part) o ≡ fill_at out at x
  unfolding fill_at
  add-cut x part b o h pe e =
      let l : length part ≡ min (length out - at) (length x) = ap length pe ∙ length-take (length out - at) x in
      both (omega (arith, l)) (copy-fits out at part b o (omega (arith, l, h)) e ∙ ap (put out at) pe)

-- `cut`
pub cut_is : (x : List ℕ) (n k : ℕ) → k ≡ min (length x) n → take k x ≡ take n x
cut_is x n k h = ap (λ (i : ℕ). take i x) (h ∙ min-turned (length x) n) ∙ take_min n x
  where
    min-turned : (a b : ℕ) → min a b ≡ min b a
    min-turned a b = omega arith

-- a text behind what is written
abbrev on_filled : List ℕ → Filled → Filled
on_filled b (filled r o) = fill_at o r b

module _ (out : List ℕ) (at : ℕ) (a b : List ℕ) where
  then-none : length out ≤ at → on_filled b (fill_at out at a) ≡ fill_at out at (a ++ b)
  then-none h = ap (on_filled b) (sym (fill_none out at a h)) ∙ sym (fill_none out at b h) ∙ fill_none out at (a ++ b) h

  then-part : at ≤ length out → length out - at ≤ length a → on_filled b (fill_at out at a) ≡ fill_at out at (a ++ b)
  then-part h k =
      let n : List ℕ = take (length out - at) a in
      let l : length n ≡ length out - at = length-take-le (length out - at) a k in
      let m : length (put out at n) ≡ length out = put-length out at n (omega (arith, l, h)) in
      let j : length (a ++ b) ≡ length a + length b = length-append a b in
      ap (on_filled b) (sym (fill-part out at a h k))
      ∙ sym (fill_none (put out at n) (length out) b (omega (arith, m)))
      ∙ both refl (ap (λ (y : List ℕ). put out at y) (sym (take-append-le (length out - at) a b k)))
      ∙ fill-part out at (a ++ b) h (omega (arith, j, k))

  then-whole : at ≤ length out → length a ≤ length out - at → on_filled b (fill_at out at a) ≡ fill_at out at (a ++ b)
  unfolding fill_at
  then-whole h k =
      let m : length (put out at a) ≡ length out = put-length out at a (omega (arith, h, k)) in
      let j : length (a ++ b) ≡ length a + length b = length-append a b in
      let i : length a + (length out - (at + length a)) ≡ length out - at = omega (arith, h, k) in
      let t : take (length out - at) (a ++ b) ≡ a ++ take (length out - (at + length a)) b
      = ap (λ (k : ℕ). take k (a ++ b)) (sym i) ∙ take-append-add a b (length out - (at + length a)) in
      ap (on_filled b) (sym (fill-whole out at a h k))
      ∙ both (omega (arith, m, j, h, k))
      (ap (λ (k : ℕ). put (put out at a) (at + length a) (take (k - (at + length a)) b)) m
      ∙ sym (put-append out at a (take (length out - (at + length a)) b) h)
      ∙ ap (λ (y : List ℕ). put out at y) (sym t))

  fill-append : on_filled b (fill_at out at a) ≡ fill_at out at (a ++ b)
  fill-append =
      split (leb (length out) at)
      (λ e. then-none (leb-true (length out) at e))
      (λ e.
      let h : at ≤ length out = omega (arith, leb-false (length out) at e) in
      split (leb (length a) (length out - at))
      (λ f. then-whole h (leb-true (length a) (length out - at) f))
      (λ f. then-part h (omega (arith, leb-false (length a) (length out - at) f))))

  -- one text behind another
  pub fill-then : (r s : ℕ) (o p : List ℕ) → filled r o ≡ fill_at out at a → filled s p ≡ fill_at o r b → filled s p ≡ fill_at out at (a ++ b)
  fill-then r s o p e f = f ∙ ap (on_filled b) e ∙ fill-append
