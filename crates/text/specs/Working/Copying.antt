-- Working laws of the loop that copies. Assumes nothing.
use Rattle.std.specs.Prelude.{◌≡◌, refl, true, false, List, ◌++◌, ℕ, ◌+◌, ◌-◌, ◌<◌, ◌≤◌, get_or, take, drop, set}
use Rattle.std.proofs.Common.{sym, ap, ◌∙◌, take_at, length-take-le, append_assoc, drop-drop}
use borrow.Rule.Slice.PartMut.{put_mid}
use native.Mathlib.Omega.{arith}
use Rattle.std.proofs.Math.Numerals.{add-one}
use Rattle.std.proofs.Math.ListN.{length}
use Rattle.std.proofs.Math.Seq.{paste, paste-zero, paste-suc, take_all}
use borrow.Author.Tests.{le-leb, lt-leb}
use Rattle.text.specs.Copy.{copied, put, copy_at}

-- the buffer with the first i bytes of the string in place
unfoldable pub pasted : List ℕ → ℕ → List ℕ → ℕ → List ℕ
pasted dst at src i = paste dst at src i

module _ (dst : List ℕ) (at : ℕ) (src : List ℕ) where
  pub past_end : length dst < at → copied false dst ≡ copy_at dst at src
  unfolding copy_at
  past_end h = rw (lt-leb (at + length src) (length dst) (omega arith))

  module _ (in_dst : at ≤ length dst) where
    pub no_room_lem : length dst - at < length src → copied false dst ≡ copy_at dst at src
    unfolding copy_at
    no_room_lem h = rw (lt-leb (at + length src) (length dst) (omega arith))

    module _ (room : length src ≤ length dst - at) where
      pub paste_none : dst ≡ pasted dst at src 0
      unfolding pasted
      paste_none = paste-zero dst at src

      pub paste-step : (v : List ℕ) (i : ℕ) → v ≡ pasted dst at src i → i < length src → set v (at + i) (get_or src i 0) ≡ pasted dst at src (i + 1)
      unfolding pasted
      paste-step v i e h = rw (e, add-one i) (paste-suc dst at src i 0 (omega arith) h)

      pub paste-put : (v : List ℕ) (i : ℕ) → v ≡ pasted dst at src i → i ≤ length src → length src ≤ i → v ≡ put dst at src
      unfolding put pasted
      paste-put v i e l h = let z : i ≡ length src = omega arith in rw (e, z, take_all (length src) src (omega arith))

      pub copy_done : (v : List ℕ) → v ≡ put dst at src → copied true v ≡ copy_at dst at src
      unfolding copy_at
      copy_done v e = rw (e, le-leb (at + length src) (length dst) (omega arith))

      pub paste-done : (v : List ℕ) (i : ℕ) → v ≡ pasted dst at src i → i ≤ length src → length src ≤ i → copied true v ≡ copy_at dst at src
      paste-done v i e l h = copy_done v (paste-put v i e l h)

-- a string that stands at the front of a longer one
pub front_long : (b : List ℕ) (k n : ℕ) → k ≤ n → length b ≡ n → k ≡ length (take k b)
front_long b k n h l = sym (length-take-le k b (omega arith))

pub front_fits : (b : List ℕ) (k n m : ℕ) → k ≤ n → length b ≡ n → k ≤ m → length (take k b) ≤ m
front_fits b k n m h l i = omega (arith, front_long b k n h l)

pub transfer-done : (dst : List ℕ) (at : ℕ) (src z b v : List ℕ) → b ≡ put z 0 src → v ≡ put dst at (take (length src) b) → v ≡ put dst at src
unfolding put
transfer-done dst at src z b v be ve =
    let e : take (length src) b ≡ src = rw be (take_at src (drop (0 + length src) z) (length src) refl) in
    ve ∙ ap (λ (x : List ℕ). take at dst ++ x ++ drop (at + length x) dst) e

-- a part that is written over: the string in its place
pub paste-mid : (d : List ℕ) (at : ℕ) (src v : List ℕ) → v ≡ src → put_mid at (at + length src - at) d v ≡ put d at src
unfolding put
paste-mid d at src v e =
    let n : at + length src - at ≡ length src = omega arith in
    rw (e, n) (ap (λ (x : List ℕ). take at d ++ (src ++ x)) (drop-drop (length src) at d) ∙ sym (append_assoc (take at d) src (drop (at + length src) d)))

pub ruleset pasting = (paste-mid)
