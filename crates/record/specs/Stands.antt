-- That bytes stand in a record at a place. Assumes nothing.
use Rattle.std.specs.Prelude.{◌≡◌, refl, List, [], ◌∷◌, ◌++◌, ℕ, ◌+◌, ◌-◌, ◌/◌, ◌%◌, ◌<◌, ◌≤◌, length, get_or, take, drop}
use Rattle.std.proofs.Common.{sym, ap, ◌∙◌, append_assoc, append-nil, arith, add-one, add-zero, le-ltb, length-append, length-drop, take-append-drop, drop-drop, length-take-le, get_or-drop, drop-cons}
use Rattle.text.specs.Counted.{part, pair_at, counted}
use Rattle.record.specs.Encode.{string_bytes}
use Rattle.std.proofs.Math.Seq.{drop-append_seam, take-append_seam, drop-length}

-- the bytes e stand at the place, and p is the place behind them
pub record Stands (s : List ℕ) (at : ℕ) (e : List ℕ) (p : ℕ) : Type 0 where
  pub behind : p ≡ at + length e
  pub here : drop at s ≡ e ++ drop p s
  pub inside : p ≤ length s

drop_more : (s : List ℕ) (at n : ℕ) → drop (at + n) s ≡ drop n (drop at s)
drop_more s at n = sym (drop-drop n at s)

pub stands-nothing : (s : List ℕ) (at : ℕ) → at ≤ length s → Stands s at [] at
stands-nothing s at h = record { behind = sym (add-zero at); here = refl; inside = h }

pub stands-join : {s e f : List ℕ} {at p q : ℕ} → Stands s at e p → Stands s p f q → Stands s at (e ++ f) q
stands-join {s} {e} {f} {at} {p} {q} one two = record {
  behind = omega (arith, one.behind, two.behind, length-append e f);
  here = one.here ∙ rw two.here (sym (append_assoc e f (drop q s)));
  inside = two.inside;
}

module _ {s : List ℕ} {at q : ℕ} (e f : List ℕ) (st : Stands s at (e ++ f) q) where
  rest-here : drop (at + length e) s ≡ f ++ drop q s
  rest-here = drop_more s at (length e) ∙ rw (st.here, append_assoc e f (drop q s)) (drop-append_seam e (f ++ drop q s))

  pub stands-left : Stands s at e (at + length e)
  stands-left = record {
    behind = refl;
    here = st.here ∙ append_assoc e f (drop q s) ∙ rw rest-here;
    inside = omega (arith, st.behind, st.inside, length-append e f);
  }

  pub stands-right : Stands s (at + length e) f q
  stands-right = record { behind = omega (arith, st.behind, length-append e f); here = rest-here; inside = st.inside }

-- one byte
pub stands-byte : (s : List ℕ) (at : ℕ) → at < length s → Stands s at (get_or s at 0 ∷ []) (at + 1)
stands-byte s at h = record { behind = refl; here = rw (add-one at) (drop-cons s at 0 h); inside = omega arith }

pub byte_at : {s : List ℕ} {at b p : ℕ} → Stands s at (b ∷ []) p → get_or s at 0 ≡ b
byte_at {s} {at} {b} {p} st =
    let e : get_or (drop at s) 0 0 ≡ b = rw st.here in
    let z : at + 0 ≡ at = add-zero at in
    rw (← z) (sym (get_or-drop at s 0 0) ∙ e)

-- a part
pub stands-part : (s : List ℕ) (at n : ℕ) → at + n ≤ length s → Stands s at (take n (drop at s)) (at + n)
stands-part s at n h = record {
  behind = let l : length (take n (drop at s)) ≡ n = part-size in omega arith;
  here = sym (take-append-drop n (drop at s)) ∙ rw (drop_more s at n);
  inside = h;
} where
  part-size : length (take n (drop at s)) ≡ n
  part-size = length-take-le n (drop at s) (rw (length-drop at s) (omega arith))

pub part_at : {s e : List ℕ} {at p : ℕ} → Stands s at e p → take (length e) (drop at s) ≡ e
part_at {s} {e} {at} {p} st = rw st.here (take-append_seam e (drop p s))

-- a whole record
pub stands-all : (s : List ℕ) → Stands s 0 s (length s)
stands-all s = record { behind = omega arith; here = rw (drop-length s) (sym (append-nil s)); inside = omega arith }

pub all_of : {s e : List ℕ} {p : ℕ} → Stands s 0 e p → length s ≤ p → e ≡ s
all_of {s} {e} {p} st h =
    let z : p ≡ length s = omega (arith, st.inside) in
    let d : drop p s ≡ [] = rw z (drop-length s) in
    sym (append-nil e) ∙ ap (λ (r : List ℕ). e ++ r) (sym d) ∙ sym st.here

-- two bytes that write a number, and a string behind its length
pub pair-at : {s : List ℕ} {at p : ℕ} (n : ℕ) → Stands s at (n / 256 ∷ n % 256 ∷ []) p → pair_at s at ≡ n
unfolding pair_at
pair-at {s} {at} n st =
    let a : get_or s at 0 ≡ n / 256 = byte_at (stands-left (n / 256 ∷ []) (n % 256 ∷ []) st) in
    let b : get_or s (at + 1) 0 ≡ n % 256 = byte_at (stands-right (n / 256 ∷ []) (n % 256 ∷ []) st) in
    rw (a, b) (omega arith)

pub counted-at : {s : List ℕ} {at p : ℕ} (b : List ℕ) → Stands s at (string_bytes b) p → counted s (at + 2) ≡ b
unfolding counted part string_bytes
counted-at {s} {at} {p} b st =
    let front : List ℕ = length b / 256 ∷ length b % 256 ∷ [] in
    let st₁ : Stands s at front (at + 2) = stands-left front b st in
    let st₂ : Stands s (at + 2) b p = stands-right front b st in
    let n : pair_at s at ≡ length b = pair-at (length b) st₁ in
    let z : at + 2 - 2 ≡ at = omega arith in
    rw
    (le-ltb (at + 2) 2 (omega arith), le-ltb (length s) (at + 2) st₁.inside, z, n, le-ltb (length s - (at + 2)) (length b) (omega (arith, st₂.behind, st₂.inside)), part_at st₂)
