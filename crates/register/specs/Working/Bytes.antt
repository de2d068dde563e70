-- Working definitions and laws of the register's bytes. Assumes nothing.
use Rattle.std.specs.Prelude.{◌≡◌, Bool, true, false, eqb, ltb, get_or, set, take, drop, replicate, Result, Ok, Err}
use Rattle.std.proofs.Math.Path.{refl, sym, ap, subst}
use Rattle.std.proofs.Common.{◌∙◌, length-append, drop_at, length-take-le, take-take}
use mathlib.Core.List.{List, [], ◌∷◌, ◌++◌, map, append_assoc, append-nil}
use Prim.Native.Nat.{ℕ, zero, suc, ◌+◌, ◌-◌, ◌*◌, ◌<◌, ◌≤◌}
use native.Mathlib.Omega.{arith}
use Rattle.std.proofs.Math.ListN.{length}
use Rattle.std.proofs.lemmas.List.{take-append-le}
use Rattle.std.proofs.Math.Seq.{drop-length}
use borrow.Author.Tests.{lt-ltb, le-ltb, le-leb, eq-eqb, ne_eqb}
use Rattle.text.specs.Choice.{pick}
use Rattle.text.specs.Copy.{copied, put, copy_at}
use Rattle.text.specs.CopyLaws.{put-length, put-nil}
use Rattle.text.specs.Counted.{pair_at}
use Rattle.register.specs.Entries.{Entry, free, held}
use Rattle.register.specs.Layout.{four_bytes, eight_bytes, entry_bytes, entries_bytes, head, encode, four_at, eight_at, entry_at, entries_at}
use Rattle.register.specs.Told.{entry_of, contents}
use Rattle.register.specs.Working.Places.{at}
use Rattle.register.specs.Working.Ties.{entries_in, entries-map, stored_here}
use Rattle.register.specs.declared.Place.{Place}
use Rattle.register.specs.declared.Register.{Register}
use Rattle.register.specs.declared.layout.Unfit.{Unfit}
use Rattle.register.specs.declared.layout.Unfit.TheVariants.{Length, Version, Mark}

-- whether bytes are a register
abbrev pub Check : Type 0
Check = Result (Unit {0}) Unfit

-- the marks of n places from a number on
abbrev pub marks_in : ℕ → List ℕ → ℕ → Check
marks_in zero s i = Ok tt
marks_in (suc n) s i = pick (ltb 1 (get_or s (9 + i * 13) 0)) (Err (Mark (9 + i * 13))) (marks_in n s (i + 1))

unfoldable pub readable_at : List ℕ → ℕ → Check
readable_at s i = marks_in (64 - i) s i

unfoldable pub readable : List ℕ → Check
readable s = pick (eqb (length s) 841) (pick (eqb (get_or s 0 0) 1) (readable_at s 0) (Err Version)) (Err Length)

-- numbers read
pub two-read : (s : List ℕ) (i a b : ℕ) → a ≡ get_or s i 0 → b ≡ get_or s (i + 1) 0 → a * 256 + b ≡ pair_at s i
unfolding pair_at
two-read s i a b ae be = rw (ae, be) refl

pub two-few : (a b : ℕ) → a < 256 → b < 256 → a * 256 + b < 65536
two-few a b al bl = omega arith

pub four-read : (s : List ℕ) (i a b : ℕ) → a ≡ pair_at s i → b ≡ pair_at s (i + 2) → a * 65536 + b ≡ four_at s i
unfolding four_at
four-read s i a b ae be = rw (ae, be) refl

pub four-few : (a b : ℕ) → a < 65536 → b < 65536 → a * 65536 + b < 4294967296
four-few a b al bl = omega arith

pub eight-read : (s : List ℕ) (i a b : ℕ) → a ≡ four_at s i → b ≡ four_at s (i + 4) → a * 4294967296 + b ≡ eight_at s i
unfolding eight_at
eight-read s i a b ae be = rw (ae, be) refl

-- an entry read
module _ (s : List ℕ) (i : ℕ) where
  pub entry-held : get_or s i 0 ≡ 1 → (x m : ℕ) → x ≡ four_at s (i + 1) → m ≡ eight_at s (i + 5)
      → entry_of (record { held = true; principal = x; moves = m }) ≡ entry_at s i
  unfolding entry_at
  entry-held h x m xe me = rw (eq-eqb (get_or s i 0) 1 h, xe, me) refl

  pub entry_free : (get_or s i 0 ≡ 1 → ⊥) → entry_of (record { held = false; principal = 0; moves = 0 }) ≡ entry_at s i
  unfolding entry_at
  entry_free h = rw (ne_eqb (get_or s i 0) 1 h) refl

-- all entries read, from the last place to the first
pub read-start : (s : List ℕ) (l : List Place) → entries_in (64 - 64) l 64 ≡ entries_at (64 - 64) s (9 + 64 * 13)
unfolding entries_at
read-start s l = refl

module _ (s : List ℕ) (l : List Place) (i : ℕ) (long : length l ≡ 64) (inv : entries_in (64 - i) l i ≡ entries_at (64 - i) s (9 + i * 13)) where
  pub read_more : 0 < i → i ≤ 64 → (p : Place) → entry_of p ≡ entry_at s (9 + (i - 1) * 13)
      → entries_in (64 - (i - 1)) (set l (i - 1) p) (i - 1) ≡ entries_at (64 - (i - 1)) s (9 + (i - 1) * 13)
  unfolding entries_at
  read_more h k p e =
      let n : 64 - (i - 1) ≡ suc (64 - i) = omega arith in
      let j : i - 1 + 1 ≡ i = omega arith in
      let b : 9 + (i - 1) * 13 + 13 ≡ 9 + i * 13 = omega arith in
      let a : entries_in (suc (64 - i)) (set l (i - 1) p) (i - 1) ≡ entry_of p ∷ entries_in (64 - i) l (i - 1 + 1) = stored_here (64 - i) l (i - 1) p (omega arith) in
      let c : entries_in (64 - i) l (i - 1 + 1) ≡ entries_at (64 - i) s (9 + (i - 1) * 13 + 13) = rw (j, b) inv in
      rw n (a ∙ ap (λ (es : List Entry). entry_of p ∷ es) c ∙ ap (λ (y : Entry). y ∷ entries_at (64 - i) s (9 + (i - 1) * 13 + 13)) e)

  pub read_done : i ≤ 0 → (n : ℕ) → n ≡ eight_at s 1
      → contents (record { places = l; issued = n }) ≡ record { entries = entries_at 64 s 9; issued = eight_at s 1 }
  unfolding contents
  read_done h n e =
      let z : i ≡ 0 = omega arith in
      let a : entries_in 64 l 0 ≡ entries_at 64 s 9 = rw z at inv in
      let b : map entry_of l ≡ entries_at 64 s 9 = sym (entries-map l 64 long) ∙ a in rw (b, e) refl

-- whether the bytes are a register
module _ (s : List ℕ) where
  pub check-length : (length s ≡ 841 → ⊥) → Err Length ≡ readable s
  unfolding readable
  check-length h = rw (ne_eqb (length s) 841 h) refl

  module _ (h : length s ≡ 841) where
    pub check-version : (get_or s 0 0 ≡ 1 → ⊥) → Err Version ≡ readable s
    unfolding readable
    check-version v = rw (eq-eqb (length s) 841 h, ne_eqb (get_or s 0 0) 1 v) refl

    pub check-start : get_or s 0 0 ≡ 1 → readable_at s 0 ≡ readable s
    unfolding readable
    check-start v = rw (eq-eqb (length s) 841 h, eq-eqb (get_or s 0 0) 1 v) refl

  module _ (i : ℕ) (r : Check) (inv : readable_at s i ≡ r) where
    pub check-end : 64 ≤ i → Ok tt ≡ r
    unfolding readable_at
    check-end h = let n : 64 - i ≡ zero = omega arith in (rw n refl) ∙ inv

    module _ (h : i < 64) where
      pub check-bad : 1 < get_or s (9 + i * 13) 0 → Err (Mark (9 + i * 13)) ≡ r
      unfolding readable_at
      check-bad b = let n : 64 - i ≡ suc (64 - (i + 1)) = omega arith in (rw (n, lt-ltb 1 (get_or s (9 + i * 13) 0) b) refl) ∙ inv

      pub check-more : get_or s (9 + i * 13) 0 ≤ 1 → readable_at s (i + 1) ≡ r
      unfolding readable_at
      check-more b = let n : 64 - i ≡ suc (64 - (i + 1)) = omega arith in (rw (n, le-ltb 1 (get_or s (9 + i * 13) 0) b) refl) ∙ inv

-- bytes of a place
pub held_bytes : (p : Place) → p.held ≡ true → (x m : List ℕ) → x ≡ four_bytes p.principal → m ≡ eight_bytes p.moves
    → ◌≡◌ {A = List ℕ} (1 ∷ get_or x 0 0 ∷ get_or x 1 0 ∷ get_or x 2 0 ∷ get_or x 3 0 ∷ get_or m 0 0 ∷ get_or m 1 0 ∷ get_or m 2 0 ∷ get_or m 3 0 ∷ get_or m 4 0 ∷ get_or m 5 0 ∷ get_or m 6 0 ∷ get_or m 7 0 ∷ []) (entry_bytes (entry_of p))
held_bytes p h x m xe me = rw (h, xe, me) refl

pub free_bytes : (p : Place) → p.held ≡ false → replicate 13 0 ≡ entry_bytes (entry_of p)
free_bytes p h = rw h refl

pub entry_length : (e : Entry) → length (entry_bytes e) ≡ 13
entry_length free = refl
entry_length (held x m) = refl

pub entries-length : (es : List Entry) → length (entries_bytes es) ≡ length es * 13
unfolding entries_bytes
entries-length [] = refl
entries-length (e ∷ es) =
    let a = length-append (entry_bytes e) (entries_bytes es) in
    let m : suc (length es) * 13 ≡ 13 + length es * 13 = omega arith in
    omega (arith, a, entry_length e, entries-length es)

-- a copy that fits
pub copy-fits : (d d' : List ℕ) (i : ℕ) (r : Bool) (b : List ℕ) → i + length b ≤ length d → copied r d' ≡ copy_at d i b → d' ≡ put d i b
unfolding copy_at
copy-fits d d' i r b h e = bytes_of (rw (le-leb (i + length b) (length d) h) at e)
  where
    bytes_of : {r t : Bool} {x y : List ℕ} → copied r x ≡ copied t y → x ≡ y
    bytes_of k = cc

-- a string put before another
pub put-before : (d : List ℕ) (i : ℕ) (a b : List ℕ) → i + length a + length b ≤ length d → put (put d (i + length a) b) i a ≡ put d i (a ++ b)
unfolding put
put-before d i a b h =
    let r : List ℕ = drop (i + length a + length b) d in
    let l : length (take (i + length a) d) ≡ i + length a = length-take-le (i + length a) d (omega arith) in
    let e : take (i + length a) d ++ b ++ drop (i + length a + length b) d ≡ take (i + length a) d ++ (b ++ drop (i + length a + length b) d)
    = append_assoc (take (i + length a) d) b (drop (i + length a + length b) d) in
    let k : i ≤ length (take (i + length a) d) = omega (arith, l) in
    let t : take i (take (i + length a) d ++ (b ++ drop (i + length a + length b) d)) ≡ take i d
    = take-append-le i (take (i + length a) d) (b ++ drop (i + length a + length b) d) k ∙ take-take i (i + length a) d (omega arith) in
    let u : drop (i + length a) (take (i + length a) d ++ (b ++ drop (i + length a + length b) d)) ≡ b ++ drop (i + length a + length b) d
    = drop_at (take (i + length a) d) (b ++ drop (i + length a + length b) d) (i + length a) l in
    let n : i + length a + length b ≡ i + length (a ++ b) = omega (arith, length-append a b) in
    rw (e, t, u, n)
    (sym (append_assoc (take i d ++ a) b (drop (i + length (a ++ b)) d))
    ∙ ap (λ (x : List ℕ). x ++ drop (i + length (a ++ b)) d) (append_assoc (take i d) a b))

-- one place written
pub place-put : (d d' : List ℕ) (i : ℕ) (r : Bool) (b : List ℕ) (p : Place) → i + 13 ≤ length d → b ≡ entry_bytes (entry_of p) → copied r d' ≡ copy_at d i b
    → d' ≡ put d i (entry_bytes (entry_of p))
place-put d d' i r b p h e c =
    let n : length b ≡ 13 = ap length e ∙ entry_length (entry_of p) in
    copy-fits d d' i r b (omega arith) c ∙ ap (λ (x : List ℕ). put d i x) e

-- all places written, from the last to the first
entries-in-length : (n : ℕ) (l : List Place) (i : ℕ) → length (entries_in n l i) ≡ n
entries-in-length zero l i = refl
entries-in-length (suc n) l i = ap suc (entries-in-length n l (i + 1))

bytes-in-length : (n : ℕ) (l : List Place) (i : ℕ) → length (entries_bytes (entries_in n l i)) ≡ n * 13
bytes-in-length n l i = entries-length (entries_in n l i) ∙ ap (λ (k : ℕ). k * 13) (entries-in-length n l i)

pub put-start : (d : List ℕ) (l : List Place) → d ≡ put d (9 + 64 * 13) (entries_bytes (entries_in (64 - 64) l 64))
unfolding entries_bytes
put-start d l = sym (put-nil d (9 + 64 * 13))

module _ (d m : List ℕ) (l : List Place) (i : ℕ) (long : length d ≡ 841) (inv : m ≡ put d (9 + i * 13) (entries_bytes (entries_in (64 - i) l i))) where
  pub put-more : 0 < i → i ≤ 64 → (m' : List ℕ) → m' ≡ put m (9 + (i - 1) * 13) (entry_bytes (entry_of (at l (i - 1))))
      → m' ≡ put d (9 + (i - 1) * 13) (entries_bytes (entries_in (64 - (i - 1)) l (i - 1)))
  unfolding entries_bytes
  put-more h k m' e =
      let n : 64 - (i - 1) ≡ suc (64 - i) = omega arith in
      let j : i - 1 + 1 ≡ i = omega arith in
      let w : List ℕ = entry_bytes (entry_of (at l (i - 1))) in
      let lw : length (entry_bytes (entry_of (at l (i - 1)))) ≡ 13 = entry_length (entry_of (at l (i - 1))) in
      let b : 9 + i * 13 ≡ 9 + (i - 1) * 13 + length (entry_bytes (entry_of (at l (i - 1)))) = omega arith in
      let lr : length (entries_bytes (entries_in (64 - i) l i)) ≡ (64 - i) * 13 = bytes-in-length (64 - i) l i in
      let inv' : m ≡ put d (9 + (i - 1) * 13 + length (entry_bytes (entry_of (at l (i - 1))))) (entries_bytes (entries_in (64 - i) l i))
      = subst (λ (z : ℕ). m ≡ put d z (entries_bytes (entries_in (64 - i) l i))) b inv in
      rw (n, j)
      (e ∙ ap (λ (x : List ℕ). put x (9 + (i - 1) * 13) (entry_bytes (entry_of (at l (i - 1))))) inv'
      ∙ put-before d (9 + (i - 1) * 13) (entry_bytes (entry_of (at l (i - 1)))) (entries_bytes (entries_in (64 - i) l i)) (omega arith))

pub put-done : (d m : List ℕ) (r : Register) (i : ℕ) → length r.places ≡ 64 → i ≤ 0
    → m ≡ put d (9 + i * 13) (entries_bytes (entries_in (64 - i) r.places i)) → m ≡ put d 9 (entries_bytes (contents r).entries)
unfolding contents
put-done d m r i long h inv =
    let z : i ≡ 0 = omega arith in
    let a : m ≡ put d 9 (entries_bytes (entries_in 64 r.places 0)) = rw z at inv in
    a ∙ ap (λ (es : List Entry). put d 9 (entries_bytes es)) (entries-map r.places 64 long)

pub contents-long : (r : Register) → length r.places ≡ 64 → length (contents r).entries ≡ 64
unfolding contents
contents-long r long = sym (ap length (entries-map r.places 64 long)) ∙ entries-in-length 64 r.places 0

-- the whole register written
put_whole : (d a : List ℕ) → length a ≡ length d → put d 0 a ≡ a
unfolding put
put_whole d a h =
    let n : 0 + length a ≡ length d = omega arith in
    rw n (ap (λ (x : List ℕ). a ++ x) (drop-length d) ∙ append-nil a)

pub write_done : (d m m' : List ℕ) (r : Register) (b : List ℕ) (t : Bool) → length d ≡ 841 → m ≡ put d 9 (entries_bytes (contents r).entries)
    → length (contents r).entries ≡ 64 → b ≡ head r.issued → copied t m' ≡ copy_at m 0 b → m' ≡ encode (contents r)
unfolding encode contents
write_done d m m' r b t long e n be c =
    let le : length (entries_bytes (map entry_of r.places)) ≡ 832 = entries-length (map entry_of r.places) ∙ ap (λ (k : ℕ). k * 13) n in
    let lb : length b ≡ 9 = ap length be in
    let lm : length m ≡ 841 = ap length e ∙ put-length d 9 (entries_bytes (map entry_of r.places)) (let q : 9 + length (entries_bytes (map entry_of r.places)) ≤ length d = omega arith in q) ∙ long in
    let f : m' ≡ put m 0 b = copy-fits m m' 0 t b (omega arith) c in
    let lh : length (head r.issued) ≡ 9 = refl in
    let whole : length (head r.issued ++ entries_bytes (map entry_of r.places)) ≡ length d
    = omega (arith, length-append (head r.issued) (entries_bytes (map entry_of r.places))) in
    f ∙ ap (λ (x : List ℕ). put m 0 x) be ∙ ap (λ (x : List ℕ). put x 0 (head r.issued)) e
    ∙ put-before d 0 (head r.issued) (entries_bytes (map entry_of r.places)) (omega arith)
    ∙ put_whole d (head r.issued ++ entries_bytes (map entry_of r.places)) whole
