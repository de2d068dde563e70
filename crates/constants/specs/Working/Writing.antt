-- Working laws: the ways out of the functions that write the joined texts. Assumes nothing.
use Rattle.std.specs.Prelude.{◌≡◌, refl, Bool, ℕ, suc, ◌+◌, ◌-◌, ◌/◌, ◌%◌, ◌<◌, ◌≤◌, min, eqb, get_or, drop}
use Rattle.std.proofs.Math.Path.{sym, ap}
use Rattle.std.proofs.Common.{◌∙◌, length-append, drop_of_length-le, drop-cons}
use Rattle.std.proofs.Math.Bool.{true}
use mathlib.Core.List.{List, [], ◌∷◌, ◌++◌, map}
use native.Mathlib.Omega.{arith}
use Rattle.std.proofs.Math.Numerals.{add-one}
use Rattle.std.proofs.Math.ListN.{length}
use borrow.Author.Tests.{lt-ltb, le-ltb, le-leb, lt-leb, eq-eqb, ne_eqb}
use Rattle.text.specs.Choice.{pick}
use Rattle.text.specs.Copy.{copied, put, copy_at}
use Rattle.text.specs.CopyLaws.{put-append, put-length}
use Rattle.text.specs.Counted.{counted, pair_bytes}
use Rattle.text.specs.Put.{put_pair}
use Rattle.text.specs.CountedLaws.{pair_put}
use Rattle.text.specs.Join.{joined, followed}
use Rattle.record.specs.Encode.{string_bytes}
use Rattle.constants.specs.Constants.{written, counted_into, begun_into}

-- the length of what is left to join from string i on
unfoldable pub size_from : ℕ → List (List ℕ) → ℕ
size_from i [] = 0
size_from i (x ∷ xs) = pick (eqb i 0) 0 1 + length x + size_from (suc i) xs

size-followed : (i : ℕ) (xs : List (List ℕ)) → size_from (suc i) xs ≡ length (followed xs)
unfolding size_from followed
size-followed i [] = refl
size-followed i (x ∷ xs) = rw (ne_eqb (suc i) 0 (λ z. omega arith), length-append x (followed xs)) (omega (arith, size-followed (suc i) xs))

size-joined : (xs : List (List ℕ)) → size_from 0 xs ≡ length (joined xs)
unfolding size_from joined
size-joined [] = refl
size-joined (x ∷ xs) = rw (length-append x (followed xs)) (omega (arith, size-followed 0 xs))

unfoldable pub size_rest : List ℕ → List ℕ → ℕ → ℕ
size_rest s ps i = size_from i (map (counted s) (drop i ps))

pub size-start : (s ps : List ℕ) → 0 + size_rest s ps 0 ≡ length (joined (map (counted s) ps))
unfolding size_rest
size-start s ps = omega (arith, size-joined (map (counted s) ps))

module _ (s ps : List ℕ) (i n total : ℕ) (inv : n + size_rest s ps i ≡ total) where
  pub size-end : length ps ≤ i → n ≤ 65535 → n ≡ min total 65536
  unfolding size_rest size_from
  size-end h l = let q : n + 0 ≡ total = rw (drop_of_length-le ps h) at inv in omega arith

  module _ (h : i < length ps) (c : ℕ) (ce : c ≡ pick (eqb i 0) 0 1) (p : ℕ) (pe : p ≡ get_or ps i 0) (x : List ℕ) (xe : x ≡ counted s p) where
    rest-is : size_rest s ps i ≡ c + length x + size_rest s ps (i + 1)
    unfolding size_rest size_from
    rest-is = rw (drop-cons ps i 0 h, add-one i, ← pe, ← xe, ← ce)

    pub size-no-comma : 65535 - n < c → 65536 ≡ min total 65536
    size-no-comma l = omega (arith, rest-is)

    pub size-no-item : 65535 - n - c < length x → 65536 ≡ min total 65536
    size-no-item l = omega (arith, rest-is)

    pub size-more : n + c + length x + size_rest s ps (i + 1) ≡ total
    size-more = omega (arith, rest-is)

copied_is : {c c' : Bool} {m m' : List ℕ} → copied c m ≡ copied c' m' → m ≡ m'
copied_is e = cc

-- the ways out of `write_joined`
module _ (dst : List ℕ) (at : ℕ) (b : List ℕ) (n : ℕ) (ne : n ≡ min (length b) 65536) where
  pub write-over : 65535 < n → written 0 dst ≡ counted_into dst at b
  unfolding counted_into
  write-over h = let l : 65535 < length b = omega arith in rw (lt-ltb 65535 (length b) l)

  module _ (short : n ≤ 65535) where
    none : length dst < at + 2 + length b → written 0 dst ≡ counted_into dst at b
    unfolding counted_into
    none h = let l : length b ≤ 65535 = omega arith in rw (le-ltb 65535 (length b) l, lt-leb (at + 2 + length b) (length dst) h)

    pub write-past : length dst < at → written 0 dst ≡ counted_into dst at b
    write-past h = none (omega arith)

    module _ (in-d : at ≤ length dst) where
      pub write-half : length dst - at < 2 → written 0 dst ≡ counted_into dst at b
      write-half h = none (omega arith)

      module _ (two : 2 ≤ length dst - at) where
        pub write-short : length dst - at - 2 < n → written 0 dst ≡ counted_into dst at b
        write-short h = none (omega arith)

        pub write-in : n ≤ length dst - at - 2 → (u : Bool) (e : List ℕ) → copied u e ≡ put_pair dst at n → (c : Bool) (d : List ℕ)
            → copied c d ≡ copy_at e (at + 2) b → written (at + 2 + n) d ≡ counted_into dst at b
        unfolding counted_into copy_at string_bytes pair_bytes
        write-in h u e ue c d ce =
            let ee : e ≡ put dst at (n / 256 ∷ n % 256 ∷ []) = pair_put dst at n short (omega arith) u e ue in
            let q : n ≡ length b = omega arith in
            let l : length b ≤ 65535 = omega arith in
            let fits : at + 2 + length b ≤ length dst = omega arith in
            let s : length e ≡ length dst = ap length ee ∙ put-length dst at (n / 256 ∷ n % 256 ∷ []) (omega arith) in
            let t : copied c d ≡ copied true (put e (at + 2) b) = rw (le-leb (at + 2 + length b) (length e) (omega arith)) at ce in
            let de : d ≡ put dst at ((n / 256 ∷ n % 256 ∷ []) ++ b)
            = copied_is t ∙ ap (λ (y : List ℕ). put y (at + 2) b) ee ∙ sym (put-append dst at (n / 256 ∷ n % 256 ∷ []) b in-d) in
            rw (le-ltb 65535 (length b) l, le-leb (at + 2 + length b) (length dst) fits, de, q)

-- the ways out of `begin`
module _ (dst a b : List ℕ) (p : ℕ) (d : List ℕ) (is : written p d ≡ counted_into dst 0 a) where
  pub begin-none : p ≡ 0 → written 0 d ≡ begun_into dst a b
  unfolding begun_into
  begin-none z = rw (← is, eq-eqb p 0 z)

  pub begin-more : (p ≡ 0 → ⊥) → (r : ℕ) (d' : List ℕ) → written r d' ≡ counted_into d p b → written r d' ≡ begun_into dst a b
  unfolding begun_into
  begin-more nz r d' e = rw (← is, ne_eqb p 0 nz) e
