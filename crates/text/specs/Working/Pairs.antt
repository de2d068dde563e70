-- The ways out of the functions that write two-byte numbers and counted strings. Assumes nothing.
use Rattle.std.specs.Prelude.{◌≡◌, Bool, List, [], ◌∷◌, ◌++◌, ◌≢◌, ℕ, ◌+◌, ◌-◌, ◌/◌, ◌%◌, ◌<◌, ◌≤◌, leb, set}
use Rattle.std.proofs.Common.{sym, ◌∙◌, add-one, length-set}
use Rattle.std.proofs.Math.Path.{ap, refl}
use Rattle.std.proofs.Math.Bool.{true, false}
use native.Mathlib.Omega.{arith}
use Rattle.std.proofs.Math.ListN.{length}
use Rattle.std.proofs.lemmas.List.{set_comm}
use Rattle.std.proofs.lemmas.List.Edits.{sets-eq}
use borrow.Author.Tests.{lt-ltb, le-ltb, le-leb, lt-leb, leb-true, leb-false}
use Rattle.text.specs.Choice.{split, clash}
use Rattle.text.specs.Copy.{copied, put, copy_at}
use Rattle.text.specs.CopyLaws.{put_front, put-length}
use Rattle.text.specs.Counted.{pair_bytes, counted_bytes}
use Rattle.text.specs.Put.{put_pair, put_counted}
use Rattle.text.specs.CountedLaws.{pair-room}

-- two bytes stored one after the other are put
set-two : (d : List ℕ) (at a b : ℕ) → at + 2 ≤ length d → set (set d at a) (at + 1) b ≡ put d at (a ∷ b ∷ [])
unfolding put
set-two d at a b h = rw (add-one at) (sets-eq (a ∷ b ∷ []) d at h)

-- both bytes lie in the buffer
pub pair-second : (d : List ℕ) (at a : ℕ) → at ≤ length d → 2 ≤ length d - at → at + 1 < length (set d at a)
pair-second d at a h k = rw (length-set d at a) (omega arith)

-- two bytes in front of a string that is in place
put_two : (d : List ℕ) (at : ℕ) (s : List ℕ) (a b : ℕ) → at + 2 ≤ length d → length (put d (at + 2) s) ≡ length d → put (put d (at + 2) s) at (a ∷ b ∷ []) ≡ put d at ((a ∷ b ∷ []) ++ s)
put_two d at s a b h l =
    let z : at + 1 + 1 ≡ at + 2 = omega arith in
    let n : at ≢ at + 1 = λ e. omega arith in
    let one : set (put d (at + 1 + 1) s) (at + 1) b ≡ put d (at + 1) (b ∷ s) = put_front d (at + 1) b s (omega arith) in
    let two : set (put d (at + 2) s) (at + 1) b ≡ put d (at + 1) (b ∷ s) = rw z at one in
    sym (set-two (put d (at + 2) s) at a b (omega (arith, l))) ∙ set_comm (put d (at + 2) s) at (at + 1) a b n ∙ rw two (put_front d at a (b ∷ s) (omega arith))

-- `put_pair`
module _ (d : List ℕ) (at n : ℕ) where
  pub pair-large : 65535 < n → copied false d ≡ put_pair d at n
  unfolding put_pair
  pair-large h = rw (lt-ltb 65535 n h)

  module _ (small : n ≤ 65535) where
    none : length d < at + 2 → copied false d ≡ put_pair d at n
    unfolding put_pair copy_at pair_bytes
    none h = rw (le-ltb 65535 n small, lt-leb (at + 2) (length d) h)

    pub pair-past : length d < at → copied false d ≡ put_pair d at n
    pair-past h = none (omega arith)

    module _ (h : at ≤ length d) where
      pub pair-half : length d - at < 2 → copied false d ≡ put_pair d at n
      pair-half k = none (omega arith)

      pub pair-in : 2 ≤ length d - at → copied true (set (set d at (n / 256 % 256)) (at + 1) (n % 256)) ≡ put_pair d at n
      unfolding pair_bytes
      pair-in k =
          let e : n / 256 % 256 ≡ n / 256 = omega arith in
          rw (pair-room d at n small (omega arith), e) (ap (copied true) (set-two d at (n / 256) (n % 256) (omega arith)))

    pub pair-copied : (m : ℕ) → m ≡ n → (u : Bool) (e : List ℕ) → copied u e ≡ copy_at d at (m / 256 % 256 ∷ m % 256 ∷ []) → copied u e ≡ put_pair d at n
    unfolding put_pair pair_bytes
    pair-copied m is u e ce =
        let z : n / 256 % 256 ≡ n / 256 = omega arith in
        ce ∙ rw (is, z, le-ltb 65535 n small) refl

counted-length : (b : List ℕ) → length (counted_bytes b) ≡ 2 + length b
unfolding counted_bytes pair_bytes
counted-length b = omega arith

-- `put_counted`
module _ (d : List ℕ) (at : ℕ) (b : List ℕ) where
  pub counted-large : 65535 < length b → copied false d ≡ put_counted d at b
  unfolding put_counted
  counted-large h = rw (lt-ltb 65535 (length b) h)

  module _ (small : length b ≤ 65535) where
    refused : length d < at + 2 + length b → copied false d ≡ put_counted d at b
    unfolding put_counted copy_at
    refused h = rw (le-ltb 65535 (length b) small, lt-leb (at + length (counted_bytes b)) (length d) (omega (arith, counted-length b)))

    pub counted-past : length d < at → copied false d ≡ put_counted d at b
    counted-past h = refused (omega arith)

    module _ (h : at ≤ length d) where
      pub counted-half : length d - at < 2 → copied false d ≡ put_counted d at b
      counted-half k = refused (omega arith)

      module _ (two : 2 ≤ length d - at) (t : Bool) (e : List ℕ) (is : copied t e ≡ copy_at d (at + 2) b) where
        pub counted-put : t ≡ true → (u : Bool) (f : List ℕ) → copied u f ≡ put_pair e at (length b) → copied true f ≡ put_counted d at b
        unfolding put_counted copy_at counted_bytes pair_bytes
        counted-put y u f fe =
            split (leb (at + 2 + length b) (length d))
            (λ g. let q : copied t e ≡ copied true (put d (at + 2) b) = rw g at is in
            let ee : e ≡ put d (at + 2) b = cc in
            let fits : at + 2 + length b ≤ length d = leb-true _ _ g in
            let l : length (put d (at + 2) b) ≡ length d = put-length d (at + 2) b fits in
            let k : copied u f ≡ copied true (put e at (length b / 256 ∷ length b % 256 ∷ [])) = fe ∙ pair-room e at (length b) small (omega (arith, ap length ee, l)) in
            let fb : f ≡ put e at (length b / 256 ∷ length b % 256 ∷ []) = cc in
            rw (le-ltb 65535 (length b) small, le-leb (at + length (counted_bytes b)) (length d) (omega (arith, counted-length b)), fb, ee)
            (ap (copied true) (put_two d at b (length b / 256) (length b % 256) (omega arith) l)))
            (λ g. let q : copied t e ≡ copied false d = rw g at is in
            let no : t ≡ false = cc in clash y no)

        pub counted-both : t ≡ true → (u : Bool) (f : List ℕ) → copied u f ≡ put_pair e at (length b) → copied u f ≡ put_counted d at b
        unfolding copy_at
        counted-both y u f fe =
            split (leb (at + 2 + length b) (length d))
            (λ g. let q : copied t e ≡ copied true (put d (at + 2) b) = rw g at is in
            let ee : e ≡ put d (at + 2) b = cc in
            let l : length (put d (at + 2) b) ≡ length d = put-length d (at + 2) b (leb-true _ _ g) in
            let k : copied u f ≡ copied true (put e at (pair_bytes (length b))) = fe ∙ pair-room e at (length b) small (omega (arith, ap length ee, l)) in
            let ut : u ≡ true = cc in
            ap (λ (v : Bool). copied v f) ut ∙ counted-put y u f fe)
            (λ g. let q : copied t e ≡ copied false d = rw g at is in
            let no : t ≡ false = cc in clash y no)

        pub counted_none : t ≡ false → copied false e ≡ put_counted d at b
        unfolding copy_at
        counted_none y =
            split (leb (at + 2 + length b) (length d))
            (λ g. let q : copied t e ≡ copied true (put d (at + 2) b) = rw g at is in
            let no : t ≡ true = cc in clash no y)
            (λ g. let q : copied t e ≡ copied false d = rw g at is in
            let ee : e ≡ d = cc in
            rw ee (refused (leb-false _ _ g)))
