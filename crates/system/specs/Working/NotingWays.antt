-- The ways out of the functions that note what became of an assertion. Assumes nothing.
use Rattle.std.specs.Prelude.{◌≡◌, Bool, List, [], ◌∷◌, length, set, Ok, Err}
use Prim.Native.Nat.{ℕ, ◌+◌, ◌-◌, ◌*◌, ◌/◌, ◌%◌, ◌<◌, ◌≤◌}
use Rattle.std.proofs.Common.{arith}
use borrow.Author.Tests.{le-leb, lt-leb, lt-ltb, le-ltb}
use Rattle.text.specs.Copy.{copied, put}
use Rattle.text.specs.CopyLaws.{put_front}
use Rattle.text.specs.Counted.{pair_bytes}
use Rattle.text.specs.Put.{put_pair}
use Rattle.text.specs.CountedLaws.{pair_put}
use Rattle.assertion.specs.Working.Reading.{Assessment}
use Rattle.assertion.specs.declared.Assessed.{Assessed}
use Rattle.system.specs.Working.Noting.{entry_into, header_into, rowed, row_into, noted, ends_at, note_in}
use Rattle.system.specs.declared.note.Ends.{Ends}
use Rattle.syntax.specs.declared.fault.Fault.{Fault}
use Rattle.index.specs.declared.Index.{Index}
use Rattle.naming.specs.Working.Faults.{clear_at}

-- the two bytes of a number's last two
high-of : (m p : ℕ) → m ≡ p % 65536 → m / 256 ≡ p / 256 % 256
high-of m p e = omega arith

low_of : (m p : ℕ) → m ≡ p % 65536 → m % 256 ≡ p % 256
low_of m p e = omega arith

-- `put_entry`
module _ (page : List ℕ) (i : ℕ) (f : Fault) where
  pub entry-none : length page < 6 → page ≡ entry_into page i f
  unfolding entry_into
  entry-none h = rw (lt-ltb (length page) (3 * i + 6) (omega arith))

  pub entry-far : 6 ≤ length page → (length page - 6) / 3 < i → page ≡ entry_into page i f
  unfolding entry_into
  entry-far h k = rw (lt-ltb (length page) (3 * i + 6) (omega arith))

  module _ (h : 6 ≤ length page) (k : i ≤ (length page - 6) / 3) where
    pub entry_in : (m v : ℕ) → m ≡ f.place % 65536 → v ≡ f.reason % 256 → (u : Bool) (e : List ℕ) → copied u e ≡ put_pair page (3 + 3 * i + 1) m → set e (3 + 3 * i) v ≡ entry_into page i f
    unfolding entry_into pair_bytes
    entry_in m v me ve u e ue =
        let at : ℕ = 3 + 3 * i in
        let x : m / 256 ≡ f.place / 256 % 256 = high-of m f.place me in
        let y : m % 256 ≡ f.place % 256 = low_of m f.place me in
        let ee : e ≡ put page (at + 1) (m / 256 ∷ m % 256 ∷ []) = pair_put page (at + 1) m (omega arith) (omega arith) u e ue in
        rw (le-ltb (length page) (3 * i + 6) (omega arith), ← x, ← y, ee, ← ve) (put_front page at v (m / 256 ∷ m % 256 ∷ []) (omega arith))

-- `put_header`
pub header-none : (page : List ℕ) (n : ℕ) → length page < 3 → page ≡ header_into page n
unfolding header_into
header-none page n h = rw (lt-ltb _ _ h)

pub header-in : (page : List ℕ) (n m : ℕ) → 3 ≤ length page → m ≡ 3 * (n % 65536) % 65536 → (u : Bool) (e : List ℕ) → copied u e ≡ put_pair page 1 m → set e 0 1 ≡ header_into page n
unfolding header_into pair_bytes
header-in page n m h me u e ue =
    let x : m / 256 ≡ 3 * (n % 65536) / 256 % 256 = high-of m (3 * (n % 65536)) me in
    let y : m % 256 ≡ 3 * (n % 65536) % 256 = low_of m (3 * (n % 65536)) me in
    let ee : e ≡ put page 1 (m / 256 ∷ m % 256 ∷ []) = pair_put page 1 m (omega (arith, me)) (omega (arith, h)) u e ue in
    rw (le-ltb _ _ h, ← x, ← y, ee) (put_front page 0 1 (m / 256 ∷ m % 256 ∷ []) (omega (arith, h)))

-- `put_row`
module _ (a c d : List ℕ) (k author rank size : ℕ) where
  pub row-authors : length a ≤ k → rowed k a c d ≡ row_into a c d k author rank size
  unfolding row_into
  row-authors h = rw (le-leb _ _ h)

  module _ (ha : k < length a) where
    pub row-conds : length c ≤ k → rowed k a c d ≡ row_into a c d k author rank size
    unfolding row_into
    row-conds h = rw (lt-leb _ _ ha, le-leb _ _ h)

    module _ (hc : k < length c) where
      pub row_ends : length d ≤ k → rowed k a c d ≡ row_into a c d k author rank size
      unfolding row_into
      row_ends h = rw (lt-leb _ _ ha, lt-leb _ _ hc, le-leb _ _ h)

      pub row_in : k < length d → (x y : ℕ) → x ≡ author % 65536 → y ≡ size % 65536 → rowed (k + 1) (set a k x) (set c k rank) (set d k y) ≡ row_into a c d k author rank size
      unfolding row_into
      row_in h x y xe ye = rw (lt-leb _ _ ha, lt-leb _ _ hc, lt-leb _ _ h, xe, ye)

-- `note`
module _ (a c d page : List ℕ) (i : ℕ) (e : Ends) where
  pub note-dropped : (r : Assessment) (f : Fault) (q : List ℕ) → r ≡ Err f → q ≡ entry_into page i f → noted e a c d q ≡ note_in a c d page i e r
  unfolding note_in
  note-dropped r f q k qe = rw (k, qe)

  pub note-kept : (r : Assessment) (x : Assessed) (q : List ℕ) → r ≡ Ok x → (f : Fault) → f ≡ clear_at → q ≡ entry_into page i f
      → (k : ℕ) (a' c' d' : List ℕ) → rowed k a' c' d' ≡ row_into a c d e.kept x.author x.rank x.size → noted (ends_at x.index x.size k) a' c' d' q ≡ note_in a c d page i e r
  unfolding note_in
  note-kept r x q g f fe qe k a' c' d' re = rw (g, qe, fe, ← re)
