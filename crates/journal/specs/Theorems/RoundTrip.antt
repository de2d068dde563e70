-- Written answers are read again, and the pages that appending and recovery leave are those that hold the answers, byte for byte. Assumes nothing.
use Rattle.std.specs.Prelude.{◌≡◌, refl, true, List, [], ◌∷◌, ◌++◌, ℕ, zero, suc, ◌+◌, ◌-◌, ◌/◌, ◌%◌, ◌<◌, eqb, ltb, length, get_or, drop, replicate}
use Rattle.std.proofs.Common.{sym, ap, ◌∙◌, arith, length-append, length-drop, drop-cons, get_or-append-add, ltb-true, ltb-false, eqb-true}
use Rattle.std.proofs.Math.ListN.{get_or-append, get_or-eq_default}
use Rattle.std.proofs.Math.Seq.{get_or-drop}
use Rattle.text.specs.Choice.{split, clash}
use Rattle.text.specs.All.{all}
use Rattle.journal.specs.Page.{version, closing, Entry, Entries, e[], e∷, Unfinished, Content, zeros, entry, written, holding}
use Rattle.journal.specs.Working.Rooms.{Fine}

-- ---- written answers are read again

pub entry-is : (a : List ℕ) → 0 < length a → Entry (entry a) a
unfolding entry
entry-is a h = record { high = length a / 256; low = length a % 256; spelled = refl; measured = omega arith; some = h }

-- answers that entries can hold
pub data Answers : List (List ℕ) → Type 0 where
  a[] : Answers []
  a∷ : {a : List ℕ} {l : List (List ℕ)} → 0 < length a → Answers l → Answers (a ∷ l)

pub written-entries : {l : List (List ℕ)} → Answers l → Entries (written l) l
unfolding written
written-entries a[] = e[]
written-entries (a∷ {a = a} {l = l} h w) = e∷ {e = entry a} {a = a} {s = written l} {l = l} (entry-is a h) (written-entries w)

replicate-zero : (n i : ℕ) → ◌≡◌ {A = ℕ} (get_or (replicate n 0) i 0) 0
replicate-zero zero i = refl
replicate-zero (suc n) zero = refl
replicate-zero (suc n) (suc i) = replicate-zero n i

zeros-end : (n : ℕ) → Unfinished (replicate n 0)
zeros-end n e a t y h =
    let s : replicate n 0 ≡ y.high ∷ y.low ∷ ((a ++ (closing ∷ [])) ++ t) = h ∙ ap (λ (z : List ℕ). z ++ t) y.spelled in
    let u : y.high ≡ 0 = sym (ap (λ (z : List ℕ). get_or z 0 0) s) ∙ replicate-zero n 0 in
    let v : y.low ≡ 0 = sym (ap (λ (z : List ℕ). get_or z 1 0) s) ∙ replicate-zero n 1 in
    omega (arith, u, v, y.measured, y.some)

-- the page that holds answers holds these and no others
pub holding-content : (n : ℕ) {l : List (List ℕ)} → Answers l → Content (holding n l) l (replicate (n - 1 - length (written l)) 0)
unfolding holding
holding-content n {l} w = record { front = written l; entries = written-entries w; bytes = refl; ends = zeros-end (n - 1 - length (written l)) }

-- ---- pages of bytes

abbrev pub Bytes : List ℕ → Type 0
Bytes s = (i : ℕ) → get_or s i 0 < 256

front_bytes : (s t : List ℕ) → Bytes (s ++ t) → Bytes s
front_bytes s t b i =
    split (ltb i (length s))
    (λ e. let h : i < length s = ltb-true i (length s) e in rw (sym (get_or-append s t 0 i h)) (b i))
    (λ e. rw (get_or-eq_default s 0 (ltb-false i (length s) e)) (omega arith))

back-bytes : (s t : List ℕ) → Bytes (s ++ t) → Bytes t
back-bytes s t b i = rw (sym (get_or-append-add s t i 0)) (b (length s + i))

-- the bytes of an entry are those that are written for its answer
entry-spelled : (e a : List ℕ) → Entry e a → Bytes e → e ≡ entry a
unfolding entry
entry-spelled e a y b =
    let c : Bytes (y.high ∷ y.low ∷ (a ++ (closing ∷ []))) = λ i. rw (sym y.spelled) (b i) in
    let l : y.low < 256 = c 1 in
    let u : y.high ≡ length a / 256 = omega (arith, y.measured) in
    let v : y.low ≡ length a % 256 = omega (arith, y.measured) in
    y.spelled ∙ (rw (u, v) refl)

entries-spelled : {s : List ℕ} {l : List (List ℕ)} → Entries s l → Bytes s → s ≡ written l
unfolding written
entries-spelled e[] b = refl
entries-spelled (e∷ {e = e} {a = a} {s = s} y w) b =
    rw (sym (entry-spelled e a y (front_bytes e s b))) (ap (λ (z : List ℕ). e ++ z) (entries-spelled w (back-bytes e s b)))

-- a page of bytes is its first byte, its entries as they are written, and the rest
pub content-written : {p s : List ℕ} {l : List (List ℕ)} → Bytes p → Content p l s → drop 1 p ≡ written l ++ s
content-written {p} {s} b c =
    let d : Bytes (drop 1 p) = λ i. rw (get_or-drop 1 p i 0) (b (1 + i)) in
    let f : Bytes (c.front ++ s) = λ i. rw (sym c.bytes) (d i) in
    c.bytes ∙ ap (λ (z : List ℕ). z ++ s) (entries-spelled c.entries (front_bytes c.front s f))

zeros-replicate : (s : List ℕ) → zeros s ≡ true → s ≡ replicate (length s) 0
unfolding zeros all
zeros-replicate [] h = refl
zeros-replicate (b ∷ s) h =
    split (eqb b 0)
    (λ e. let z : b ≡ 0 = eqb-true b 0 e in rw z (ap (λ (t : List ℕ). 0 ∷ t) (zeros-replicate s (rw e at h))))
    (λ e. clash (rw e at h) refl)

-- finished entries and zeros on a fine page of bytes: the page that holds the answers
pub clean-holds : (q s : List ℕ) {l : List (List ℕ)} → Fine q → Bytes q → Content q l s → zeros s ≡ true → q ≡ holding (length q) l
unfolding holding
clean-holds q s {l} f b c z =
    let u : q ≡ get_or q 0 0 ∷ drop 1 q = drop-cons q 0 0 (omega (arith, f.least)) in
    let d : drop 1 q ≡ written l ++ s = content-written b c in
    let n : length q - 1 ≡ length (written l) + length s = sym (length-drop 1 q) ∙ ap length d ∙ length-append (written l) s in
    let m : length s ≡ length q - 1 - length (written l) = omega (arith, n) in
    u ∙ ap (λ (x : ℕ). x ∷ drop 1 q) f.versioned
    ∙ ap (λ (t : List ℕ). version ∷ t) (d ∙ ap (λ (t : List ℕ). written l ++ t) (zeros-replicate s z ∙ ap (λ (k : ℕ). replicate k 0) m))

-- ---- appending

tail-bytes : (a : List ℕ) → Bytes a → Bytes (a ++ (closing ∷ []))
tail-bytes [] b zero = omega arith
tail-bytes [] b (suc i) = omega arith
tail-bytes (x ∷ a) b zero = b 0
tail-bytes (x ∷ a) b (suc i) = tail-bytes a (λ j. b (suc j)) i

pub entry-bytes : (a : List ℕ) → length a < 65536 → Bytes a → Bytes (entry a)
unfolding entry
entry-bytes a h b zero = omega arith
entry-bytes a h b (suc zero) = omega arith
entry-bytes a h b (suc (suc i)) = tail-bytes a b i
