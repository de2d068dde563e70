-- Calls on bytes: from the bytes of the empty register every call is one on the register that they say. Assumes nothing.
use Rattle.std.specs.Prelude.{◌≡◌, refl, List, [], ◌∷◌, ℕ, zero, suc, ◌<◌, ◌≤◌, eqb, replicate}
use Rattle.std.proofs.Common.{sym, subst, arith}
use Rattle.text.specs.Choice.{split}
use Rattle.register.specs.Limits.{most_moves}
use Rattle.register.specs.Entries.{Entry, free, held, Contents, empty, known, total, added, replaced, lost}
use Rattle.register.specs.Calls.{Call, issues, passes, spends, removes, effect, Outcome, granted, refused, called, left}
use Rattle.register.specs.Layout.{encode}
use Rattle.register.specs.OnBytes.{Written, written, settled, on_bytes}
use Rattle.register.specs.Theorems.Conservation.{Sound}
use Rattle.register.specs.Theorems.Refusals.{granted-none}
use Rattle.register.specs.Theorems.Layout.{Fitting, no_more, free-fits, held_fits, Fits, decode-encode}

-- a call whose principals are four-byte numbers
pub data FourBytes : Call → Type 0 where
  issue-four : {x n : ℕ} → x < 4294967296 → FourBytes (issues x n)
  pass-four : {x y n : ℕ} → x < 4294967296 → y < 4294967296 → FourBytes (passes x y n)
  spend-four : {x n : ℕ} → x < 4294967296 → FourBytes (spends x n)
  remove-four : {x : ℕ} → x < 4294967296 → FourBytes (removes x)

pub data AllFour : List Call → Type 0 where
  none : AllFour []
  some : {c : Call} {cs : List Call} → FourBytes c → AllFour cs → AllFour (c ∷ cs)

-- entries whose principals are four-byte numbers
pub data Named : List Entry → Type 0 where
  named_none : Named []
  named-free : {es : List Entry} → Named es → Named (free ∷ es)
  named-held : {x m : ℕ} {es : List Entry} → x < 4294967296 → Named es → Named (held x m ∷ es)

named-added : (x n : ℕ) (es : List Entry) → x < 4294967296 → Named es → Named (added x n es)
unfolding added
named-added x n [] h named_none = named_none
named-added x n (free ∷ es) h (named-free t) = named-held h t
named-added x n (held y m ∷ es) h (named-held k t) = named-held k (named-added x n es h t)

named-freed : (x : ℕ) (es : List Entry) → Named es → Named (replaced x free es)
unfolding replaced
named-freed x [] named_none = named_none
named-freed x (free ∷ es) (named-free t) = named-free (named-freed x es t)
named-freed x (held y m ∷ es) (named-held k t) =
    split (eqb y x) (λ u. rw u (named-free t)) (λ u. rw u (named-held {m = m} k (named-freed x es t)))

named-moved : (x n : ℕ) (es : List Entry) → x < 4294967296 → Named es → Named (replaced x (held x n) es)
unfolding replaced
named-moved x n [] h named_none = named_none
named-moved x n (free ∷ es) h (named-free t) = named-free (named-moved x n es h t)
named-moved x n (held y m ∷ es) h (named-held k t) =
    split (eqb y x) (λ u. rw u (named-held {m = n} h t)) (λ u. rw u (named-held {m = m} k (named-moved x n es h t)))

named-effect : (r : Contents) (c : Call) → FourBytes c → Named r.entries → Named (effect r c).entries
unfolding effect
named-effect r (issues x n) (issue-four h) t =
    split (known x r.entries) (λ u. rw u (named-moved x _ r.entries h t)) (λ u. rw u (named-added x n r.entries h t))
named-effect r (passes x y n) (pass-four h k) t = named-moved y _ (lost x n r.entries) k (named-moved x _ r.entries h t)
named-effect r (spends x n) (spend-four h) t = named-moved x _ r.entries h t
named-effect r (removes x) (remove-four h) t = named-freed x r.entries t

pub named-left : (r : Contents) (c : Call) (o : Outcome) → called r c ≡ o → FourBytes c → Named r.entries → Named (left r o).entries
named-left r c (granted q) e f t =
    subst (λ (s : Contents). Named s.entries) (sym (granted-none r c q e).1) (named-effect r c f t)
named-left r c (refused n p) e f t = t

fitting : (es : List Entry) → Named es → total es ≤ most_moves → Fitting es
unfolding total
fitting [] named_none h = no_more
fitting (free ∷ es) (named-free t) h = free-fits (fitting es t h)
fitting (held x m ∷ es) (named-held k t) h = held_fits {m = m} k (omega arith) (fitting es t (omega arith))

pub fits : (r : Contents) → Sound r → Named r.entries → Fits r
fits r s t =
    let i : r.issued < 18446744073709551616 = omega (arith, s.few) in
    let m : total r.entries ≤ most_moves = omega (arith, s.few, s.covered) in
    record { long = s.long; entries = fitting r.entries t m; issued = i }

-- the bytes after a call, and after a sequence of calls
abbrev pub bytes_of : Written → List ℕ
bytes_of (written n p s) = s

unfoldable pub ran_on : List ℕ → List Call → List ℕ
ran_on s [] = s
ran_on s (c ∷ cs) = ran_on (bytes_of (on_bytes s c)) cs

pub settled-left : (r : Contents) (o : Outcome) → bytes_of (settled (encode r) o) ≡ encode (left r o)
settled-left r (granted q) = refl
settled-left r (refused n p) = refl

-- a call on the bytes of a register is the call on the register
pub call-on : (r : Contents) → Fits r → (c : Call) → on_bytes (encode r) c ≡ settled (encode r) (called r c)
unfolding on_bytes
call-on r f c = rw (decode-encode r f) refl

pub named-empty : Named empty.entries
unfolding empty
named-empty = frees 64
  where
    frees : (n : ℕ) → Named (replicate n free)
    frees zero = named_none
    frees (suc n) = named-free (frees n)
