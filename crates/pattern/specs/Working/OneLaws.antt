-- The scan of an atom for one byte finds exactly those of the grammar, and they accept what their class says. Assumes nothing.
use Rattle.std.specs.Prelude.{◌≡◌, refl, Bool, true, false, not, List, ℕ, ◌+◌, ◌<◌, eqb, leb, length, get_or, Some, None}
use Rattle.std.proofs.Common.{sym, ap, ◌∙◌, subst, arith, lt-ltb, ne_eqb, leb-false, eqb-true}
use Rattle.std.proofs.lemmas.Bool.{lt-leb, eqb-false}
use Rattle.text.specs.Choice.{clash, split}
use Rattle.pattern.specs.Class.{Item, Class, any, only, among, besides, in_items, accepts}
use Rattle.pattern.specs.Grammar.{At, Items, One, o-any, o-escape, o-byte, o-set, o-not}
use Rattle.pattern.specs.Working.Scan
use Rattle.pattern.specs.Bytes.{special, stands}
use Rattle.pattern.specs.Working.Scan.{set_rest, set_at, negated, hit_of, accepts_at, one_end}
use Rattle.pattern.specs.Working.SetLaws.{set-shows, set-sound, unfit-end, end-at}
use Rattle.pattern.specs.Working.Scan.{Scan as Scanned, fits}

set-of : (p : List ℕ) (c : ℕ) {i j : ℕ} {xs : List Item} → At p i 91 → i + 1 < length p → (get_or p (i + 1) 0 ≡ 94 → ⊥) → Items p true (i + 1) j xs → set_at p i c ≡ fits j (in_items xs c)
set-of p c {i} a l n x = sym (Scan.way-set-plain p i a.inside c l n _ refl) ∙ set-shows p c x false

set-not : (p : List ℕ) (c : ℕ) {i j : ℕ} {xs : List Item} → At p i 91 → At p (i + 1) 94 → Items p true (i + 2) j xs → set_at p i c ≡ fits j (not (in_items xs c))
unfolding negated
set-not p c {i} a b x = sym (Scan.way-set-other p i a.inside c b.inside b.byte _ (sym (set-shows p c x false)) _ refl)

pub special-46 : special 46 ≡ true
unfolding special
special-46 = refl

pub special-92 : special 92 ≡ true
unfolding special
special-92 = refl

pub special-91 : special 91 ≡ true
unfolding special
special-91 = refl

pub special-40 : special 40 ≡ true
unfolding special
special-40 = refl

pub special-94 : special 94 ≡ true
unfolding special
special-94 = refl

pub special-36 : special 36 ≡ true
unfolding special
special-36 = refl

pub special-124 : special 124 ≡ true
unfolding special
special-124 = refl

pub special-41 : special 41 ≡ true
unfolding special
special-41 = refl

pub special-42 : special 42 ≡ true
unfolding special
special-42 = refl

pub special-43 : special 43 ≡ true
unfolding special
special-43 = refl

pub special-63 : special 63 ≡ true
unfolding special
special-63 = refl

pub other : {b c : ℕ} → special b ≡ false → special c ≡ true → b ≡ c → ⊥
other f t e = clash (subst (λ (x : ℕ). special x ≡ true) (sym e) t) f

hit-is : (j : ℕ) (h : Bool) → hit_of (fits j h) ≡ h
unfolding hit_of
hit-is j h = refl

stands-is : (p : List ℕ) {i d : ℕ} (b : ℕ) → At p i d → stands p i b ≡ eqb d b
unfolding stands
stands-is p {i} b f = rw (lt-ltb i (length p) f.inside, f.byte)

pub accepts-is : (p : List ℕ) {i j : ℕ} {c : Class} → One p i j c → (b : ℕ) → accepts_at p i b ≡ accepts c b
unfolding accepts_at accepts
accepts-is p (o-any {i = i} a e) b = rw (lt-leb (length p) i a.inside, a.byte)
accepts-is p (o-escape {i = i} {b = d} a f s e) b = rw (lt-leb (length p) i a.inside, a.byte) (stands-is p b f)
accepts-is p (o-byte {i = i} {b = d} a s e) b = rw (lt-leb (length p) i a.inside, a.byte, ne_eqb d 46 (other s special-46), ne_eqb d 92 (other s special-92), ne_eqb d 91 (other s special-91))
accepts-is p (o-set {i = i} {j = j} {xs = xs} a l n x) b = rw (lt-leb (length p) i a.inside, a.byte, set-of p b a l n x) (hit-is j (in_items xs b))
accepts-is p (o-not {i = i} {j = j} {xs = xs} a f x) b = rw (lt-leb (length p) i a.inside, a.byte, set-not p b a f x) (hit-is j (not (in_items xs b)))

pub record EndOf (p : List ℕ) (i j : ℕ) : Type 0 where
  pub hit : Bool
  pub ended : one_end p i ≡ fits j hit

pub one-shows : (p : List ℕ) {i j : ℕ} {c : Class} → One p i j c → EndOf p i j
unfolding one_end
one-shows p (o-any {i = i} a e) = record { hit = true; ended = rw (lt-leb (length p) i a.inside, a.byte, e) }
one-shows p (o-escape {i = i} {b = d} a f s e) = record { hit = true; ended = rw (lt-leb (length p) i a.inside, a.byte, lt-leb (length p) (i + 1) f.inside, f.byte, s, e) }
one-shows p (o-byte {i = i} {b = d} a s e) = record { hit = true; ended = rw (lt-leb (length p) i a.inside, a.byte, ne_eqb d 46 (other s special-46), ne_eqb d 92 (other s special-92), ne_eqb d 91 (other s special-91), s, e) }
one-shows p (o-set {i = i} {xs = xs} a l n x) = record { hit = in_items xs 0; ended = rw (lt-leb (length p) i a.inside, a.byte) (set-of p 0 a l n x) }
one-shows p (o-not {i = i} {xs = xs} a f x) = record { hit = not (in_items xs 0); ended = rw (lt-leb (length p) i a.inside, a.byte) (set-not p 0 a f x) }

pub record OneOf (p : List ℕ) (i j : ℕ) : Type 0 where
  pub class : Class
  pub derived : One p i j class

record Ended (x : Scanned) (j : ℕ) : Type 0 where
  pub hit : Bool
  pub ended : x ≡ fits j hit

negated-end : (x : Scanned) (j : ℕ) (h : Bool) → negated x ≡ fits j h → Ended x j
unfolding negated
negated-end None j h e = unfit-end e
negated-end (Some x) j h e = record { hit = x.hit; ended = ap (λ (m : ℕ). fits m x.hit) (end-at e) }

set-at-sound : (p : List ℕ) (i j : ℕ) (h : Bool) → get_or p i 0 ≡ 91 → set_at p i 0 ≡ fits j h → OneOf p i j
unfolding set_at
set-at-sound p i j h b e = split (leb (length p) i) (λ a. unfit-end (rw a at e))
    (λ a. split (leb (length p) (i + 1)) (λ k. unfit-end (rw (a, k) at e))
    (λ k. let at : At p i 91 = record { inside = leb-false _ _ a; byte = b } in split (eqb (get_or p (i + 1) 0) 94)
    (λ g. let y = negated-end (set_rest p 0 (i + 2) true false) j h (rw (a, k, g) at e) in
    let s = set-sound p 0 (length p) true (i + 2) j false y.hit (omega arith) y.ended in
    record { class = besides s.items; derived = o-not at (record { inside = leb-false _ _ k; byte = eqb-true _ _ g }) s.derived })
    (λ g. let s = set-sound p 0 (length p) true (i + 1) j false h (omega arith) (rw (a, k, g) at e) in
    record { class = among s.items; derived = o-set at (leb-false _ _ k) (eqb-false _ _ g) s.derived })))

pub one-sound : (p : List ℕ) (i j : ℕ) (h : Bool) → one_end p i ≡ fits j h → OneOf p i j
unfolding one_end
one-sound p i j h e = split (leb (length p) i) (λ a. unfit-end (rw a at e))
    (λ a. let l = leb-false (length p) i a in split (eqb (get_or p i 0) 46)
    (λ b. let z : i + 1 ≡ j = end-at (rw (a, b) at e) in record { class = any; derived = o-any (record { inside = l; byte = eqb-true _ _ b }) (sym z) })
    (λ b. split (eqb (get_or p i 0) 92)
    (λ c. split (leb (length p) (i + 1)) (λ k. unfit-end (rw (a, b, c, k) at e))
    (λ k. split (special (get_or p (i + 1) 0))
    (λ s. let z : i + 2 ≡ j = end-at (rw (a, b, c, k, s) at e) in
    record { class = only (get_or p (i + 1) 0); derived = o-escape (record { inside = l; byte = eqb-true _ _ c }) (record { inside = leb-false _ _ k; byte = refl }) s (sym z) })
    (λ s. unfit-end (rw (a, b, c, k, s) at e))))
    (λ c. split (eqb (get_or p i 0) 91)
    (λ k. set-at-sound p i j h (eqb-true _ _ k) (rw (a, b, c, k) at e))
    (λ k. split (special (get_or p i 0)) (λ s. unfit-end (rw (a, b, c, k, s) at e))
    (λ s. let z : i + 1 ≡ j = end-at (rw (a, b, c, k, s) at e) in
    record { class = only (get_or p i 0); derived = o-byte (record { inside = l; byte = refl }) s (sym z) })))))
