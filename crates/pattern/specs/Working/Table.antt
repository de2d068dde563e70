-- What the table of a tree holds: row p has the places that follow p. Assumes nothing.
use Rattle.std.specs.Prelude.{◌≡◌, refl, Bool, true, ◌&&◌, ◌||◌, List, ℕ, zero, suc, ◌+◌, ◌-◌, ◌/◌, ◌%◌, ◌<◌, ◌≤◌, eqb, ltb, leb}
use Rattle.std.proofs.Common.{ap, ◌∙◌, arith, lt-ltb, le-ltb, le-leb, ne_eqb, ltb-true, ltb-false, leb-true, leb-false, eqb-true}
use Rattle.std.proofs.Math.Bool.{false}
use Rattle.std.proofs.Math.ListN.{length}
use Rattle.std.proofs.lemmas.Bool.{lt-leb, eqb-false}
use Rattle.text.specs.Choice.{split}
use Rattle.pattern.specs.Tree.{Re, bol, eol, one, cat, alt, star, plus, opt}
use Rattle.pattern.specs.Working.Sets.{first, last, follow, Fits, f-bol, f-eol, f-one, f-cat, f-alt, f-star, f-plus, f-opt, fits_le}
use Rattle.pattern.specs.Working.Places.{row, add_if, link_word, link, way-link-end, way-link-done, way-link-more}
use Rattle.pattern.specs.Working.Bits.{bit, bit-zero, has}
use Rattle.pattern.specs.Working.Meaning.{part_of, table_of, add-row-has, add-row-length, fm-is, lm-is}
use Rattle.pattern.specs.declared.places.Places.{Places}

-- the word x, whose first place is lo, has the place p, which is below hi
unfoldable pub covers : ℕ → ℕ → ℕ → ℕ → Bool
covers x lo hi p = leb lo p && (ltb p hi && bit x (p - lo))

pub covers-in : (x lo hi p : ℕ) → lo ≤ p → p < hi → covers x lo hi p ≡ bit x (p - lo)
unfolding covers
covers-in x lo hi p h l = rw (le-leb _ _ h, lt-ltb _ _ l)

pub covers_below : (x lo hi p : ℕ) → p < lo → covers x lo hi p ≡ false
unfolding covers
covers_below x lo hi p h = rw (lt-leb _ _ h)

and-false : (a : Bool) → a && false ≡ false
and-false true = refl
and-false false = refl

or-false : (a : Bool) → a ≡ a || false
or-false true = refl
or-false false = refl

pub covers-above : (x lo hi p : ℕ) → hi ≤ p → covers x lo hi p ≡ false
unfolding covers
covers-above x lo hi p h = rw (le-ltb _ _ h) (and-false (leb lo p))

pub covers-zero : (lo hi p : ℕ) → covers 0 lo hi p ≡ false
unfolding covers
covers-zero lo hi p = rw (bit-zero (p - lo), and-false (ltb p hi)) (and-false (leb lo p))

pub bit-next : (x q p : ℕ) → q < p → bit x (p - q) ≡ bit (x / 2) (p - (q + 1))
unfolding bit
bit-next x q p h = let e : p - q ≡ suc (p - (q + 1)) = omega arith in rw e

pub bit-first : (x q p : ℕ) → q ≡ p → bit x (p - q) ≡ eqb (x % 2) 1
unfolding bit
bit-first x q p h = let e : p - q ≡ 0 = omega arith in rw e

-- the lowest place, and the others
pub covers-step : (x q z p : ℕ) → q < z → covers x q z p ≡ (eqb (x % 2) 1 && eqb q p) || covers (x / 2) (q + 1) z p
covers-step x q z p h = split (ltb p q)
    (λ e. let l = ltb-true p q e in rw (covers_below x q z p l, covers_below (x / 2) (q + 1) z p (omega arith), ne_eqb q p (λ y. omega arith), and-false (eqb (x % 2) 1)))
    (λ e. split (eqb q p)
    (λ f. let g = eqb-true q p f in rw (covers-in x q z p (omega arith) (omega arith), f, bit-first x q p g, covers_below (x / 2) (q + 1) z p (omega arith)) (same (eqb (x % 2) 1)))
    (λ f. let l = ltb-false p q e in split (ltb p z)
    (λ g. let m = ltb-true p z g in let n : q < p = above q p l (eqb-false q p f) in rw (f, covers-in x q z p (omega arith) m, covers-in (x / 2) (q + 1) z p (omega arith) m, bit-next x q p n) (tail (eqb (x % 2) 1) _))
    (λ g. let m = ltb-false p z g in rw (f, covers-above x q z p m, covers-above (x / 2) (q + 1) z p m) (tail (eqb (x % 2) 1) false))))
  where
    same : (a : Bool) → a ≡ (a && true) || false
    same true = refl
    same false = refl

    tail : (a b : Bool) → b ≡ (a && false) || b
    tail true b = refl
    tail false b = refl

    above : (q p : ℕ) → q ≤ p → (q ≡ p → ⊥) → q < p
    above q p l n = split (ltb q p) (λ e. ltb-true q p e) (λ e. absurd (n (omega (arith, ltb-false q p e))))

pub add-if-length : (t : List ℕ) (x q : ℕ) (y : Places) → length (add_if t x q y) ≡ length t
unfolding add_if
add-if-length t x q y = split (eqb (x % 2) 1) (λ e. rw e (add-row-length t q y)) (λ e. rw e)

add-if-has : (t : List ℕ) (x q : ℕ) (y : Places) → q < 256 → 1024 ≤ length t → (p k : ℕ)
    → has (row (add_if t x q y) p) k ≡ has (row t p) k || ((eqb (x % 2) 1 && eqb q p) && has y k)
unfolding add_if
add-if-has t x q y h l p k = split (eqb (x % 2) 1) (λ e. rw e (add-row-has t q y h l p k)) (λ e. rw e (or-false (has (row t p) k)))

mix : (a b c h : Bool) → (a || (b && h)) || (c && h) ≡ a || ((b || c) && h)
mix true b c h = refl
mix false true c true = refl
mix false true true false = refl
mix false true false false = refl
mix false false c h = refl

pub link-word-length : (n x q z : ℕ) (t : List ℕ) (y : Places) → z - q ≤ n → length (link_word t x q z y) ≡ length t
link-word-length zero x q z t y h = rw (← way-link-end t x q z y _ refl (omega arith))
link-word-length (suc n) x q z t y h = split (leb z q)
    (λ e. rw (← way-link-end t x q z y _ refl (leb-true _ _ e)))
    (λ e. split (eqb x 0)
    (λ f. rw (← way-link-done t x q z y _ refl (leb-false _ _ e) (eqb-true _ _ f)))
    (λ f. let l = leb-false z q e in
    rw (← way-link-more t x q z y _ refl l (eqb-false _ _ f) (add_if t x q y) refl) (link-word-length n (x / 2) (q + 1) z (add_if t x q y) y (omega arith) ∙ add-if-length t x q y)))

link-word-none : (x q z : ℕ) (t : List ℕ) (y : Places) (p k : ℕ) → t ≡ link_word t x q z y → covers x q z p ≡ false
    → has (row (link_word t x q z y) p) k ≡ has (row t p) k || (covers x q z p && has y k)
link-word-none x q z t y p k e f = rw (← e, f) (or-false (has (row t p) k))

pub outside : (x q z p : ℕ) → z ≤ q → covers x q z p ≡ false
outside x q z p h = split (ltb p q) (λ e. covers_below x q z p (ltb-true _ _ e)) (λ e. covers-above x q z p (omega (arith, ltb-false p q e)))

pub link-word-has : (n x q z : ℕ) (t : List ℕ) (y : Places) → z - q ≤ n → z ≤ 256 → 1024 ≤ length t → (p k : ℕ)
    → has (row (link_word t x q z y) p) k ≡ has (row t p) k || (covers x q z p && has y k)
link-word-has zero x q z t y h u v p k = link-word-none x q z t y p k (way-link-end t x q z y _ refl (omega arith)) (outside x q z p (omega arith))
link-word-has (suc n) x q z t y h u v p k = split (leb z q)
    (λ e. link-word-none x q z t y p k (way-link-end t x q z y _ refl (leb-true _ _ e)) (outside x q z p (leb-true _ _ e)))
    (λ e. split (eqb x 0)
    (λ f. link-word-none x q z t y p k (way-link-done t x q z y _ refl (leb-false _ _ e) (eqb-true _ _ f)) (rw (eqb-true x 0 f) (covers-zero q z p)))
    (λ f. let l = leb-false z q e in
    rw (
      ← way-link-more t x q z y _ refl l (eqb-false _ _ f) (add_if t x q y) refl,
      link-word-has n (x / 2) (q + 1) z (add_if t x q y) y (omega arith) u (omega (arith, add-if-length t x q y)) p k,
      add-if-has t x q y (omega arith) v p k,
      covers-step x q z p l,
    )
    (mix (has (row t p) k) (eqb (x % 2) 1 && eqb q p) (covers (x / 2) (q + 1) z p) (has y k))))

-- the four words of a set cover what it has
pub four : (x : Places) (p : ℕ) → p < 256 → ((covers x.a 0 64 p || covers x.b 64 128 p) || covers x.c 128 192 p) || covers x.d 192 256 p ≡ has x p
unfolding has
four x p h = split (ltb p 64)
    (λ e. let l = ltb-true p 64 e in let o : p - 0 ≡ p = omega arith in rw (e, covers-in x.a 0 64 p (omega arith) l, o, covers_below x.b 64 128 p l, covers_below x.c 128 192 p (omega arith), covers_below x.d 192 256 p (omega arith)) (keep₁ (bit x.a p)))
    (λ e. let m = ltb-false p 64 e in split (ltb p 128)
    (λ f. let l = ltb-true p 128 f in rw (e, f, covers-above x.a 0 64 p m, covers-in x.b 64 128 p m l, covers_below x.c 128 192 p l, covers_below x.d 192 256 p (omega arith)) (keep₂ (bit x.b (p - 64))))
    (λ f. let m = ltb-false p 128 f in split (ltb p 192)
    (λ g. let l = ltb-true p 192 g in rw (e, f, g, covers-above x.a 0 64 p (omega arith), covers-above x.b 64 128 p m, covers-in x.c 128 192 p m l, covers_below x.d 192 256 p l) (keep₃ (bit x.c (p - 128))))
    (λ g. let m = ltb-false p 192 g in rw (e, f, g, covers-above x.a 0 64 p (omega arith), covers-above x.b 64 128 p (omega arith), covers-above x.c 128 192 p m, covers-in x.d 192 256 p m h))))
  where
    keep₁ : (a : Bool) → ((a || false) || false) || false ≡ a
    keep₁ true = refl
    keep₁ false = refl

    keep₂ : (a : Bool) → (a || false) || false ≡ a
    keep₂ true = refl
    keep₂ false = refl

    keep₃ : (a : Bool) → a || false ≡ a
    keep₃ true = refl
    keep₃ false = refl

gather : (t a b c d h : Bool) → (((t || (a && h)) || (b && h)) || (c && h)) || (d && h) ≡ t || ((((a || b) || c) || d) && h)
gather true a b c d h = refl
gather false true b c d true = refl
gather false true true true true false = refl
gather false true true true false false = refl
gather false true true false true false = refl
gather false true true false false false = refl
gather false true false true true false = refl
gather false true false true false false = refl
gather false true false false true false = refl
gather false true false false false false = refl
gather false false true c d true = refl
gather false false true true true false = refl
gather false false true true false false = refl
gather false false true false true false = refl
gather false false true false false false = refl
gather false false false true d true = refl
gather false false false true true false = refl
gather false false false true false false = refl
gather false false false false d h = refl

pub link-length : (t : List ℕ) (x y : Places) → length (link t x y) ≡ length t
unfolding link
link-length t x y = link-word-length 64 x.d 192 256 _ y (omega arith) ∙ link-word-length 64 x.c 128 192 _ y (omega arith)
    ∙ link-word-length 64 x.b 64 128 _ y (omega arith) ∙ link-word-length 64 x.a 0 64 t y (omega arith)

pub link-has : (t : List ℕ) (x y : Places) → 1024 ≤ length t → (p k : ℕ) → p < 256 → has (row (link t x y) p) k ≡ has (row t p) k || (has x p && has y k)
unfolding link
link-has t x y h p k l =
    let t₁ = link_word t x.a 0 64 y in let t₂ = link_word t₁ x.b 64 128 y in let t₃ = link_word t₂ x.c 128 192 y in
    let l₁ : 1024 ≤ length t₁ = omega (arith, link-word-length 64 x.a 0 64 t y (omega arith)) in
    let l₂ : 1024 ≤ length t₂ = omega (arith, link-word-length 64 x.b 64 128 t₁ y (omega arith)) in
    let l₃ : 1024 ≤ length t₃ = omega (arith, link-word-length 64 x.c 128 192 t₂ y (omega arith)) in
    link-word-has 64 x.d 192 256 t₃ y (omega arith) (omega arith) l₃ p k
    ∙ ap (λ (b : Bool). b || (covers x.d 192 256 p && has y k)) (link-word-has 64 x.c 128 192 t₂ y (omega arith) (omega arith) l₂ p k
    ∙ ap (λ (b : Bool). b || (covers x.c 128 192 p && has y k)) (link-word-has 64 x.b 64 128 t₁ y (omega arith) (omega arith) l₁ p k
    ∙ ap (λ (b : Bool). b || (covers x.b 64 128 p && has y k)) (link-word-has 64 x.a 0 64 t y (omega arith) (omega arith) h p k)))
    ∙ gather (has (row t p) k) (covers x.a 0 64 p) (covers x.b 64 128 p) (covers x.c 128 192 p) (covers x.d 192 256 p) (has y k)
    ∙ ap (λ (b : Bool). has (row t p) k || (b && has y k)) (four x p l)

pub table-length : (r : Re) (t : List ℕ) → length (table_of r t) ≡ length t
unfolding table_of
table-length bol t = refl
table-length eol t = refl
table-length (one q c) t = refl
table-length (cat a b) t = link-length _ _ _ ∙ table-length b _ ∙ table-length a t
table-length (alt a b) t = table-length b _ ∙ table-length a t
table-length (star a) t = link-length _ _ _ ∙ table-length a t
table-length (plus a) t = link-length _ _ _ ∙ table-length a t
table-length (opt a) t = table-length a t

assoc : (t a b c : Bool) → ((t || a) || b) || c ≡ t || ((a || b) || c)
assoc true a b c = refl
assoc false a b c = refl

assoc₂ : (t a b : Bool) → (t || a) || b ≡ t || (a || b)
assoc₂ true a b = refl
assoc₂ false a b = refl

module _ {ok : ℕ → ℕ → Bool} where
  pub table-has : {lo hi : ℕ} {r : Re} → Fits ok lo hi r → hi ≤ 256 → (t : List ℕ) → 1024 ≤ length t → (p k : ℕ) → p < 256 → k < 256
      → has (row (table_of r t) p) k ≡ has (row t p) k || follow r p k
  unfolding table_of follow
  table-has (f-bol h) l t u p k hp hk = or-false _
  table-has (f-eol h) l t u p k hp hk = or-false _
  table-has (f-one h g o) l t u p k hp hk = or-false _
  table-has (f-cat {a = a} {b = b} m f g) l t u p k hp hk =
      let ha : 1024 ≤ length (table_of a t) = omega (arith, table-length a t) in
      let hb : 1024 ≤ length (table_of b (table_of a t)) = omega (arith, table-length b (table_of a t)) in
      rw (
        link-has (table_of b (table_of a t)) (part_of a).lm (part_of b).fm hb p k hp,
        lm-is f (omega (arith, fits_le g)) p hp,
        fm-is g l k hk,
        table-has g l (table_of a t) ha p k hp hk,
        table-has f (omega (arith, fits_le g)) t u p k hp hk,
      )
      (assoc (has (row t p) k) (follow a p k) (follow b p k) (last false false a p && first false false b k))
  table-has (f-alt {a = a} {b = b} m f g) l t u p k hp hk =
      let ha : 1024 ≤ length (table_of a t) = omega (arith, table-length a t) in
      rw (table-has g l (table_of a t) ha p k hp hk, table-has f (omega (arith, fits_le g)) t u p k hp hk) (assoc₂ (has (row t p) k) (follow a p k) (follow b p k))
  table-has (f-star {a = a} f) l t u p k hp hk =
      let ha : 1024 ≤ length (table_of a t) = omega (arith, table-length a t) in
      rw (link-has (table_of a t) (part_of a).lm (part_of a).fm ha p k hp, lm-is f l p hp, fm-is f l k hk, table-has f l t u p k hp hk)
      (assoc₂ (has (row t p) k) (follow a p k) (last false false a p && first false false a k))
  table-has (f-plus {a = a} f) l t u p k hp hk =
      let ha : 1024 ≤ length (table_of a t) = omega (arith, table-length a t) in
      rw (link-has (table_of a t) (part_of a).lm (part_of a).fm ha p k hp, lm-is f l p hp, fm-is f l k hk, table-has f l t u p k hp hk)
      (assoc₂ (has (row t p) k) (follow a p k) (last false false a p && first false false a k))
  table-has (f-opt f) l t u p k hp hk = table-has f l t u p k hp hk
