-- Strings compared by blocks: equality of parts, and the ways out of the functions that test blocks. Assumes nothing.
use Rattle.std.specs.Prelude.{◌≡◌, refl, Bool, ◌&&◌, List, [], ◌∷◌, ◌++◌, ℕ, zero, suc, ◌+◌, ◌-◌, ◌*◌, ◌<◌, ◌≤◌, eqb, length, get_or, take, drop}
use Rattle.std.proofs.Math.Path.{sym, ap}
use Rattle.std.proofs.Common.{◌∙◌, arith, zero-add, suc-add, add-one, length-drop, take-append-drop, take-suc, take_all, drop-drop, get_or-drop, length-take-le, eq-eqb, ne_eqb}
use Rattle.std.proofs.Math.Bool.{true, false}
use Rattle.std.proofs.Math.Seq.{take-nil}
use Rattle.text.specs.Choice.{split}
use Rattle.text.specs.Equal.{equal, equal-true}
use Rattle.text.specs.Working.Common.{common, common_from}

-- the n bytes from i on are the same in both
unfoldable pub alike : List ℕ → List ℕ → ℕ → ℕ → Bool
alike a b i n = equal (take n (drop i a)) (take n (drop i b))

and-false : (p : Bool) → (p && false) ≡ false
and-false true = refl
and-false false = refl

and-true : (p : Bool) → (p && true) ≡ p
and-true true = refl
and-true false = refl

-- strings whose fronts have one length
equal-append : (x y u v : List ℕ) → length x ≡ length y → equal (x ++ u) (y ++ v) ≡ (equal x y && equal u v)
unfolding equal
equal-append [] [] u v h = refl
equal-append [] (b ∷ y) u v h = let no : ⊥ = omega (arith, h) in absurd no
equal-append (a ∷ x) [] u v h = let no : ⊥ = omega (arith, h) in absurd no
equal-append (a ∷ x) (b ∷ y) u v h = split (eqb a b) (λ e. rw e (equal-append x y u v (omega (arith, h)))) (λ e. rw e)

-- one byte
equal-byte : (x y : ℕ) → equal (x ∷ []) (y ∷ []) ≡ eqb x y
unfolding equal
equal-byte x y = and-true (eqb x y)

-- what a string's front and a part behind it make
module _ (x y u v : List ℕ) (h : length x ≡ length y) where
  pub append-unlike : equal u v ≡ false → equal (x ++ u) (y ++ v) ≡ false
  append-unlike e = equal-append x y u v h ∙ rw e (and-false (equal x y))

  pub append-like : equal u v ≡ true → equal (x ++ u) (y ++ v) ≡ equal x y
  append-like e = equal-append x y u v h ∙ rw e (and-true (equal x y))

module _ (x y : List ℕ) (u v : ℕ) (h : length x ≡ length y) where
  pub byte-unlike : (u ≡ v → ⊥) → equal (x ++ (u ∷ [])) (y ++ (v ∷ [])) ≡ false
  byte-unlike n = append-unlike x y (u ∷ []) (v ∷ []) h (equal-byte u v ∙ ne_eqb u v n)

  pub byte-like : u ≡ v → equal (x ++ (u ∷ [])) (y ++ (v ∷ [])) ≡ equal x y
  byte-like e = append-like x y (u ∷ []) (v ∷ []) h (equal-byte u v ∙ eq-eqb u v e)

-- what lies behind a part
behind : (c : List ℕ) (i n : ℕ) → drop i c ≡ take n (drop i c) ++ drop (i + n) c
behind c i n = sym (take-append-drop n (drop i c)) ∙ ap (λ (k : List ℕ). take n (drop i c) ++ k) (drop-drop n i c)

-- a part, and the part that is one byte longer
module _ (c : List ℕ) (i j n : ℕ) (h : i + n ≤ length c) (l : j < n) where
  part-more : take (j + 1) (drop i c) ≡ take j (drop i c) ++ (get_or c (i + j) 0 ∷ [])
  part-more =
      let k : j < length (drop i c) = rw (length-drop i c) (omega (arith, h, l)) in
      rw (add-one j) (take-suc (drop i c) j 0 k ∙ ap (λ (x : ℕ). take j (drop i c) ++ (x ∷ [])) (get_or-drop i c j 0))

  part_length : length (take j (drop i c)) ≡ j
  part_length = length-take-le j (drop i c) (rw (length-drop i c) (omega (arith, h, l)))

-- the ways out of `same_part`
pub alike-none : (a b : List ℕ) (i : ℕ) → true ≡ alike a b i 0
unfolding alike equal
alike-none a b i = refl

pub alike-done : (a b : List ℕ) (i j n : ℕ) (s : Bool) → s ≡ alike a b i j → j ≤ n → n ≤ j → s ≡ alike a b i n
alike-done a b i j n s e l h = let z : j ≡ n = omega (arith, l, h) in e ∙ ap (alike a b i) z

module _ (a b : List ℕ) (i j n : ℕ) (ha : i + n ≤ length a) (hb : i + n ≤ length b) (l : j < n) where
  same_length : length (take j (drop i a)) ≡ length (take j (drop i b))
  same_length = part_length a i j n ha l ∙ sym (part_length b i j n hb l)

  pub alike-more : (s : Bool) → s ≡ alike a b i j → (s && eqb (get_or a (i + j) 0) (get_or b (i + j) 0)) ≡ alike a b i (j + 1)
  unfolding alike
  alike-more s e =
      rw (part-more a i j n ha l, part-more b i j n hb l, e)
      (sym (equal-append (take j (drop i a)) (take j (drop i b)) (get_or a (i + j) 0 ∷ []) (get_or b (i + j) 0 ∷ []) same_length
      ∙ ap (λ (x : Bool). equal (take j (drop i a)) (take j (drop i b)) && x) (equal-byte (get_or a (i + j) 0) (get_or b (i + j) 0))))

-- a common front, and the blocks behind it
common-front : (x u v : List ℕ) → common (x ++ u) (x ++ v) ≡ length x + common u v
unfolding common
common-front [] u v = sym (zero-add (common u v))
common-front (c ∷ x) u v = rw (eq-eqb c c refl, common-front x u v) (sym (suc-add (length x) (common u v)))

pub blocks_more : (a b : List ℕ) (i n r : ℕ) → n ≤ length a - i → (t : Bool) → t ≡ alike a b i n → t ≡ true → common_from a b i ≡ r → common_from a b (i + n) ≡ r
unfolding common_from alike
blocks_more a b i n r h t te tt inv =
    let x : List ℕ = take n (drop i a) in
    let q : x ≡ take n (drop i b) = equal-true x (take n (drop i b)) (sym te ∙ tt) in
    let m : length x ≡ n = length-take-le n (drop i a) (rw (length-drop i a) h) in
    let u : drop i a ≡ x ++ drop (i + n) a = behind a i n in
    let v : drop i b ≡ x ++ drop (i + n) b = behind b i n ∙ ap (λ (k : List ℕ). k ++ drop (i + n) b) (sym q) in
    let w : common (drop i a) (drop i b) ≡ length x + common (drop (i + n) a) (drop (i + n) b) =
    ap (λ (k : List ℕ). common k (drop i b)) u ∙ ap (common (x ++ drop (i + n) a)) v ∙ common-front x (drop (i + n) a) (drop (i + n) b) in
    omega (arith, inv, w, m)

-- the ways out of `same_below`
pub take_more : (m n : ℕ) (l : List ℕ) → take (m + n) l ≡ take m l ++ take n (drop m l)
take_more zero n l = rw (zero-add n)
take_more (suc m) n [] = rw (take-nil (suc m + n), take-nil n)
take_more (suc m) n (x ∷ l) = rw (suc-add m n, take_more m n l)

pub below_none : (a b : List ℕ) (k : ℕ) (r : Bool) → equal (take (k * 64) a) (take (k * 64) b) ≡ r → k ≤ 0 → true ≡ r
unfolding equal
below_none a b k r inv h = let n : k ≡ 0 = omega (arith, h) in let z : equal (take 0 a) (take 0 b) ≡ r = rw n at inv in z

module _ (a b : List ℕ) (k : ℕ) (r : Bool) (inv : equal (take (k * 64) a) (take (k * 64) b) ≡ r) (more : 0 < k) (ha : k * 64 ≤ length a) (hb : k * 64 ≤ length b)
    (t : Bool) (te : t ≡ alike a b ((k - 1) * 64) 64) where
  whole : (c : List ℕ) → take (k * 64) c ≡ take ((k - 1) * 64) c ++ take 64 (drop ((k - 1) * 64) c)
  whole c = let z : k * 64 ≡ (k - 1) * 64 + 64 = omega (arith, more) in ap (λ (n : ℕ). take n c) z ∙ take_more ((k - 1) * 64) 64 c

  fronts : length (take ((k - 1) * 64) a) ≡ length (take ((k - 1) * 64) b)
  fronts = length-take-le ((k - 1) * 64) a (omega (arith, ha)) ∙ sym (length-take-le ((k - 1) * 64) b (omega (arith, hb)))

  pub below-unlike : t ≡ false → false ≡ r
  unfolding alike
  below-unlike tf =
      sym (append-unlike (take ((k - 1) * 64) a) (take ((k - 1) * 64) b) (take 64 (drop ((k - 1) * 64) a)) (take 64 (drop ((k - 1) * 64) b)) fronts (sym te ∙ tf))
      ∙ (rw (whole a, whole b) at inv)

  pub below-like : t ≡ true → equal (take ((k - 1) * 64) a) (take ((k - 1) * 64) b) ≡ r
  unfolding alike
  below-like tt =
      sym (append-like (take ((k - 1) * 64) a) (take ((k - 1) * 64) b) (take 64 (drop ((k - 1) * 64) a)) (take 64 (drop ((k - 1) * 64) b)) fronts (sym te ∙ tt))
      ∙ (rw (whole a, whole b) at inv)

-- the ways out of `same_long`
module _ (a b : List ℕ) (i n : ℕ) (r : Bool) (inv : equal (drop i a) (drop i b) ≡ r) (ha : n ≤ length a - i) (long : length a ≡ length b) (t : Bool) (te : t ≡ alike a b i n) where
  parted : (equal (take n (drop i a)) (take n (drop i b)) && equal (drop (i + n) a) (drop (i + n) b)) ≡ r
  parted =
      let m : (c : List ℕ) → n ≤ length c - i → length (take n (drop i c)) ≡ n = λ c h. length-take-le n (drop i c) (rw (length-drop i c) h) in
      sym (ap (λ (x : List ℕ). equal x (drop i b)) (behind a i n) ∙ ap (equal (take n (drop i a) ++ drop (i + n) a)) (behind b i n)
      ∙ equal-append (take n (drop i a)) (take n (drop i b)) (drop (i + n) a) (drop (i + n) b) (m a ha ∙ sym (m b (omega (arith, ha, long)))))
      ∙ inv

  pub long-like : t ≡ true → equal (drop (i + n) a) (drop (i + n) b) ≡ r
  unfolding alike
  long-like tt = let q : equal (take n (drop i a)) (take n (drop i b)) ≡ true = sym te ∙ tt in rw q at parted

  pub long-unlike : t ≡ false → false ≡ r
  unfolding alike
  long-unlike tf = let q : equal (take n (drop i a)) (take n (drop i b)) ≡ false = sym te ∙ tf in rw q at parted

pub long_rest : (a b : List ℕ) (i : ℕ) (r : Bool) → equal (drop i a) (drop i b) ≡ r → (t : Bool) → t ≡ equal (take (length a - i) (drop i a)) (take (length b - i) (drop i b)) → t ≡ r
long_rest a b i r inv t e =
    let w : (c : List ℕ) → take (length c - i) (drop i c) ≡ drop i c = λ c. take_all (length c - i) (drop i c) (rw (length-drop i c) (omega arith)) in
    e ∙ (rw (w a, w b) inv)

-- the loop of `same_long`
module _ (a b : List ℕ) (k : ℕ) (r : Bool) (inv : equal (drop (k * 1024) a) (drop (k * 1024) b) ≡ r) where
  module _ (ha : (k + 1) * 1024 ≤ length a) (long : length a ≡ length b) (t : Bool) (te : t ≡ alike a b (k * 1024) 1024) where
    pub ahead-like : t ≡ true → equal (drop ((k + 1) * 1024) a) (drop ((k + 1) * 1024) b) ≡ r
    ahead-like tt =
        let z : (k + 1) * 1024 ≡ k * 1024 + 1024 = omega arith in
        rw z (long-like a b (k * 1024) 1024 r inv (omega (arith, ha)) long t te tt)

    pub ahead-unlike : t ≡ false → false ≡ r
    ahead-unlike tf = long-unlike a b (k * 1024) 1024 r inv (omega (arith, ha)) long t te tf

  pub ahead_rest : (n : ℕ) → k ≤ n → n ≤ k → (t : Bool) → t ≡ equal (take (length a - n * 1024) (drop (n * 1024) a)) (take (length b - n * 1024) (drop (n * 1024) b)) → t ≡ r
  ahead_rest n l h t e = let z : k ≡ n = omega (arith, l, h) in long_rest a b (n * 1024) r (rw z at inv) t e
