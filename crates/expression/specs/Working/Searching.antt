-- Working laws: the ways out of the functions that look names up. Assumes nothing.
use Rattle.std.specs.Prelude.{◌≡◌, refl, Bool, true, false, List, [], ◌∷◌, map, ℕ, zero, suc, ◌+◌, ◌-◌, ◌<◌, ◌≤◌, eqb, ltb, length, get_or, drop}
use Rattle.std.proofs.Math.Path.{sym}
use Rattle.std.proofs.Common.{◌∙◌, arith, add-one, not-suc-le-zero, le_of_suc-le-suc, drop_of_length-le, drop-cons}
use borrow.Author.Tests.{lt-ltb, le-leb, lt-leb}
use Rattle.text.specs.Choice.{split}
use Rattle.text.specs.Counted.{counted}
use Rattle.text.specs.Equal.{equal}
use Rattle.expression.specs.Conditions.{index_from}
use Rattle.expression.specs.Names.{min_trust, max_trust, all_values, authorizers}
use Rattle.expression.specs.Tables.{first_from, setting_in, query_in, lookup_in}

-- the loop of `find`
unfoldable pub first_rest : List ℕ → List ℕ → List ℕ → ℕ → ℕ
first_rest s name ps i = first_from s name i (drop i ps)

pub first-start : (s name ps : List ℕ) → first_rest s name ps 0 ≡ first_from s name 0 ps
unfolding first_rest
first-start s name ps = refl

module _ (s name ps : List ℕ) (i r : ℕ) (inv : first_rest s name ps i ≡ r) where
  pub first-end : length ps ≤ i → i ≡ r
  unfolding first_rest first_from
  first-end h = rw (drop_of_length-le ps h) at inv

  module _ (h : i < length ps) (p : ℕ) (pe : p ≡ get_or ps i 0) (x : List ℕ) (xe : x ≡ counted s p) (t : Bool) (te : t ≡ equal x name) where
    here : equal (counted s (get_or ps i 0)) name ≡ t
    here = cc

    pub first-here : t ≡ true → i ≡ r
    unfolding first_rest first_from
    first-here y = rw (drop-cons ps i 0 h, here, y) at inv

    pub first_more : t ≡ false → first_rest s name ps (i + 1) ≡ r
    unfolding first_rest first_from
    first_more n = rw (add-one i) (rw (drop-cons ps i 0 h, here, n) at inv)

-- a place past the end has an empty string
pub counted-out : (s : List ℕ) (at : ℕ) → length s < at → [] ≡ counted s at
unfolding counted
counted-out s at h = split (ltb at 2) (λ e. rw e) (λ e. rw (e, lt-ltb (length s) at h))

-- the ways out of `behind`
module _ (s : List ℕ) (p n : ℕ) where
  pub behind-past : length s < p → [] ≡ counted s (p + n + 2)
  behind-past h = counted-out s (p + n + 2) (omega arith)

  pub behind-short : p ≤ length s → length s - p < n → [] ≡ counted s (p + n + 2)
  behind-short h k = counted-out s (p + n + 2) (omega arith)

  pub behind-none : p ≤ length s → n ≤ length s - p → length s - p - n < 2 → [] ≡ counted s (p + n + 2)
  behind-none h k l = counted-out s (p + n + 2) (omega arith)

-- the ways out of `string_at`
map-out : (f : ℕ → List ℕ) (ps : List ℕ) (i : ℕ) → length ps ≤ i → [] ≡ get_or (map f ps) i []
map-out f [] i h = refl
map-out f (p ∷ ps) zero h = absurd (not-suc-le-zero h)
map-out f (p ∷ ps) (suc i) h = map-out f ps i (le_of_suc-le-suc h)

map-in : (f : ℕ → List ℕ) (ps : List ℕ) (i : ℕ) → i < length ps → f (get_or ps i 0) ≡ get_or (map f ps) i []
map-in f [] i h = absurd (not-suc-le-zero h)
map-in f (p ∷ ps) zero h = refl
map-in f (p ∷ ps) (suc i) h = map-in f ps i (le_of_suc-le-suc h)

module _ (s ps : List ℕ) (i : ℕ) where
  pub string-none : length ps ≤ i → [] ≡ get_or (map (counted s) ps) i []
  string-none h = map-out (counted s) ps i h

  pub string-some : i < length ps → (p : ℕ) → p ≡ get_or ps i 0 → (x : List ℕ) → x ≡ counted s p → x ≡ get_or (map (counted s) ps) i []
  string-some h p pe x e = rw pe at e ∙ map-in (counted s) ps i h

pub last_none : (s ps x : List ℕ) → length ps ≡ 0 → x ≡ get_or (map (counted s) ps) 0 [] → x ≡ get_or (map (counted s) ps) (length ps - 1) []
last_none s ps x z e = let q : length ps - 1 ≡ 0 = omega arith in rw q e

-- the ways out of `attribute`
module _ (s ps name : List ℕ) (i : ℕ) (ie : i ≡ first_from s name 0 ps) where
  pub setting-none : length ps ≤ i → [] ≡ setting_in s ps name []
  unfolding setting_in
  setting-none h = simp (sym ie, le-leb _ _ h)

  pub setting-other : (x other : List ℕ) → length ps ≤ i → x ≡ other → x ≡ setting_in s ps name other
  unfolding setting_in
  setting-other x other h e = e ∙ simp (sym ie, le-leb _ _ h)

  pub setting-some : (x other : List ℕ) → i < length ps → (p : ℕ) → p ≡ get_or ps i 0 → x ≡ counted s (p + length name + 2) → x ≡ setting_in s ps name other
  unfolding setting_in
  setting-some x other h p pe e = rw pe at e ∙ simp (sym ie, lt-leb _ _ h)

-- the ways out of `is_marked`
pub marked-none : (name : List ℕ) → length name ≤ 0 → false ≡ eqb (get_or name 0 0) 95
marked-none [] h = refl
marked-none (b ∷ bs) h = absurd (not-suc-le-zero h)

-- a name that begins otherwise is none of the reserved ones
unmarked : (name w : List ℕ) → eqb (get_or name 0 0) 95 ≡ false → equal name (95 ∷ w) ≡ false
unfolding equal
unmarked [] w h = refl
unmarked (b ∷ bs) w h = rw h

pub query-unmarked : (rec consts values names name x : List ℕ) (t : Bool) → t ≡ eqb (get_or name 0 0) 95 → t ≡ false → x ≡ setting_in rec names name [] → x ≡ query_in rec consts values names name
unfolding query_in
query-unmarked rec consts values names name x t te f e =
    let n : (w : List ℕ) → equal name (95 ∷ w) ≡ false = λ w. unmarked name w (sym te ∙ f) in
    e ∙ simp n

-- the ways out of `from_reserved`
module _ (rec consts values names name x : List ℕ) (a : Bool) (ae : a ≡ equal name min_trust) where
  pub query-least : a ≡ true → x ≡ get_or (map (counted rec) values) 0 [] → x ≡ query_in rec consts values names name
  unfolding query_in
  query-least t e = e ∙ simp (sym ae, t)

  module _ (no : a ≡ false) (b : Bool) (be : b ≡ equal name max_trust) where
    pub query-most : b ≡ true → x ≡ get_or (map (counted rec) values) (length values - 1) [] → x ≡ query_in rec consts values names name
    unfolding query_in
    query-most t e = e ∙ simp (sym ae, no, sym be, t)

    module _ (nob : b ≡ false) (c : Bool) (ce : c ≡ equal name all_values) where
      pub query-values : c ≡ true → x ≡ counted consts 2 → x ≡ query_in rec consts values names name
      unfolding query_in
      query-values t e = e ∙ simp (sym ae, no, sym be, nob, sym ce, t)

      module _ (noc : c ≡ false) (d : Bool) (de : d ≡ equal name authorizers) where
        pub query-authorizers : d ≡ true → (y : List ℕ) → y ≡ counted consts 2 → x ≡ counted consts (2 + length y + 2) → x ≡ query_in rec consts values names name
        unfolding query_in
        query-authorizers t y ye e = rw ye at e ∙ simp (sym ae, no, sym be, nob, sym ce, noc, sym de, t)

        pub query-attribute : d ≡ false → x ≡ setting_in rec names name [] → x ≡ query_in rec consts values names name
        unfolding query_in
        query-attribute t e = e ∙ simp (sym ae, no, sym be, nob, sym ce, noc, sym de, t)

-- the ways out of `lookup`
module _ (rec consts values names constants name : List ℕ) (i : ℕ) (ie : i ≡ first_from consts name 0 constants) (x : List ℕ) where
  pub lookup-query : length constants ≤ i → x ≡ query_in rec consts values names name → x ≡ lookup_in rec consts values names constants name
  unfolding lookup_in
  lookup-query h e = setting-other consts constants name i ie x _ h e

  pub lookup-constant : i < length constants → (p : ℕ) → p ≡ get_or constants i 0 → x ≡ counted consts (p + length name + 2) → x ≡ lookup_in rec consts values names constants name
  unfolding lookup_in
  lookup-constant h p pe e = setting-some consts constants name i ie x _ h p pe e

-- the ways out of `rank_of`
first-least : (s b : List ℕ) (i : ℕ) (ps : List ℕ) → i ≤ first_from s b i ps
unfolding first_from
first-least s b i [] = omega arith
first-least s b i (p ∷ ps) = split (equal (counted s p) b) (λ e. rw e (omega arith)) (λ e. rw e (omega (arith, first-least s b (suc i) ps)))

index-out : (s b : List ℕ) (i : ℕ) (ps : List ℕ) → i + length ps ≤ first_from s b i ps → 0 ≡ index_from i (map (counted s) ps) b
unfolding first_from index_from
index-out s b i [] h = refl
index-out s b i (p ∷ ps) h =
    split (equal (counted s p) b)
    (λ e. let no : ⊥ = (let k : i + suc (length ps) ≤ i = rw e at h in omega arith) in absurd no)
    (λ e. rw e (index-out s b (suc i) ps (let k : i + suc (length ps) ≤ first_from s b (suc i) ps = rw e at h in omega arith)))

index_in : (s b : List ℕ) (i : ℕ) (ps : List ℕ) → first_from s b i ps < i + length ps → first_from s b i ps ≡ index_from i (map (counted s) ps) b
unfolding first_from index_from
index_in s b i [] h = let no : ⊥ = omega arith in absurd no
index_in s b i (p ∷ ps) h =
    split (equal (counted s p) b)
    (λ e. rw e)
    (λ e. rw e (index_in s b (suc i) ps (let k : first_from s b (suc i) ps < i + suc (length ps) = rw e at h in omega arith)))

module _ (s ps b : List ℕ) (i : ℕ) (ie : i ≡ first_from s b 0 ps) where
  pub rank-none : length ps ≤ i → 0 ≡ index_from 0 (map (counted s) ps) b
  rank-none h = index-out s b 0 ps (let k : length ps ≤ first_from s b 0 ps = rw ie at h in omega arith)

  pub rank-some : i < length ps → i ≡ index_from 0 (map (counted s) ps) b
  rank-some h = ie ∙ index_in s b 0 ps (let k : first_from s b 0 ps < length ps = rw ie at h in omega arith)
