-- The ways out of the functions that compare principals. Assumes nothing.
use Rattle.std.specs.Prelude.{◌≡◌, refl, Bool, ◌&&◌, ◌↔◌, not, cond, Some, None, eqb, ltb, get_or, take, drop, map, position}
use Rattle.std.specs.List.{position_or_len}
use Rattle.std.specs.Option.{unwrap_or}
use Rattle.std.specs.Char.{to_ascii_lowercase}
use Rattle.std.proofs.lemmas.List.Sums.{prefix_len-le-length}
use Rattle.std.proofs.Math.Path.{sym, ap}
use Rattle.std.proofs.Common.{◌∙◌, arith, add-one, add-zero, length-drop, length-take-le, take_all, take_at, drop_at}
use Rattle.std.proofs.Math.Bool.{true, false}
use mathlib.Core.List.{List, [], ◌∷◌, ◌++◌}
use Prim.Native.Nat.{ℕ, suc, ◌+◌, ◌-◌, ◌≤◌, ◌<◌}
use Rattle.std.proofs.Math.ListN.{length, drop_of_length-le}
use Rattle.std.proofs.Math.Seq.{drop-cons}
use borrow.Author.Tests.{ltb-true, ltb-false, eq-eqb, ne_eqb, lt-leb, le-leb}
use Rattle.text.specs.Choice.{pick, split, bool_iff}
use Rattle.text.specs.Equal.{equal, equal-refl, equal-true}
use Rattle.principal.specs.Canonical.{fold, folded, front, behind, rsa_hex, dsa_hex, is_hex}
use Rattle.principal.specs.Theorems.Canonical.{front-behind, folded-long}
use Rattle.principal.specs.Principal.{Principal, same, same_refl}

-- `colon_at`: from byte i on
unfoldable pub front_from : Principal → ℕ → ℕ
front_from p i = i + length (front (drop i p))

pub front-start : (p : Principal) → front_from p 0 ≡ length (front p)
unfolding front_from
front-start p = omega arith

module _ (p : Principal) (i r : ℕ) (inv : front_from p i ≡ r) where
  pub front-end : length p ≤ i → i ≡ r
  unfolding front_from front
  front-end h = sym (add-zero i) ∙ (rw (drop_of_length-le p h) at inv)

  module _ (h : i < length p) where
    step : front_from p i ≡ i + pick (eqb (get_or p i 0) 58) 0 (suc (length (front (drop (suc i) p))))
    unfolding front_from front
    step = rw (drop-cons p i 0 h) (split (eqb (get_or p i 0) 58) (λ e. rw e) (λ e. rw e))

    pub front-here : get_or p i 0 ≡ 58 → i ≡ r
    front-here e = sym (add-zero i) ∙ (let z : i + pick (eqb (get_or p i 0) 58) 0 (suc (length (front (drop (suc i) p)))) ≡ r = sym step ∙ inv in rw (eq-eqb _ _ e) at z)

    pub front-more : (get_or p i 0 ≡ 58 → ⊥) → front_from p (i + 1) ≡ r
    unfolding front_from
    front-more n =
        let z : i + pick (eqb (get_or p i 0) 58) 0 (suc (length (front (drop (suc i) p)))) ≡ r = sym step ∙ inv in
        let w : i + suc (length (front (drop (suc i) p))) ≡ r = rw (ne_eqb _ _ n) at z in
        rw (add-one i) (omega (arith, w))

-- a byte without case
module _ (b : ℕ) where
  pub fold-capital : 65 ≤ b → b ≤ 90 → b + 32 ≡ fold b
  unfolding fold
  fold-capital h k = rw (le-leb 65 b h, le-leb b 90 k)

  pub fold-above : 65 ≤ b → 90 < b → b ≡ fold b
  unfolding fold
  fold-above h k = rw (le-leb 65 b h, lt-leb b 90 k)

  pub fold-below : b < 65 → b ≡ fold b
  unfolding fold
  fold-below h = rw (lt-leb 65 b h)

-- `same_folded`
equal-long : (a b : List ℕ) → equal a b ≡ true → length a ≡ length b
equal-long a b e = ap length (equal-true a b e)

pub folded-apart : (a b : List ℕ) → (length a ≡ length b → ⊥) → false ≡ equal (folded a) (folded b)
folded-apart a b n = split (equal (folded a) (folded b))
    (λ e. absurd (n (sym (folded-long a) ∙ equal-long (folded a) (folded b) e ∙ folded-long b)))
    (λ e. sym e)

module _ (a b : List ℕ) (i : ℕ) (r : Bool) (inv : equal (folded (drop i a)) (folded (drop i b)) ≡ r) where
  pub folded-end : length a ≡ length b → length a ≤ i → true ≡ r
  unfolding folded equal
  folded-end l h = let k : length b ≤ i = omega (arith, l, h) in rw (drop_of_length-le a h, drop_of_length-le b k) at inv

-- `is_hex`
module _ (a : List ℕ) (t : Bool) (te : t ≡ equal (folded a) (folded rsa_hex)) where
  pub hex-rsa : t ≡ true → true ≡ is_hex (folded a)
  unfolding is_hex folded fold
  hex-rsa y = let z : equal (folded a) rsa_hex ≡ true = sym te ∙ y in rw z

  pub hex-either : t ≡ true → t ≡ is_hex (folded a)
  hex-either y = y ∙ hex-rsa y

  pub hex-dsa : t ≡ false → (u : Bool) → u ≡ equal (folded a) (folded dsa_hex) → u ≡ is_hex (folded a)
  unfolding is_hex folded fold
  hex-dsa n u ue = let z : equal (folded a) rsa_hex ≡ false = sym te ∙ n in rw z ue

-- `same_principal`
pub equal-append : (a c b d : List ℕ) → length a ≡ length c → equal (a ++ b) (c ++ d) ≡ (equal a c && equal b d)
unfolding equal
equal-append [] [] b d l = refl
equal-append [] (y ∷ c) b d l = let no : ⊥ = omega (arith, l) in absurd no
equal-append (x ∷ a) [] b d l = let no : ⊥ = omega (arith, l) in absurd no
equal-append (x ∷ a) (y ∷ c) b d l = split (eqb x y) (λ e. rw e (equal-append a c b d (omega (arith, l)))) (λ e. rw e)

pub take-front : (p : Principal) → take (length (front p)) p ≡ front p
take-front p = ap (take (length (front p))) (sym (front-behind p)) ∙ take_at (front p) (behind p) (length (front p)) refl

pub drop-front : (p : Principal) → drop (length (front p)) p ≡ behind p
drop-front p = ap (drop (length (front p))) (sym (front-behind p)) ∙ drop_at (front p) (behind p) (length (front p)) refl

pub no-rest : (l : List ℕ) → length l ≡ 0 → l ≡ []
no-rest [] e = refl
no-rest (x ∷ l) e = let no : ⊥ = omega (arith, e) in absurd no

-- a front and what is behind it
pub take_whole : (l : List ℕ) (k : ℕ) → length l ≤ k → l ≡ take k l
take_whole l k h = sym (take_all k l h)

pub front-short : (s : List ℕ) (n : ℕ) → n < length s → n ≡ length (take n s)
front-short s n h = sym (length-take-le n s (omega (arith, h)))

pub drop-whole : (l e : List ℕ) (k : ℕ) → length l ≤ k → e ≡ drop (length l) l → e ≡ drop k l
drop-whole l e k h ee = let z : length l ≤ length l = omega arith in ee ∙ drop_of_length-le l z ∙ sym (drop_of_length-le l h)

pub rest_part : (l : List ℕ) (k : ℕ) → take (length l - k) (drop k l) ≡ drop k l
rest_part l k = take_all (length l - k) (drop k l) (let z : length (drop k l) ≤ length l - k = omega (arith, length-drop k l) in z)

module _ (a b : Principal) where
  pub same_bytes : (t : Bool) → t ≡ equal a b → t ≡ true → true ≡ same a b
  same_bytes t te y = sym (ap (λ (x : Principal). same x b) (equal-true a b (sym te ∙ y)) ∙ same_refl b)

-- the library's position of a byte, and its equality but for the case of letters
colon-prefix : (p : Principal) → position_or_len (λ b. eqb b 58) p ≡ length (front p)
unfolding front
colon-prefix [] = refl
colon-prefix (b ∷ p) = split (eqb b 58) (λ e. rw e) (λ e. rw (e, colon-prefix p) (omega arith))

or_length : (m n : ℕ) → m ≤ n → unwrap_or (cond (ltb m n) (Some m) None) n ≡ m
or_length m n h = split (ltb m n) (λ e. rw e) (λ e. rw e (let l : n ≤ m = ltb-false m n e in let q : n ≡ m = omega arith in q))

pub colon-position : (p : Principal) → unwrap_or (position (λ b. eqb b 58) p) (length p) ≡ length (front p)
colon-position p = or_length (position_or_len (λ b. eqb b 58) p) (length p) (prefix_len-le-length (λ b. not (eqb b 58)) p) ∙ colon-prefix p

fold-lower : (b : ℕ) → fold b ≡ to_ascii_lowercase b
unfolding fold
fold-lower b =
    split (ltb b 65)
    (λ e. let l : b < 65 = ltb-true b 65 e in rw (e, lt-leb 65 b l))
    (λ e. let l : 65 ≤ b = ltb-false b 65 e in
    split (ltb b 91)
    (λ f. let m : b < 91 = ltb-true b 91 f in rw (e, f, le-leb 65 b l, le-leb b 90 (omega arith)))
    (λ f. let m : 91 ≤ b = ltb-false b 91 f in rw (e, f, le-leb 65 b l, lt-leb b 90 (omega arith))))

folded-lower : (p : List ℕ) → folded p ≡ map to_ascii_lowercase p
unfolding folded
folded-lower [] = refl
folded-lower (b ∷ p) = rw (fold-lower b, folded-lower p)

pub caseless_equal : (a b : List ℕ) (t : Bool) → t ≡ true ↔ (map to_ascii_lowercase a ≡ map to_ascii_lowercase b) → t ≡ equal (folded a) (folded b)
caseless_equal a b t h =
    bool_iff t (equal (folded a) (folded b))
    (λ e. let z : folded a ≡ folded b = folded-lower a ∙ h.0 e ∙ sym (folded-lower b) in rw z (equal-refl (folded b)))
    (λ e. h.1 (sym (folded-lower a) ∙ equal-true (folded a) (folded b) e ∙ folded-lower b))
