-- The ways out of the functions that compare two names in other orders. Assumes nothing.
use Rattle.std.specs.Prelude.{◌≡◌, refl, Option, Some, None, slice_get, Bool, true, false, List, [], ◌∷◌, ℕ, suc, ◌-◌, ◌<◌, ◌≤◌, eqb, length, get_or, take}
use Rattle.std.proofs.Common.{Bor, sym, ap, ◌∙◌, arith, length-take-le, eq-eqb, ne_eqb}
use Rattle.std.specs.Option.{option_copied, option_eq}
use Rattle.std.specs.Ordering.{is_eq}
use Rattle.text.specs.Choice.{split, clash}
use Rattle.text.specs.Equal.{equal, equal-refl, equal-true}
use Rattle.text.specs.Order.{order}
use Rattle.text.specs.OrderLaws.{order-refl, order-equal}
use Rattle.std.specs.declared.cmp.Ordering.{Ordering as Order}
use Rattle.std.specs.declared.cmp.Ordering.TheVariants.{Less, Equal, Greater}
use Rattle.text.specs.Working.Backward.{same-unlike, same-like}

-- two names that differ in something
pub differ : (a b : List ℕ) → (a ≡ b → ⊥) → false ≡ equal a b
differ a b h = split (equal a b) (λ e. absurd (h (equal-true a b e))) (λ e. sym e)

-- lengths that differ
pub front_long : (a b : List ℕ) → (length a ≡ length b → ⊥) → false ≡ equal a b
front_long a b h = differ a b (λ e. h (ap length e))

-- what the order of two names says of their equality
abbrev is_equal : Order → Bool
is_equal Less = false
is_equal Equal = true
is_equal Greater = false

module _ (a b : List ℕ) (o : Order) (oe : o ≡ order a b) where
  pub front-equal : o ≡ Equal → true ≡ equal a b
  front-equal e = let z : a ≡ b = order-equal a b (sym oe ∙ e) in rw z (sym (equal-refl b))

  unequal : (o ≡ Equal → ⊥) → false ≡ equal a b
  unequal f = differ a b (λ e. f (oe ∙ rw e (order-refl b)))

  pub front_less : o ≡ Less → false ≡ equal a b
  front_less e = unequal (λ f. clash (ap is_equal f) (ap is_equal e))

  pub front-greater : o ≡ Greater → false ≡ equal a b
  front-greater e = unequal (λ f. clash (ap is_equal f) (ap is_equal e))

pub front-same : (a b : List ℕ) (o : Order) → o ≡ order a b → is_eq o ≡ equal a b
front-same a b Less e = front_less a b Less e refl
front-same a b Equal e = front-equal a b Equal e refl
front-same a b Greater e = front-greater a b Greater e refl

pub long-unlike : (a b : List ℕ) → (length a ≡ length b → ⊥) → eqb (length a) (length b) ≡ equal a b
long-unlike a b h = ne_eqb (length a) (length b) h ∙ front_long a b h

-- `same_from_last`
lasts-alike : (o p : Option (Bor ℕ)) → option_copied o ≡ option_copied p → option_eq (λ (x y : Bor ℕ). eqb x.now y.now) o p ≡ true
lasts-alike None None e = refl
lasts-alike None (Some y) e = cc
lasts-alike (Some x) None e = cc
lasts-alike (Some x) (Some y) e = let z : x.now ≡ y.now = cc in eq-eqb x.now y.now z

pub last-other : (a b : List ℕ) (o p : Option (Bor ℕ)) → option_copied o ≡ slice_get a (length a - 1) → option_copied p ≡ slice_get b (length b - 1)
    → (t : Bool) → t ≡ option_eq (λ (x y : Bor ℕ). eqb x.now y.now) o p → t ≡ false → t ≡ equal a b
last-other a b o p oe pe t te tf =
    tf ∙ differ a b (λ e. clash (te ∙ lasts-alike o p (oe ∙ ap (λ (c : List ℕ). slice_get c (length c - 1)) e ∙ sym pe)) tf)

pub last_none : (a b : List ℕ) → length a ≡ 0 → eqb (length b) 0 ≡ equal a b
unfolding equal
last_none [] [] h = refl
last_none [] (y ∷ b) h = ne_eqb (suc (length b)) 0 (λ e. let no : ⊥ = omega (arith, e) in no)
last_none (x ∷ a) b h = let no : ⊥ = omega (arith, h) in absurd no

pub last_some : (a b : List ℕ) → (length a ≡ 0 → ⊥) → length b ≡ 0 → false ≡ equal a b
last_some a b h e = differ a b (λ q. h (ap length q ∙ e))

-- `same_backward`
module _ (a b : List ℕ) (i low : ℕ) (inv : equal (take i a) (take i b) ≡ equal a b) (more : low < i) (inside : i ≤ length a) (long : length a ≡ length b) where
  some : 0 < i
  some = omega (arith, more)

  pub back-unlike : (get_or a (i - 1) 0 ≡ get_or b (i - 1) 0 → ⊥) → false ≡ equal a b
  back-unlike h = same-unlike a b i (equal a b) inv some inside long h

  pub back-like : get_or a (i - 1) 0 ≡ get_or b (i - 1) 0 → equal (take (i - 1) a) (take (i - 1) b) ≡ equal a b
  back-like h = same-like a b i (equal a b) inv some inside long h

pub front-size : (a : List ℕ) (low i : ℕ) → low ≤ i → i ≤ length a → low ≡ length (take low a)
front-size a low i h l = sym (length-take-le low a (omega (arith, h, l)))

pub front-size-too : (a b : List ℕ) (low i : ℕ) → low ≤ i → i ≤ length a → length a ≡ length b → low ≡ length (take low b)
front-size-too a b low i h l e = sym (length-take-le low b (omega (arith, h, l, e)))

pub back_done : (a b : List ℕ) (i low : ℕ) → equal (take i a) (take i b) ≡ equal a b → low ≤ i → i ≤ low → (x y : List ℕ) → x ≡ take low a → y ≡ take low b
    → (t : Bool) → t ≡ equal x y → t ≡ equal a b
back_done a b i low inv h l x y xe ye t te = let z : low ≡ i = omega (arith, h, l) in te ∙ rw (xe, ye, z) inv
