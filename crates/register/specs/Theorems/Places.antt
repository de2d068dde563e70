-- A principal stands once, and one that is added stands at the first free place. Assumes nothing.
use Rattle.std.specs.Prelude.{◌≡◌, refl, true, false, List, [], ◌∷◌, ◌++◌, ℕ, zero, suc, ◌+◌, ◌<◌, eqb, length, get_or}
use Rattle.std.proofs.Common.{sym, ap, subst, arith, eq-eqb}
use Rattle.text.specs.Choice.{split, clash}
use Rattle.register.specs.Entries.{Entry, free, held, known, principals, twice, added}

none-held : {P : Type 0} {x m : ℕ} → free ≡ held x m → P
none-held h = let z : ◌≡◌ {A = ℕ} 0 1 = cc in let no : ⊥ = omega arith in absurd no

principal-of : {x y m n : ℕ} → held x m ≡ held y n → x ≡ y
principal-of h = cc

-- whoever stands at a place is known
pub stands-known : (es : List Entry) (x i m : ℕ) → get_or es i free ≡ held x m → known x es ≡ true
unfolding known
stands-known [] x i m h = none-held h
stands-known (free ∷ es) x zero m h = none-held h
stands-known (held y n ∷ es) x zero m h = rw (eq-eqb y x (principal-of h)) refl
stands-known (free ∷ es) x (suc i) m h = stands-known es x i m h
stands-known (held y n ∷ es) x (suc i) m h = split (eqb y x) (λ t. rw t refl) (λ t. rw t (stands-known es x i m h))

first-again : {P : Type 0} (es : List Entry) (x y i k m n : ℕ) → twice (held y n ∷ es) ≡ false → held y n ≡ held x k → get_or es i free ≡ held x m → P
unfolding twice
first-again es x y i k m n h e g =
    let s : x ≡ y = sym (principal-of e) in
    let t : known y es ≡ true = subst (λ (z : ℕ). known z es ≡ true) s (stands-known es x i m g) in clash (rw t refl) h

rest-once : (e : Entry) (es : List Entry) → twice (e ∷ es) ≡ false → twice es ≡ false
unfolding twice
rest-once free es h = h
rest-once (held x m) es h = split (known x es) (λ t. clash (rw t refl) h) (λ t. rw t at h)

-- "a principal twice": no principal stands at two places where 20's test is passed
pub stands-once : (es : List Entry) → twice es ≡ false → (x i j m n : ℕ) → get_or es i free ≡ held x m → get_or es j free ≡ held x n → i ≡ j
stands-once [] h x i j m n a b = none-held a
stands-once (e ∷ es) h x zero zero m n a b = refl
stands-once (free ∷ es) h x zero (suc j) m n a b = none-held a
stands-once (held y k ∷ es) h x zero (suc j) m n a b = first-again es x y j m n k h a b
stands-once (free ∷ es) h x (suc i) zero m n a b = none-held b
stands-once (held y k ∷ es) h x (suc i) zero m n a b = first-again es x y i n m k h b a
stands-once (e ∷ es) h x (suc i) (suc j) m n a b = ap suc (stands-once es (rest-once e es h) x i j m n a b)

-- "at the first place free or freed": the places before it are all taken, and no other entry changes
pub record AtFirst (x n : ℕ) (es : List Entry) : Type 0 where
  pub front : List Entry
  pub back : List Entry
  pub before : es ≡ front ++ free ∷ back
  pub taken : principals front ≡ length front
  pub after : added x n es ≡ front ++ held x n ∷ back

pub added-first : (x n : ℕ) (es : List Entry) → principals es < length es → AtFirst x n es
unfolding principals added
added-first x n [] h = let no : ⊥ = omega arith in absurd no
added-first x n (free ∷ es) h = record { front = []; back = es; before = refl; taken = refl; after = refl }
added-first x n (held y m ∷ es) h =
    let a = added-first x n es (omega arith) in
    let t : 1 + principals a.front ≡ suc (length a.front) = omega (arith, a.taken) in
    record {
      front = held y m ∷ a.front;
      back = a.back;
      before = ap (λ (l : List Entry). held y m ∷ l) a.before;
      taken = t;
      after = ap (λ (l : List Entry). held y m ∷ l) a.after;
    }
