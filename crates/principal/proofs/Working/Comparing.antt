-- The ways out of the functions that compare principals. Assumes nothing.
use Rattle.std.specs.Prelude.{◌≡◌, Bool, ◌&&◌, eqb, get_or, take, drop}
use Rattle.std.proofs.Math.Path.{sym, ap}
use Rattle.std.proofs.Common.{◌∙◌, arith, add-one}
use Rattle.std.proofs.Math.Bool.{true, false}
use mathlib.Core.List.{List, []}
use Prim.Native.Nat.{ℕ, suc, ◌+◌, ◌≤◌, ◌<◌}
use Rattle.std.proofs.Math.ListN.{length}
use Rattle.std.proofs.Math.Seq.{drop-cons}
use borrow.Author.Tests.{eq-eqb, ne_eqb}
use Rattle.text.specs.Choice.{split}
use Rattle.text.specs.Equal.{equal, equal-true}
use Rattle.principal.specs.Canonical.{fold, folded, front, behind, is_hex}
use Rattle.principal.specs.Theorems.Canonical.{tail, behind-cases, parts-long, folded-long, canonical-plain, canonical-key}
use Rattle.principal.proofs.Theorems.Canonical.{canonical-front, canonical-long}
use Rattle.principal.specs.Principal.{Principal, same, same-canonical}
use Rattle.principal.specs.Working.Comparing.{drop-front, equal-append, no-rest, take-front}

module _ (a b : List ℕ) (i : ℕ) (r : Bool) (inv : equal (folded (drop i a)) (folded (drop i b)) ≡ r) where
  module _ (l : length a ≡ length b) (h : i < length a) (x y : ℕ) (xe : x ≡ fold (get_or a i 0)) (ye : y ≡ fold (get_or b i 0)) where
    at_i : (eqb x y && equal (folded (drop (suc i) a)) (folded (drop (suc i) b))) ≡ r
    unfolding folded equal
    at_i = let k : i < length b = omega (arith, l, h) in rw (xe, ye) (rw (drop-cons a i 0 h, drop-cons b i 0 k) at inv)

    pub folded-unlike : (x ≡ y → ⊥) → false ≡ r
    folded-unlike n = rw (ne_eqb x y n) at at_i

    pub folded-like : x ≡ y → equal (folded (drop (i + 1) a)) (folded (drop (i + 1) b)) ≡ r
    folded-like e = rw (add-one i) (rw (eq-eqb x y e) at at_i)

module _ (a b : Principal) where
  pub same-short : (length a ≡ length b → ⊥) → false ≡ same a b
  same-short n = split (same a b) (λ e. absurd (n (sym (canonical-long a) ∙ ap length (same-canonical a b e) ∙ canonical-long b))) (λ e. sym e)

  module _ (l : length a ≡ length b) (t : Bool) (te : t ≡ equal a b) (n : t ≡ false) (k : ℕ) (ke : k ≡ length (front a)) (j : ℕ) (je : j ≡ length (front b)) where
    pub same-apart : (j ≡ k → ⊥) → false ≡ same a b
    same-apart d = split (same a b)
        (λ e. absurd (d (je ∙ sym (canonical-front b) ∙ ap (λ (x : Principal). length (front x)) (sym (same-canonical a b e)) ∙ canonical-front a ∙ sym ke)))
        (λ e. sym e)

    module _ (jk : j ≡ k) where
      pub same-plain : length a ≤ k → false ≡ same a b
      unfolding same
      same-plain h =
          let x : behind a ≡ [] = no-rest (behind a) (omega (arith, h, ke, parts-long a)) in
          let y : behind b ≡ [] = no-rest (behind b) (omega (arith, h, l, je, jk, parts-long b)) in
          sym (rw (canonical-plain a x, canonical-plain b y) (sym te ∙ n))

      module _ (h : k < length a) where
        -- both have a ":" at k
        keyed : same a b ≡ (equal (folded (front a)) (folded (front b)) && equal (tail a) (tail b))
        unfolding same
        keyed = behind-cases a
            (λ x. let no : ⊥ = omega (arith, h, ke, parts-long a, ap length x) in absurd no)
            (λ r x. behind-cases b
            (λ y. let no : ⊥ = omega (arith, h, l, je, jk, parts-long b, ap length y) in absurd no)
            (λ s y. rw (canonical-key a r x, canonical-key b s y)
            (equal-append (folded (front a)) (folded (front b)) (tail a) (tail b) (let z : length (folded (front a)) ≡ length (folded (front b)) = omega (arith, folded-long (front a), folded-long (front b), ke, je, jk) in z))))

        module _ (fa fb : List ℕ) (fae : fa ≡ take k a) (fbe : fb ≡ take k b) (g : Bool) (gf : g ≡ equal (folded fa) (folded fb)) where
          ge : g ≡ equal (folded (take k a)) (folded (take k b))
          ge = rw (← fae, ← fbe) gf

          fronts : g ≡ equal (folded (front a)) (folded (front b))
          fronts = ge ∙ ap (λ (x : ℕ). equal (folded (take x a)) (folded (take k b))) ke ∙ ap (λ (x : List ℕ). equal (folded x) (folded (take k b))) (take-front a)
              ∙ ap (λ (x : ℕ). equal (folded (front a)) (folded (take x b))) (sym jk ∙ je) ∙ ap (λ (x : List ℕ). equal (folded (front a)) (folded x)) (take-front b)

          pub same-other : g ≡ false → false ≡ same a b
          same-other y = sym (keyed ∙ (let z : equal (folded (front a)) (folded (front b)) ≡ false = sym fronts ∙ y in rw z))

          module _ (gy : g ≡ true) (ha : List ℕ) (hae : ha ≡ take k a) (x : Bool) (xh : x ≡ is_hex (folded ha)) (ra rb : List ℕ) (rae : ra ≡ drop k a) (rbe : rb ≡ drop k b) where
            xe : x ≡ is_hex (folded (take k a))
            xe = rw (← hae) xh

            alike : folded (front a) ≡ folded (front b)
            alike = equal-true _ _ (sym fronts ∙ gy)

            hex-a : x ≡ is_hex (folded (front a))
            hex-a = xe ∙ ap (λ (z : ℕ). is_hex (folded (take z a))) ke ∙ ap (λ (z : List ℕ). is_hex (folded z)) (take-front a)

            hex-b : x ≡ is_hex (folded (front b))
            hex-b = hex-a ∙ ap is_hex alike

            rest : same a b ≡ equal (tail a) (tail b)
            rest = keyed ∙ (let z : equal (folded (front a)) (folded (front b)) ≡ true = sym fronts ∙ gy in rw z)

            rest-a : drop k a ≡ behind a
            rest-a = ap (λ (z : ℕ). drop z a) ke ∙ drop-front a

            rest-b : drop k b ≡ behind b
            rest-b = ap (λ (z : ℕ). drop z b) (sym jk ∙ je) ∙ drop-front b

            pub same-hex : x ≡ true → (r : Bool) → r ≡ equal (folded ra) (folded rb) → r ≡ same a b
            unfolding tail
            same-hex y r re =
                re ∙ ap (λ (z : List ℕ). equal (folded z) (folded rb)) (rae ∙ rest-a) ∙ ap (λ (z : List ℕ). equal (folded (behind a)) (folded z)) (rbe ∙ rest-b)
                ∙ sym (rest ∙ (let u : is_hex (folded (front a)) ≡ true = sym hex-a ∙ y in let v : is_hex (folded (front b)) ≡ true = sym hex-b ∙ y in rw (u, v)))

            pub same_rest : x ≡ false → (r : Bool) → r ≡ equal ra rb → r ≡ same a b
            unfolding tail
            same_rest y r re =
                re ∙ ap (λ (z : List ℕ). equal z rb) (rae ∙ rest-a) ∙ ap (λ (z : List ℕ). equal (behind a) z) (rbe ∙ rest-b)
                ∙ sym (rest ∙ (let u : is_hex (folded (front a)) ≡ false = sym hex-a ∙ y in let v : is_hex (folded (front b)) ≡ false = sym hex-b ∙ y in rw (u, v)))
