-- Laws of folding and of the canonical form: it has the identifier's length and its first ":" where that has it. Assumes nothing.
use Rattle.std.specs.Prelude.{◌≡◌, refl, false, List, [], ◌∷◌, ◌++◌, ℕ, suc, ◌+◌, ◌≤◌, eqb, leb, length}
use Rattle.std.proofs.Common.{sym, ap, ◌∙◌, append-nil, arith, length-append, eqb-true, ne_eqb, leb-true, leb-false}
use Rattle.text.specs.Choice.{pick, split}
use Rattle.principal.specs.Canonical.{fold, folded, front, behind, is_hex, canonical_with, canonical}

fold-cases : {X : Type 0} (b : ℕ) → (65 ≤ b → b ≤ 90 → fold b ≡ b + 32 → X) → ((65 ≤ b → b ≤ 90 → ⊥) → fold b ≡ b → X) → X
unfolding fold
fold-cases b f g = split (leb 65 b)
    (λ h. split (leb b 90)
    (λ k. f (leb-true 65 b h) (leb-true b 90 k) (rw (h, k)))
    (λ k. g (λ x y. let no : ⊥ = omega (arith, leb-false b 90 k, y) in no) (rw (h, k))))
    (λ h. g (λ x y. let no : ⊥ = omega (arith, leb-false 65 b h, x) in no) (rw h))

-- what lies outside the letters stays
stays : (b : ℕ) → (65 ≤ b → b ≤ 90 → ⊥) → fold b ≡ b
stays b n = fold-cases b (λ h k e. absurd (n h k)) (λ h e. e)

pub fold-fold : (b : ℕ) → fold (fold b) ≡ fold b
fold-fold b = fold-cases b
    (λ h k e. ap fold e ∙ stays (b + 32) (λ x y. let no : ⊥ = omega (arith, h, y) in no) ∙ sym e)
    (λ h e. ap fold e)

fold-colon : (b : ℕ) → eqb (fold b) 58 ≡ eqb b 58
fold-colon b = fold-cases b
    (λ h k e. ap (λ (x : ℕ). eqb x 58) e ∙ ne_eqb (b + 32) 58 (λ z. let no : ⊥ = omega (arith, h, z) in no) ∙ sym (ne_eqb b 58 (λ z. let no : ⊥ = omega (arith, h, z) in no)))
    (λ h e. ap (λ (x : ℕ). eqb x 58) e)

pub folded-long : (l : List ℕ) → length (folded l) ≡ length l
unfolding folded
folded-long [] = refl
folded-long (b ∷ l) = ap suc (folded-long l)

pub folded-append : (l m : List ℕ) → folded (l ++ m) ≡ folded l ++ folded m
unfolding folded
folded-append [] m = refl
folded-append (b ∷ l) m = ap (λ (x : List ℕ). fold b ∷ x) (folded-append l m)

pub folded-folded : (l : List ℕ) → folded (folded l) ≡ folded l
unfolding folded
folded-folded [] = refl
folded-folded (b ∷ l) = rw (fold-fold b, folded-folded l)

pub front-behind : (p : List ℕ) → front p ++ behind p ≡ p
unfolding front behind
front-behind [] = refl
front-behind (b ∷ p) = split (eqb b 58) (λ e. rw e) (λ e. rw e (ap (λ (x : List ℕ). b ∷ x) (front-behind p)))

pub behind-cases : {X : Type 0} (p : List ℕ) → (behind p ≡ [] → X) → ((r : List ℕ) → behind p ≡ 58 ∷ r → X) → X
unfolding behind
behind-cases [] f g = f refl
behind-cases (b ∷ p) f g = split (eqb b 58)
    (λ e. g p (rw e (ap (λ (x : ℕ). x ∷ p) (eqb-true b 58 e))))
    (λ e. behind-cases p (λ h. f (rw e h)) (λ r h. g r (rw e h)))

-- the front has no ":", folded or not, so what stands before a ":" behind it is the front
pub front-join : (p : List ℕ) (r : List ℕ) → front (folded (front p) ++ (58 ∷ r)) ≡ folded (front p)
unfolding front folded
front-join [] r = refl
front-join (b ∷ p) r = split (eqb b 58)
    (λ e. rw e)
    (λ e. rw e (let z : eqb (fold b) 58 ≡ false = fold-colon b ∙ e in rw z (ap (λ (x : List ℕ). fold b ∷ x) (front-join p r))))

pub canonical-plain : (p : List ℕ) → behind p ≡ [] → canonical p ≡ p
unfolding canonical canonical_with
canonical-plain p e = rw e (let z : front p ++ [] ≡ front p = append-nil (front p) in sym z ∙ (ap (λ (x : List ℕ). front p ++ x) (sym e) ∙ front-behind p))

-- the ":" and the rest in canonical form
unfoldable pub tail : List ℕ → List ℕ
tail p = pick (is_hex (folded (front p))) (folded (behind p)) (behind p)

pub canonical-key : (p : List ℕ) (r : List ℕ) → behind p ≡ 58 ∷ r → canonical p ≡ folded (front p) ++ tail p
unfolding canonical canonical_with tail
canonical-key p r e = rw e

pub tail-starts : (p : List ℕ) (r : List ℕ) → behind p ≡ 58 ∷ r → tail p ≡ 58 ∷ pick (is_hex (folded (front p))) (folded r) r
unfolding tail folded fold
tail-starts p r e = rw e (split (is_hex (folded (front p))) (λ h. rw h) (λ h. rw h))

pub tail-long : (p : List ℕ) → length (tail p) ≡ length (behind p)
unfolding tail
tail-long p = split (is_hex (folded (front p))) (λ h. rw h (folded-long (behind p))) (λ h. rw h)

pub tail-folded : (p : List ℕ) → folded (tail p) ≡ folded (behind p)
unfolding tail
tail-folded p = split (is_hex (folded (front p))) (λ h. rw h (folded-folded (behind p))) (λ h. rw h)

pub parts-long : (p : List ℕ) → length (front p) + length (behind p) ≡ length p
parts-long p = sym (length-append (front p) (behind p)) ∙ ap length (front-behind p)
