-- A label or an operator lies within the text. Assumes nothing.
use Rattle.std.specs.Prelude.{◌≡◌, Bool, true, false, List, [], ◌∷◌, ℕ, suc, ◌+◌, ◌≤◌, ◌<◌, eqb, ltb}
use Rattle.std.proofs.Math.Path.{refl}
use Rattle.std.proofs.Common.{sym, ◌∙◌}
use native.Mathlib.Omega.{arith}
use Rattle.std.proofs.Math.ListN.{length, get_or}
use borrow.Author.Tests.{ne_eqb, eqb-true, eqb-false, ltb-false, le-ltb}
use Rattle.text.specs.Choice.{pick, clash}
use Rattle.lexical.specs.Theorems.Bounds.{chosen, byte-within}
use Rattle.lexical.specs.Kind
use Rattle.lexical.specs.Class.{class_of}
use Rattle.lexical.specs.Word.{lower, stands}
use Rattle.lexical.specs.Label.{label_kind}
use Rattle.lexical.specs.Operator.{equal_pair, pair_of, mark_kind, is_of, operator_kind}
use Rattle.lexical.specs.Token.{width_of, operator_at}

-- both of two tests hold
both : (a b : Bool) → pick a b false ≡ true → (a ≡ true) × (b ≡ true)
both true b h = (refl, h)
both false b h = clash h refl

-- no NUL stands in the word
abbrev solid : List ℕ → Bool
solid [] = true
solid (x ∷ xs) = pick (ltb 0 x) (solid xs) false

lower-nul : lower 0 ≡ 0
unfolding lower
lower-nul = refl

stands-first : (s : List ℕ) (i x : ℕ) → ltb 0 x ≡ true → eqb (lower (get_or s i 0)) x ≡ true → i < length s
stands-first s i x n h =
    byte-within s i (λ z. let e : lower (get_or s i 0) ≡ x = eqb-true _ _ h in let k : lower 0 ≡ x = rw z at e in clash n (simp (sym (sym lower-nul ∙ k))))

-- a word without NUL that stands at i ends within the text
pub stands-within : (s : List ℕ) (i x : ℕ) (xs : List ℕ) → solid (x ∷ xs) ≡ true → stands s i (x ∷ xs) ≡ true → i + suc (length xs) ≤ length s
unfolding stands
stands-within s i x [] n h = omega (arith, stands-first s i x (both (ltb 0 x) true n).0 (both (eqb (lower (get_or s i 0)) x) true h).0)
stands-within s i x (y ∷ ys) n h =
    omega (arith, stands-within s (suc i) y ys (both (ltb 0 x) (solid (y ∷ ys)) n).1 (both (eqb (lower (get_or s i 0)) x) (stands s (suc i) (y ∷ ys)) h).1)

module _ (s : List ℕ) (i : ℕ) where
  -- a kind that is no fault has its bytes within the text
  abbrev pub Wide : ℕ → Type 0
  Wide k = Kind.BAD_LINE < k → i + width_of k ≤ length s

  one_label : (x : ℕ) (xs : List ℕ) (k r : ℕ) → solid (x ∷ xs) ≡ true → suc (length xs) ≡ width_of k → Wide r → Wide (pick (stands s i (x ∷ xs)) k r)
  one_label x xs k r n l w = chosen Wide (stands s i (x ∷ xs)) k r (λ h z. omega (arith, l, stands-within s i x xs n h)) (λ h. w)

  pub label-wide : Wide (label_kind s i)
  unfolding label_kind width_of
  label-wide =
      one_label _ _ Kind.KEYNOTE_VERSION _ refl refl
      (one_label _ _ Kind.LOCAL_CONSTANTS _ refl refl
      (one_label _ _ Kind.AUTHORIZER _ refl refl
      (one_label _ _ Kind.LICENSEES _ refl refl
      (one_label _ _ Kind.CONDITIONS _ refl refl
      (one_label _ _ Kind.COMMENT _ refl refl
      (one_label _ _ Kind.SIGNATURE Kind.BAD_LINE refl refl (λ z. let no : ⊥ = omega (arith, z) in absurd no)))))))

-- an operator of two bytes is two bytes wide, its kind stands behind "-of", and its second byte is no NUL
module _ (c b : ℕ) where
  abbrev Pair : ℕ → Type 0
  Pair k = (k ≡ Kind.ILLEGAL → ⊥) → (width_of k ≡ 2) × (Kind.OF < k)

  no-pair : Pair Kind.ILLEGAL
  no-pair n = absurd (n refl)

  equal-pair : Pair (equal_pair c)
  unfolding equal_pair width_of
  equal-pair =
      chosen Pair (eqb c Kind.ASSIGN) Kind.EQUAL _ (λ e n. (refl, omega arith))
      (λ e. chosen Pair (eqb c Kind.NOT) Kind.UNEQUAL _ (λ f n. (refl, omega arith))
      (λ f. chosen Pair (eqb c Kind.LESS) Kind.AT_MOST _ (λ g n. (refl, omega arith))
      (λ g. chosen Pair (eqb c Kind.GREATER) Kind.AT_LEAST _ (λ h n. (refl, omega arith))
      (λ h. chosen Pair (eqb c 9) Kind.MATCHES Kind.ILLEGAL (λ k n. (refl, omega arith)) (λ k. no-pair)))))

  pub pair-width : Pair (pair_of c b)
  unfolding pair_of width_of
  pair-width =
      chosen Pair (eqb b 61) (equal_pair c) _ (λ e. equal-pair)
      (λ e. chosen Pair (eqb b 62) _ _ (λ f. chosen Pair (eqb c Kind.MINUS) Kind.ARROW Kind.ILLEGAL (λ g n. (refl, omega arith)) (λ g. no-pair))
      (λ f. chosen Pair (eqb b 38) _ _ (λ g. chosen Pair (eqb c Kind.AMPERSAND) Kind.AND Kind.ILLEGAL (λ h n. (refl, omega arith)) (λ h. no-pair))
      (λ g. chosen Pair (eqb b 124) _ Kind.ILLEGAL (λ h. chosen Pair (eqb c 8) Kind.OR Kind.ILLEGAL (λ k n. (refl, omega arith)) (λ k. no-pair)) (λ h. no-pair))))

  pub pair-second : (pair_of c b ≡ Kind.ILLEGAL → ⊥) → b ≡ 0 → ⊥
  unfolding pair_of
  pair-second n z = n (rw z refl)

pub mark-width : (c : ℕ) → Kind.OPEN ≤ c → width_of c ≡ 1
unfolding width_of
mark-width c h =
    simp (le-ltb c 4 (omega (arith, h)), le-ltb c 6 (omega (arith, h)), not 6 (omega arith), not 7 (omega arith), not 8 (omega arith), not 9 (omega arith), not 10 (omega arith), not 15 (omega arith), le-ltb c 24 h)
  where
    not : (k : ℕ) → k < Kind.OPEN → eqb c k ≡ false
    not k l = ne_eqb c k (λ e. let no : ⊥ = omega (arith, h, l, e) in no)

-- NUL has a class of its own, below the operators'
class-mark : (b : ℕ) → Kind.OPEN ≤ class_of b → b ≡ 0 → ⊥
unfolding class_of
class-mark b h z = let k : Kind.OPEN ≤ class_of 0 = rw z at h in omega (arith, k)

module _ (s : List ℕ) (mode i : ℕ) where
  of-wide : is_of mode (class_of (get_or s i 0)) (get_or s (i + 1) 0) (get_or s (i + 2) 0) ≡ true → i + 3 ≤ length s
  unfolding is_of
  of-wide h =
      let d : get_or s (i + 2) 0 ≡ 102 = eqb-true _ _ (both (eqb (get_or s (i + 1) 0) 111) _ (both (eqb (class_of (get_or s i 0)) Kind.MINUS) _ (both (eqb mode Kind.IN_LICENSEES) _ h).1).1).1 in
      let l : i + 2 < length s = byte-within s (i + 2) (λ z. let no : ⊥ = omega (arith, d, z) in no) in
      omega arith

  mark-wide : Wide s i (mark_kind (class_of (get_or s i 0)))
  unfolding mark_kind
  mark-wide =
      chosen (Wide s i) (ltb (class_of (get_or s i 0)) Kind.OPEN) Kind.ILLEGAL _ (λ e z. let no : ⊥ = omega (arith, z) in absurd no)
      (λ e z.
      let h : Kind.OPEN ≤ class_of (get_or s i 0) = ltb-false _ _ e in
      omega (arith, mark-width (class_of (get_or s i 0)) h, byte-within s i (class-mark (get_or s i 0) h)))

  pair-wide : (pair_of (class_of (get_or s i 0)) (get_or s (i + 1) 0) ≡ Kind.ILLEGAL → ⊥) → Wide s i (pair_of (class_of (get_or s i 0)) (get_or s (i + 1) 0))
  pair-wide n z =
      let l : i + 1 < length s = byte-within s (i + 1) (pair-second (class_of (get_or s i 0)) (get_or s (i + 1) 0) n) in
      omega (arith, (pair-width (class_of (get_or s i 0)) (get_or s (i + 1) 0) n).0)

  pub operator-wide : Wide s i (operator_at s mode i)
  unfolding operator_at operator_kind width_of
  operator-wide =
      chosen (Wide s i) (is_of mode (class_of (get_or s i 0)) (get_or s (i + 1) 0) (get_or s (i + 2) 0)) Kind.OF _ (λ e z. of-wide e)
      (λ e. chosen (Wide s i) (eqb (pair_of (class_of (get_or s i 0)) (get_or s (i + 1) 0)) Kind.ILLEGAL) _ _ (λ f. mark-wide) (λ f. pair-wide (eqb-false _ _ f)))
