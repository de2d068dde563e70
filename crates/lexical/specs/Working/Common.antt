-- The common operators of two bytes: == && || ->. Assumes nothing.
use Rattle.std.specs.Prelude.{◌≡◌, refl, Bool, false, ℕ, eqb}
use Rattle.std.proofs.Common.{eqb-true}
use Rattle.text.specs.Choice.{pick}
use Rattle.lexical.specs.Theorems.Bounds.{chosen}
use Rattle.lexical.specs.Kind.{ILLEGAL, ARROW, AND, OR, EQUAL}
use Rattle.lexical.specs.Class.{class_of, LETTER, DIGIT, QUOTE}
use Rattle.lexical.specs.Operator.{equal_pair, pair_of, is_of, operator_kind}
use Rattle.lexical.specs.Token.{width_of}

-- the kind of such an operator, by its bytes: 61 "=", 38 "&", 124 "|", 45 "-", 62 ">"; ILLEGAL for any other two
unfoldable pub common_pair : ℕ → ℕ → ℕ
common_pair b x =
    pick (eqb b x) (pick (eqb b 61) EQUAL (pick (eqb b 38) AND (pick (eqb b 124) OR ILLEGAL)))
    (pick (eqb x 62) (pick (eqb b 45) ARROW ILLEGAL) ILLEGAL)

-- two bytes and what they are
data Common : ℕ → ℕ → ℕ → Type 0 where
  equal : Common 61 61 EQUAL
  and : Common 38 38 AND
  or : Common 124 124 OR
  arrow : Common 45 62 ARROW
  none : (b x : ℕ) → Common b x ILLEGAL

common : (b x : ℕ) → Common b x (common_pair b x)
unfolding common_pair
common b x =
    chosen (Common b x) (eqb b x) _ _ (λ e. rw (← eqb-true b x e) twice)
    (λ e. chosen (Common b x) (eqb x 62) _ _
    (λ f. chosen (Common b x) (eqb b 45) _ _ (λ g. rw (eqb-true b 45 g, eqb-true x 62 f) arrow) (λ g. none b x))
    (λ f. none b x))
  where
    twice : Common b b (pick (eqb b 61) EQUAL (pick (eqb b 38) AND (pick (eqb b 124) OR ILLEGAL)))
    twice =
        chosen (Common b b) (eqb b 61) _ _ (λ e. rw (eqb-true b 61 e) equal)
        (λ e. chosen (Common b b) (eqb b 38) _ _ (λ f. rw (eqb-true b 38 f) and)
        (λ f. chosen (Common b b) (eqb b 124) _ _ (λ g. rw (eqb-true b 124 g) or) (λ g. none b b)))

-- it is the operator that begins with these bytes, in any mode
Read : ℕ → ℕ → ℕ → Type 0
Read b x k = (mode d : ℕ) → k ≡ operator_kind mode (class_of b) x d

same : (t : Bool) → pick t false false ≡ false
same t = chosen (λ (u : Bool). u ≡ false) t false false (λ e. refl) (λ e. refl)

read-common : (b x k : ℕ) → Common b x k → (k ≡ ILLEGAL → ⊥) → Read b x k
unfolding Read operator_kind is_of pair_of equal_pair class_of
read-common _ _ _ equal n mode d = simp (same (eqb mode 1))
read-common _ _ _ and n mode d = simp (same (eqb mode 1))
read-common _ _ _ or n mode d = simp (same (eqb mode 1))
read-common _ _ _ arrow n mode d = simp (same (eqb mode 1))
read-common _ _ _ (none b x) n mode d = absurd (n refl)

width-common : (b x k : ℕ) → Common b x k → (k ≡ ILLEGAL → ⊥) → 2 ≡ width_of k
unfolding width_of
width-common _ _ _ equal n = refl
width-common _ _ _ and n = refl
width-common _ _ _ or n = refl
width-common _ _ _ arrow n = refl
width-common _ _ _ (none b x) n = absurd (n refl)

-- it begins no name, no number and no literal
Mark : ℕ → Type 0
Mark c = (eqb c LETTER ≡ false) × (eqb c DIGIT ≡ false) × (eqb c QUOTE ≡ false)

mark-common : (b x k : ℕ) → Common b x k → (k ≡ ILLEGAL → ⊥) → Mark (class_of b)
unfolding Mark class_of
mark-common _ _ _ equal n = (refl, refl, refl)
mark-common _ _ _ and n = (refl, refl, refl)
mark-common _ _ _ or n = (refl, refl, refl)
mark-common _ _ _ arrow n = (refl, refl, refl)
mark-common _ _ _ (none b x) n = absurd (n refl)

module _ (b x : ℕ) (n : common_pair b x ≡ ILLEGAL → ⊥) where
  pub common-kind : (mode d : ℕ) → common_pair b x ≡ operator_kind mode (class_of b) x d
  unfolding Read
  common-kind = read-common b x (common_pair b x) (common b x) n

  pub common-width : 2 ≡ width_of (common_pair b x)
  common-width = width-common b x (common_pair b x) (common b x) n

  pub common-mark : (eqb (class_of b) LETTER ≡ false) × (eqb (class_of b) DIGIT ≡ false) × (eqb (class_of b) QUOTE ≡ false)
  unfolding Mark
  common-mark = mark-common b x (common_pair b x) (common b x) n
