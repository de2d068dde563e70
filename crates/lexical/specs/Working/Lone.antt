-- The operators of one byte that begin no longer one. Assumes nothing.
use Rattle.std.specs.Prelude.{◌≡◌, refl, Bool, true, not, ltb}
use Rattle.std.proofs.Math.Bool.{false}
use Prim.Native.Nat.{ℕ, ◌≤◌, ◌<◌}
use Rattle.std.proofs.Common.{arith}
use Rattle.std.proofs.Math.Dec.{eqb}
use borrow.Author.Tests.{le-ltb, ltb-true, ltb-false, eqb-false, ne_eqb}
use Rattle.text.specs.Choice.{pick, clash}
use Rattle.lexical.specs.Theorems.Bounds.{chosen}
use Rattle.lexical.specs.Kind.{ILLEGAL, OPEN, ASSIGN, NOT, LESS, GREATER, DOT, AMPERSAND, MINUS}
use Rattle.lexical.specs.Class.{BAR, TILDE}
use Rattle.lexical.specs.Operator.{equal_pair, pair_of, mark_kind, is_of, operator_kind}
use Rattle.lexical.specs.Token.{width_of}
use Rattle.lexical.specs.Working.Plain.{open-not}

-- is it the class of such an operator?
unfoldable pub lone : ℕ → Bool
lone c = pick (ltb c OPEN) false (pick (ltb c ASSIGN) true (pick (ltb c DOT) false (pick (eqb c AMPERSAND) false (not (eqb c MINUS)))))

-- the class of an operator, but none of those with which a longer one begins
Alone : ℕ → Type 0
Alone c = (OPEN ≤ c) × (c ≡ ASSIGN → ⊥) × (c ≡ NOT → ⊥) × (c ≡ LESS → ⊥) × (c ≡ GREATER → ⊥) × (c ≡ AMPERSAND → ⊥) × (c ≡ MINUS → ⊥)

lone-alone : (c : ℕ) → lone c ≡ true → Alone c
unfolding lone Alone
lone-alone c =
    chosen Then (ltb c OPEN) false _ (λ e h. clash h refl)
    (λ e. chosen Then (ltb c ASSIGN) true _
    (λ f h. low (ltb-false c OPEN e) (ltb-true c ASSIGN f))
    (λ f. chosen Then (ltb c DOT) false _ (λ g h. clash h refl)
    (λ g. chosen Then (eqb c AMPERSAND) false _ (λ a h. clash h refl)
    (λ a h. high (ltb-false c DOT g) (eqb-false _ _ a) (eqb-false _ _ (open-not (eqb c MINUS) h))))))
  where
    Then : Bool → Type 0
    Then t = t ≡ true → Alone c

    apart : (k : ℕ) → (c ≡ k → k < k) → c ≡ k → ⊥
    apart k f z = let no : ⊥ = omega (arith, f z) in no

    low : OPEN ≤ c → c < ASSIGN → Alone c
    low l u = (
      l,
      apart ASSIGN (λ z. omega (arith, u, z)),
      apart NOT (λ z. omega (arith, u, z)),
      apart LESS (λ z. omega (arith, u, z)),
      apart GREATER (λ z. omega (arith, u, z)),
      apart AMPERSAND (λ z. omega (arith, u, z)),
      apart MINUS (λ z. omega (arith, u, z)),
    )

    high : DOT ≤ c → (c ≡ AMPERSAND → ⊥) → (c ≡ MINUS → ⊥) → Alone c
    high l a m =
        (omega (arith, l), apart ASSIGN (λ z. omega (arith, l, z)), apart NOT (λ z. omega (arith, l, z)), apart LESS (λ z. omega (arith, l, z)), apart GREATER (λ z. omega (arith, l, z)), a, m)

module _ (c : ℕ) (h : lone c ≡ true) where
  above : OPEN ≤ c
  unfolding Alone
  above = (lone-alone c h).0

  no-equal : equal_pair c ≡ ILLEGAL
  unfolding equal_pair Alone
  no-equal =
      let p : Alone c = lone-alone c h in
      let t : c ≡ TILDE → ⊥ = λ z. let no : ⊥ = omega (arith, above, z) in no in
      simp (ne_eqb _ _ p.1, ne_eqb _ _ p.2, ne_eqb _ _ p.3, ne_eqb _ _ p.4, ne_eqb _ _ t)

  no-pair : (b : ℕ) → pair_of c b ≡ ILLEGAL
  unfolding pair_of Alone
  no-pair b =
      let p : Alone c = lone-alone c h in
      let r : c ≡ BAR → ⊥ = λ z. let no : ⊥ = omega (arith, above, z) in no in
      chosen None (eqb b 61) _ _ (λ e. no-equal)
      (λ e. chosen None (eqb b 62) _ _ (λ f. simp (ne_eqb _ _ p.6))
      (λ f. chosen None (eqb b 38) _ _ (λ g. simp (ne_eqb _ _ p.5))
      (λ g. chosen None (eqb b 124) _ _ (λ k. simp (ne_eqb _ _ r)) (λ k. refl))))
    where
      None : ℕ → Type 0
      None k = k ≡ ILLEGAL

  not-of : (mode b d : ℕ) → is_of mode c b d ≡ false
  unfolding is_of Alone
  not-of mode b d = chosen (λ (t : Bool). t ≡ false) (eqb mode 1) _ false (λ e. simp (ne_eqb _ _ (lone-alone c h).6)) (λ e. refl)

  pub lone-kind : (mode b d : ℕ) → c ≡ operator_kind mode c b d
  unfolding operator_kind mark_kind
  lone-kind mode b d = simp (not-of mode b d, no-pair b, le-ltb _ _ above)

  pub lone-width : width_of c ≡ 1
  unfolding width_of
  lone-width =
      simp (
        le-ltb c 4 (omega (arith, above)),
        le-ltb c 6 (omega (arith, above)),
        apart 6 (omega arith),
        apart 7 (omega arith),
        apart 8 (omega arith),
        apart 9 (omega arith),
        apart 10 (omega arith),
        apart 15 (omega arith),
        le-ltb c OPEN above,
      )
    where
      apart : (k : ℕ) → k < OPEN → eqb c k ≡ false
      apart k l = ne_eqb c k (λ z. let no : ⊥ = omega (arith, above, l, z) in no)
