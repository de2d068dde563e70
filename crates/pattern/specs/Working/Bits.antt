-- What the four words of a set of places hold. Assumes nothing.
use Rattle.std.specs.Prelude.{◌≡◌, refl, Bool, true, false, ◌&&◌, ◌||◌, ℕ, zero, suc, ◌-◌, ◌/◌, ◌%◌, ◌^◌, ◌<◌, ◌≤◌, eqb, ltb}
use Rattle.std.proofs.Common.{sym, ◌∙◌, arith, mod-lt, mul-div_cancel, pow-suc, zero-lt-suc, one-mul, shl_exact, lt-ltb, eq-eqb, ne_eqb, ltb-true, ltb-false, eqb-true}
use Rattle.std.proofs.Math.Nat.{mul-mod_left}
use Rattle.std.specs.Int.Bits.{bit_or}
use Rattle.std.proofs.lemmas.Nat.{or_shr, or_mod}
use Rattle.std.proofs.Math.Dec.{eqb-zero-suc, eqb-suc-zero, eqb-suc-suc}
use Rattle.text.specs.Choice.{split, bool_iff, pick}
use Rattle.pattern.specs.Working.Places.{nowhere, power, only_at, join, gated}
use Rattle.pattern.specs.declared.places.Places.{Places}

unfoldable pub bit : ℕ → ℕ → Bool
bit x zero = eqb (x % 2) 1
bit x (suc k) = bit (x / 2) k

pub bit-zero : (k : ℕ) → bit 0 k ≡ false
unfolding bit
bit-zero zero = refl
bit-zero (suc k) = bit-zero k

digit : (m n : ℕ) → m < 2 → n < 2 → eqb (bit_or m n) 1 ≡ eqb m 1 || eqb n 1
digit zero zero h k = refl
digit zero (suc zero) h k = refl
digit zero (suc (suc n)) h k = absurd (omega arith)
digit (suc zero) zero h k = refl
digit (suc zero) (suc zero) h k = refl
digit (suc zero) (suc (suc n)) h k = absurd (omega arith)
digit (suc (suc m)) n h k = absurd (omega arith)

pub bit-or : (a b k : ℕ) → bit (bit_or a b) k ≡ bit a k || bit b k
unfolding bit
bit-or a b zero = rw (or_mod a b 1) (digit (a % 2) (b % 2) (mod-lt a (zero-lt-suc 1)) (mod-lt b (zero-lt-suc 1)))
bit-or a b (suc k) = rw (or_shr a b 1) (bit-or (a / 2) (b / 2) k)

pub bit-pow : (k j : ℕ) → bit (2 ^ k) j ≡ eqb k j
unfolding bit
bit-pow zero zero = refl
bit-pow zero (suc j) = bit-zero j ∙ sym (eqb-zero-suc j)
bit-pow (suc k) zero = rw (pow-suc 2 k, mul-mod_left (2 ^ k) 2) (sym (eqb-suc-zero k))
bit-pow (suc k) (suc j) = rw (pow-suc 2 k, mul-div_cancel (2 ^ k) (zero-lt-suc 1)) (bit-pow k j ∙ sym (eqb-suc-suc k j))

pub bit-power : (k j : ℕ) → k < 64 → bit (power k) j ≡ eqb k j
unfolding power
bit-power k j h = rw (shl_exact {a = 1} 1 k 64 (omega arith) (omega arith), one-mul (2 ^ k)) (bit-pow k j)

unfoldable pub has : Places → ℕ → Bool
has x q = pick (ltb q 64) (bit x.a q) (pick (ltb q 128) (bit x.b (q - 64)) (pick (ltb q 192) (bit x.c (q - 128)) (bit x.d (q - 192))))

pub has-nowhere : (q : ℕ) → has nowhere q ≡ false
unfolding has nowhere
has-nowhere q = split (ltb q 64) (λ e. rw e (bit-zero q)) (λ e. rw e (split (ltb q 128) (λ f. rw f (bit-zero (q - 64)))
    (λ f. rw f (split (ltb q 192) (λ g. rw g (bit-zero (q - 128))) (λ g. rw g (bit-zero (q - 192)))))))

pub has_join : (x y : Places) (q : ℕ) → has (join x y) q ≡ has x q || has y q
unfolding has join
has_join x y q = split (ltb q 64) (λ e. rw e (bit-or x.a y.a q)) (λ e. rw e (split (ltb q 128) (λ f. rw f (bit-or x.b y.b (q - 64)))
    (λ f. rw f (split (ltb q 192) (λ g. rw g (bit-or x.c y.c (q - 128))) (λ g. rw g (bit-or x.d y.d (q - 192)))))))

pub has-gated : (t : Bool) (x : Places) (q : ℕ) → has (gated t x) q ≡ t && has x q
unfolding gated
has-gated true x q = refl
has-gated false x q = has-nowhere q

shifted : (q k n : ℕ) → n ≤ q → n ≤ k → eqb (q - n) (k - n) ≡ eqb q k
shifted q k n h g = bool_iff _ _ (λ e. eq-eqb q k (omega (arith, eqb-true (q - n) (k - n) e))) (λ e. eq-eqb (q - n) (k - n) (omega (arith, eqb-true q k e)))

one-a : (q k : ℕ) → q < 64 → has (record { a = power q; b = 0; c = 0; d = 0 }) k ≡ eqb q k
unfolding has
one-a q k h = split (ltb k 64) (λ e₁. rw e₁ (bit-power q k h)) (λ e₁. rw e₁ (split (ltb k 128) (λ e₂. rw e₂ (bit-zero (k - 64) ∙ sym (ne_eqb q k (λ z. omega (arith, ltb-false k 64 e₁, ltb-true k 128 e₂)))))
    (λ e₂. rw e₂ (split (ltb k 192) (λ e₃. rw e₃ (bit-zero (k - 128) ∙ sym (ne_eqb q k (λ z. omega (arith, ltb-false k 128 e₂, ltb-true k 192 e₃))))) (λ e₃. rw e₃ (bit-zero (k - 192) ∙ sym (ne_eqb q k (λ z. omega (arith, ltb-false k 192 e₃)))))))))

one_b : (q k : ℕ) → 64 ≤ q → q < 128 → has (record { a = 0; b = power (q - 64); c = 0; d = 0 }) k ≡ eqb q k
unfolding has
one_b q k g h = split (ltb k 64) (λ e₁. rw e₁ (bit-zero k ∙ sym (ne_eqb q k (λ z. omega (arith, ltb-true k 64 e₁))))) (λ e₁. rw e₁ (split (ltb k 128) (λ e₂. rw e₂ (bit-power (q - 64) (k - 64) (omega arith) ∙ shifted q k 64 g (ltb-false _ _ e₁)))
    (λ e₂. rw e₂ (split (ltb k 192) (λ e₃. rw e₃ (bit-zero (k - 128) ∙ sym (ne_eqb q k (λ z. omega (arith, ltb-false k 128 e₂, ltb-true k 192 e₃))))) (λ e₃. rw e₃ (bit-zero (k - 192) ∙ sym (ne_eqb q k (λ z. omega (arith, ltb-false k 192 e₃)))))))))

one-c : (q k : ℕ) → 128 ≤ q → q < 192 → has (record { a = 0; b = 0; c = power (q - 128); d = 0 }) k ≡ eqb q k
unfolding has
one-c q k g h = split (ltb k 64) (λ e₁. rw e₁ (bit-zero k ∙ sym (ne_eqb q k (λ z. omega (arith, ltb-true k 64 e₁))))) (λ e₁. rw e₁ (split (ltb k 128) (λ e₂. rw e₂ (bit-zero (k - 64) ∙ sym (ne_eqb q k (λ z. omega (arith, ltb-false k 64 e₁, ltb-true k 128 e₂)))))
    (λ e₂. rw e₂ (split (ltb k 192) (λ e₃. rw e₃ (bit-power (q - 128) (k - 128) (omega arith) ∙ shifted q k 128 g (ltb-false _ _ e₂))) (λ e₃. rw e₃ (bit-zero (k - 192) ∙ sym (ne_eqb q k (λ z. omega (arith, ltb-false k 192 e₃)))))))))

one-d : (q k : ℕ) → 192 ≤ q → q < 256 → k < 256 → has (record { a = 0; b = 0; c = 0; d = power (q - 192) }) k ≡ eqb q k
unfolding has
one-d q k g h m = split (ltb k 64) (λ e₁. rw e₁ (bit-zero k ∙ sym (ne_eqb q k (λ z. omega (arith, ltb-true k 64 e₁))))) (λ e₁. rw e₁ (split (ltb k 128) (λ e₂. rw e₂ (bit-zero (k - 64) ∙ sym (ne_eqb q k (λ z. omega (arith, ltb-false k 64 e₁, ltb-true k 128 e₂)))))
    (λ e₂. rw e₂ (split (ltb k 192) (λ e₃. rw e₃ (bit-zero (k - 128) ∙ sym (ne_eqb q k (λ z. omega (arith, ltb-false k 128 e₂, ltb-true k 192 e₃))))) (λ e₃. rw e₃ (bit-power (q - 192) (k - 192) (omega arith) ∙ shifted q k 192 g (ltb-false _ _ e₃)))))))

-- the place q, alone
pub has-only : (q k : ℕ) → q < 256 → k < 256 → has (only_at q) k ≡ eqb q k
unfolding only_at
has-only q k h l = split (ltb q 64)
    (λ e. rw e (one-a q k (ltb-true _ _ e)))
    (λ e. rw e (split (ltb q 128)
    (λ f. rw f (one_b q k (ltb-false _ _ e) (ltb-true _ _ f)))
    (λ f. rw f (split (ltb q 192)
    (λ g. rw g (one-c q k (ltb-false _ _ f) (ltb-true _ _ g)))
    (λ g. rw (g, lt-ltb q 256 h) (one-d q k (ltb-false _ _ g) h l))))))
