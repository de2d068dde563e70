-- Choices by a test, and cases on a test. Assumes nothing.
use Rattle.std.specs.Prelude.{◌≡◌, refl, Bool, true, false, ℕ}
use Rattle.std.proofs.Common.{sym, arith, lt-ltb, le-ltb, le-leb, eq-eqb, ne_eqb}
use Rattle.std.proofs.lemmas.Bool.{lt-leb}

-- the first of two where the test holds, else the second
abbrev pub pick {ℓ} : {A : Type ℓ} → Bool → A → A → A
pick true a b = a
pick false a b = b

-- goes by cases on a test, with the equation in hand
pub split : {P : Type 0} (b : Bool) → (b ≡ true → P) → (b ≡ false → P) → P
split true f g = f refl
split false f g = g refl

-- a test that is both true and false
pub clash : {P : Type 0} {b : Bool} → b ≡ true → b ≡ false → P
clash h k = absurd (let z : ◌≡◌ {A = ℕ} 0 1 = cc in omega arith)

-- two tests that imply each other are equal
pub bool_iff : (a b : Bool) → (a ≡ true → b ≡ true) → (b ≡ true → a ≡ true) → a ≡ b
bool_iff true b f g = sym (f refl)
bool_iff false true f g = g refl
bool_iff false false f g = refl

-- what two choices share under a test that holds
pub pick-if : {A : Type 0} (b : Bool) {u v : A} (w : A) → (b ≡ true → u ≡ v) → pick b u w ≡ pick b v w
pick-if true w h = h refl
pick-if false w h = refl

-- what the code compared, as the value of the test that a definition goes by
pub ruleset tests = (lt-ltb, le-ltb, le-leb, lt-leb, eq-eqb, ne_eqb)
