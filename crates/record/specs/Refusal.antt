-- A refusal as the reader gives it: its number and its place. Assumes nothing.
use Rattle.std.specs.Prelude.{◌≡◌, ℕ, Result, Err}
use Rattle.std.proofs.Common.{ap}
use Rattle.record.specs.declared.Refusal.{Refusal}

abbrev pub Refused : {A : Type 0} → ℕ → ℕ → Result A Refusal
Refused n p = Err (record { number = n; at = p })

-- equal refusals have one number and one place
pub refused_number : {A : Type 0} (n p m q : ℕ) → Refused {A = A} n p ≡ Refused {A = A} m q → n ≡ m
refused_number n p m q e = let z : ◌≡◌ {A = Refusal} (record { number = n; at = p }) (record { number = m; at = q }) = cc in ap (λ (r : Refusal). r.number) z

pub refused_place : {A : Type 0} (n p m q : ℕ) → Refused {A = A} n p ≡ Refused {A = A} m q → p ≡ q
refused_place n p m q e = let z : ◌≡◌ {A = Refusal} (record { number = n; at = p }) (record { number = m; at = q }) = cc in ap (λ (r : Refusal). r.at) z
