-- Programs are read to their end or to a fault of document 01, at most an entry a byte and one, in a depth that brackets and rows bound. Assumes nothing.
use Rattle.std.specs.Prelude.{◌≡◌, true, List, ℕ, ◌+◌, ◌<◌, ◌≤◌, Err}
use Rattle.std.proofs.Common.{arith}
use borrow.Author.Tests.{eqb-true, ne_eqb}
use Rattle.lexical.specs.Kind
use Rattle.lexical.specs.declared.token.Token.{Token}
use Rattle.conditions.specs.Table.{stops}
use Rattle.conditions.specs.Working.Emit.{found, Ran, ran}
use Rattle.conditions.specs.Working.Pace.{Sound}
use Rattle.syntax.specs.Working.Faults.{against}

-- a fault of document 01, or a program's end: one entry more than bytes since at₀, for its beginning
pub data Blocked (s : List ℕ) (nest top₀ at₀ : ℕ) : Ran → Type 0 where
  blocked-aside : (r p : ℕ) (b : List ℕ) → (r ≡ 0 → ⊥) → Blocked s nest top₀ at₀ (ran (Err (against r p)) b)
  blocked-found : (x p u : ℕ) (n : Token) (b : List ℕ) → Sound s n → stops nest n.kind ≡ true → at₀ ≤ n.start → u + at₀ ≤ top₀ + n.start + 1
      → Blocked s nest top₀ at₀ (ran (found x p u n) b)

-- a program in brackets ends before its closing bracket
pub closing-brace : (nest k : ℕ) → 0 < nest → stops nest k ≡ true → k ≡ Kind.CLOSE_BRACE
unfolding stops
closing-brace nest k h = rw (ne_eqb nest 0 (λ z. omega (arith, z, h))) (λ e. eqb-true k Kind.CLOSE_BRACE e)
