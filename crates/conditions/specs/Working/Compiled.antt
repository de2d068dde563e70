-- The code that `conditions` writes says what the Conditions field says. Assumes nothing.
use Rattle.std.specs.Prelude.{◌≡◌, true, List, ◌++◌, ℕ, ◌+◌, ◌<◌, ◌≤◌, length, take, Err}
use Rattle.std.proofs.Common.{sym, ap, ◌∙◌, arith, length-append, length-take-le}
use Rattle.lexical.specs.declared.token.Token.{Token}
use Rattle.syntax.specs.Expr.{Program}
use Rattle.syntax.specs.Code.{ProgramCodes}
use Rattle.conditions.specs.Table.{stops}
use Rattle.syntax.specs.Parsed.{Parsed, ok, aside}
use Rattle.conditions.specs.Working.Emit.{found, Ran, ran}
use Rattle.conditions.specs.Working.Written.{Keeps}
use Rattle.syntax.specs.Working.Faults.{against}

-- The same reason of document 01 at the same place; or a program before a label or the end of the text, whose code stands from top to u.
-- All below top is as it was.
pub data Compiled (s m : List ℕ) (top : ℕ) : Parsed Program → Ran → Type 0 where
  refused : (r p : ℕ) (b : List ℕ) → (r ≡ 0 → ⊥) → Keeps m top b → Compiled s m top (aside r p) (ran (Err (against r p)) b)
  compiled : (q : Program) (x p u : ℕ) (n : Token) (b c : List ℕ) → stops 0 n.kind ≡ true → length b ≡ length m → u < length m → take u b ≡ take top m ++ c
      → ProgramCodes s q c → Compiled s m top (ok q n) (ran (found x p u n) b)

-- the code's end is its beginning and its length
pub compiled-end : (m : List ℕ) (top : ℕ) (b : List ℕ) (u : ℕ) (c : List ℕ) → length b ≡ length m → u < length m → top ≤ length m → take u b ≡ take top m ++ c → u ≡ top + length c
compiled-end m top b u c l h fit e =
    sym (length-take-le u b (omega (arith, l, h))) ∙ ap (λ (k : List ℕ). length k) e ∙ length-append (take top m) c ∙ ap (λ (k : ℕ). k + length c) (length-take-le top m fit)
