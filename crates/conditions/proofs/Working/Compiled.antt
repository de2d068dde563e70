-- The code that `conditions` writes says what the Conditions field says. Assumes nothing.
use Rattle.std.specs.Prelude.{◌≡◌, true, List, ℕ, ◌+◌, ◌-◌, ◌<◌, ◌≤◌, length}
use Rattle.std.proofs.Common.{arith}
use borrow.Author.Tests.{le-ltb}
use Rattle.lexical.specs.declared.token.Token.{Token}
use Rattle.syntax.specs.Expr.{Program}
use Rattle.syntax.specs.Code.{ProgramCodes}
use Rattle.conditions.specs.Table.{stops}
use Rattle.conditions.specs.Word.{next_at}
use Rattle.syntax.specs.Parsed.{Parsed, ok}
use Rattle.conditions.specs.Program.{DEPTH, read_program}
use Rattle.conditions.specs.Working.Emit.{found, Ran, ran}
use Rattle.conditions.specs.Working.Program.{conditions_at}
use Rattle.conditions.specs.Working.Written.{keeps, grown, Wrote, wrote}
use Rattle.conditions.specs.Working.Same.{SameAs, as-aside, as-ok, start-within}
use Rattle.conditions.proofs.Working.TieProgram.{conditions-same}
use Rattle.conditions.specs.Working.Pace.{next-sound}
use Rattle.conditions.specs.Working.PaceProgram.{Blocked, blocked-aside, blocked-found}
use Rattle.conditions.proofs.Working.PaceProgram.{block-paced}
use Rattle.conditions.specs.Working.Compiled.{Compiled, compiled, refused}

module _ (s m : List ℕ) (top : ℕ) where
  compiled-from : (q : Program) (x p u : ℕ) (n : Token) (b : List ℕ) → stops 0 n.kind ≡ true → length b ≡ length m → u < length m → Wrote m top b u (ProgramCodes s q)
      → Compiled s m top (ok q n) (ran (found x p u n) b)
  compiled-from q x p u n b e l h (wrote c k w) = compiled q x p u n b c e l h k w

  both_hold : (at : ℕ) → length s - at + 2 ≤ length m - top → top ≤ length m → (q : Parsed Program) (r : Ran) → SameAs (ProgramCodes s) s m top q r → Blocked s 0 top at r → Compiled s m top q r
  both_hold at room fit _ _ (as-aside r p b i) (blocked-aside _ _ _ k) = refused r p b k i
  both_hold at room fit _ _ (as-ok q x p u n b w (grown (keeps l f) t g)) (blocked-found _ _ _ _ _ k e i j) =
      let h : u < length m = omega (arith, room, fit, w, i, j) in compiled-from q x p u n b e l h (g h)

  whole-paced : (at : ℕ) → top ≤ length m → length s - (next_at s at).start ≤ length m - top → Blocked s 0 top (next_at s at).start (conditions_at s m top (next_at s at))
  unfolding conditions_at
  whole-paced at fit room = rw (le-ltb _ _ fit, le-ltb _ _ room) (block-paced s DEPTH m top 0 (next_at s at) (next-sound s at) (omega arith))

  -- With an entry for each byte from the first token on and two more the code is whole, and the depth is never exhausted.
  pub conditions-compiled : (at : ℕ) → length s < 65536 → top ≤ length m → length s - (next_at s at).start + 2 ≤ length m - top
      → Compiled s m top (read_program s (next_at s at)) (conditions_at s m top (next_at s at))
  conditions-compiled at short fit room =
      both_hold (next_at s at).start room fit (read_program s (next_at s at)) (conditions_at s m top (next_at s at))
      (conditions-same s short m top (next_at s at) (start-within s at) fit (omega (arith, room))) (whole-paced at fit (omega (arith, room)))
