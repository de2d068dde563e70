-- The ways to the program of an assertion in the tables, and a law of loops over them. Assumes nothing.
use Rattle.std.specs.Prelude.{◌≡◌, ◌⊎◌, List, [], ℕ, suc, Option, Some, None, ltb, ◌+◌, ◌-◌, ◌≤◌, ◌<◌, length, get_or, take, drop}
use Rattle.std.proofs.Math.Path.{sym}
use Rattle.std.proofs.Common.{arith, ◌∙◌, ⊎_elim, Bor, ltb-false}
use Rattle.std.specs.Slice.{IsGetRangeResult}
use Rattle.std.specs.Option.{unwrap_or}
use Rattle.text.specs.Choice.{split}
use borrow.Author.Tests.{lt-ltb, le-ltb, eq-eqb, ne_eqb}
use Rattle.compliance.specs.Tables.{start_of, program_of}

pub start_first : (ends : List ℕ) (j : ℕ) → j ≡ 0 → 0 ≡ start_of ends j
unfolding start_of
start_first ends j e = rw (eq-eqb j 0 e)

pub start-next : (ends : List ℕ) (j : ℕ) → (j ≡ 0 → ⊥) → (r : ℕ) → r ≡ get_or ends (j - 1) 0 → r ≡ start_of ends j
unfolding start_of
start-next ends j n r e = rw (ne_eqb j 0 n) e

-- `program`: what `get` gives, or nothing
module _ (ends code : List ℕ) (j from to : ℕ) (fe : from ≡ start_of ends j) (te : to ≡ get_or ends j 0) where
  program-none : (to < from) ⊎ (length code < to) → [] ≡ program_of ends code j
  unfolding program_of
  program-none h = simp (sym fe, sym te) (split (ltb to from) (λ e. rw e) (λ e. rw e (⊎_elim
      (λ d. absurd (omega (arith, d, ltb-false to from e)))
      (λ d. rw (lt-ltb (length code) to d))
      h)))

  program-is : from ≤ to → to ≤ length code → take (to - from) (drop from code) ≡ program_of ends code j
  unfolding program_of
  program-is up h = simp (sym fe, sym te, le-ltb _ _ up, le-ltb _ _ h)

  pub program-got : (r : Option (Bor (List ℕ))) (none : Bor (List ℕ)) → none.now ≡ [] → IsGetRangeResult code from to r
      → (unwrap_or r none).now ≡ program_of ends code j
  program-got None none ne h = ne ∙ program-none h.0
  program-got (Some x) none ne h = h.0.2 ∙ program-is h.0.0 h.0.1

-- a loop over n that stands at i has one turn more than at i + 1
pub one_less : (n i : ℕ) → i < n → n - i ≡ suc (n - (i + 1))
one_less n i h = omega arith
