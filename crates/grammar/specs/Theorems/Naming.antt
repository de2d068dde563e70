-- Licensees with string expressions (W-203): its reader gives reason 2 where the grammar allows no continuation, and else reads a sentence and gives a
-- tree of it. Assumes nothing.
use Rattle.std.specs.Prelude.{◌≡◌}
use Rattle.std.proofs.Math.Path.{refl}
use Rattle.std.proofs.Common.{arith}
use Prim.Native.Nat.{ℕ}
use Rattle.std.proofs.Math.ListN.{length}
use Rattle.naming.specs.Source.{Source, one, sources}
use Rattle.grammar.specs.Working.States.{TEXT, Frame, p-dead, p-text, p-have}

pub text-not-dead : (F : Frame) → p-text TEXT F ≡ p-dead → ⊥
text-not-dead F z = let v : ◌≡◌ {A = ℕ} 0 1 = cc in omega (arith, v)

pub have-not-dead : (F : Frame) → p-have TEXT F ≡ p-dead → ⊥
have-not-dead F z = let v : ◌≡◌ {A = ℕ} 0 1 = cc in omega (arith, v)

pub one_size : (x : Source) → length (sources (one x)) ≡ 1
unfolding sources
one_size x = refl
