-- The answer of a pattern test as a function of the two strings. `Tested` says what the answer is; the matcher is only how it is found.
-- Assumes nothing.
use Rattle.std.specs.Prelude.{◌≡◌, refl, List, ℕ}
use Rattle.pattern.specs.Verdict.{Answer, Verdict}
use Rattle.pattern.specs.Working.Sim.{test_with}
use Rattle.pattern.specs.Working.Verdicts.{zeros, zeros-verdict}

-- an answer that is the verdict
pub record Tested (p s : List ℕ) : Type 0 where
  pub answer : Answer
  pub verdict : Verdict p s answer

unfoldable pub tested : (p s : List ℕ) → Tested p s
tested p s = record { answer = test_with zeros p s; verdict = zeros-verdict p s (test_with zeros p s) refl }

-- what the pattern p answers on the string s
unfoldable pub test_of : List ℕ → List ℕ → Answer
test_of p s = (tested p s).answer

-- as the code computes it
pub test-is : (p s : List ℕ) (a : Answer) → a ≡ test_with zeros p s → a ≡ test_of p s
unfolding test_of tested
test-is p s a e = e
