-- What "~=" gives: a test or a fault, and which, in the words of the patterns' grammar and of what a pattern matches. Assumes nothing.
use Rattle.std.specs.Prelude.{◌≡◌, Bool, true, false, List, ℕ, Some, None}
use Rattle.std.proofs.Common.{ap}
use Rattle.pattern.specs.Tree.{Re}
use Rattle.pattern.specs.Match.{Found}
use Rattle.pattern.specs.Grammar.{Pattern}
use Rattle.pattern.specs.Verdict.{Answer, yes, no, error, Verdict, v-yes, v-no, v-error}
use Rattle.pattern.specs.Test.{tested, test_of}
use Rattle.pattern.specs.Theorems.Single.{verdict-one}
use Rattle.pattern.specs.Theorems.Examples.{bytes, no-pattern, pattern-found, pattern-missed}
use Rattle.expression.specs.Value.{Value, test, fault}
use Rattle.expression.specs.Operations.{answered, matched}

answered-cases : (P : Value → Type 0) → P fault → ((t : Bool) → P (test t)) → (x : Answer) → P (answered x)
answered-cases P f g (Some t) = g t
answered-cases P f g None = f

-- a test or a fault
pub matched-cases : (P : Value → Type 0) → P fault → ((t : Bool) → P (test t)) → (a b : List ℕ) → P (matched a b)
unfolding matched
matched-cases P f g a b = answered-cases P f g (test_of b a)

-- the verdict on the pattern b and the string a decides
pub matched-is : (a b : List ℕ) (x : Answer) → Verdict b a x → matched a b ≡ answered x
unfolding matched test_of
matched-is a b x v = ap answered (verdict-one b a (tested b a).answer x (tested b a).verdict v)

-- "A match anywhere in the string is a yes."
pub match-holds : (a b : List ℕ) (r : Re) → Pattern b r → Found a r → matched a b ≡ test true
match-holds a b r p f = matched-is a b yes (v-yes r p f)

pub match-fails : (a b : List ℕ) (r : Re) → Pattern b r → (Found a r → ⊥) → matched a b ≡ test false
match-fails a b r p n = matched-is a b no (v-no r p n)

-- "invalid, as is all else and a pattern over 256 bytes: an error in the test"
pub match-errs : (a b : List ℕ) → ((r : Re) → Pattern b r → ⊥) → matched a b ≡ fault
match-errs a b n = matched-is a b error (v-error n)

-- a test of each kind
pub holds-here : matched (bytes "ba") (bytes "(^)*a") ≡ test true
holds-here = matched-is (bytes "ba") (bytes "(^)*a") yes pattern-found

pub fails-here : matched (bytes "ba") (bytes "(^)+a") ≡ test false
fails-here = matched-is (bytes "ba") (bytes "(^)+a") no pattern-missed

pub errs-here : matched (bytes "") (bytes "^*") ≡ fault
errs-here = matched-is (bytes "") (bytes "^*") error no-pattern
