-- The verdict on a pattern and a string is the only one. Assumes nothing.
use Rattle.std.specs.Prelude.{◌≡◌, refl, List, ℕ, true, false, Some, None}
use Rattle.std.proofs.Common.{subst}
use Rattle.pattern.specs.Tree.{Re}
use Rattle.pattern.specs.Match.{Found}
use Rattle.pattern.specs.Grammar.{Pattern}
use Rattle.pattern.specs.Verdict.{Answer, Verdict, v-yes, v-no, v-error}
use Rattle.pattern.specs.Theorems.Unique.{one-tree}

-- bytes that are a pattern have one meaning
pub one-meaning : (p s : List ℕ) (r q : Re) → Pattern p r → Pattern p q → Found s r → Found s q
one-meaning p s r q w v f = subst (Found s) (one-tree p r q w v) f

-- the answer is the only one
pub verdict-one : (p s : List ℕ) (a b : Answer) → Verdict p s a → Verdict p s b → a ≡ b
verdict-one p s (Some true) (Some true) (v-yes r w f) (v-yes q v g) = refl
verdict-one p s (Some true) (Some false) (v-yes r w f) (v-no q v g) = absurd (g (one-meaning p s r q w v f))
verdict-one p s (Some true) None (v-yes r w f) (v-error n) = absurd (n r w)
verdict-one p s (Some false) (Some true) (v-no r w f) (v-yes q v g) = absurd (f (one-meaning p s q r v w g))
verdict-one p s (Some false) (Some false) (v-no r w f) (v-no q v g) = refl
verdict-one p s (Some false) None (v-no r w f) (v-error n) = absurd (n r w)
verdict-one p s None (Some true) (v-error n) (v-yes q v g) = absurd (n q v)
verdict-one p s None (Some false) (v-error n) (v-no q v g) = absurd (n q v)
verdict-one p s None None (v-error n) (v-error m) = refl
