-- What a pattern test answers, in the words of the grammar and of what a pattern matches. Assumes nothing.
use Rattle.std.specs.Prelude.{Bool, true, false, List, ℕ, Option, Some, None}
use Rattle.pattern.specs.Tree.{Re}
use Rattle.pattern.specs.Match.{Found}
use Rattle.pattern.specs.Grammar.{Pattern}

-- what a pattern test answers
abbrev pub Answer : Type 0
Answer = Option Bool

abbrev pub yes : Answer
yes = Some true

abbrev pub no : Answer
no = Some false

abbrev pub error : Answer
error = None

-- Yes and no are for the bytes that are a pattern, and an error for all others. Yes: the pattern's tree is found in the string.
pub data Verdict (p s : List ℕ) : Answer → Type 0 where
  v-yes : (r : Re) → Pattern p r → Found s r → Verdict p s yes
  v-no : (r : Re) → Pattern p r → (Found s r → ⊥) → Verdict p s no
  v-error : ((r : Re) → Pattern p r → ⊥) → Verdict p s error
