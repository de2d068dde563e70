-- The automaton goes through every sentence of Licensees with string expressions. Assumes nothing.
use Rattle.std.specs.Prelude.{◌≡◌, refl, true, false, List, [], ◌∷◌, ◌++◌, ℕ, suc}
use Rattle.std.proofs.Common.{◌∙◌, arith}
use Rattle.lexical.specs.Kind
use Rattle.lexical.specs.Kind.{ending}
use Rattle.conditions.specs.Table.{want-string}
use Rattle.conditions.specs.Table
use Rattle.grammar.specs.Fields.{Ends, end-of-text, next-version, next-constants, next-authorizer, next-licensees, next-conditions, next-comment, next-signature}
use Rattle.grammar.specs.Conditions.{whole, Name, any_name, truth-name, Str, str-bracket, str-one}
use Rattle.grammar.specs.Working.Automaton.{run}
use Rattle.grammar.specs.Working.States.{TEXT, people, item, p-dead, p-over, p-text, p-have, p-names, p-princ, p-people, p-count, p-of, step}
use Rattle.grammar.specs.Working.Accepts.{through-part, first_part}

-- "&&" and "||"
pub data Joins : ℕ → Type 0 where
  joins-and : Joins Kind.AND
  joins-or : Joins Kind.OR

-- a string where a licensee is wanted
pub princ-name : (u n k : ℕ) → Name k → step (p-princ u n) k ≡ p-have TEXT (people u n)
unfolding step Table.allows Table.begins_string
princ-name u n _ any_name = refl
princ-name u n _ truth-name = refl

pub princ-literal : (u n : ℕ) → step (p-princ u n) Kind.LITERAL ≡ p-have TEXT (people u n)
unfolding step Table.allows Table.begins_string
princ-literal u n = refl

pub princ-lookup : (u n : ℕ) → step (p-princ u n) Kind.DOLLAR ≡ p-text TEXT (people u n)
unfolding step Table.allows Table.begins_string
princ-lookup u n = refl

pub princ-open : (u n : ℕ) → step (p-princ u n) Kind.OPEN ≡ p-princ (suc u) (suc n)
unfolding step
princ-open u n = refl

pub princ-digits : (u n : ℕ) → step (p-princ u n) Kind.DIGITS ≡ p-count n
unfolding step
princ-digits u n = refl

pub count_of : (n : ℕ) → step (p-count n) Kind.OF ≡ p-of n
unfolding step
count_of n = refl

pub of-open : (n : ℕ) → step (p-of n) Kind.OPEN ≡ p-text TEXT (item n)
unfolding step
of-open n = refl

pub item-comma : (n : ℕ) → step (p-have TEXT (item n)) Kind.COMMA ≡ p-text TEXT (item n)
unfolding step Table.binds Table.operator Table.text_operator Table.level_of Table.comparison
item-comma n = refl

pub item-close : (n : ℕ) → step (p-have TEXT (item n)) Kind.CLOSE ≡ p-people n
unfolding step Table.binds Table.operator Table.text_operator Table.level_of Table.comparison
item-close n = refl

pub text-close : (u n : ℕ) → step (p-have TEXT (people (suc u) (suc n))) Kind.CLOSE ≡ p-have TEXT (people u n)
unfolding step Table.binds Table.operator Table.text_operator Table.level_of Table.comparison
text-close u n = refl

mixed-close : (n : ℕ) → step (p-have TEXT (people 0 (suc n))) Kind.CLOSE ≡ p-people n
unfolding step Table.binds Table.operator Table.text_operator Table.level_of Table.comparison
mixed-close n = refl

people-close : (n : ℕ) → step (p-people (suc n)) Kind.CLOSE ≡ p-people n
unfolding step
people-close n = refl

pub text-joins : (u n k : ℕ) → Joins k → step (p-have TEXT (people u n)) k ≡ p-princ 0 n
unfolding step Table.binds Table.operator Table.text_operator Table.level_of Table.comparison
text-joins u n _ joins-and = refl
text-joins u n _ joins-or = refl

pub people-joins : (n k : ℕ) → Joins k → step (p-people n) k ≡ p-princ 0 n
unfolding step
people-joins n _ joins-and = refl
people-joins n _ joins-or = refl

pub text-ends : (k : ℕ) → Ends k → (u : ℕ) → step (p-have TEXT (people u 0)) k ≡ p-over
unfolding step Table.binds Table.operator Table.text_operator Table.level_of Table.comparison ending
text-ends _ end-of-text u = refl
text-ends _ next-version u = refl
text-ends _ next-constants u = refl
text-ends _ next-authorizer u = refl
text-ends _ next-licensees u = refl
text-ends _ next-conditions u = refl
text-ends _ next-comment u = refl
text-ends _ next-signature u = refl

pub people-ends : (k : ℕ) → Ends k → step (p-people 0) k ≡ p-over
unfolding step ending
people-ends _ end-of-text = refl
people-ends _ next-version = refl
people-ends _ next-constants = refl
people-ends _ next-authorizer = refl
people-ends _ next-licensees = refl
people-ends _ next-conditions = refl
people-ends _ next-comment = refl
people-ends _ next-signature = refl

-- where kinds lead from any place where a licensee is wanted: a string in brackets that are its own still; what ends with a string; what doesn't
pub data Stood (ks : List ℕ) : Type 0 where
  text-stood : Str whole ks → Stood ks
  mixed-stood : ((u n : ℕ) → run step (p-princ u n) ks ≡ p-have TEXT (people 0 n)) → Stood ks
  people-stood : ((u n : ℕ) → run step (p-princ u n) ks ≡ p-people n) → Stood ks

pub open-run : (ks : List ℕ) (u n : ℕ) → run step (p-princ u n) (Kind.OPEN ∷ ks) ≡ run step (p-princ (suc u) (suc n)) ks
open-run ks u n = first_part (p-princ u n) (p-princ (suc u) (suc n)) ks Kind.OPEN (princ-open u n)

pub closed-mixed : (ks : List ℕ) → ((u n : ℕ) → run step (p-princ u n) ks ≡ p-have TEXT (people 0 n)) → (u n : ℕ) → run step (p-princ u n) (Kind.OPEN ∷ ks ++ Kind.CLOSE ∷ []) ≡ p-people n
closed-mixed ks h u n =
    open-run (ks ++ Kind.CLOSE ∷ []) u n
    ∙ through-part (p-princ (suc u) (suc n)) (p-have TEXT (people 0 (suc n))) (p-people n) ks [] Kind.CLOSE (h (suc u) (suc n)) (mixed-close n)

pub closed-people : (ks : List ℕ) → ((u n : ℕ) → run step (p-princ u n) ks ≡ p-people n) → (u n : ℕ) → run step (p-princ u n) (Kind.OPEN ∷ ks ++ Kind.CLOSE ∷ []) ≡ p-people n
closed-people ks h u n =
    open-run (ks ++ Kind.CLOSE ∷ []) u n ∙ through-part (p-princ (suc u) (suc n)) (p-people (suc n)) (p-people n) ks [] Kind.CLOSE (h (suc u) (suc n)) (people-close n)

pub closed-stood : (ks : List ℕ) → Stood ks → Stood (Kind.OPEN ∷ ks ++ Kind.CLOSE ∷ [])
closed-stood ks (text-stood g) = text-stood (str-one _ (str-bracket ks g))
closed-stood ks (mixed-stood h) = people-stood (closed-mixed ks h)
closed-stood ks (people-stood h) = people-stood (closed-people ks h)

pub list-place : (ls : List ℕ) (u n : ℕ) → run step (p-princ u n) (Kind.DIGITS ∷ Kind.OF ∷ Kind.OPEN ∷ ls) ≡ run step (p-text TEXT (item n)) ls
list-place ls u n =
    first_part (p-princ u n) (p-count n) (Kind.OF ∷ Kind.OPEN ∷ ls) Kind.DIGITS (princ-digits u n) ∙ first_part (p-count n) (p-of n) (Kind.OPEN ∷ ls) Kind.OF (count_of n)
    ∙ first_part (p-of n) (p-text TEXT (item n)) ls Kind.OPEN (of-open n)

-- the whole field
pub ends-dead : (k : ℕ) → Ends k → step (p-princ 0 0) k ≡ p-dead
unfolding step Table.allows Table.begins_string
ends-dead _ end-of-text = refl
ends-dead _ next-version = refl
ends-dead _ next-constants = refl
ends-dead _ next-authorizer = refl
ends-dead _ next-licensees = refl
ends-dead _ next-conditions = refl
ends-dead _ next-comment = refl
ends-dead _ next-signature = refl

pub names-end : (k : ℕ) → ending k ≡ true → step p-names k ≡ p-over
unfolding step
names-end k h = rw h

pub names-want : (k : ℕ) → ending k ≡ false → step p-names k ≡ step (p-princ 0 0) k
unfolding step
names-want k h = rw h

pub dead-over : p-dead ≡ p-over → ⊥
dead-over z = let v : ◌≡◌ {A = ℕ} 0 1 = cc in omega (arith, v)

pub step-over : (k : ℕ) → step p-over k ≡ p-dead
unfolding step
step-over k = refl
