-- The automaton goes through every sentence of Licensees with string expressions. Assumes nothing.
use Rattle.std.specs.Prelude.{◌≡◌, refl, List, [], ◌∷◌, ◌++◌, ℕ, suc}
use Rattle.std.proofs.Common.{sym, ap, ◌∙◌}
use Rattle.text.specs.Choice.{split}
use Rattle.lexical.specs.Kind
use Rattle.lexical.specs.Kind.{ending}
use Rattle.grammar.specs.Fields.{Ends, Field, field}
use Rattle.grammar.specs.Conditions.{Class, operand, whole, Str, str-literal, str-name, str-lookup, str-bracket, str-one, str-join}
use Rattle.grammar.specs.Naming.{PrincList, one, comma, PrincExpr, bracket, both, either, threshold, principal, Licensees, nobody, somebody}
use Rattle.grammar.specs.Viable.{Viable}
use Rattle.grammar.specs.Theorems.OneToken.{ends-ending}
use Rattle.grammar.proofs.Theorems.OneToken.{ending-ends}
use Rattle.grammar.specs.Working.Automaton.{run, run-dead, not-viable, not-longer}
use Rattle.grammar.specs.Working.States.{TEXT, people, item, State, p-dead, p-over, p-text, p-have, p-names, p-princ, p-people, step}
use Rattle.grammar.specs.Working.Accepts.{step-dead, through-part, first_part, dot-text, any-sort, as-text, text-run}
use Rattle.grammar.specs.Working.Principals.{Joins, Stood, closed-stood, dead-over, ends-dead, item-close, item-comma, joins-and, joins-or, list-place, mixed-stood, names-end, names-want, people-ends, people-joins, people-stood, princ-literal, princ-lookup, princ-name, princ-open, step-over, text-close, text-ends, text-joins, text-stood}

pub princ-run : (c : Class) (ks : List ℕ) → Str c ks → (u n : ℕ) → run step (p-princ u n) ks ≡ p-have TEXT (people u n)
princ-run _ _ str-literal u n = princ-literal u n
princ-run _ _ (str-name k x) u n = princ-name u n k x
princ-run _ _ (str-lookup ks s) u n = first_part (p-princ u n) (p-text TEXT (people u n)) ks Kind.DOLLAR (princ-lookup u n) ∙ text-run operand ks s TEXT (people u n) any-sort
princ-run _ _ (str-bracket ks s) u n =
    first_part (p-princ u n) (p-princ (suc u) (suc n)) (ks ++ Kind.CLOSE ∷ []) Kind.OPEN (princ-open u n)
    ∙ through-part (p-princ (suc u) (suc n)) (p-have TEXT (people (suc u) (suc n))) (p-have TEXT (people u n)) ks [] Kind.CLOSE (princ-run whole ks s (suc u) (suc n)) (text-close u n)
princ-run _ _ (str-one ks s) u n = princ-run operand ks s u n
princ-run _ _ (str-join ks ls s t) u n =
    through-part (p-princ u n) (p-have TEXT (people u n)) (p-text TEXT (people u n)) ks ls Kind.DOT (princ-run whole ks s u n) (dot-text (people u n))
    ∙ text-run operand ls t TEXT (people u n) any-sort

pub stood-joins : (ks : List ℕ) (k : ℕ) (ls : List ℕ) → Joins k → Stood ks → (u n : ℕ) → run step (p-princ u n) (ks ++ k ∷ ls) ≡ run step (p-princ 0 n) ls
stood-joins ks k ls j (text-stood g) u n = through-part (p-princ u n) (p-have TEXT (people u n)) (p-princ 0 n) ks ls k (princ-run whole ks g u n) (text-joins u n k j)
stood-joins ks k ls j (mixed-stood h) u n = through-part (p-princ u n) (p-have TEXT (people 0 n)) (p-princ 0 n) ks ls k (h u n) (text-joins 0 n k j)
stood-joins ks k ls j (people-stood h) u n = through-part (p-princ u n) (p-people n) (p-princ 0 n) ks ls k (h u n) (people-joins n k j)

pub joined-stood : (ks : List ℕ) (k : ℕ) (ls : List ℕ) → Joins k → Stood ks → Stood ls → Stood (ks ++ k ∷ ls)
joined-stood ks k ls j a (text-stood g) = mixed-stood (λ u n. stood-joins ks k ls j a u n ∙ princ-run whole ls g 0 n)
joined-stood ks k ls j a (mixed-stood h) = mixed-stood (λ u n. stood-joins ks k ls j a u n ∙ h 0 n)
joined-stood ks k ls j a (people-stood h) = people-stood (λ u n. stood-joins ks k ls j a u n ∙ h 0 n)

pub list-run : (ks : List ℕ) → PrincList ks → (n : ℕ) → run step (p-text TEXT (item n)) ks ≡ p-have TEXT (item n)
list-run _ (one ks g) n = text-run whole ks g TEXT (item n) (as-text refl)
list-run _ (comma ks ls a b) n =
    through-part (p-text TEXT (item n)) (p-have TEXT (item n)) (p-text TEXT (item n)) ks ls Kind.COMMA (list-run ks a n) (item-comma n) ∙ list-run ls b n

pub threshold-run : (ks : List ℕ) → PrincList ks → (u n : ℕ) → run step (p-princ u n) (Kind.DIGITS ∷ Kind.OF ∷ Kind.OPEN ∷ ks ++ Kind.CLOSE ∷ []) ≡ p-people n
threshold-run ks l u n =
    list-place (ks ++ Kind.CLOSE ∷ []) u n ∙ through-part (p-text TEXT (item n)) (p-have TEXT (item n)) (p-people n) ks [] Kind.CLOSE (list-run ks l n) (item-close n)

pub expr-stood : (ks : List ℕ) → PrincExpr ks → Stood ks
expr-stood _ (bracket ks e) = closed-stood ks (expr-stood ks e)
expr-stood _ (both ks ls e f) = joined-stood ks Kind.AND ls joins-and (expr-stood ks e) (expr-stood ls f)
expr-stood _ (either ks ls e f) = joined-stood ks Kind.OR ls joins-or (expr-stood ks e) (expr-stood ls f)
expr-stood _ (threshold ks l) = people-stood (threshold-run ks l)
expr-stood _ (principal ks g) = text-stood g

-- what leads to the end from a licensee's place leads there from the field's beginning
names-run : (ks : List ℕ) (e : ℕ) → Ends e → run step (p-princ 0 0) (ks ++ e ∷ []) ≡ p-over → run step p-names (ks ++ e ∷ []) ≡ p-over
names-run [] e en h = absurd (dead-over (sym (ends-dead e en) ∙ h))
names-run (k ∷ ks) e en h =
    split (ending k)
    (λ z. absurd (dead-over (sym (first_part (p-princ 0 0) p-dead (ks ++ e ∷ []) k (ends-dead k (ending-ends k z)) ∙ run-dead step p-dead step-dead (ks ++ e ∷ [])) ∙ h)))
    (λ z. ap (λ (q : State). run step q (ks ++ e ∷ [])) (names-want k z) ∙ h)

stood-over : (ks : List ℕ) (e : ℕ) → Stood ks → Ends e → run step (p-princ 0 0) (ks ++ e ∷ []) ≡ p-over
stood-over ks e (text-stood g) en = through-part (p-princ 0 0) (p-have TEXT (people 0 0)) p-over ks [] e (princ-run whole ks g 0 0) (text-ends e en 0)
stood-over ks e (mixed-stood h) en = through-part (p-princ 0 0) (p-have TEXT (people 0 0)) p-over ks [] e (h 0 0) (text-ends e en 0)
stood-over ks e (people-stood h) en = through-part (p-princ 0 0) (p-people 0) p-over ks [] e (h 0 0) (people-ends e en)

names-over : (ks : List ℕ) (e : ℕ) → Licensees ks → Ends e → run step p-names (ks ++ e ∷ []) ≡ p-over
names-over _ e nobody en = names-end e (ends-ending e en)
names-over _ e (somebody ks p) en = names-run ks e en (stood-over ks e (expr-stood ks p) en)

field-over : (ks : List ℕ) → Field Licensees ks → run step p-names ks ≡ p-over
field-over _ (field ks e g en) = names-over ks e g en

pub names-dead : (ks : List ℕ) → run step p-names ks ≡ p-dead → Viable (Field Licensees) ks → ⊥
names-dead = not-viable step p-dead step-dead (Field Licensees) p-names (λ ks g z. dead-over (sym z ∙ field-over ks g))

-- no sentence of the field goes on as another
pub names-whole : (ks : List ℕ) (k : ℕ) (more : List ℕ) → Field Licensees ks → Field Licensees (ks ++ k ∷ more) → ⊥
names-whole = not-longer step p-dead step-dead (Field Licensees) p-names p-over field-over step-over (λ z. dead-over (sym z))
