-- Licensees, whose licensees are string expressions. Assumes nothing.
use Rattle.std.specs.Prelude.{List, [], ◌∷◌, ◌++◌, ℕ, zero, suc, ◌+◌, ◌-◌, eqb, leb, ltb, length}
use Rattle.text.specs.Choice.{pick}
use Rattle.text.specs.Loop.{Step, next, done, loop}
use Rattle.record.specs.Query.{Attribute}
use Rattle.limits.specs.Limits.{most_licensees, most_brackets}
use Rattle.lexical.specs.Kind
use Rattle.lexical.specs.Kind.{ending}
use Rattle.lexical.specs.Number.{number_at}
use Rattle.lexical.specs.declared.token.Token.{Token}
use Rattle.syntax.specs.Parsed.{Parsed, ok, aside, and_then, unexpected}
use Rattle.conditions.specs.Table.{begins_string}
use Rattle.fields.specs.Parsed.{behind, ended}
use Rattle.naming.specs.Source.{Source, Sources, one, and, or, k_of, Licensees, empty, given, sources}
use Rattle.naming.specs.String.{plain_from, source}

abbrev pub after : List ℕ → Token → Token
after s t = behind s Kind.IN_LICENSEES t

-- a reader behind n licensees, `left` more brackets allowed: 7 "16 licensee occurrences", at the "first token that is no bracket"
unfoldable pub licensee : List ℕ → ℕ → ℕ → Token → Parsed Source
licensee s left n t =
    pick (leb most_licensees n)
    (pick (begins_string (plain_from left s t).kind) (aside 7 (plain_from left s t).start) (source s left t)) (source s left t)

-- the end of a list: 5 "K above its list's length: the list's closing bracket"
unfoldable pub listed : List ℕ → ℕ → List Source → Token → Parsed Sources
listed s k xs t = pick (ltb (length xs) k) (aside 5 t.start) (ok (k_of k xs) (after s t))

abbrev pub on_listed : List ℕ → ℕ → List Source → Parsed Source → Step (List Source × Token) (Parsed Sources)
on_listed s k xs (aside r p) = done (aside r p)
on_listed s k xs (ok x t) =
    pick (eqb t.kind Kind.CLOSE) (done (listed s k (xs ++ (x ∷ [])) t))
    (pick (eqb t.kind Kind.COMMA) (next (xs ++ (x ∷ []), after s t)) (done (unexpected t)))

abbrev pub list_turn : List ℕ → ℕ → ℕ → ℕ → List Source × Token → Step (List Source × Token) (Parsed Sources)
list_turn s left n k x = on_listed s k x.0 (licensee s left (n + length x.0) x.1)

-- "a list being one or more licensees joined by commas"
unfoldable pub list_from : List ℕ → ℕ → ℕ → ℕ → List Source → Token → Parsed Sources
list_from s left n k xs t = loop (λ x. most_licensees - (n + length x.0)) (λ x. unexpected x.1) (list_turn s left n k) (xs, t)

-- the bracket t of a K-of; 7 "16 brackets open"
unfoldable pub list_opened : List ℕ → ℕ → ℕ → ℕ → Token → Parsed Sources
list_opened s left n k t =
    pick (eqb t.kind Kind.OPEN) (pick (eqb left 0) (aside 7 t.start) (list_from s (left - 1) n k [] (after s t))) (unexpected t)

unfoldable pub of_read : List ℕ → ℕ → ℕ → ℕ → Token → Parsed Sources
of_read s left n k t = pick (eqb t.kind Kind.OF) (list_opened s left n k (after s t)) (unexpected t)

-- "K-of(list)": 5 "K = 0 or K > 16: the number"
unfoldable pub threshold : List ℕ → ℕ → ℕ → Token → ℕ → Parsed Sources
threshold s left n t k =
    pick (eqb k 0) (aside 5 t.start) (pick (ltb most_licensees k) (aside 5 t.start) (of_read s left n k (after s t)))

abbrev pub lone : List ℕ → ℕ → ℕ → Token → Parsed Sources
lone s left n t = and_then (licensee s left n t) (λ x u. ok (one x) u)

-- a bracket t that holds one string, a "." behind it, begins a longer string
abbrev pub onward : List ℕ → ℕ → ℕ → Token → Sources → Token → Parsed Sources
onward s left n t (one x) u = pick (eqb u.kind Kind.DOT) (lone s left n t) (ok (one x) u)
onward s left n t (and a b) u = ok (and a b) u
onward s left n t (or a b) u = ok (or a b) u
onward s left n t (k_of k xs) u = ok (k_of k xs) u

-- what the bracket t holds, up to its closing bracket u
unfoldable pub closed : List ℕ → ℕ → ℕ → Token → Sources → Token → Parsed Sources
closed s left n t e u = pick (eqb u.kind Kind.CLOSE) (onward s left n t e (after s u)) (unexpected u)

-- a reader of expressions behind n licensees
abbrev pub Reader : Type 0
Reader = ℕ → Token → Parsed Sources

-- operands joined by one operator, from left to right: what was joined so far, and the token behind it
abbrev pub on_operand : (Sources → Sources → Sources) → Sources → Parsed Sources → Step (Sources × Token) (Parsed Sources)
on_operand join e (aside r p) = done (aside r p)
on_operand join e (ok f t) = next (join e f, t)

abbrev pub chain_turn : List ℕ → ℕ → (Sources → Sources → Sources) → Reader → ℕ → Sources × Token → Step (Sources × Token) (Parsed Sources)
chain_turn s joint join operand n x =
    pick (eqb x.1.kind joint) (on_operand join x.0 (operand (n + length (sources x.0)) (after s x.1))) (done (ok x.0 x.1))

abbrev pub chain_from : List ℕ → ℕ → (Sources → Sources → Sources) → Reader → ℕ → Sources → Token → Parsed Sources
chain_from s joint join operand n e t =
    loop (λ x. most_licensees - (n + length (sources x.0))) (λ x. unexpected x.1) (chain_turn s joint join operand n) (e, t)

abbrev pub chain : List ℕ → ℕ → (Sources → Sources → Sources) → Reader → Reader
chain s joint join operand n t = and_then (operand n t) (λ e u. chain_from s joint join operand n e u)

-- "names joined by && and ||"; "&& binds tighter"
abbrev pub expression_of : List ℕ → Reader → Reader
expression_of s primary = chain s Kind.OR or (chain s Kind.AND and primary)

-- a bracket, a K-of or a string, `left` more brackets allowed
abbrev pub primary_body : List ℕ → ℕ → Reader → Reader
primary_body s left inner n t =
    pick (eqb t.kind Kind.OPEN)
    (pick (eqb left 0) (aside 7 t.start) (and_then (inner n (after s t)) (λ e u. closed s left n t e u)))
    (pick (eqb t.kind Kind.DIGITS) (threshold s left n t (number_at s t.start t.end)) (lone s left n t))

unfoldable pub primary : List ℕ → ℕ → Reader
primary s zero n t = primary_body s 0 (λ n t. unexpected t) n t
primary s (suc left) n t = primary_body s (suc left) (expression_of s (λ n t. primary s left n t)) n t

unfoldable pub expression : List ℕ → ℕ → Reader
expression s left = expression_of s (λ n t. primary s left n t)

-- the field whose first token is t; an empty field names nobody
unfoldable pub licensees : List ℕ → List Attribute → Token → Parsed Licensees
licensees s constants t =
    pick (ending t.kind) (ok empty t) (and_then (expression s most_brackets 0 t) (λ e u. ended (given constants e) u))
