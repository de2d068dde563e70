-- R01: "in Licensees round brackets are both the licensees' and the strings'": which mixtures are sentences, and where others go wrong.
-- Assumes nothing.
use Rattle.std.specs.Prelude.{[], ◌∷◌}
use Rattle.lexical.specs.Kind
use Rattle.lexical.specs.Kind.{ending}
use Rattle.grammar.specs.Fields.{end-of-text, Field, field}
use Rattle.grammar.specs.Conditions.{any_name, str-literal, str-name, str-lookup, str-bracket, str-one, str-join}
use Rattle.grammar.specs.Naming.{Author, one, comma, bracket, both, either, threshold, principal, Licensees, somebody}
use Rattle.grammar.specs.Viable.{Open, opens}

-- `("a" || "b") . "c"`: what stands before the "." begins a sentence, with the "." it begins none
pub mixed-open : Open (Field Licensees) (Kind.OPEN ∷ Kind.LITERAL ∷ Kind.OR ∷ Kind.LITERAL ∷ Kind.CLOSE ∷ [])
mixed-open =
    opens Kind.END [] (field _ Kind.END (somebody _ (bracket _ (either _ _ (principal (Kind.LITERAL ∷ []) (str-one _ str-literal)) (principal (Kind.LITERAL ∷ []) (str-one _ str-literal))))) end-of-text)

-- `(("" . "a")) . "" || "b"` is a sentence
pub string-brackets : Field Licensees (Kind.OPEN ∷ Kind.OPEN ∷ Kind.LITERAL ∷ Kind.DOT ∷ Kind.LITERAL ∷ Kind.CLOSE ∷ Kind.CLOSE ∷ Kind.DOT ∷ Kind.LITERAL ∷ Kind.OR ∷ Kind.LITERAL ∷ Kind.END ∷ [])
string-brackets =
    field _ Kind.END (somebody _ (either _ _ (principal _ (str-join _ _ (str-one _ (str-bracket _ (str-one _ (str-bracket _ (str-join (Kind.LITERAL ∷ []) _ (str-one _ str-literal) str-literal))))) str-literal))
    (principal (Kind.LITERAL ∷ []) (str-one _ str-literal)))) end-of-text

-- `("a") && ("a" . "") || "b"` is one
pub both-brackets : Field Licensees (Kind.OPEN ∷ Kind.LITERAL ∷ Kind.CLOSE ∷ Kind.AND ∷ Kind.OPEN ∷ Kind.LITERAL ∷ Kind.DOT ∷ Kind.LITERAL ∷ Kind.CLOSE ∷ Kind.OR ∷ Kind.LITERAL ∷ Kind.END ∷ [])
both-brackets =
    field _ Kind.END (somebody _ (either _ _ (both _ _ (bracket _ (principal (Kind.LITERAL ∷ []) (str-one _ str-literal)))
    (bracket _ (principal _ (str-join (Kind.LITERAL ∷ []) _ (str-one _ str-literal) str-literal)))) (principal (Kind.LITERAL ∷ []) (str-one _ str-literal)))) end-of-text

-- `1-of(("a"), "b" . "c")` is one; `1-of(("a" && "b"))` goes wrong at "&&", `1-of(1-of("a"))` at the number
pub list-strings : Field Licensees (Kind.DIGITS ∷ Kind.OF ∷ Kind.OPEN ∷ Kind.OPEN ∷ Kind.LITERAL ∷ Kind.CLOSE ∷ Kind.COMMA ∷ Kind.LITERAL ∷ Kind.DOT ∷ Kind.LITERAL ∷ Kind.CLOSE ∷ Kind.END ∷ [])
list-strings =
    field _ Kind.END (somebody _ (threshold _ (comma _ _ (one _ (str-one _ (str-bracket (Kind.LITERAL ∷ []) (str-one _ str-literal)))) (one _ (str-join (Kind.LITERAL ∷ []) _ (str-one _ str-literal) str-literal))))) end-of-text

-- Authorizer: `"POL" . ("IC" . "Y")` and `$(x)` are sentences; `"a" "b"` and `x . 5` go wrong at the second word
pub author-joined : Field Author (Kind.LITERAL ∷ Kind.DOT ∷ Kind.OPEN ∷ Kind.LITERAL ∷ Kind.DOT ∷ Kind.LITERAL ∷ Kind.CLOSE ∷ Kind.END ∷ [])
author-joined = field _ Kind.END (str-join (Kind.LITERAL ∷ []) _ (str-one _ str-literal) (str-bracket _ (str-join (Kind.LITERAL ∷ []) _ (str-one _ str-literal) str-literal))) end-of-text

pub author-lookup : Field Author (Kind.DOLLAR ∷ Kind.OPEN ∷ Kind.NAME ∷ Kind.CLOSE ∷ Kind.END ∷ [])
author-lookup = field _ Kind.END (str-one _ (str-lookup _ (str-bracket (Kind.NAME ∷ []) (str-one _ (str-name Kind.NAME any_name))))) end-of-text
