-- Operands of one token. Assumes nothing.
use Rattle.std.specs.Prelude.{List, ℕ, ◌-◌, eqb, ltb, leb, length, Err}
use Rattle.text.specs.Choice.{pick}
use Rattle.lexical.specs.Kind
use Rattle.lexical.specs.Literal.{decoded_at}
use Rattle.lexical.specs.Number.{LIMIT, number_at}
use Rattle.lexical.specs.declared.token.Token.{Token}
use Rattle.syntax.specs.Op
use Rattle.conditions.specs.Word.{next_at}
use Rattle.conditions.specs.Working.Numbered.{TEXT, INTEGER, FLOAT, word_sort}
use Rattle.conditions.specs.Working.Emit.{found, Ran, ran, above, put}
use Rattle.syntax.specs.Working.Faults.{against}
use Rattle.limits.specs.Limits.{most_float, most_literal}

-- one entry, and the token behind
abbrev pub leaf_found : List ℕ → List ℕ → ℕ → ℕ → ℕ → Token → Ran
leaf_found s m top sort op t = ran (found sort 0 (above m top) (next_at s t.end)) (put m top op t.start)

unfoldable pub literal_read : List ℕ → List ℕ → ℕ → Token → Ran
literal_read s m top t = pick (ltb most_literal (length (decoded_at s t.start))) (ran (Err (against 7 t.start)) m) (leaf_found s m top TEXT Op.LITERAL t)

abbrev pub name_as : List ℕ → List ℕ → ℕ → Token → ℕ → Ran
name_as s m top t sort = pick (eqb sort TEXT) (leaf_found s m top TEXT Op.NAME t) (ran (found sort t.start top (next_at s t.end)) m)

unfoldable pub name_read : List ℕ → List ℕ → ℕ → ℕ → Token → Ran
name_read s m top want t = name_as s m top t (word_sort s want t.start t.end)

unfoldable pub digits_read : List ℕ → List ℕ → ℕ → Token → Ran
digits_read s m top t = pick (leb LIMIT (number_at s t.start t.end)) (ran (Err (against 5 t.start)) m) (leaf_found s m top INTEGER Op.NUMBER t)

unfoldable pub float_read : List ℕ → List ℕ → ℕ → Token → Ran
float_read s m top t = pick (ltb most_float (t.end - t.start)) (ran (Err (against 7 t.start)) m) (leaf_found s m top FLOAT Op.DECIMAL t)

unfoldable pub leaf_read : List ℕ → List ℕ → ℕ → ℕ → Token → Ran
leaf_read s m top want t =
    pick (eqb t.kind Kind.LITERAL) (literal_read s m top t)
    (pick (eqb t.kind Kind.NAME) (name_read s m top want t)
    (pick (eqb t.kind Kind.DIGITS) (digits_read s m top t) (float_read s m top t)))
