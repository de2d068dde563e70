-- B01: the precedence classes belong to the grammar. "@x ." begins no sentence of Conditions, and "@(x . y) == 0;" is one. Assumes nothing.
use Rattle.std.specs.Prelude.{List, [], ◌∷◌, ℕ}
use Rattle.lexical.specs.Kind
use Rattle.grammar.specs.Fields.{end-of-text, field}
use Rattle.grammar.specs.Conditions.{operand, whole, any_name, str-name, str-bracket, str-one, str-join, Int, int-literal, int-convert, int-one, int_up, int-term, equal, of-integers, test-comparison, test-one, test-ands, no-clause, clause, tested, Conditions}

-- "@(x . y) == 0;" is a sentence
pub convert-bracket : Conditions (Kind.AT ∷ Kind.OPEN ∷ Kind.NAME ∷ Kind.DOT ∷ Kind.NAME ∷ Kind.CLOSE ∷ Kind.EQUAL ∷ Kind.DIGITS ∷ Kind.SEMICOLON ∷ Kind.END ∷ [])
convert-bracket =
    field _ Kind.END (clause _ [] (tested _ (test-ands _ (test-one _ (test-comparison _ (of-integers Kind.EQUAL _ _ equal (all _ (int-convert _ (str-bracket _
    (str-join _ _ (str-one _ (str-name Kind.NAME any_name)) (str-name Kind.NAME any_name))))) (all _ int-literal)))))) no-clause) end-of-text
  where
    all : (ks : List ℕ) → Int operand ks → Int whole ks
    all ks i = int-term ks (int_up ks (int-one ks i))
