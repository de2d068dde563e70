-- F04, F05: which tokens go on behind a float, and which begin no sentence. Assumes nothing.
use Rattle.std.specs.Prelude.{List, [], ◌∷◌, ℕ}
use Rattle.lexical.specs.Kind
use Rattle.grammar.specs.Fields.{end-of-text, field}
use Rattle.grammar.specs.Conditions.{operand, whole, any_name, str-name, Float, float-literal, float-minus, float_convert, float-bracket, float_one, float_up, float-term, float-sum, plus, less, of-floats, test-comparison, test-one, test-ands, no-clause, clause, tested, Conditions}

-- `-(1.5) < -&x + 4.0;` is a sentence
pub floats_compared : Conditions (Kind.MINUS ∷ Kind.OPEN ∷ Kind.FLOAT ∷ Kind.CLOSE ∷ Kind.LESS ∷ Kind.MINUS ∷ Kind.AMPERSAND ∷ Kind.NAME ∷ Kind.PLUS ∷ Kind.FLOAT ∷ Kind.SEMICOLON ∷ Kind.END ∷ [])
floats_compared =
    field _ Kind.END (clause _ [] (tested _ (test-ands _ (test-one _ (test-comparison _ (of-floats Kind.LESS _ _ less (all _ (float-minus _ (float-bracket _ (all _ float-literal))))
    (float-sum Kind.PLUS _ _ plus (all _ (float-minus _ (float_convert _ (str-name Kind.NAME any_name)))) (float_up _ (float_one _ float-literal)))))))) no-clause) end-of-text
  where
    all : (ks : List ℕ) → Float operand ks → Float whole ks
    all ks i = float-term ks (float_up ks (float_one ks i))
