-- Worked examples: numbers, and the lines of an answer and of a refusal. Assumes nothing.
use Rattle.std.specs.Prelude.{◌≡◌, refl, [], ◌∷◌}
use Rattle.text.specs.Counted as TextCounted
use Rattle.keynote.specs.Outcome.{refused_with}
use Rattle.printed.specs.Numeral.{last_digit, digits, decimal}
use Rattle.printed.specs.Lines.{bytes, said, line, pair_line, head_lines, assertion_line, assertion_lines, refusal_line, outcome_lines}

pub record Examples : Type 0 where
  pub none : decimal 0 ≡ bytes "0"
  pub ten : decimal 10 ≡ bytes "10"
  pub most : decimal 65535 ≡ bytes "65535"
  -- the first ruling: its outcome, two compliance values, and its page
  pub first : outcome_lines (record { number = 0; place = 0; rank = 1; rounds = 2; reached = 2 }) 2 (1 ∷ 0 ∷ 3 ∷ 0 ∷ 0 ∷ 0 ∷ []) (bytes "\n")
      ≡ bytes "rank 1 of 2\nrounds 2\nreached 2\nassertion 0 reason 0 at 0\n"
  -- two assertions, the second set aside
  pub second : outcome_lines (record { number = 0; place = 0; rank = 0; rounds = 1; reached = 3 }) 2 (1 ∷ 0 ∷ 6 ∷ 0 ∷ 0 ∷ 0 ∷ 2 ∷ 1 ∷ 249 ∷ []) (bytes "|")
      ≡ bytes "rank 0 of 2|rounds 1|reached 3|assertion 0 reason 0 at 0|assertion 1 reason 2 at 505|"
  pub refused : outcome_lines (refused_with 4 12) 0 [] (bytes "\n") ≡ bytes "refused 4 at 12\n"

pub examples : Examples
unfolding last_digit digits decimal said line pair_line head_lines assertion_line assertion_lines refusal_line outcome_lines refused_with TextCounted.pair_at
examples = record {
  none = refl;
  ten = refl;
  most = refl;
  first = refl;
  second = refl;
  refused = refl;
}
