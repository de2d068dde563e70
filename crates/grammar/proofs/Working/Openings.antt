-- The automaton and the trees where an operand begins: a prefix operator, a bracket, one token. Assumes nothing.
use Rattle.std.specs.Prelude.{ℕ}
use Rattle.std.proofs.Math.Path.{refl}
use Rattle.std.proofs.Common.{arith}
use Rattle.syntax.specs.Operator.{Unary, Sort, a-string, an-integer, a-float}
use Rattle.conditions.specs.Table.{Want, want-number, want-integer, want-float}
use Rattle.conditions.specs.Table
use Rattle.grammar.specs.Working.States.{TEXT, NUMBER, FLOATING, tests, State, p-any, p-text, p-number, strict, step}
use Rattle.grammar.specs.Working.Onward.{Starts, start-any, start-text, start_operand, start-number, start-integer, start-float, Onward, onward, typed, number-test, float_test, text-test}
use Rattle.grammar.proofs.Working.Onward.{strict-test, strict-dead}
use Rattle.grammar.specs.Working.Openings.{Before, ampersand-any, ampersand-float, ampersand-number, at-any, at-integer, at-number, dollar-any, dollar-text, float-led, minus-any, minus-any-float, minus-float, minus-integer, minus-number-float, minus_number, not_test, number-led}

pub before-onward : (k : ℕ) (op : Unary) (want : Want) (level : ℕ) (wanted : Want) (o r : Sort) (q : State) → Before k op want level wanted o r → Starts 7 want q → Onward q level wanted o r (step q k)
unfolding step Table.allows Table.begins_number Table.begins_string Table.begins_float
before-onward _ _ _ _ _ _ _ _ minus-any (start-any S) = typed (p-any S) 6 _ an-integer _ _ (p-number want-number (tests S)) refl (start-number (tests S)) number-test (λ x j g b. number-led (tests S) (tests S) x j refl g)
before-onward _ _ _ _ _ _ _ _ minus-any-float (start-any S) = typed (p-any S) 6 _ a-float _ _ (p-number want-number (tests S)) refl (start-number (tests S)) float_test (λ x j g b. float-led (tests S) (tests S) x j refl g)
before-onward _ _ _ _ _ _ _ _ minus_number (start-number F) = typed (p-number want-number F) 6 _ an-integer _ _ (p-number want-number F) refl (start-number F) number-test (λ x j g b. number-led F F x j refl g)
before-onward _ _ _ _ _ _ _ _ minus-number-float (start-number F) = typed (p-number want-number F) 6 _ a-float _ _ (p-number want-number F) refl (start-number F) float_test (λ x j g b. float-led F F x j refl g)
before-onward _ _ _ _ _ _ _ _ minus-integer (start-integer F) = typed (p-number want-integer F) 6 _ an-integer _ _ (p-number want-integer F) refl (start-integer F) number-test (λ x j g b. number-led F F x j refl g)
before-onward _ _ _ _ _ _ _ _ minus-float (start-float F) = typed (p-number want-float F) 6 _ a-float _ _ (p-number want-float F) refl (start-float F) float_test (λ x j g b. float-led F F x j refl g)
before-onward _ _ _ _ _ _ _ _ at-any (start-any S) =
    typed (p-any S) 6 _ a-string _ _ (p-text NUMBER (tests S)) refl (start_operand NUMBER (tests S) (omega arith)) text-test (λ x j g b. refl)
before-onward _ _ _ _ _ _ _ _ at-number (start-number F) =
    typed (p-number want-number F) 6 _ a-string _ _ (p-text NUMBER F) refl (start_operand NUMBER F (omega arith)) text-test (λ x j g b. refl)
before-onward _ _ _ _ _ _ _ _ at-integer (start-integer F) =
    typed (p-number want-integer F) 6 _ a-string _ _ (p-text NUMBER F) refl (start_operand NUMBER F (omega arith)) text-test (λ x j g b. refl)
before-onward _ _ _ _ _ _ _ _ ampersand-any (start-any S) =
    typed (p-any S) 6 _ a-string _ _ (p-text FLOATING (tests S)) refl (start_operand FLOATING (tests S) (omega arith)) text-test (λ x j g b. refl)
before-onward _ _ _ _ _ _ _ _ ampersand-number (start-number F) =
    typed (p-number want-number F) 6 _ a-string _ _ (p-text FLOATING F) refl (start_operand FLOATING F (omega arith)) text-test (λ x j g b. refl)
before-onward _ _ _ _ _ _ _ _ ampersand-float (start-float F) =
    typed (p-number want-float F) 6 _ a-string _ _ (p-text FLOATING F) refl (start_operand FLOATING F (omega arith)) text-test (λ x j g b. refl)
before-onward _ _ _ _ _ _ _ _ dollar-any (start-any S) = typed (p-any S) 6 _ a-string _ _ (p-text TEXT (tests S)) refl (start-text (tests S)) text-test (λ x j g b. refl)
before-onward _ _ _ _ _ _ _ _ dollar-text (start-text F) = typed (p-text TEXT F) 6 _ a-string _ _ (p-text TEXT F) refl (start-text F) text-test (λ x j g b. refl)
before-onward _ _ _ _ _ _ _ _ dollar-text (start_operand r F i) =
    typed (p-text r F) 6 _ a-string _ _ (p-text r F) refl (start_operand r F (omega arith)) text-test (λ x j g b. refl)
before-onward _ _ _ _ _ _ _ _ not_test (start-any S) =
    onward (p-any (strict S)) refl (start-any (strict S)) (strict-test S 2 (omega arith)) (λ sort k z u b. strict-dead S 2 (omega arith) sort k u b)
