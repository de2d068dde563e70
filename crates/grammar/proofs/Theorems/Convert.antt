-- B01: the precedence classes belong to the grammar. "@x ." begins no sentence of Conditions, and "@(x . y) == 0;" is one. Assumes nothing.
use Rattle.std.specs.Prelude.{refl, [], ◌∷◌, ℕ}
use Rattle.lexical.specs.Kind
use Rattle.conditions.specs.Table
use Rattle.grammar.specs.Conditions.{TRUTH, Name, any_name, truth-name, Conditions}
use Rattle.grammar.specs.Viable.{Viable}
use Rattle.grammar.specs.Working.States.{step}
use Rattle.grammar.proofs.Working.Accepts.{conditions-dead}

-- "@x ." begins no sentence: the "." has no continuation
pub convert-dot : (k : ℕ) → Name k → Viable Conditions (Kind.AT ∷ k ∷ Kind.DOT ∷ []) → ⊥
unfolding step Table.allows Table.begins_string Table.begins_number Table.begins_float Table.operator Table.number_operator Table.float_operator Table.comparison Table.binds
convert-dot _ any_name = conditions-dead (Kind.AT ∷ Kind.NAME ∷ Kind.DOT ∷ []) refl
convert-dot _ truth-name = conditions-dead (Kind.AT ∷ TRUTH ∷ Kind.DOT ∷ []) refl
