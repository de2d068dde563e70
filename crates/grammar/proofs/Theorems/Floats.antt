-- F04, F05: which tokens go on behind a float, and which begin no sentence. Assumes nothing.
use Rattle.std.specs.Prelude.{refl, [], ◌∷◌, ℕ}
use Rattle.lexical.specs.Kind
use Rattle.conditions.specs.Table
use Rattle.grammar.specs.Conditions.{TRUTH, Name, any_name, truth-name, Conditions}
use Rattle.grammar.specs.Viable.{Viable}
use Rattle.grammar.specs.Working.States.{step}
use Rattle.grammar.proofs.Working.Accepts.{conditions-dead}

-- "Equality tests of floats are refused": `1.5 ==` and `1.5 !=` begin no sentence, in brackets neither
pub float_equal : Viable Conditions (Kind.FLOAT ∷ Kind.EQUAL ∷ []) → ⊥
unfolding step Table.allows Table.begins_string Table.begins_number Table.begins_float Table.operator Table.float_operator Table.ordering Table.binds
float_equal = conditions-dead (Kind.FLOAT ∷ Kind.EQUAL ∷ []) refl

pub float_unequal : Viable Conditions (Kind.FLOAT ∷ Kind.UNEQUAL ∷ []) → ⊥
unfolding step Table.allows Table.begins_string Table.begins_number Table.begins_float Table.operator Table.float_operator Table.ordering Table.binds
float_unequal = conditions-dead (Kind.FLOAT ∷ Kind.UNEQUAL ∷ []) refl

pub bracketed-equal : Viable Conditions (Kind.OPEN ∷ Kind.FLOAT ∷ Kind.CLOSE ∷ Kind.EQUAL ∷ []) → ⊥
unfolding step Table.allows Table.begins_string Table.begins_number Table.begins_float Table.operator Table.float_operator Table.ordering Table.binds
bracketed-equal = conditions-dead (Kind.OPEN ∷ Kind.FLOAT ∷ Kind.CLOSE ∷ Kind.EQUAL ∷ []) refl

-- floats have no "%"
pub float-remainder : Viable Conditions (Kind.FLOAT ∷ Kind.REMAINDER ∷ []) → ⊥
unfolding step Table.allows Table.begins_string Table.begins_number Table.begins_float Table.operator Table.float_operator Table.ordering Table.binds
float-remainder = conditions-dead (Kind.FLOAT ∷ Kind.REMAINDER ∷ []) refl

-- "Both sides of a comparison have one type": `1.5 < 2` and `1 < 1.5`
pub float-integer : Viable Conditions (Kind.FLOAT ∷ Kind.LESS ∷ Kind.DIGITS ∷ []) → ⊥
unfolding step Table.allows Table.begins_string Table.begins_number Table.begins_float Table.operator Table.float_operator Table.ordering Table.binds Table.level_of
float-integer = conditions-dead (Kind.FLOAT ∷ Kind.LESS ∷ Kind.DIGITS ∷ []) refl

pub integer-float : Viable Conditions (Kind.DIGITS ∷ Kind.LESS ∷ Kind.FLOAT ∷ []) → ⊥
unfolding step Table.allows Table.begins_string Table.begins_number Table.begins_float Table.operator Table.number_operator Table.comparison Table.binds Table.level_of
integer-float = conditions-dead (Kind.DIGITS ∷ Kind.LESS ∷ Kind.FLOAT ∷ []) refl

-- ""&" binds as "@"": `&x .` begins no sentence
pub ampersand-dot : (k : ℕ) → Name k → Viable Conditions (Kind.AMPERSAND ∷ k ∷ Kind.DOT ∷ []) → ⊥
unfolding step Table.allows Table.begins_string Table.begins_number Table.begins_float Table.operator Table.float_operator Table.ordering Table.binds
ampersand-dot _ any_name = conditions-dead (Kind.AMPERSAND ∷ Kind.NAME ∷ Kind.DOT ∷ []) refl
ampersand-dot _ truth-name = conditions-dead (Kind.AMPERSAND ∷ TRUTH ∷ Kind.DOT ∷ []) refl
