-- For the premises of `names-spoken` and `names-given`, a text where they hold and one where they don't. Assumes nothing.
use Rattle.std.specs.Prelude.{refl, [], ◌∷◌}
use Rattle.lexical.specs.Kind
use Rattle.lexical.specs.Kind.{ending}
use Rattle.lexical.specs.Line.{token_at}
use Rattle.conditions.specs.Table
use Rattle.naming.specs.Licensees.{licensees}
use Rattle.grammar.specs.Fields.{end-of-text, field}
use Rattle.grammar.specs.Naming.{Licensees}
use Rattle.grammar.specs.Viable.{viable}
use Rattle.grammar.proofs.Theorems.Spoken.{Spoken, names-spoken, Given, names-given}
use Rattle.grammar.proofs.Working.Principals.{names-dead}
use Rattle.grammar.specs.Working.States.{step}
use Rattle.grammar.specs.Theorems.Examples.{end, joined, joined-path, joined-sentence, joined_end, joined_tokens}

-- so these tokens say a tree, and the reader gives it
pub joined-spoken : Spoken joined [] joined_tokens
joined-spoken = names-spoken joined [] 1 joined_tokens end joined-path joined-sentence

pub joined-given : Given joined [] 1 joined_tokens end (licensees joined [] (token_at joined Kind.IN_LICENSEES 1))
joined-given = names-given joined [] 1 joined_tokens end joined-path joined-sentence joined_end

-- the first two tokens alone are no sentence
pub half-none : Licensees (Kind.NAME ∷ Kind.OR ∷ []) → ⊥
unfolding step Table.allows Table.begins_string Table.operator Table.text_operator Table.comparison Table.binds Table.level_of ending
half-none g = names-dead (Kind.NAME ∷ Kind.OR ∷ Kind.END ∷ []) refl (viable [] (field (Kind.NAME ∷ Kind.OR ∷ []) Kind.END g end-of-text))
