-- R01: "in Licensees round brackets are both the licensees' and the strings'": which mixtures are sentences, and where others go wrong.
-- Assumes nothing.
use Rattle.std.specs.Prelude.{refl, [], ◌∷◌}
use Rattle.lexical.specs.Kind
use Rattle.lexical.specs.Kind.{ending}
use Rattle.conditions.specs.Table
use Rattle.grammar.specs.Fields.{Field}
use Rattle.grammar.specs.Naming.{Author, Licensees}
use Rattle.grammar.specs.Viable.{Viable}
use Rattle.grammar.proofs.Theorems.Authoring.{author-dead}
use Rattle.grammar.specs.Working.States.{step}
use Rattle.grammar.proofs.Working.Principals.{names-dead}

pub mixed-dot : Viable (Field Licensees) (Kind.OPEN ∷ Kind.LITERAL ∷ Kind.OR ∷ Kind.LITERAL ∷ Kind.CLOSE ∷ Kind.DOT ∷ []) → ⊥
unfolding step Table.allows Table.begins_string Table.operator Table.text_operator Table.comparison Table.binds Table.level_of ending
mixed-dot = names-dead (Kind.OPEN ∷ Kind.LITERAL ∷ Kind.OR ∷ Kind.LITERAL ∷ Kind.CLOSE ∷ Kind.DOT ∷ []) refl

pub list-and : Viable (Field Licensees) (Kind.DIGITS ∷ Kind.OF ∷ Kind.OPEN ∷ Kind.OPEN ∷ Kind.LITERAL ∷ Kind.AND ∷ []) → ⊥
unfolding step Table.allows Table.begins_string Table.operator Table.text_operator Table.comparison Table.binds Table.level_of ending
list-and = names-dead (Kind.DIGITS ∷ Kind.OF ∷ Kind.OPEN ∷ Kind.OPEN ∷ Kind.LITERAL ∷ Kind.AND ∷ []) refl

pub list-list : Viable (Field Licensees) (Kind.DIGITS ∷ Kind.OF ∷ Kind.OPEN ∷ Kind.DIGITS ∷ []) → ⊥
unfolding step Table.allows Table.begins_string Table.operator Table.text_operator Table.comparison Table.binds Table.level_of ending
list-list = names-dead (Kind.DIGITS ∷ Kind.OF ∷ Kind.OPEN ∷ Kind.DIGITS ∷ []) refl

-- `"a" . ("b" || "c")` goes wrong at "||", and so does `$("a" || "b")`; `"a" . 1-of("b")` at the number; `("a") ("b")` at the second bracket
pub dot-or : Viable (Field Licensees) (Kind.LITERAL ∷ Kind.DOT ∷ Kind.OPEN ∷ Kind.LITERAL ∷ Kind.OR ∷ []) → ⊥
unfolding step Table.allows Table.begins_string Table.operator Table.text_operator Table.comparison Table.binds Table.level_of ending
dot-or = names-dead (Kind.LITERAL ∷ Kind.DOT ∷ Kind.OPEN ∷ Kind.LITERAL ∷ Kind.OR ∷ []) refl

pub lookup-or : Viable (Field Licensees) (Kind.DOLLAR ∷ Kind.OPEN ∷ Kind.LITERAL ∷ Kind.OR ∷ []) → ⊥
unfolding step Table.allows Table.begins_string Table.operator Table.text_operator Table.comparison Table.binds Table.level_of ending
lookup-or = names-dead (Kind.DOLLAR ∷ Kind.OPEN ∷ Kind.LITERAL ∷ Kind.OR ∷ []) refl

pub dot-list : Viable (Field Licensees) (Kind.LITERAL ∷ Kind.DOT ∷ Kind.DIGITS ∷ []) → ⊥
unfolding step Table.allows Table.begins_string Table.operator Table.text_operator Table.comparison Table.binds Table.level_of ending
dot-list = names-dead (Kind.LITERAL ∷ Kind.DOT ∷ Kind.DIGITS ∷ []) refl

pub two-brackets : Viable (Field Licensees) (Kind.OPEN ∷ Kind.LITERAL ∷ Kind.CLOSE ∷ Kind.OPEN ∷ []) → ⊥
unfolding step Table.allows Table.begins_string Table.operator Table.text_operator Table.comparison Table.binds Table.level_of ending
two-brackets = names-dead (Kind.OPEN ∷ Kind.LITERAL ∷ Kind.CLOSE ∷ Kind.OPEN ∷ []) refl

pub author-two : Viable (Field Author) (Kind.LITERAL ∷ Kind.LITERAL ∷ []) → ⊥
unfolding step Table.allows Table.begins_string Table.operator Table.text_operator Table.comparison Table.binds Table.level_of ending
author-two = author-dead (Kind.LITERAL ∷ Kind.LITERAL ∷ []) refl

pub author-number : Viable (Field Author) (Kind.NAME ∷ Kind.DOT ∷ Kind.DIGITS ∷ []) → ⊥
unfolding step Table.allows Table.begins_string Table.operator Table.text_operator Table.comparison Table.binds Table.level_of ending
author-number = author-dead (Kind.NAME ∷ Kind.DOT ∷ Kind.DIGITS ∷ []) refl
