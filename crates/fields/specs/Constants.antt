-- Local-Constants. Assumes nothing.
use Rattle.std.specs.Prelude.{Bool, true, false, List, [], ◌∷◌, ◌++◌, ℕ, ◌-◌, eqb, leb, ltb, length, get_or}
use Rattle.text.specs.Choice.{pick}
use Rattle.text.specs.Equal.{equal}
use Rattle.text.specs.Loop.{Step, next, done, loop}
use Rattle.record.specs.Query.{Attribute}
use Rattle.lexical.specs.Kind
use Rattle.lexical.specs.Kind.{ending}
use Rattle.lexical.specs.Literal.{decoded_at}
use Rattle.lexical.specs.declared.token.Token.{Token}
use Rattle.limits.specs.Limits.{most_constants, most_literal}
use Rattle.syntax.specs.Code.{name_at}
use Rattle.syntax.specs.Parsed.{Parsed, ok, aside, refusal, unexpected}
use Rattle.fields.specs.Parsed.{behind}

-- has one of the constants that name?
unfoldable pub is_set : List Attribute → List ℕ → Bool
is_set [] name = false
is_set (a ∷ l) name = pick (equal a.name name) true (is_set l name)

-- "starting with "_"", which is 95
unfoldable pub reserved : List ℕ → Bool
reserved name = eqb (get_or name 0 0) 95

-- the literal t, the value of the constant with that name; 7 "literal 2,048 decoded bytes"
unfoldable pub constant_value : List ℕ → List ℕ → Token → Parsed Attribute
constant_value s name t =
    pick (eqb t.kind Kind.LITERAL)
    (pick (ltb most_literal (length (decoded_at s t.start))) (aside 7 t.start)
    (ok (record { name = name; value = decoded_at s t.start }) (behind s Kind.IN_FIELD t)))
    (unexpected t)

-- "name = literal", from the "=" on
unfoldable pub assigned : List ℕ → List ℕ → Token → Parsed Attribute
assigned s name t = pick (eqb t.kind Kind.ASSIGN) (constant_value s name (behind s Kind.IN_FIELD t)) (unexpected t)

-- 4 "a Local-Constants name repeated or starting with "_"": the reason against t as a constant's name, or 0
unfoldable pub name_fault : List ℕ → List Attribute → Token → ℕ
name_fault s constants t =
    pick (eqb t.kind Kind.NAME) (pick (reserved (name_at s t.start)) 4 (pick (is_set constants (name_at s t.start)) 4 0)) (refusal t.kind)

-- one more constant behind those, from its name on; 7 "16 constants"
unfoldable pub constant : List ℕ → List Attribute → Token → Parsed Attribute
constant s constants t =
    pick (eqb (name_fault s constants t) 0)
    (pick (leb most_constants (length constants)) (aside 7 t.start) (assigned s (name_at s t.start) (behind s Kind.IN_FIELD t)))
    (aside (name_fault s constants t) t.start)

abbrev pub on_constant : List Attribute → Parsed Attribute → Step (List Attribute × Token) (Parsed (List Attribute))
on_constant constants (ok a t) = next (constants ++ (a ∷ []), t)
on_constant constants (aside r p) = done (aside r p)

abbrev pub constants_turn : List ℕ → List Attribute × Token → Step (List Attribute × Token) (Parsed (List Attribute))
constants_turn s x = pick (ending x.1.kind) (done (ok x.0 x.1)) (on_constant x.0 (constant s x.0 x.1))

-- "any number of name = literal": the field whose first token is t
unfoldable pub constants_from : List ℕ → List Attribute → Token → Parsed (List Attribute)
constants_from s constants t = loop (λ x. most_constants - length x.0) (λ x. unexpected x.1) (constants_turn s) (constants, t)
