-- The readers of the fields against their grammars, field by field. Signature's is in OneToken. Assumes nothing.
use Rattle.std.specs.Prelude.{List, [], ◌∷◌, ◌++◌, ℕ}
use Rattle.record.specs.Query.{Attribute}
use Rattle.lexical.specs.Kind
use Rattle.lexical.specs.declared.token.Token.{Token}
use Rattle.fields.specs.Version.{version}
use Rattle.fields.specs.Constants.{constants_from}
use Rattle.lexical.specs.Line.{token_at}
use Rattle.conditions.specs.Program.{read_program}
use Rattle.grammar.specs.Fields.{Field, Version, Assignments}
use Rattle.grammar.specs.Viable.{Viable, Open, Kinds, KindsBy, plainly}
use Rattle.grammar.proofs.Theorems.OneToken.{version-judged, version-whole}
use Rattle.grammar.proofs.Theorems.Assigning.{constants-judged, constants-whole}
use Rattle.grammar.proofs.Theorems.Conditioning.{conditions-judged, conditions-whole}
use Rattle.grammar.specs.Conditions.{Conditions}
use Rattle.naming.specs.Authorizer.{authorizer}
use Rattle.naming.specs.Licensees.{licensees}
use Rattle.grammar.specs.Naming.{Author, Licensees}
use Rattle.grammar.proofs.Theorems.Authoring.{author-judged, author-whole}
use Rattle.grammar.proofs.Theorems.Naming.{names-judged}
use Rattle.grammar.proofs.Working.Principals.{names-whole}
use Rattle.grammar.specs.Spelled.{kind_in}
use Rattle.grammar.specs.Theorems.Exactly.{Refused, exactly, Passed, complete}

module _ (s : List ℕ) (t n : Token) (ks : List ℕ) where
  -- reason 2 at n where the kinds before n begin a sentence, and those up to n begin none
  pub version-exactly : Kinds s Kind.IN_FIELD t ks n → Open (Field Version) ks → (Viable (Field Version) (ks ++ n.kind ∷ []) → ⊥)
      → Refused plainly (Field Version) version-whole s Kind.IN_FIELD t n (version s t)
  version-exactly p o nv = exactly plainly (Field Version) version-whole s Kind.IN_FIELD t (version s t) (version-judged s t) n ks p o nv

  pub constants-exactly : Kinds s Kind.IN_FIELD t ks n → Open (Field Assignments) ks → (Viable (Field Assignments) (ks ++ n.kind ∷ []) → ⊥)
      → Refused plainly (Field Assignments) constants-whole s Kind.IN_FIELD t n (constants_from s [] t)
  constants-exactly p o nv = exactly plainly (Field Assignments) constants-whole s Kind.IN_FIELD t (constants_from s [] t) (constants-judged s t) n ks p o nv

  -- through to n where the kinds up to n are a sentence
  pub version-complete : Kinds s Kind.IN_FIELD t ks n → Field Version (ks ++ n.kind ∷ []) → Passed plainly (Field Version) version-whole s Kind.IN_FIELD t n (version s t)
  version-complete p g = complete plainly (Field Version) version-whole s Kind.IN_FIELD t (version s t) (version-judged s t) n ks p g

  pub constants-complete : Kinds s Kind.IN_FIELD t ks n → Field Assignments (ks ++ n.kind ∷ [])
      → Passed plainly (Field Assignments) constants-whole s Kind.IN_FIELD t n (constants_from s [] t)
  constants-complete p g = complete plainly (Field Assignments) constants-whole s Kind.IN_FIELD t (constants_from s [] t) (constants-judged s t) n ks p g

-- Conditions, whose tokens are of the kinds that `kind_in` says, from the token behind a place of the text on
module _ (s : List ℕ) (at : ℕ) (n : Token) (ks : List ℕ) where
  abbrev first : Token
  first = token_at s Kind.IN_FIELD at

  pub conditions-exactly : KindsBy (kind_in s) s Kind.IN_FIELD first ks n → Open Conditions ks → (Viable Conditions (ks ++ kind_in s n ∷ []) → ⊥)
      → Refused (kind_in s) Conditions conditions-whole s Kind.IN_FIELD first n (read_program s first)
  conditions-exactly p o nv = exactly (kind_in s) Conditions conditions-whole s Kind.IN_FIELD first (read_program s first) (conditions-judged s at) n ks p o nv

  pub conditions-complete : KindsBy (kind_in s) s Kind.IN_FIELD first ks n → Conditions (ks ++ kind_in s n ∷ [])
      → Passed (kind_in s) Conditions conditions-whole s Kind.IN_FIELD first n (read_program s first)
  conditions-complete p g = complete (kind_in s) Conditions conditions-whole s Kind.IN_FIELD first (read_program s first) (conditions-judged s at) n ks p g

-- Authorizer and Licensees, whose tokens are of the same kinds
module _ (s : List ℕ) (constants : List Attribute) (at : ℕ) (n : Token) (ks : List ℕ) where
  abbrev author_first : Token
  author_first = token_at s Kind.IN_FIELD at

  abbrev names_first : Token
  names_first = token_at s Kind.IN_LICENSEES at

  pub author-exactly : KindsBy (kind_in s) s Kind.IN_FIELD author_first ks n → Open (Field Author) ks → (Viable (Field Author) (ks ++ kind_in s n ∷ []) → ⊥)
      → Refused (kind_in s) (Field Author) author-whole s Kind.IN_FIELD author_first n (authorizer s constants author_first)
  author-exactly p o nv =
      exactly (kind_in s) (Field Author) author-whole s Kind.IN_FIELD author_first (authorizer s constants author_first) (author-judged s constants at) n ks p o nv

  pub author-complete : KindsBy (kind_in s) s Kind.IN_FIELD author_first ks n → Field Author (ks ++ kind_in s n ∷ [])
      → Passed (kind_in s) (Field Author) author-whole s Kind.IN_FIELD author_first n (authorizer s constants author_first)
  author-complete p g = complete (kind_in s) (Field Author) author-whole s Kind.IN_FIELD author_first (authorizer s constants author_first) (author-judged s constants at) n ks p g

  pub names-exactly : KindsBy (kind_in s) s Kind.IN_LICENSEES names_first ks n → Open (Field Licensees) ks → (Viable (Field Licensees) (ks ++ kind_in s n ∷ []) → ⊥)
      → Refused (kind_in s) (Field Licensees) names-whole s Kind.IN_LICENSEES names_first n (licensees s constants names_first)
  names-exactly p o nv =
      exactly (kind_in s) (Field Licensees) names-whole s Kind.IN_LICENSEES names_first (licensees s constants names_first) (names-judged s constants at) n ks p o nv

  pub names-complete : KindsBy (kind_in s) s Kind.IN_LICENSEES names_first ks n → Field Licensees (ks ++ kind_in s n ∷ [])
      → Passed (kind_in s) (Field Licensees) names-whole s Kind.IN_LICENSEES names_first n (licensees s constants names_first)
  names-complete p g = complete (kind_in s) (Field Licensees) names-whole s Kind.IN_LICENSEES names_first (licensees s constants names_first) (names-judged s constants at) n ks p g
