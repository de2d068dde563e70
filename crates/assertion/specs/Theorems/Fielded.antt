-- A field read into the tables is what the meaning reads. Assumes nothing.
use Rattle.std.specs.Prelude.{◌≡◌, refl, List, [], ◌∷◌, ◌++◌, ℕ, Err}
use Rattle.std.proofs.Common.{◌∙◌}
use Rattle.record.specs.Query.{Query}
use Rattle.lexical.specs.Kind
use Rattle.lexical.specs.Kind.{ending}
use Rattle.lexical.specs.declared.token.Token.{Token}
use Rattle.principal.specs.Principal.{Principal}
use Rattle.index.specs.Index.{enter, enter_all}
use Rattle.index.specs.EnterLaws.{fresh, fresh_all, enter-is, enter-all-is, enter-all-append}
use Rattle.syntax.specs.Parsed.{Parsed, ok, aside}
use Rattle.assertion.specs.Sketch.{Sketch}
use Rattle.assertion.specs.Working.Field.{Given, Tables, Moved, moved, went}
use Rattle.assertion.specs.declared.field.Partial.{Partial}
use Rattle.assertion.specs.Theorems.Held.{Front, Held}
use Rattle.syntax.specs.Working.Faults.{against}

-- the same fault; or the same draft and token behind, as the tables hold it
pub data FieldRead (q : Query) (g : Given) (top : ℕ) (x : Tables) (names : List Principal) (count end size : ℕ) (free : List ℕ) : Parsed Sketch → Moved → Type 0 where
  field-aside : (r p : ℕ) (y : Tables) → (r ≡ 0 → ⊥) → Front g x names count end size y → FieldRead q g top x names count end size free (aside r p) (moved (Err (against r p)) y)
  field-on : (d : Sketch) (u : Partial) (n : Token) (y : Tables) → d.free ≡ free → Held q g top x names end size free d u n y
      → FieldRead q g top x names count end size free (ok d n) (moved (went u n) y)

pub opened-conditions : (k : ℕ) → k ≡ Kind.CONDITIONS → Kind.opened k ≡ Kind.IN_FIELD
unfolding Kind.opened
opened-conditions k e = rw e

-- the index with the Authorizer behind, and with the licensees
enter_one : (l : List Principal) (p : Principal) → enter_all l (p ∷ []) ≡ enter l p
unfolding enter_all
enter_one l p = refl

pub entered-one : (names ps : List Principal) (p : Principal) → enter_all names (ps ++ (p ∷ [])) ≡ enter (enter_all names ps) p
entered-one names ps p = enter-all-append names ps (p ∷ []) ∙ enter_one (enter_all names ps) p

pub one-behind : (names ps : List Principal) (p : Principal) → enter_all names (ps ++ (p ∷ [])) ≡ enter_all names ps ++ fresh (enter_all names ps) p
one-behind names ps p = entered-one names ps p ∙ enter-is (enter_all names ps) p

pub all-behind : (names ps fs : List Principal) → enter_all names (ps ++ fs) ≡ enter_all names ps ++ fresh_all (enter_all names ps) fs
all-behind names ps fs = enter-all-append names ps fs ∙ enter-all-is (enter_all names ps) fs
