-- An assertion read into the tables is what the meaning reads. Assumes nothing.
use Rattle.std.specs.Prelude.{◌≡◌, true, false, ℕ, ◌+◌, ◌<◌, ◌≤◌, eqb, take}
use Rattle.std.proofs.Math.Path.{ap}
use Rattle.std.proofs.Common.{◌∙◌}
use mathlib.Core.List.{List, [], ◌∷◌, ◌++◌, Memᴰ as Mem}
use native.Mathlib.Omega.{arith}
use Rattle.std.proofs.Math.ListN.{length}
use Rattle.limits.specs.Limits.{most_licensees, most_code}
use Rattle.record.specs.Query.{Query}
use Rattle.lexical.specs.declared.token.Token.{Token}
use Rattle.principal.specs.Principal.{Principal}
use Rattle.principal.specs.Members.{member}
use Rattle.compliance.specs.Codes.{top_code}
use Rattle.compliance.specs.Licensees.{Expression, Licensees, missing, licensees}
use Rattle.compliance.specs.Licensees.{given as stating}
use Rattle.compliance.specs.Tables.{compiled, Formed}
use Rattle.naming.specs.Working.Code.{above, pushed}
use Rattle.naming.specs.Theorems.Code.{above-is, pushed-is}
use Rattle.naming.specs.Fault.{clear, faulty}
use Rattle.naming.specs.Working.Faults.{meant}
use Rattle.syntax.specs.declared.fault.Fault as declared
use Rattle.assertion.specs.Sketch.{Sketch}
use Rattle.assertion.specs.Form.{State as Reading}
use Rattle.assertion.specs.Working.Field.{Given, Tables}
use Rattle.assertion.specs.Working.Reading.{State}
use Rattle.assertion.specs.declared.field.Partial.{Partial}
use Rattle.assertion.specs.Theorems.Held.{Held}

missing-formed : (e : Expression) → missing ≡ stating e → Formed e
missing-formed e h = let z : ◌≡◌ {A = ℕ} 0 1 = cc in let no : ⊥ = omega (arith, z) in absurd no

none_named : (names : List Principal) (p : Principal) → Mem p [] → member p names ≡ true
none_named names p = elim [ ]

-- the program that an assertion ends with
pub record Ended (names : List Principal) (old : List ℕ) (size : ℕ) (f : Licensees) (z : ℕ) (code : List ℕ) : Type 0 where
  pub wrote : take z code ≡ old ++ compiled names f
  pub ends : z ≡ size + length (compiled names f)
  pub most : z ≤ size + most_code
  pub named : (p : Principal) → Mem p (licensees f) → member p names ≡ true
  pub formed : (e : Expression) → f ≡ stating e → Formed e
  pub few : length (licensees f) ≤ most_licensees

-- "A missing field is top"
pub missing-ends : (names : List Principal) (old code : List ℕ) (size : ℕ) → size < length code → take size code ≡ old → Ended names old size missing (above code size) (pushed code size top_code)
unfolding compiled licensees
missing-ends names old code size room e = record {
  wrote = pushed-is code size top_code room ∙ ap (λ (l : List ℕ). l ++ (top_code ∷ [])) e;
  ends = above-is code size room;
  most = omega (arith, above-is code size room);
  named = none_named names;
  formed = missing-formed;
  few = omega arith;
}

-- a fault of the code that is none, or one
pub meant-none : (f : declared.Fault) → eqb f.reason 0 ≡ true → meant f ≡ clear
unfolding meant
meant-none f e = rw e

pub meant-some : (f : declared.Fault) → eqb f.reason 0 ≡ false → meant f ≡ faulty f.reason f.place
unfolding meant
meant-some f e = rw e

-- the two loops side by side
pub data Belong (q : Query) (g : Given) (top : ℕ) (x : Tables) (names : List Principal) (end size : ℕ) : Reading → State → Type 0 where
  belong : (d : Sketch) (free : List ℕ) (u : Partial) (t : Token) (y : Tables) → d.free ≡ free → Held q g top x names end size free d u t y
      → Belong q g top x names end size (d, t) (free, u, t, y)
