-- What a text says, of which some fields are read. Assumes nothing.
use Rattle.std.specs.Prelude.{List, [], ℕ}
use Rattle.std.proofs.Math.Option.{Option, none, some}
use Rattle.record.specs.Query.{Attribute}
use Rattle.syntax.specs.Expr.{Program}
use Rattle.naming.specs.Source.{Licensees, missing, Author}
use Rattle.assertion.specs.Assertion.{Conditions, absent, stated}
use Rattle.assertion.specs.Labels.{labels, without}

-- what the fields say; and for each kind of token, 1 where it is a label that may still stand
pub record Sketch : Type 0 where
  pub free : List ℕ
  pub constants : List Attribute
  pub author : Option Author
  pub licensees : Licensees
  pub conditions : Conditions

-- no field is read
abbrev pub blank : Sketch
blank = record { free = labels; constants = []; author = none; licensees = missing; conditions = absent }

-- the label is used up
abbrev pub labelled : Sketch → ℕ → Sketch
labelled d kind = record { free = without d.free kind; constants = d.constants; author = d.author; licensees = d.licensees; conditions = d.conditions }

abbrev pub with_constants : Sketch → List Attribute → Sketch
with_constants d cs = record { free = d.free; constants = cs; author = d.author; licensees = d.licensees; conditions = d.conditions }

abbrev pub with_author : Sketch → Author → Sketch
with_author d a = record { free = d.free; constants = d.constants; author = some a; licensees = d.licensees; conditions = d.conditions }

abbrev pub with_licensees : Sketch → Licensees → Sketch
with_licensees d l = record { free = d.free; constants = d.constants; author = d.author; licensees = l; conditions = d.conditions }

-- Conditions see the constants of a field that stands "earlier in the text"
abbrev pub with_program : Sketch → Program → Sketch
with_program d p = record { free = d.free; constants = d.constants; author = d.author; licensees = d.licensees; conditions = stated d.constants p }
