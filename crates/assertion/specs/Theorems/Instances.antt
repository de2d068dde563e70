-- Worked instances of what `StandIn`, `Evaluated` and `Earliest` suppose: texts that nothing is against, and texts that something is against. Assumes nothing.
use Rattle.std.specs.Prelude.{◌≡◌, refl, [], ◌∷◌}
use Rattle.std.proofs.Common.{sym, ◌∙◌}
use Rattle.record.specs.Query.{Query}
use Rattle.principal.specs.Principal.{policy, same}
use Rattle.principal.specs.Canonical as Canonical
use Rattle.text.specs.Equal as Equal
use Rattle.compliance.specs.Licensees as Compliance
use Rattle.syntax.specs.Expr.{literal, name}
use Rattle.expression.specs.Value.{bytes_of}
use Rattle.expression.specs.Names as Names
use Rattle.expression.specs.Operations as Operations
use Rattle.expression.specs.Conditions.{evaluate}
use Rattle.naming.specs.Source.{Source, one, or, given, sources}
use Rattle.naming.specs.Naming as Naming
use Rattle.naming.specs.Fault as Fault
use Rattle.assertion.specs.Assertion.{absent}
use Rattle.assertion.specs.Said.{Said}
use Rattle.assertion.specs.Resolved.{meant, fault_of}
use Rattle.assertion.specs.Evaluates.{Evaluates}
use Rattle.assertion.specs.Theorems.StandIn.{never}
use Rattle.assertion.specs.Theorems.Evaluated.{evaluates-clear, clear-evaluates}
use Rattle.assertion.specs.Theorems.Earliest.{Against, fault-against}
use Rattle.naming.specs.Theorems.StandIn.{entered, people_now, licensed_now}
use Rattle.assertion.specs.Working.StandIn.{entered_as}

-- a query in which no name is set
abbrev pub bare : Query
bare = record { values = []; requesters = []; attributes = []; assertions = [] }

-- POLICY, at 12, to "a" at 30 or to another at 40
abbrev pub to_other : Source → Said
to_other x = record {
  author = record { constants = []; by = record { place = 12; says = literal policy } };
  licensees = given [] (or (one (record { place = 30; says = literal (97 ∷ []) })) (one x));
  conditions = absent;
}

-- to "b"
abbrev pub sound : Said
sound = to_other (record { place = 40; says = literal (98 ∷ []) })

-- to x, which isn't set
abbrev pub unsound : Said
unsound = to_other (record { place = 40; says = name (120 ∷ []) })

pub record Instances : Type 0 where
  -- nothing is against it, and what is entered is what it means
  pub no-fault : fault_of bare 1 sound ≡ Fault.clear
  pub entered-meant : entered_as bare sound ≡ meant bare sound
  -- a verified credential of POLICY: reason 9 at its place
  pub verified-policy : fault_of bare 2 sound ≡ Fault.faulty 9 12
  -- nobody at 40: reason 10 there, and POLICY is entered for him
  pub nobody : fault_of bare 1 unsound ≡ Fault.faulty 10 40
  pub stands-in : (entered_as bare unsound).licensees ≡ Compliance.given (Compliance.or (Compliance.name (97 ∷ [])) (Compliance.name policy))
  pub nobody-meant : (meant bare unsound).licensees ≡ Compliance.given (Compliance.or (Compliance.name (97 ∷ [])) (Compliance.name []))
  -- the earlier of two
  pub earlier-first : fault_of bare 2 unsound ≡ Fault.faulty 9 12

pub instances : Instances
unfolding meant fault_of entered people_now licensed_now entered_as sources policy same bytes_of evaluate Naming.identified Naming.people Naming.author Naming.licensed Fault.size_fault Fault.source_fault Fault.policy_fault Fault.author_fault Fault.first_fault Fault.licensees_fault Names.environment Names.lookup Names.setting_or Names.from_query Operations.held Canonical.canonical Canonical.canonical_with Canonical.front Canonical.behind Canonical.fold Canonical.folded Canonical.is_hex Equal.equal
instances = record { no-fault = refl; entered-meant = refl; verified-policy = refl; nobody = refl; stands-in = refl; nobody-meant = refl; earlier-first = refl }

-- the first evaluates, the second doesn't
pub sound-evaluates : Evaluates bare 1 sound
sound-evaluates = clear-evaluates bare 1 sound instances.no-fault

pub unsound-not : Evaluates bare 1 unsound → ⊥
unsound-not h = never 10 40 (sym instances.nobody ∙ evaluates-clear bare 1 unsound h)

pub unsound-against : Against bare 1 unsound 10 40
unsound-against = fault-against bare 1 unsound 10 40 instances.nobody
