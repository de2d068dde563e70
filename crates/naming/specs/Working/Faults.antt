-- Working definitions: the faults of identifiers as the code has them. Assumes nothing.
use Rattle.std.specs.Prelude.{◌≡◌, refl, Bool, ◌<◌, ◌≤◌, eqb, leb}
use Rattle.std.proofs.Math.Bool.{true, false}
use borrow.Author.Tests.{le-leb, lt-leb, eq-eqb, ne_eqb}
use Rattle.text.specs.Choice.{pick}
use Rattle.naming.specs.Fault as Spec
use Rattle.syntax.specs.Working.Faults.{against}
use Rattle.syntax.specs.declared.fault.Fault.{Fault}

abbrev pub clear_at : Fault
clear_at = against 0 0

unfoldable pub first_of : Fault → Fault → Fault
first_of a b = pick (eqb a.reason 0) b (pick (eqb b.reason 0) a (pick (leb a.place b.place) a b))

-- what it says
unfoldable pub meant : Fault → Spec.Fault
meant f = pick (eqb f.reason 0) Spec.clear (Spec.faulty f.reason f.place)

-- `earlier`
module _ (a b : Fault) where
  pub first-right : a.reason ≡ 0 → b ≡ first_of a b
  unfolding first_of
  first-right h = rw (eq-eqb _ _ h)

  module _ (na : a.reason ≡ 0 → ⊥) where
    pub first-left : b.reason ≡ 0 → a ≡ first_of a b
    unfolding first_of
    first-left h = rw (ne_eqb _ _ na, eq-eqb _ _ h)

    module _ (nb : b.reason ≡ 0 → ⊥) where
      pub first-before : a.place ≤ b.place → a ≡ first_of a b
      unfolding first_of
      first-before h = rw (ne_eqb _ _ na, ne_eqb _ _ nb, le-leb _ _ h)

      pub first-behind : b.place < a.place → b ≡ first_of a b
      unfolding first_of
      first-behind h = rw (ne_eqb _ _ na, ne_eqb _ _ nb, lt-leb _ _ h)

-- the same fault is meant
module _ (a b : Fault) where
  known : (ra : Bool) (rb : Bool) (before : Bool) → eqb a.reason 0 ≡ ra → eqb b.reason 0 ≡ rb → leb a.place b.place ≡ before → meant (first_of a b) ≡ Spec.earlier (meant a) (meant b)
  unfolding first_of meant
  known true true l e f g = rw (e, f)
  known true false l e f g = rw (e, f)
  known false true l e f g = rw (e, f) (rw e)
  known false false true e f g = rw (e, f, g) (rw e)
  known false false false e f g = rw (e, f, g) (rw f)

  pub first-meant : meant (first_of a b) ≡ Spec.earlier (meant a) (meant b)
  first-meant = known _ _ _ refl refl refl
