-- What the structs of the code say. Assumes nothing.
use Rattle.std.specs.Prelude.{◌≡◌, map, ℕ, Result, Ok, Err}
use Rattle.text.specs.Choice.{pick}
use Rattle.register.specs.Entries.{Entry, free, held, Contents}
use Rattle.register.specs.Calls.{Outcome, granted, refused, number}
use Rattle.register.specs.declared.Place.{Place}
use Rattle.register.specs.declared.Register.{Register}
use Rattle.register.specs.declared.After.{After}
use Rattle.register.specs.declared.Reason.{Reason}
use Rattle.register.specs.declared.layout.Unfit.{Unfit}
use Rattle.register.specs.declared.layout.Unfit.TheVariants.{Length, Version, Mark}

-- numbers left at a place that holds nobody count for nothing
abbrev pub entry_of : Place → Entry
entry_of p = pick p.held (held p.principal p.moves) free

unfoldable pub contents : Register → Contents
contents r = record { entries = map entry_of r.places; issued = r.issued }

abbrev pub Answer : Type 0
Answer = Result (Unit {0}) Reason

-- a refusal's number is that of its reason, and its place 0
abbrev pub told : Answer → Contents → Outcome
told (Ok u) q = granted q
told (Err k) q = refused (number k) 0

-- what a call gives back: the outcome, and after a refusal the register as it was handed in
pub record Tells (r : Register) (a : After) (o : Outcome) : Type 0 where
  pub outcome : told a.answer (contents a.register) ≡ o
  pub kept : (k : Reason) → a.answer ≡ Err k → a.register ≡ r

-- the number and the place of bytes that are no register
abbrev pub unfit_number : Unfit → ℕ
unfit_number Length = 5
unfit_number Version = 2
unfit_number (Mark p) = 6

abbrev pub unfit_place : Unfit → ℕ
unfit_place Length = 0
unfit_place Version = 0
unfit_place (Mark p) = p
