use mathlib.Core.Path.{◌≡◌}
use lib.ListN.{length}
use Rattle.assertion.specs.Labels.{total}
use Rattle.assertion.specs.Working.Field.{given, tabled}
use Rattle.assertion.specs.Working.Reading.{fields_in}
use Rattle.assertion.proofs.fields.Given as goal

abbrev pub invariant-loop-free : goal.invariant-loop-free
invariant-loop-free l = (length l.free ≡ length l.initial.free) × (length l.consts ≡ length l.initial.consts) × (length l.constants ≡ length l.initial.constants) × (length l.pool ≡ length l.initial.pool) × (length l.places ≡ length l.initial.places) × (length l.code ≡ length l.initial.code) × (fields_in (given l.s l.standing l.query l.values l.names l.start) l.free (tabled l.consts l.constants l.pool l.places l.code) l.d l.t ≡ fields_in (given l.s l.standing l.query l.values l.names l.start) l.initial.free (tabled l.initial.consts l.initial.constants l.initial.pool l.initial.places l.initial.code) l.initial.d l.initial.t)

abbrev pub decreases-loop-free : goal.decreases-loop-free
decreases-loop-free l = total l.free
