use Prim.Native.Nat.{◌≤◌, max}
use mathlib.Core.Path.{◌≡◌}
use lib.ListN.{length, drop}
use Rattle.system.specs.Working.Each.{fixed, store, each_by, each_from}
use Rattle.system.proofs.each.read_each.Given as goal

abbrev pub invariant-loop-i : goal.invariant-loop-i
invariant-loop-i l = (length l.consts ≡ length l.initial.consts) × (length l.pool ≡ length l.initial.pool) × (length l.places ≡ length l.initial.places) × (length l.code ≡ length l.initial.code) × (length l.authors ≡ length l.initial.authors) × (length l.conds ≡ length l.initial.conds) × (length l.ends ≡ length l.initial.ends) × (length l.page ≡ length l.initial.page) × (each_from (fixed l.shared.query.now l.shared.values.now l.shared.names.now l.shared.top l.shared.start) (drop l.i l.texts) l.i (each_by l.e (store l.consts l.pool l.places l.code) l.authors l.conds l.ends l.page) ≡ each_from (fixed l.shared.query.now l.shared.values.now l.shared.names.now l.shared.top l.shared.start) (drop l.first l.texts) l.first (each_by l.initial.e (store l.initial.consts l.initial.pool l.initial.places l.initial.code) l.initial.authors l.initial.conds l.initial.ends l.initial.page)) × (l.i ≤ max l.first (length l.texts))
