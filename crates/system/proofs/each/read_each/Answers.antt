use mathlib.Core.Path.{◌≡◌, refl, ◌∙◌}
use native.Mathlib.Omega.{arith}
use Rattle.system.specs.Working.Each.{each-end, each-full, each_more}
use Rattle.system.proofs.each.read_each.Goals as goal

pub returns-then-is_full : goal.returns-then-is_full
returns-then-is_full c = each-full _ _ _ _ _ _ _ _ _ _ _ _ _ _ c.loop-i.invariant.8 c.loop-i-test.true _ refl _ c.counted_at-n.ensures _ c.is_full.ensures c.if-is_full.true

pub loop-i-preserved : goal.loop-i-preserved
loop-i-preserved c = (
  c.read_one-r.auto.consts ∙ c.loop-i.invariant.0,
  c.read_one-r.auto.pool ∙ c.loop-i.invariant.1,
  c.read_one-r.auto.places ∙ c.loop-i.invariant.2,
  c.read_one-r.auto.code ∙ c.loop-i.invariant.3,
  c.note-e.auto.authors ∙ c.loop-i.invariant.4,
  c.note-e.auto.conds ∙ c.loop-i.invariant.5,
  c.note-e.auto.ends ∙ c.loop-i.invariant.6,
  c.note-e.auto.page ∙ c.loop-i.invariant.7,
  each_more _ _ _ _ _ _ _ _ _ _ _ _ _ _ c.loop-i.invariant.8 c.loop-i-test.true _ refl _ c.counted_at-n.ensures _ c.is_full.ensures c.if-is_full.false _ _ c.read_one-r.ensures _ _ _ _ _ c.note-e.ensures,
  omega (arith, c.loop-i-test.true),
)

pub returns : goal.returns
returns c =
    let e : c.max.result ≡ c.loop-i.i = omega (arith, c.max.ensures, c.loop-i.auto.i, c.loop-i.invariant.9, c.loop-i-test.false) in
    rw e (search each-end)
