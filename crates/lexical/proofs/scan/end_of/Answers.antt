use Rattle.std.proofs.Common.{◌≡◌, get_or, arith}
use Rattle.text.specs.Scan.{scan, scan-stop, scan-end}
use Rattle.lexical.proofs.scan.end_of.Goals as goal
use Rattle.lexical.proofs.scan.end_of.Goals.{then-loop-i-test+else-passes, else-loop-i-test}

pub loop-i-preserved : goal.loop-i-preserved
loop-i-preserved g c = λ p t.
    let inv = c.loop-i.invariant p t in
    let e : c.passes.result ≡ p (get_or c.args.s.now c.loop-i.i 0) = t.same _ _ (c.type_inv.s c.loop-i.i).fits c.passes.ensures in
    grind (arith, scan)

pub returns : goal.returns
returns g c = λ p t.
    let inv = c.loop-i.invariant p t in
    elim c.loop-i-test.branch [
      | then-loop-i-test+else-passes w ↦
          let e : w.passes.result ≡ p (get_or c.args.s.now c.loop-i.i 0) = t.same _ _ (c.type_inv.s c.loop-i.i).fits w.passes.ensures in
          scan-stop p _ _ _ _ e w.if-passes.false (omega arith) inv
      | else-loop-i-test w ↦ scan-end p _ _ _ (omega arith) inv
    ]
