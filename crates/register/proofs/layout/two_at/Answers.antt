use Rattle.std.proofs.Common.{arith, ◌+◌}
use Rattle.register.specs.Working.Bytes.{two-read}
use Rattle.register.proofs.layout.two_at.Goals as goal

pub returns : goal.returns
returns c =
    let p = (c.type_inv.s c.args.at).fits in
    let q = (c.type_inv.s (c.args.at + 1)).fits in (search two-read, omega (arith, p, q, c.from.ensures, c.from-2.ensures))
