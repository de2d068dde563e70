use Rattle.std.proofs.Common.{rules, arith, ◌≡◌, ◌<◌, ◌*◌, ◌/◌, length, sym}
use Rattle.orders.specs.Working.Blocks.{block-is, blocks-unlike, blocks-like, blocks_done}
use Rattle.orders.proofs.behind_blocks.Goals as goal

-- Block k of either is a part of it, so the parts in front of it grow by one block a turn; what is behind all of them decides the rest.
pub as_chunks-requires : goal.as_chunks-requires
as_chunks-requires g c = (omega (arith, c.requires), c.requires.0)

pub as_chunks-requires-2 : goal.as_chunks-requires-2
as_chunks-requires-2 g c = (omega (arith, c.requires), c.requires.0)

pub loop-k-init : goal.loop-k-init
loop-k-init g c = search rules

pub returns-then-ne : goal.returns-then-ne
returns-then-ne g c =
    let k : c.loop-k.k < length c.args.a.now / g.row.N = omega (arith, c.as_chunks.ensures.front_len, c.loop-k-test.true) in
    let l : c.loop-k.k < length c.args.b.now / g.row.N = rw c.requires.2 at k in
    blocks-unlike _ _ g.row.N c.loop-k.k _ _
    (block-is g.row.N (length c.args.a.now / g.row.N) c.loop-k.k _ _ _ c.as_chunks.ensures.front k c.index-these-k.is)
    (block-is g.row.N (length c.args.b.now / g.row.N) c.loop-k.k _ _ _ c.as_chunks-2.ensures.front l c.index-those-k.is)
    _ c.ne.ensures c.if-ne.true

pub loop-k-preserved : goal.loop-k-preserved
loop-k-preserved g c =
    let k : c.loop-k.k < length c.args.a.now / g.row.N = omega (arith, c.as_chunks.ensures.front_len, c.loop-k-test.true) in
    let l : c.loop-k.k < length c.args.b.now / g.row.N = rw c.requires.2 at k in
    blocks-like _ _ g.row.N c.loop-k.k _ _
    (block-is g.row.N (length c.args.a.now / g.row.N) c.loop-k.k _ _ _ c.as_chunks.ensures.front k c.index-these-k.is)
    (block-is g.row.N (length c.args.b.now / g.row.N) c.loop-k.k _ _ _ c.as_chunks-2.ensures.front l c.index-those-k.is)
    _ c.ne.ensures c.if-ne.false c.loop-k.invariant

pub returns : goal.returns
returns g c =
    let e : c.loop-k.k ≡ length c.args.a.now / g.row.N = omega (arith, c.as_chunks.ensures.front_len, c.loop-k-test.false, c.loop-k.auto.k-end) in (
      blocks_done c.args.a.now c.args.b.now (length c.args.a.now / g.row.N * g.row.N) _ _ (rw e at c.loop-k.invariant) c.as_chunks.ensures.back
          (rw (sym c.requires.2) at c.as_chunks-2.ensures.back),
      c.as_chunks.ensures.back_len,
      rw (sym c.requires.2) at c.as_chunks-2.ensures.back_len,
    )
