use Rattle.index.specs.Working.Adding.{append-table, append-now, append-none, append-fits}
use borrow.Author.Rules.{rules}
use Rattle.index.proofs.append.Goals as goal

pub returns-then-places-index : goal.returns-then-places-index
returns-then-places-index c = search append-table

pub overflow_add-places : goal.overflow_add-places
overflow_add-places c = let w = append-fits _ c.args.places.now _ _ _ c.if-places-index.false _ _ c.put_counted.ensures c.if-put_counted.true in search rules

pub overflow_add-result-then-put_counted : goal.overflow_add-result-then-put_counted
overflow_add-result-then-put_counted c = let w = append-fits _ c.args.places.now _ _ _ c.if-places-index.false _ _ c.put_counted.ensures c.if-put_counted.true in search rules

pub overflow_add-result-then-put_counted-2 : goal.overflow_add-result-then-put_counted-2
overflow_add-result-then-put_counted-2 c = let w = append-fits _ c.args.places.now _ _ _ c.if-places-index.false _ _ c.put_counted.ensures c.if-put_counted.true in search rules

pub returns-then-put_counted : goal.returns-then-put_counted
returns-then-put_counted c = search append-now

pub returns : goal.returns
returns c = search append-none
