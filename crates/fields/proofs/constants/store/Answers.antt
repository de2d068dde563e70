use Rattle.fields.specs.Working.Setting.{put-room, store-done, store-full, store-none}
use borrow.Author.Rules.{rules}
use Rattle.fields.proofs.constants.store.Goals as goal

pub returns-then-put_literal : goal.returns-then-put_literal
returns-then-put_literal c = let w = c.in_ok-named.was {u = tt} in search (store-done, w)

pub returns-in_err-named : goal.returns-in_err-named
returns-in_err-named c = let w = c.in_err-named.was {u = tt} in rw c.from_residual.ensures (search (store-full, w))

pub returns : goal.returns
returns c = let w = c.in_ok-named.was {u = tt} in search (store-none, w)

pub overflow_add-result : goal.overflow_add-result
overflow_add-result c = let w = put-room _ _ _ _ _ c.put_literal.ensures c.if-put_literal.true in search rules

pub overflow_add-result-then-put_literal : goal.overflow_add-result-then-put_literal
overflow_add-result-then-put_literal c = let w = put-room _ _ _ _ _ c.put_literal.ensures c.if-put_literal.true in search rules
