use Rattle.std.proofs.lemmas.Result.{err_from_is_err_and}
use Rattle.conditions.proofs.ProgramWays.{clause-0, clause-aside, clause-found, tested-0, tested-value, tested-plain, tested-not, value-0, value-nested, value-aside, value_found, nested-0, nested-full, nested-aside, nested-found, program-0, program-made, clauses-0, clauses-start, clauses-stop, clauses-aside, clauses-stuck, clauses-more, clauses-end}
use borrow.Author.Rules.{rules}
use Rattle.conditions.proofs.program.+clause_clauses_nested_program_tested_value.Goals as goal

pub clause-returns-then-d-eq0 : goal.clause-returns-then-d-eq0
clause-returns-then-d-eq0 t c = search clause-0

pub clause-returns : goal.clause-returns
clause-returns t c = let w = c.in_ok-q.was {u = tt} in search (clause-found, w)

pub clause-returns-in_err-q : goal.clause-returns-in_err-q
clause-returns-in_err-q t c =
    let p = err_from_is_err_and c.from_residual.result c.from_residual.ensures.1 in
    let w = c.in_err-q.was {u = tt} in rw (p.1, p.2) (search (clause-aside, w))

pub clauses-returns-then-d-eq0 : goal.clauses-returns-then-d-eq0
clauses-returns-then-d-eq0 t c = search clauses-0

pub clauses-loop-t-init : goal.clauses-loop-t-init
clauses-loop-t-init t c = (search rules, search clauses-start)

pub clauses-returns-then-is_stop : goal.clauses-returns-then-is_stop
clauses-returns-then-is_stop t c = search clauses-stop

pub clauses-returns-then-q-t : goal.clauses-returns-then-q-t
clauses-returns-then-q-t t c = let w = c.in_ok-q.was {u = tt} in search (clauses-stuck, w)

pub clauses-returns-in_err-q : goal.clauses-returns-in_err-q
clauses-returns-in_err-q t c =
    let p = err_from_is_err_and c.from_residual.result c.from_residual.ensures.1 in
    let w = c.in_err-q.was {u = tt} in rw (p.1, p.2) (search (clauses-aside, w))

pub clauses-loop-t-preserved : goal.clauses-loop-t-preserved
clauses-loop-t-preserved t c = let w = c.in_ok-q.was {u = tt} in (search rules, search (clauses-more, w))

pub clauses-returns : goal.clauses-returns
clauses-returns t c = search clauses-end

pub nested-returns-then-d-eq0 : goal.nested-returns-then-d-eq0
nested-returns-then-d-eq0 t c = search nested-0

pub nested-returns-then-nest-ge-MOST_BRACKETS : goal.nested-returns-then-nest-ge-MOST_BRACKETS
nested-returns-then-nest-ge-MOST_BRACKETS t c = search nested-full

pub nested-returns : goal.nested-returns
nested-returns t c = let w = c.in_ok-q.was {u = tt} in search (nested-found, w)

pub nested-returns-in_err-q : goal.nested-returns-in_err-q
nested-returns-in_err-q t c =
    let p = err_from_is_err_and c.from_residual.result c.from_residual.ensures.1 in
    let w = c.in_err-q.was {u = tt} in rw (p.1, p.2) (search (nested-aside, w))

pub program-returns-then-d-eq0 : goal.program-returns-then-d-eq0
program-returns-then-d-eq0 t c = search program-0

pub program-returns : goal.program-returns
program-returns t c = search program-made

pub tested-returns-then-d-eq0 : goal.tested-returns-then-d-eq0
tested-returns-then-d-eq0 t c = search tested-0

pub tested-returns-then-t-eq-ARROW : goal.tested-returns-then-t-eq-ARROW
tested-returns-then-t-eq-ARROW t c = search tested-value

pub tested-returns-then-is_fit : goal.tested-returns-then-is_fit
tested-returns-then-is_fit t c = search tested-plain

pub tested-returns : goal.tested-returns
tested-returns t c = search tested-not

pub value-returns-then-d-eq0 : goal.value-returns-then-d-eq0
value-returns-then-d-eq0 t c = search value-0

pub value-returns-then-t-eq-OPEN_BRACE : goal.value-returns-then-t-eq-OPEN_BRACE
value-returns-then-t-eq-OPEN_BRACE t c = search value-nested

pub value-returns : goal.value-returns
value-returns t c = let w = c.in_ok-q.was {u = tt} in search (value_found, w)

pub value-returns-in_err-q : goal.value-returns-in_err-q
value-returns-in_err-q t c =
    let p = err_from_is_err_and c.from_residual.result c.from_residual.ensures.1 in
    let w = c.in_err-q.was {u = tt} in rw (p.1, p.2) (search (value-aside, w))
