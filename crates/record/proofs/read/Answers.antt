use Rattle.std.proofs.Common.{◌≡◌, rules}
use Rattle.record.proofs.Working.Entry.{read-refused, tabled-refused, read_found, read_table, read-accepted, tabled-accepted}
use Rattle.record.proofs.read.Goals as goal

pub returns-in_err-ends-clause-table_after : goal.returns-in_err-ends-clause-table_after
returns-in_err-ends-clause-table_after c =
    let x : c.from_residual.result ≡ c.record_at.result = search rules in
    rw x (read-refused c.args.s.now c.args.table.now _ _ c.record_at.ensures _ _ (c.in_err-ends.was {u = tt}))

pub returns-in_err-ends-clause-result_value : goal.returns-in_err-ends-clause-result_value
returns-in_err-ends-clause-result_value c =
    let x : c.from_residual.result ≡ c.record_at.result = search rules in
    rw x (tabled-refused c.args.s.now c.args.table.now _ _ c.record_at.ensures _ _ (c.in_err-ends.was {u = tt}))

pub copy_entries-requires : goal.copy_entries-requires
copy_entries-requires c =
    let is = c.in_ok-ends.was {u = tt} in (
      read_found c.args.s.now c.args.table.now c.record_at.result c.record_at.new.table c.record_at.ensures _ _ _ c.in_ok-ends.ends.assertions is,
      read_table c.args.s.now c.args.table.now c.record_at.result c.record_at.new.table c.record_at.ensures _ _ _ c.in_ok-ends.ends.assertions is _ (search rules),
    )

pub returns-clause-table_after : goal.returns-clause-table_after
returns-clause-table_after c =
    let is = c.in_ok-ends.was {u = tt} in
    read-accepted c.args.s.now c.args.table.now c.record_at.result c.record_at.new.table c.record_at.ensures _ _ _ _ is _ c.copy_entries.ensures

pub returns-clause-result_value : goal.returns-clause-result_value
returns-clause-result_value c =
    let is = c.in_ok-ends.was {u = tt} in
    tabled-accepted c.args.s.now c.args.table.now c.record_at.result c.record_at.new.table c.record_at.ensures _ _ _ _ is
