use Rattle.std.proofs.Common.{arith, rules}
use Rattle.pcm_config.proofs.EachTable.{all-refused, table-more}
use Rattle.pcm_config.proofs.tables.each_of.Goals as goal

pub returns-in_err-entry_of : goal.returns-in_err-entry_of
returns-in_err-entry_of g c =
    let refused =
    all-refused g.T.Entry.read c.args.tables.now c.loop-table.table-index c.loop-table.entries.items c.table-item.result
    c.in_err-entry_of.field-0.0
    (omega arith) c.table-item.is c.in_err-entry_of.ensures c.loop-table.invariant in
    search (rules, refused)

pub loop-table-preserved : goal.loop-table-preserved
loop-table-preserved g c =
    rw c.in_ok-push.ensures.items
    (table-more g.T.Entry.read c.args.tables.now c.loop-table.table-index c.loop-table.entries.items c.table-item.result
    c.in_ok-entry_of.field-0
    (omega arith) c.table-item.is c.in_ok-entry_of.ensures c.loop-table.invariant)
