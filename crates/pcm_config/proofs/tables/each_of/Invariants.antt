use Rattle.pcm_config.proofs.EachTable.{AreRead}
use Rattle.pcm_config.proofs.tables.each_of.Given as goal

abbrev pub invariant-loop-table : goal.invariant-loop-table
invariant-loop-table g l = AreRead g.T.Entry.read l.tables l.table-index l.entries.items
