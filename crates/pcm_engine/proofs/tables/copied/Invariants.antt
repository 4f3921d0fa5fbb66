use Rattle.std.proofs.Common.{◌≡◌, take}
use Rattle.pcm_engine.proofs.tables.copied.Given as goal

-- The filters below the index were copied.
abbrev pub invariant-loop-table : goal.invariant-loop-table
invariant-loop-table l = record {
  copied : l.list.items ≡ take l.table-index l.tables.list;
}
