use Rattle.std.proofs.Common.{◌≡◌, drop}
use Rattle.std.specs.List.{flat_map}
use Rattle.pcm_digest.specs.Digests.{mixed_all, table_numbers}
use Rattle.pcm_digest.proofs.digest.mix_tables.Given as goal

-- With those below the index mixed, the others make the digest of all.
abbrev pub invariant-loop-at : goal.invariant-loop-at
invariant-loop-at l = mixed_all l.mixed (flat_map table_numbers (drop l.at l.list)) ≡ mixed_all l.fn.digest (flat_map table_numbers l.fn.list)
