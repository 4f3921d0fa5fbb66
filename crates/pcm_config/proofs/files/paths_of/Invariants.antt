use Rattle.std.proofs.Common.{◌≡◌}
use Rattle.pcm_config.proofs.Entries.{files_seen}
use Rattle.pcm_config.proofs.Arrays.{joined}
use Rattle.pcm_config.proofs.files.paths_of.Given as goal

abbrev pub invariant-loop-name : goal.invariant-loop-name
invariant-loop-name l = joined l.files.items (files_seen l.name-iterator) ≡ files_seen l.table.entries
