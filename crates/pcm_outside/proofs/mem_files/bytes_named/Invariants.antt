use Rattle.std.proofs.Common.{◌≡◌, drop}
use Rattle.pcm_outside.specs.Folder.{bytes_named}
use Rattle.pcm_outside.proofs.mem_files.bytes_named.Given as goal

-- what is left to search has the name's content, if any entry has it
abbrev pub invariant-loop-held : goal.invariant-loop-held
invariant-loop-held l = bytes_named (drop l.held-index l.added) l.name ≡ bytes_named l.added l.name
