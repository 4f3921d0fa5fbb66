use Rattle.std.proofs.Common.{◌≡◌, List, ℕ, ◌++◌, length}
use Rattle.std.specs.Io.KnownBytes.{Appends}
use Rattle.pcm_outside.proofs.transfer.write_whole.Given as goal

-- what is gone from the piece was written
abbrev pub invariant-loop-rest : goal.invariant-loop-rest
invariant-loop-rest g l = (done : List ℕ) × (l.piece ≡ done ++ l.rest) × Appends (g.W.Write.contents l.fn.to) (g.W.Write.contents l.to) done

abbrev pub decreases-loop-rest : goal.decreases-loop-rest
decreases-loop-rest g l = length l.rest
