use Rattle.std.proofs.Common.{◌≡◌, drop}
use Rattle.pcm_digest.specs.Digests.{mixed_all}
use Rattle.pcm_digest.proofs.digest.mixed_all.Given as goal

-- With those below the index mixed, the others make the digest of all.
abbrev pub invariant-loop-at : goal.invariant-loop-at
invariant-loop-at l = mixed_all l.mixed (drop l.at l.numbers) ≡ mixed_all l.fn.digest l.fn.numbers
