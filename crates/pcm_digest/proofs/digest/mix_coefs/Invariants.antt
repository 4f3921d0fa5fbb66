use Rattle.std.proofs.Common.{◌≡◌, drop, map}
use Rattle.pcm_digest.specs.Digests.{mixed_all, signed_number}
use Rattle.pcm_digest.proofs.digest.mix_coefs.Given as goal

-- With those below the index mixed, the others make the digest of all.
abbrev pub invariant-loop-at : goal.invariant-loop-at
invariant-loop-at l = mixed_all l.mixed (map signed_number (drop l.at l.coefs)) ≡ mixed_all l.fn.digest (map signed_number l.fn.coefs)
