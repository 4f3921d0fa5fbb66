-- Numbers are mixed list by list as they are one by one.
use Rattle.std.proofs.Common.{◌≡◌, ℕ, List, [], ◌∷◌, ◌++◌, refl}
use Rattle.pcm_digest.specs.Digests.{mixed_all, digested}

pub mixed-append : (digest : ℕ) (numbers more : List ℕ) → mixed_all digest (numbers ++ more) ≡ mixed_all (mixed_all digest numbers) more
mixed-append digest [] more = refl
mixed-append digest (number ∷ numbers) more = mixed-append (digested digest number) numbers more
