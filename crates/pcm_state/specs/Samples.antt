-- Samples of 32 bits as bytes: four for each, the lowest first.
use Rattle.std.specs.Prelude.{ℕ, ◌+◌, ◌*◌, ℤ, pos, negsuc, List}
use Rattle.std.specs.List.{flat_map}
use Rattle.pcm_state.specs.Numbers.{digits}

-- a sample as a number: the even ones for those from 0 on, the odd ones for those below
abbrev pub sample_number : ℤ → ℕ
sample_number (pos n) = 2 * n
sample_number (negsuc n) = 2 * n + 1

-- the bytes of a sample
abbrev pub spelled_sample : ℤ → List ℕ
spelled_sample sample = digits 3 (sample_number sample)

-- the bytes of samples, one after another
abbrev pub sample_bytes : List ℤ → List ℕ
sample_bytes = flat_map spelled_sample
