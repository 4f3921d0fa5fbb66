-- Samples at the edges of their formats, as hexadecimal digits.
use Rattle.std.specs.Prelude.{ℕ, ◌-◌, ◌^◌, List, [], ◌∷◌, ℤ, pos, negsuc}
use Rattle.std.specs.List.{flat_map}
use Rattle.hex.specs.Hex.{encode_lower}
use Rattle.pcm_format.specs.declared.format.Format.{Format}
use Rattle.pcm_format.specs.Formats.{bits_of}
use Rattle.pcm_format.specs.Samples.{spelled, samples, stored}

-- the least value and the next, one below silence, silence, one above it, and the greatest value and the one before
abbrev pub edges_of : ℕ → List ℤ
edges_of bits = let half : ℕ = 2 ^ (bits - 1) in
    negsuc (half - 1) ∷ negsuc (half - 2) ∷ negsuc 0 ∷ pos 0 ∷ pos 1 ∷ pos (half - 2) ∷ pos (half - 1) ∷ []

-- the digits of these values in a format
abbrev pub edges_in : Format → List ℕ
edges_in format = encode_lower (flat_map (spelled format) (edges_of (bits_of format)))

-- the bytes of one format in another
abbrev pub carried : Format → Format → List ℕ → List ℕ
carried from to bytes = flat_map (stored to) (samples from bytes)
