-- A sample is a value and its one spelling as bytes. Inside a chain it has 32 bits.
use Rattle.std.specs.Prelude.{◌≡◌, ◌<◌, All, ℕ, zero, suc, ◌+◌, ◌-◌, ◌*◌, ◌/◌, ◌%◌, ◌^◌, Bool, true, false, List, [], ◌∷◌, reverse, take, drop, length, map, nat_lt, if◌then◌else◌, ℤ, pos, negsuc, ◌+ℤ◌, ◌-ℤ◌, ◌*ℤ◌}
use Rattle.std.specs.List.{range_with_len}
use Rattle.pcm_num.specs.Floor.{floor_div}
use Rattle.pcm_format.specs.declared.format.Format.{Format}
use Rattle.pcm_format.specs.Formats.{bits_of, bytes_of, is_big_endian, is_signed}

-- the number that bytes spell, the lowest byte first
abbrev pub number_of : List ℕ → ℕ
number_of [] = 0
number_of (byte ∷ bytes) = byte + 256 * number_of bytes

-- the lowest `count` bytes of a number, the lowest byte first
abbrev pub low_bytes : ℕ → ℕ → List ℕ
low_bytes zero number = []
low_bytes (suc count) number = number % 256 ∷ low_bytes count (number / 256)

-- bytes in the format's order, from the lowest byte first or back to it
abbrev pub in_order : Format → List ℕ → List ℕ
in_order format bytes = if is_big_endian format then reverse bytes else bytes

-- half of the values of a sample: the midpoint of the unsigned range
abbrev pub half_of : Format → ℕ
half_of format = 2 ^ (bits_of format - 1)

-- what a number stands for: two's complement, or the distance from the midpoint
abbrev pub value_of : Bool → ℕ → ℕ → ℤ
value_of true half number = if nat_lt number half then pos number else negsuc (2 * half - 1 - number)
value_of false half number = pos number -ℤ pos half

-- as many bytes as a sample has
pub record IsSample (format : Format) (bytes : List ℕ) : Type 0 where
  pub whole : length bytes ≡ bytes_of format
  pub each : All (λ byte. byte < 256) bytes

-- the value of a sample's bytes
abbrev pub sample_value : Format → List ℕ → ℤ
sample_value format bytes = value_of (is_signed format) (half_of format) (number_of (in_order format bytes))

-- the natural number that an integer is, and 0 for a negative one
abbrev pub natural : ℤ → ℕ
natural (pos number) = number
natural (negsuc _) = 0

-- the number that stands for a value
abbrev pub number_for : Bool → ℕ → ℤ → ℕ
number_for true half (pos number) = number
number_for true half (negsuc number) = 2 * half - 1 - number
number_for false half value = natural (value +ℤ pos half)

-- the bytes that spell a value
abbrev pub spelled : Format → ℤ → List ℕ
spelled format value = in_order format (low_bytes (bytes_of format) (number_for (is_signed format) (half_of format) value))

-- what one step of a sample of these bits is at 32 bits
abbrev pub scale_of : ℕ → ℕ
scale_of bits = 2 ^ (32 - bits)

-- a sample of `bits` bits at 32
abbrev pub at_full : ℕ → ℤ → ℤ
at_full bits sample = sample *ℤ pos (scale_of bits)

-- a sample's bytes at 32 bits
abbrev pub loaded : Format → List ℕ → ℤ
loaded format bytes = at_full (bits_of format) (sample_value format bytes)

-- a sample of 32 bits at fewer bits, rounded down
abbrev pub at_depth : ℕ → ℤ → ℤ
at_depth bits sample = floor_div sample (scale_of bits)

-- the bytes that store a sample of 32 bits
abbrev pub stored : Format → ℤ → List ℕ
stored format sample = spelled format (at_depth (bits_of format) sample)

-- sample i of bytes that hold samples one after another
abbrev pub sample_at : Format → List ℕ → ℕ → ℤ
sample_at format bytes i = loaded format (take (bytes_of format) (drop (i * bytes_of format) bytes))

-- all whole samples of bytes, at 32 bits
abbrev pub samples : Format → List ℕ → List ℤ
samples format bytes = map (sample_at format bytes) (range_with_len 0 (length bytes / bytes_of format))
