-- Numbers and samples are known by their bytes.
use Rattle.std.proofs.Common.{◌≡◌, ℕ, zero, suc, ◌+◌, ◌*◌, ◌/◌, ◌%◌, ◌<◌, ◌^◌, ℤ, pos, negsuc, List, [], ◌∷◌, length, lit<, w32, w64, refl, sym, ap, ◌∙◌, arith}
use Rattle.std.specs.List.{All}
use Rattle.std.proofs.lemmas.List.Elements.{All-head, All-tail}
use Rattle.std.specs.Int.{to_le_bytes}
use Rattle.pcm_format.specs.Samples.{number_of}
use Rattle.pcm_state.specs.Numbers.{digits, spelled_number, spelled_numbers}
use Rattle.pcm_state.specs.Samples.{sample_number, sample_bytes, spelled_sample}
use Rattle.pcm_state.proofs.Pieces.{length-pieces, pieces-known}

-- ---- digits

pub length-digits : (count number : ℕ) → length (digits count number) ≡ count + 1
length-digits zero number = refl
length-digits (suc count) number = omega (arith, length-digits count (number / 256))

number_of-digits : (count number : ℕ) → number_of (digits count number) ≡ number
number_of-digits zero number = omega arith
number_of-digits (suc count) number = omega (arith, number_of-digits count (number / 256))

digits-known : (count one other : ℕ) → digits count one ≡ digits count other → one ≡ other
digits-known count one other same = sym (number_of-digits count one) ∙ ap number_of same ∙ number_of-digits count other

-- bytes are the digits of the number that they are
pub digits-number_of : (count : ℕ) (bytes : List ℕ) → length bytes ≡ count + 1 → All (λ byte. byte < 256) bytes → digits count (number_of bytes) ≡ bytes
digits-number_of count [] long below = absurd (omega (arith, long))
digits-number_of zero (byte ∷ []) long below = let same : byte + 256 * 0 ≡ byte = omega arith in ap (λ b. b ∷ []) same
digits-number_of zero (byte ∷ more ∷ bytes) long below = absurd (omega (arith, long))
digits-number_of (suc count) (byte ∷ bytes) long below =
    let small = All-head (λ b. b < 256) byte bytes below in
    let number = byte + 256 * number_of bytes in
    let low : number % 256 ≡ byte = omega (arith, small) in
    let high : number / 256 ≡ number_of bytes = omega (arith, small) in
    ap (λ b. b ∷ digits count (number / 256)) low ∙ ap (λ n. byte ∷ digits count n) high
    ∙ ap (λ rest. byte ∷ rest) (digits-number_of count bytes (omega (arith, long)) (All-tail (λ b. b < 256) byte bytes below))

-- the eight bytes of a number of 64 bits, and the four of one of 32, are its digits: the last one is all that is left
pub digits-eight : (n : ℕ) → n < 2 ^ 64 → to_le_bytes w64 n ≡ digits 7 n
digits-eight n small =
    let third : n / 65536 % 256 ≡ n / 256 / 256 % 256 = omega arith in
    let fourth : n / 16777216 % 256 ≡ n / 256 / 256 / 256 % 256 = omega arith in
    let fifth : n / 4294967296 % 256 ≡ n / 256 / 256 / 256 / 256 % 256 = omega arith in
    let sixth : n / 1099511627776 % 256 ≡ n / 256 / 256 / 256 / 256 / 256 % 256 = omega arith in
    let seventh : n / 281474976710656 % 256 ≡ n / 256 / 256 / 256 / 256 / 256 / 256 % 256 = omega arith in
    let last : n / 72057594037927936 % 256 ≡ n / 256 / 256 / 256 / 256 / 256 / 256 / 256 = omega (arith, small) in
    rw (third, fourth, fifth, sixth, seventh, last) refl

pub digits-four : (n : ℕ) → n < 2 ^ 32 → to_le_bytes w32 n ≡ digits 3 n
digits-four n small =
    let third : n / 65536 % 256 ≡ n / 256 / 256 % 256 = omega arith in
    let last : n / 16777216 % 256 ≡ n / 256 / 256 / 256 = omega (arith, small) in
    rw (third, last) refl

-- ---- numbers

pub length-numbers : (numbers : List ℕ) → length (spelled_numbers numbers) ≡ 8 * length numbers
length-numbers = length-pieces spelled_number 8 (length-digits 7)

pub numbers-known : (one other : List ℕ) → spelled_numbers one ≡ spelled_numbers other → one ≡ other
numbers-known = pieces-known spelled_number 8 (lit< tt) (length-digits 7) (digits-known 7)

-- ---- samples

sample_number-known : (one other : ℤ) → sample_number one ≡ sample_number other → one ≡ other
sample_number-known (pos m) (pos n) same = ap pos (omega (arith, same))
sample_number-known (pos m) (negsuc n) same = absurd (omega (arith, same))
sample_number-known (negsuc m) (pos n) same = absurd (omega (arith, same))
sample_number-known (negsuc m) (negsuc n) same = ap negsuc (omega (arith, same))

pub length-sample : (sample : ℤ) → length (spelled_sample sample) ≡ 4
length-sample sample = length-digits 3 (sample_number sample)

pub length-samples : (samples : List ℤ) → length (sample_bytes samples) ≡ 4 * length samples
length-samples = length-pieces spelled_sample 4 length-sample

pub samples-known : (one other : List ℤ) → sample_bytes one ≡ sample_bytes other → one ≡ other
samples-known = pieces-known spelled_sample 4 (lit< tt) length-sample
    (λ one other same. sample_number-known one other (digits-known 3 (sample_number one) (sample_number other) same))
