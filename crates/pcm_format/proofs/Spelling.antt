-- Each value of a format's range has one spelling. Proved by width, order and sign, not format by format.
use Rattle.std.proofs.Common.{◌≡◌, ℕ, zero, suc, ◌+◌, ◌*◌, ◌-◌, ◌/◌, ◌%◌, ◌^◌, ◌<◌, ◌≤◌, Bool, true, false, List, [], ◌∷◌, length, reverse, ℤ, pos, negsuc, ◌+ℤ◌, ◌-ℤ◌, ◌*ℤ◌, ◌≤ℤ◌, cond, arith, ap, refl, sym, subst, ◌∙◌, lit<, lit≤}
use Rattle.std.specs.List.{All, flat_map}
use Rattle.std.proofs.Math.Nat.{pow-suc, zero-mul, zero-div}
use Rattle.std.proofs.lemmas.Nat.{div_below, pow_pos, pow-add}
use Rattle.std.proofs.lemmas.Bool.{lt-ltb, le-ltb}
use Rattle.std.proofs.lemmas.Bool.Decides.{nat_tests}
use Rattle.std.proofs.lemmas.Int.{ints}
use Rattle.std.proofs.lemmas.List.{length-reverse, reverse-reverse, get_or-reverse, length-append}
use Rattle.std.proofs.lemmas.List.Elements.{All-nil, All-cons, All-head, All-tail}
use Rattle.pcm_num.specs.Limit.{FitsBits}
use Rattle.pcm_num.proofs.Floors.{floor_div-mul_pow}
use Rattle.pcm_format.specs.declared.format.Format.{Format}
use Rattle.pcm_format.specs.declared.format.Format.TheVariants.{U8}
use Rattle.pcm_format.specs.Formats.{bits_of, bytes_of, is_big_endian, is_signed}
use Rattle.pcm_format.specs.Samples.{number_of, low_bytes, in_order, half_of, value_of, sample_value, natural, number_for, spelled, scale_of, loaded, at_depth, stored}
use Rattle.pcm_format.proofs.Streams.{bytes_of-above}

-- ---- numbers and their bytes, the lowest byte first

-- as many bytes as were asked for
pub length-low_bytes : (count number : ℕ) → length (low_bytes count number) ≡ count
length-low_bytes zero number = refl
length-low_bytes (suc count) number = ap suc (length-low_bytes count (number / 256))

-- each below 256
pub low_bytes-below : (count number : ℕ) → All (λ byte. byte < 256) (low_bytes count number)
low_bytes-below zero number = All-nil (λ byte. byte < 256)
low_bytes-below (suc count) number = All-cons (λ byte. byte < 256) (number % 256) (low_bytes count (number / 256)) (omega arith) (low_bytes-below count (number / 256))

-- enough bytes spell the whole number
pub number_of-low_bytes : (count number : ℕ) → number < 256 ^ count → number_of (low_bytes count number) ≡ number
number_of-low_bytes zero number below = omega arith
number_of-low_bytes (suc count) number below =
    let rest : number / 256 < 256 ^ count = div_below number 256 (256 ^ count) (lit< tt) (omega (arith, pow-suc 256 count)) in
    omega (arith, number_of-low_bytes count (number / 256) rest)

-- the bytes of the number that bytes spell
pub low_bytes-number_of : (bytes : List ℕ) → All (λ byte. byte < 256) bytes → low_bytes (length bytes) (number_of bytes) ≡ bytes
low_bytes-number_of [] below = refl
low_bytes-number_of (byte ∷ bytes) below =
    let first : byte < 256 = All-head (λ byte. byte < 256) byte bytes below in
    let number = byte + 256 * number_of bytes in
    let low : number % 256 ≡ byte = omega arith in
    let high : number / 256 ≡ number_of bytes = omega arith in
    ap (λ b. b ∷ low_bytes (length bytes) (number / 256)) low ∙ ap (λ n. byte ∷ low_bytes (length bytes) n) high
    ∙ ap (λ rest. byte ∷ rest) (low_bytes-number_of bytes (All-tail (λ byte. byte < 256) byte bytes below))

-- bytes spell no number that needs more of them
pub number_of-below : (bytes : List ℕ) → All (λ byte. byte < 256) bytes → number_of bytes < 256 ^ length bytes
number_of-below [] below = lit< tt
number_of-below (byte ∷ bytes) below =
    let first : byte < 256 = All-head (λ byte. byte < 256) byte bytes below in
    omega (arith, pow-suc 256 (length bytes), number_of-below bytes (All-tail (λ byte. byte < 256) byte bytes below))

-- ---- the order of bytes

-- bytes in one of the two orders
abbrev turned : Bool → List ℕ → List ℕ
turned big bytes = cond big (reverse bytes) bytes

-- turned twice is as before
turned-turned : (big : Bool) (bytes : List ℕ) → turned big (turned big bytes) ≡ bytes
turned-turned true bytes = reverse-reverse bytes
turned-turned false bytes = refl

-- turning keeps the length
length-turned : (big : Bool) (bytes : List ℕ) → length (turned big bytes) ≡ length bytes
length-turned true bytes = length-reverse bytes
length-turned false bytes = refl

-- and bytes stay bytes
turned-below : (big : Bool) (bytes : List ℕ) → All (λ byte. byte < 256) bytes → All (λ byte. byte < 256) (turned big bytes)
turned-below true bytes below = λ k d here.
    let there : k < length bytes = omega (arith, length-reverse bytes) in
    let P : ℕ → Type 0 = λ byte. byte < 256 in
    subst P (sym (get_or-reverse bytes k d there)) (below (length bytes - 1 - k) d (omega arith))
turned-below false bytes below = below

-- ---- values and their numbers

-- the natural number of an integer that isn't negative
natural-pos : (z : ℤ) → pos 0 ≤ℤ z → pos (natural z) ≡ z
natural-pos (pos n) h = refl
natural-pos (negsuc n) h = absurd (omega (arith, ints))

-- the number of a value is the value's again
value_of-number_for : (signed : Bool) (bits : ℕ) (value : ℤ) → FitsBits bits value → value_of signed (2 ^ (bits - 1)) (number_for signed (2 ^ (bits - 1)) value) ≡ value
value_of-number_for true bits (pos number) fits =
    let some : 0 < 2 ^ (bits - 1) = pow_pos (bits - 1) in
    let lower : number < 2 ^ (bits - 1) = omega (arith, ints) in
    rw (lt-ltb number (2 ^ (bits - 1)) lower)
value_of-number_for true bits (negsuc number) fits =
    let some : 0 < 2 ^ (bits - 1) = pow_pos (bits - 1) in
    let lower : number < 2 ^ (bits - 1) = omega (arith, ints) in
    let upper : 2 ^ (bits - 1) ≤ 2 * 2 ^ (bits - 1) - 1 - number = omega arith in
    let back : 2 * 2 ^ (bits - 1) - 1 - (2 * 2 ^ (bits - 1) - 1 - number) ≡ number = omega arith in
    rw (le-ltb (2 * 2 ^ (bits - 1) - 1 - number) (2 ^ (bits - 1)) upper) (ap negsuc back)
value_of-number_for false bits value fits =
    let some : 0 < 2 ^ (bits - 1) = pow_pos (bits - 1) in
    let back : value +ℤ pos (2 ^ (bits - 1)) -ℤ pos (2 ^ (bits - 1)) ≡ value = omega (arith, ints) in
    ap (λ z. z -ℤ pos (2 ^ (bits - 1))) (natural-pos (value +ℤ pos (2 ^ (bits - 1))) (omega (arith, ints))) ∙ back

-- the value of a number has that number
number_for-value_of : (signed : Bool) (bits number : ℕ) → number < 2 * 2 ^ (bits - 1) → number_for signed (2 ^ (bits - 1)) (value_of signed (2 ^ (bits - 1)) number) ≡ number
number_for-value_of true bits number below = grind (arith, nat_tests)
number_for-value_of false bits number below =
    let back : pos number -ℤ pos (2 ^ (bits - 1)) +ℤ pos (2 ^ (bits - 1)) ≡ pos number = omega (arith, ints) in
    ap natural back

-- the value of a number is in the range
value_of-fits : (signed : Bool) (bits number : ℕ) → number < 2 * 2 ^ (bits - 1) → FitsBits bits (value_of signed (2 ^ (bits - 1)) number)
value_of-fits true bits number below = grind (arith, ints, nat_tests)
value_of-fits false bits number below = record { low = omega (arith, ints); high = omega (arith, ints) }

-- the number of a value of the range is no greater
number_for-below : (signed : Bool) (bits : ℕ) (value : ℤ) → FitsBits bits value → number_for signed (2 ^ (bits - 1)) value < 2 * 2 ^ (bits - 1)
number_for-below true bits (pos number) fits = omega (arith, ints, pow_pos (bits - 1))
number_for-below true bits (negsuc number) fits = omega (arith, pow_pos (bits - 1))
number_for-below false bits value fits =
    let some : 0 < 2 ^ (bits - 1) = pow_pos (bits - 1) in
    omega (arith, ints, natural-pos (value +ℤ pos (2 ^ (bits - 1))) (omega (arith, ints)))

-- bytes of eight bits
bytes-as-bits : (count : ℕ) → 256 ^ count ≡ 2 ^ (8 * count)
bytes-as-bits zero = refl
bytes-as-bits (suc count) =
    let more : 8 * count + 8 ≡ 8 * suc count = omega arith in
    pow-suc 256 count ∙ ap (λ n. n * 256) (bytes-as-bits count) ∙ sym (pow-add 2 (8 * count) 8) ∙ ap (λ n. 2 ^ n) more

-- as many numbers as bytes have: two halves
both-halves : (format : Format) → 256 ^ bytes_of format ≡ 2 * half_of format
both-halves format =
    let some : 0 < bytes_of format = bytes_of-above format in
    let bits = 8 * bytes_of format in
    let one_less : bits ≡ suc (bits - 1) = omega arith in
    let twice : 2 ^ bits ≡ 2 ^ (bits - 1) * 2 = ap (λ n. 2 ^ n) one_less ∙ pow-suc 2 (bits - 1) in
    omega (arith, bytes-as-bits (bytes_of format))

-- ---- samples

-- a value of the range is spelled by as many bytes as a sample has
pub length-spelled : (format : Format) (value : ℤ) → length (spelled format value) ≡ bytes_of format
length-spelled format value =
    let bytes = low_bytes (bytes_of format) (number_for (is_signed format) (half_of format) value) in
    length-turned (is_big_endian format) bytes ∙ length-low_bytes (bytes_of format) (number_for (is_signed format) (half_of format) value)

-- what spells samples one after another has the bytes of them all
pub length-flat_map-spelled : (format : Format) (values : List ℤ) → length (flat_map (spelled format) values) ≡ length values * bytes_of format
length-flat_map-spelled format [] = omega arith
length-flat_map-spelled format (value ∷ values) =
    omega (arith, length-append (spelled format value) (flat_map (spelled format) values), length-spelled format value, length-flat_map-spelled format values)

-- it is made of bytes
pub spelled-below : (format : Format) (value : ℤ) → All (λ byte. byte < 256) (spelled format value)
spelled-below format value =
    turned-below (is_big_endian format) (low_bytes (bytes_of format) (number_for (is_signed format) (half_of format) value))
    (low_bytes-below (bytes_of format) (number_for (is_signed format) (half_of format) value))

-- what spells a value has that value
pub sample_value-spelled : (format : Format) (value : ℤ) → FitsBits (bits_of format) value → sample_value format (spelled format value) ≡ value
sample_value-spelled format value fits =
    let s = is_signed format in
    let half = half_of format in
    let number = number_for s half value in
    let below : number < 256 ^ bytes_of format = omega (arith, number_for-below s (bits_of format) value fits, both-halves format) in
    ap (λ bytes. value_of s half (number_of bytes)) (turned-turned (is_big_endian format) (low_bytes (bytes_of format) number))
    ∙ ap (value_of s half) (number_of-low_bytes (bytes_of format) number below)
    ∙ value_of-number_for s (bits_of format) value fits

-- the number that a sample's bytes spell is one of those that have a value
pub number-below : (format : Format) (bytes : List ℕ) → length bytes ≡ bytes_of format → All (λ byte. byte < 256) bytes → number_of (in_order format bytes) < 2 * half_of format
number-below format bytes long below =
    let order = is_big_endian format in
    let high : number_of (turned order bytes) < 256 ^ length (turned order bytes) = number_of-below (turned order bytes) (turned-below order bytes below) in
    let size : 256 ^ length (turned order bytes) ≡ 2 * half_of format = ap (λ n. 256 ^ n) (length-turned order bytes ∙ long) ∙ both-halves format in
    omega arith

-- the value of a sample's bytes is in the range
pub sample_value-fits : (format : Format) (bytes : List ℕ) → length bytes ≡ bytes_of format → All (λ byte. byte < 256) bytes → FitsBits (bits_of format) (sample_value format bytes)
sample_value-fits format bytes long below = value_of-fits (is_signed format) (bits_of format) (number_of (in_order format bytes)) (number-below format bytes long below)

-- and nothing else spells it
pub spelled-sample_value : (format : Format) (bytes : List ℕ) → length bytes ≡ bytes_of format → All (λ byte. byte < 256) bytes → spelled format (sample_value format bytes) ≡ bytes
spelled-sample_value format bytes long below =
    let order = is_big_endian format in
    let low = turned order bytes in
    ap (λ number. turned order (low_bytes (bytes_of format) number)) (number_for-value_of (is_signed format) (bits_of format) (number_of low) (number-below format bytes long below))
    ∙ ap (λ count. turned order (low_bytes count (number_of low))) (sym (length-turned order bytes ∙ long))
    ∙ ap (turned order) (low_bytes-number_of low (turned-below order bytes below))
    ∙ turned-turned order bytes

-- ---- 32 bits

-- the depth of a loaded sample is its value
pub at_depth-loaded : (format : Format) (bytes : List ℕ) → at_depth (bits_of format) (loaded format bytes) ≡ sample_value format bytes
at_depth-loaded format bytes = floor_div-mul_pow (sample_value format bytes) (32 - bits_of format)

-- so what is loaded and stored again is the same bytes
pub stored-loaded : (format : Format) (bytes : List ℕ) → length bytes ≡ bytes_of format → All (λ byte. byte < 256) bytes → stored format (loaded format bytes) ≡ bytes
stored-loaded format bytes long below = ap (spelled format) (at_depth-loaded format bytes) ∙ spelled-sample_value format bytes long below

-- a sample has one to 32 bits
pub bits_of-above : (format : Format) → 1 ≤ bits_of format
bits_of-above format = omega (arith, bytes_of-above format)

-- and no more than 32
pub bits_of-within : (format : Format) → bits_of format ≤ 32
bits_of-within U8 = lit≤ tt
bits_of-within _ = lit≤ tt

-- as many values as 32 bits have, or fewer
pub half_of-within : (format : Format) → 2 * half_of format ≤ 2 ^ 32
half_of-within U8 = lit≤ tt
half_of-within _ = lit≤ tt

-- silence stays silence
pub at_depth-silence : (bits : ℕ) → at_depth bits (pos 0) ≡ pos 0
at_depth-silence bits = ap pos (zero-div (scale_of bits))

-- silence is in each range
pub silence-fits : (bits : ℕ) → FitsBits bits (pos 0)
silence-fits bits = record { low = omega (arith, ints); high = omega (arith, ints) }

-- what spells silence has its value
pub sample_value-silence : (format : Format) → sample_value format (spelled format (pos 0)) ≡ pos 0
sample_value-silence format = sample_value-spelled format (pos 0) (silence-fits (bits_of format))

-- and is silence at 32 bits
pub loaded-silence : (format : Format) → loaded format (stored format (pos 0)) ≡ pos 0
loaded-silence format =
    let scale = scale_of (bits_of format) in
    ap (λ value. sample_value format (spelled format value) *ℤ pos scale) (at_depth-silence (bits_of format))
    ∙ ap (λ value. value *ℤ pos scale) (sample_value-silence format) ∙ ap pos (zero-mul scale)
