-- The sample formats: names, codes, bits, bytes, order of the bytes, and sign.
use Rattle.std.specs.Prelude.{ℕ, ◌*◌, Bool, true, false, List, [], ◌∷◌, Option, codes, find, ◌==◌}
use Rattle.std.specs.Str.{bytes_eq}
use Rattle.pcm_format.specs.declared.format.Format.{Format}
use Rattle.pcm_format.specs.declared.format.Format.TheVariants.{U8, S8, S16Le, S16Be, U16Le, U16Be, S24Le, S24Be, U24Le, U24Be, S32Le, S32Be, U32Le, U32Be}

-- all formats, in the order of the table
abbrev pub all_formats : List Format
all_formats = U8 ∷ S8 ∷ S16Le ∷ S16Be ∷ U16Le ∷ U16Be ∷ S24Le ∷ S24Be ∷ U24Le ∷ U24Be ∷ S32Le ∷ S32Be ∷ U32Le ∷ U32Be ∷ []

-- the word that names a format
abbrev pub name_of : Format → List ℕ
name_of U8 = codes "u8"
name_of S8 = codes "s8"
name_of S16Le = codes "s16le"
name_of S16Be = codes "s16be"
name_of U16Le = codes "u16le"
name_of U16Be = codes "u16be"
name_of S24Le = codes "s24le"
name_of S24Be = codes "s24be"
name_of U24Le = codes "u24le"
name_of U24Be = codes "u24be"
name_of S32Le = codes "s32le"
name_of S32Be = codes "s32be"
name_of U32Le = codes "u32le"
name_of U32Be = codes "u32be"

-- the number that stands for a format in a request
abbrev pub code_of : Format → ℕ
code_of U8 = 0x8
code_of S8 = 0x40
code_of S16Le = 0x10
code_of S16Be = 0x20
code_of U16Le = 0x80
code_of U16Be = 0x100
code_of S24Le = 0x10000
code_of S24Be = 0x20000
code_of U24Le = 0x40000
code_of U24Be = 0x80000
code_of S32Le = 0x1000
code_of S32Be = 0x2000
code_of U32Le = 0x4000
code_of U32Be = 0x8000

-- the bytes of a sample
abbrev pub bytes_of : Format → ℕ
bytes_of U8 = 1
bytes_of S8 = 1
bytes_of S16Le = 2
bytes_of S16Be = 2
bytes_of U16Le = 2
bytes_of U16Be = 2
bytes_of S24Le = 3
bytes_of S24Be = 3
bytes_of U24Le = 3
bytes_of U24Be = 3
bytes_of S32Le = 4
bytes_of S32Be = 4
bytes_of U32Le = 4
bytes_of U32Be = 4

-- whether the highest byte comes first
abbrev pub is_big_endian : Format → Bool
is_big_endian U8 = false
is_big_endian S8 = false
is_big_endian S16Le = false
is_big_endian S16Be = true
is_big_endian U16Le = false
is_big_endian U16Be = true
is_big_endian S24Le = false
is_big_endian S24Be = true
is_big_endian U24Le = false
is_big_endian U24Be = true
is_big_endian S32Le = false
is_big_endian S32Be = true
is_big_endian U32Le = false
is_big_endian U32Be = true

-- whether the value is the two's complement number; else the midpoint of the range is silence
abbrev pub is_signed : Format → Bool
is_signed U8 = false
is_signed S8 = true
is_signed S16Le = true
is_signed S16Be = true
is_signed U16Le = false
is_signed U16Be = false
is_signed S24Le = true
is_signed S24Be = true
is_signed U24Le = false
is_signed U24Be = false
is_signed S32Le = true
is_signed S32Be = true
is_signed U32Le = false
is_signed U32Be = false

-- the bits of a sample, which fill its bytes
abbrev pub bits_of : Format → ℕ
bits_of format = 8 * bytes_of format

-- the format that a word names
abbrev pub format_named : List ℕ → Option Format
format_named word = find (λ format. bytes_eq (name_of format) word) all_formats

-- the format that has a code
abbrev pub format_with_code : ℕ → Option Format
format_with_code code = find (λ format. code_of format == code) all_formats
