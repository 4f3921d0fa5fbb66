-- What is written before a body is read back.
use Rattle.std.proofs.Common.{◌≡◌, ℕ, ◌+◌, ◌-◌, ◌%◌, ◌≤◌, true, false, nat_le, nat_eq, ◌&&◌, ◌||◌, cond, List, ◌++◌, length, take, drop, min, Some, None, Ok, Err, inl, inr, arith, codes, refl, sym, ap, ◌∙◌, subst, eq-eqb}
use Rattle.std.proofs.lemmas.Bool.Decides.{nat_tests}
use Rattle.std.proofs.lemmas.List.{length-append, take_at}
use Rattle.pcm_format.specs.declared.format.Format.{Format}
use Rattle.pcm_format.specs.declared.layout.Layout.{Layout}
use Rattle.pcm_format.specs.declared.layout.Layout.TheVariants.{One, Two, Four, Six, Eight}
use Rattle.pcm_format.specs.declared.settings.Settings.{Settings}
use Rattle.pcm_format.specs.declared.settings.TheConstants.{RATE_LEAST, RATE_MOST}
use Rattle.pcm_format.specs.Formats.{bits_of}
use Rattle.pcm_format.specs.Frames.{frame_bytes}
use Rattle.pcm_format.specs.Layouts.{channels_of, layout_of}
use Rattle.pcm_format.proofs.Spelling.{number_of-low_bytes, bits_of-within}
use Rattle.pcm_format.proofs.Streams.{channels_of-most, frame_bytes-most}
use Rattle.pcm_wave.specs.declared.wave.WaveFault.TheVariants.{NotRiff, Truncated}
use Rattle.pcm_wave.specs.Chunks.{number_at, stands_at, size_at, has_head, has_body, is_riff, next_place}
use Rattle.pcm_wave.specs.Headers.{IsBody, IsWaveFormat, body_size, header_of}
use Rattle.pcm_wave.specs.Walks.{place_behind, known_behind, as_known}
use Rattle.pcm_wave.specs.Waves.{wave_of, wave_with, settings_told, settings_from, checked, format_of_bits, format_told, or_unsupported, open_size, body_told}
use Rattle.pcm_wave.proofs.Walks.{found_from, found_from-data, found_from-next}

-- ---- bytes with a "fmt " chunk of 16 bytes, then a "data" chunk

record IsWritten (bytes : List ℕ) (settings : Settings) (size : ℕ) : Type 0 where
  long : 44 + size ≤ length bytes
  riff : is_riff bytes ≡ true
  format : stands_at bytes 12 (codes "fmt ") ≡ true
  other : stands_at bytes 12 (codes "data") ≡ false
  head : size_at bytes 12 ≡ 16
  told : settings_told bytes 20 16 ≡ Some settings
  body : stands_at bytes 36 (codes "data") ≡ true
  has : size_at bytes 36 ≡ size

written-known : (bytes : List ℕ) (settings : Settings) (size : ℕ) → IsWritten bytes settings size → known_behind bytes None 12 ≡ Ok (Some settings)
written-known bytes settings size is =
    let whole : has_body bytes 12 ≡ true = grind (arith, nat_tests, is.head, is.long) in
    ap (λ b. cond b (as_known (format_told bytes 12)) (Ok None)) is.format
    ∙ ap (λ b. as_known (cond b (or_unsupported (settings_told bytes 20 (size_at bytes 12))) (Err Truncated))) whole
    ∙ ap (λ n. as_known (or_unsupported (settings_told bytes 20 n))) is.head
    ∙ ap (λ t. as_known (or_unsupported t)) is.told

written-next : (bytes : List ℕ) (settings : Settings) (size : ℕ) → IsWritten bytes settings size → place_behind bytes 12 ≡ 36
written-next bytes settings size is =
    let whole : has_body bytes 12 ≡ true = grind (arith, nat_tests, is.head, is.long) in
    ap (λ b. cond b (next_place bytes 12) (length bytes)) whole ∙ ap (λ n. 20 + n + n % 2) is.head

written-body : (bytes : List ℕ) (settings : Settings) (size : ℕ) → IsWritten bytes settings size → body_told bytes settings 36 ≡ Ok (wave_with settings 44 size)
written-body bytes settings size is =
    let whole : has_body bytes 36 ≡ true = grind (arith, nat_tests, is.has, is.long) in
    let all : min (size_at bytes 36) (length bytes - 44) ≡ size = omega (arith, is.has, is.long) in
    ap (λ b. cond (b || nat_le open_size (size_at bytes 36)) (Ok (wave_with settings 44 (min (size_at bytes 36) (length bytes - 44)))) (Err Truncated)) whole
    ∙ ap (λ n. Ok (wave_with settings 44 n)) all

written-read : (bytes : List ℕ) (settings : Settings) (size : ℕ) → IsWritten bytes settings size → wave_of bytes ≡ Ok (wave_with settings 44 size)
written-read bytes settings size is =
    let first : has_head bytes 12 ≡ true = grind (arith, nat_tests, is.long) in
    let second : has_head bytes 36 ≡ true = grind (arith, nat_tests, is.long) in
    ap (λ b. cond b (found_from bytes None 12) (Err NotRiff)) is.riff
    ∙ found_from-next bytes None (Some settings) 12 first is.other (written-known bytes settings size is)
    ∙ ap (found_from bytes (Some settings)) (written-next bytes settings size is)
    ∙ found_from-data bytes (Some settings) 36 second is.body
    ∙ written-body bytes settings size is

-- ---- the numbers of a header

format_of_bits-bits_of : (format : Format) → IsWaveFormat format → format_of_bits (bits_of format) ≡ Some format
format_of_bits-bits_of format (inl is) = subst (λ f. format_of_bits (bits_of f) ≡ Some f) (sym is) refl
format_of_bits-bits_of format (inr (inl is)) = subst (λ f. format_of_bits (bits_of f) ≡ Some f) (sym is) refl
format_of_bits-bits_of format (inr (inr (inl is))) = subst (λ f. format_of_bits (bits_of f) ≡ Some f) (sym is) refl
format_of_bits-bits_of format (inr (inr (inr is))) = subst (λ f. format_of_bits (bits_of f) ≡ Some f) (sym is) refl

layout_of-channels_of : (layout : Layout) → layout_of (channels_of layout) ≡ Some layout
layout_of-channels_of One = refl
layout_of-channels_of Two = refl
layout_of-channels_of Four = refl
layout_of-channels_of Six = refl
layout_of-channels_of Eight = refl

-- settings within the limits pass the check as they are
checked-same : (settings : Settings) → RATE_LEAST ≤ settings.rate → settings.rate ≤ RATE_MOST → checked settings (frame_bytes settings) ≡ Some settings
checked-same settings least most =
    let low : nat_le RATE_LEAST settings.rate ≡ true = grind (arith, nat_tests) in
    let high : nat_le settings.rate RATE_MOST ≡ true = grind (arith, nat_tests) in
    let frame = frame_bytes settings in
    ap (λ b. cond (b && (nat_le settings.rate RATE_MOST && nat_eq frame frame)) (Some settings) None) low
    ∙ ap (λ b. cond (b && nat_eq frame frame) (Some settings) None) high
    ∙ ap (λ b. cond b (Some settings) None) (eq-eqb frame frame refl)

-- the settings of a header's numbers
settings_from-same : (settings : Settings) (bits channels rate align : ℕ) → IsWaveFormat settings.format → RATE_LEAST ≤ settings.rate → settings.rate ≤ RATE_MOST
    → bits ≡ bits_of settings.format → channels ≡ channels_of settings.layout → rate ≡ settings.rate → align ≡ frame_bytes settings
    → settings_from (format_of_bits bits) (layout_of channels) rate align ≡ Some settings
settings_from-same settings bits channels rate align is least most of_bits of_channels of_rate of_align =
    ap (λ b. settings_from (format_of_bits b) (layout_of channels) rate align) of_bits
    ∙ ap (λ c. settings_from (format_of_bits (bits_of settings.format)) (layout_of c) rate align) of_channels
    ∙ ap (λ r. settings_from (format_of_bits (bits_of settings.format)) (layout_of (channels_of settings.layout)) r align) of_rate
    ∙ ap (λ a. settings_from (format_of_bits (bits_of settings.format)) (layout_of (channels_of settings.layout)) settings.rate a) of_align
    ∙ ap (λ f. settings_from f (layout_of (channels_of settings.layout)) settings.rate (frame_bytes settings)) (format_of_bits-bits_of settings.format is)
    ∙ ap (λ l. settings_from (Some settings.format) l settings.rate (frame_bytes settings)) (layout_of-channels_of settings.layout)
    ∙ checked-same settings least most

-- ---- a header

pub length-header : (settings : Settings) (frames : ℕ) → length (header_of settings frames) ≡ 44
length-header settings frames = refl

header-written : (settings : Settings) (frames : ℕ) (body rest : List ℕ) → IsWaveFormat settings.format → RATE_LEAST ≤ settings.rate → settings.rate ≤ RATE_MOST
    → IsBody settings frames → length body ≡ body_size settings frames
    → IsWritten (header_of settings frames ++ body ++ rest) settings (length body)
header-written settings frames body rest is least most small same =
    let bits = bits_of settings.format in
    let frame = frame_bytes settings in
    let size = body_size settings frames in
    let bytes = header_of settings frames ++ body ++ rest in
    record {
      long = omega (arith, length-append (header_of settings frames) (body ++ rest), length-append body rest, length-header settings frames);
      riff = refl;
      format = refl;
      other = refl;
      head = refl;
      told = settings_from-same settings (number_at bytes 34 2) (number_at bytes 22 2) (number_at bytes 24 4) (number_at bytes 32 2) is least most
          (number_of-low_bytes 2 bits (omega (arith, bits_of-within settings.format)))
          (number_of-low_bytes 2 (channels_of settings.layout) (omega (arith, channels_of-most settings.layout)))
          (number_of-low_bytes 4 settings.rate (omega arith))
          (number_of-low_bytes 2 frame (omega (arith, frame_bytes-most settings)));
      body = refl;
      has = number_of-low_bytes 4 size (omega arith) ∙ sym same;
    }

pub header-read : (settings : Settings) (frames : ℕ) (body rest : List ℕ) → IsWaveFormat settings.format → RATE_LEAST ≤ settings.rate → settings.rate ≤ RATE_MOST
    → IsBody settings frames → length body ≡ body_size settings frames
    → wave_of (header_of settings frames ++ body ++ rest) ≡ Ok (wave_with settings 44 (length body))
header-read settings frames body rest is least most small same =
    written-read (header_of settings frames ++ body ++ rest) settings (length body) (header-written settings frames body rest is least most small same)

-- the body stands after the header
pub body-read : (settings : Settings) (frames : ℕ) (body rest : List ℕ) → take (length body) (drop 44 (header_of settings frames ++ body ++ rest)) ≡ body
body-read settings frames body rest = take_at body rest (length body) refl
