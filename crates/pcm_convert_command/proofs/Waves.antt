-- What a conversion leaves.
use Rattle.std.proofs.Common.{◌≡◌, ℕ, ◌++◌, List, Some, ◌∙◌, ap, subst}
use Rattle.pcm_format.specs.declared.settings.Settings.{Settings}
use Rattle.pcm_wave.specs.DataFiles.{body_of}
use Rattle.pcm_wave.specs.Headers.{header_of}
use Rattle.pcm_wave.specs.Waves.{settings_of}
use Rattle.pcm_convert.specs.Conversions.{converted_frames}
use Rattle.pcm_verdict.specs.Outputs.{Output, convert_line, converted_file, output_of}
use Rattle.pcm_verdict.specs.Verdict.{Conversion, Converts, frames_converted}
use Rattle.pcm_inputs.specs.Outside.{Outside}
use Rattle.pcm_convert_command.specs.Converting.{wave_body}
use Rattle.pcm_convert_command.specs.Written.{CutsOutput, WritesAll}

-- the settings and the body of a conversion
pub record IsOf (source target : Settings) (body : List ℕ) (conversion : Conversion) : Type 0 where
  pub source_is : source ≡ settings_of conversion.source.wave
  pub target_is : target ≡ conversion.target
  pub body_is : body ≡ body_of conversion.source

pub frames-same : (source target : Settings) (body : List ℕ) (conversion : Conversion) → IsOf source target body conversion → converted_frames source target body ≡ frames_converted conversion
frames-same source target body conversion is =
    ap (λ (s : Settings). converted_frames s target body) is.source_is
    ∙ ap (λ (t : Settings). converted_frames (settings_of conversion.source.wave) t body) is.target_is
    ∙ ap (λ (b : List ℕ). converted_frames (settings_of conversion.source.wave) conversion.target b) is.body_is

body-same : (source target : Settings) (body : List ℕ) (conversion : Conversion) → IsOf source target body conversion
    → wave_body source target body ≡ wave_body (settings_of conversion.source.wave) conversion.target (body_of conversion.source)
body-same source target body conversion is =
    ap (λ (s : Settings). wave_body s target body) is.source_is
    ∙ ap (λ (t : Settings). wave_body (settings_of conversion.source.wave) t body) is.target_is
    ∙ ap (λ (b : List ℕ). wave_body (settings_of conversion.source.wave) conversion.target b) is.body_is

-- what holds of a file that is left, by other terms for its bytes and for the lines
output-as : (P : Output → Type 0) (name bytes lines bytes_as lines_as : List ℕ) → bytes ≡ bytes_as → lines ≡ lines_as
    → P (record { file = Some (record { name = name; bytes = bytes }); lines = lines }) → P (record { file = Some (record { name = name; bytes = bytes_as }); lines = lines_as })
output-as P name bytes lines bytes_as lines_as same_bytes same_lines holds =
    subst (λ (b : List ℕ). P (record { file = Some (record { name = name; bytes = b }); lines = lines_as })) same_bytes
    (subst (λ (l : List ℕ). P (record { file = Some (record { name = name; bytes = bytes }); lines = l })) same_lines holds)

-- a header and a body are the file that a conversion is to leave
wave-left : (P : Output → Type 0) (name head : List ℕ) (source target : Settings) (body line : List ℕ) (conversion : Conversion) → IsOf source target body conversion
    → head ≡ header_of conversion.target (frames_converted conversion) → line ≡ convert_line conversion
    → P (record { file = Some (record { name = name; bytes = head ++ wave_body source target body }); lines = line }) → P (output_of (Converts name conversion))
wave-left P name head source target body line conversion is is_head is_line holds =
    output-as P name (head ++ wave_body source target body) line (converted_file conversion) (convert_line conversion)
    (ap (λ (h : List ℕ). h ++ wave_body source target body) is_head
    ∙ ap (λ (b : List ℕ). header_of conversion.target (frames_converted conversion) ++ b) (body-same source target body conversion is)) is_line holds

pub cut-wave : (before after : Outside) (name head : List ℕ) (source target : Settings) (body line : List ℕ) (conversion : Conversion) → IsOf source target body conversion
    → head ≡ header_of conversion.target (frames_converted conversion) → line ≡ convert_line conversion
    → CutsOutput (record { file = Some (record { name = name; bytes = head ++ wave_body source target body }); lines = line }) before after
    → CutsOutput (output_of (Converts name conversion)) before after
cut-wave before after name head source target body line conversion is is_head is_line cut =
    wave-left (λ output. CutsOutput output before after) name head source target body line conversion is is_head is_line cut

pub written-wave : (before after : Outside) (name head : List ℕ) (source target : Settings) (body line : List ℕ) (conversion : Conversion) → IsOf source target body conversion
    → head ≡ header_of conversion.target (frames_converted conversion) → line ≡ convert_line conversion
    → WritesAll (record { file = Some (record { name = name; bytes = head ++ wave_body source target body }); lines = line }) before after
    → WritesAll (output_of (Converts name conversion)) before after
written-wave before after name head source target body line conversion is is_head is_line written =
    wave-left (λ output. WritesAll output before after) name head source target body line conversion is is_head is_line written
