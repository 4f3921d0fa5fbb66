use Rattle.std.proofs.Common.{◌≡◌, ◌++◌, ◌∙◌, ◌*◌, ℕ, List, codes, refl, sym, ap, subst, arith}
use Rattle.std.specs.Fmt.{decimal}
use Rattle.std.proofs.Math.Nat.{mul-le-mul_right}
use Rattle.pcm_format.specs.declared.settings.Settings.{Settings}
use Rattle.pcm_format.specs.Frames.{frame_bytes}
use Rattle.pcm_format.proofs.Streams.{frame_bytes-above}
use Rattle.pcm_feeder.specs.Limits.{IsRate}
use Rattle.pcm_wave.specs.declared.wave.Wave.{Wave}
use Rattle.pcm_wave.specs.Headers.{header_of}
use Rattle.pcm_wave.specs.Waves.{settings_of}
use Rattle.pcm_wave.proofs.Limits.{settings-read}
use Rattle.pcm_convert.specs.declared.conversion.TheConstants.{BLOCK}
use Rattle.pcm_convert.specs.Conversions.{converted_frames}
use Rattle.pcm_convert.specs.Stands.{source_in, target_in}
use Rattle.pcm_verdict.specs.Outputs.{convert_line}
use Rattle.pcm_verdict.specs.Verdict.{Conversion, frames_converted}
use Rattle.pcm_convert_command.specs.Converting.{wave_body}
use Rattle.pcm_convert_command.specs.Written.{AtAppend, AtCreate, AtPut}
use Rattle.pcm_convert_command.proofs.Appending.{has_written, rose_later}
use Rattle.pcm_convert_command.proofs.Waves.{IsOf, cut-wave, frames-same, written-wave}
use Rattle.pcm_convert_command.proofs.convert.convert_wave.Goals as goal

-- a wave that was read has a rate within the limits
pub conversion_of-requires : goal.conversion_of-requires
conversion_of-requires g c =
    let read = settings-read c.args.source.now.bytes c.wave.result c.wave.ensures.read in
    let rate : IsRate c.wave.result.rate = record { least = read.least; most = read.most } in
    record {
      kinds = c.requires.kinds;
      source_rate = subst (λ (s : Settings). IsRate s.rate) (sym c.settings.ensures) rate;
      target_rate = c.requires.rate;
    }

-- as many frames as a header may state
pub overflow_cast-frames : goal.overflow_cast-frames
overflow_cast-frames g c =
    let conversion : Conversion = record { source = c.args.source.now; target = c.args.target } in
    let made = c.in-Ok.conversion in
    let is : IsOf (source_in made) (target_in made) c.body.result.now conversion = record {
      source_is = c.in-Ok.ensures.source ∙ c.settings.ensures ∙ ap (λ (w : Wave). settings_of w) c.wave.ensures.value;
      target_is = c.in-Ok.ensures.target;
      body_is = c.body.ensures.bytes;
    } in
    let frames : c.count.result ≡ frames_converted conversion =
    c.count.ensures ∙ frames-same (source_in made) (target_in made) c.body.result.now conversion is in
    let bytes = mul-le-mul_right (frames_converted conversion) (frame_bytes-above c.args.target) in
    omega (arith, frames, bytes, c.requires.size)

pub returns-in_default-create-clause-err : goal.returns-in_default-create-clause-err
returns-in_default-create-clause-err g c = AtCreate _ refl
    (record { file = c.in_default-create.ensures.err; sink = refl {a = g.K.Sink.seen c.args.out.now} })

-- the conversion is new, and its buffer has room for a block
pub append_wave-requires : goal.append_wave-requires
append_wave-requires g c =
    let made = c.in-Ok.conversion in
    record {
      created = c.in-Ok-create.ensures.ok.stands;
      stands = c.in-Ok.ensures.stands c.body-2.result.now;
      count = c.count.ensures ∙ ap (λ (b : List ℕ). converted_frames (source_in made) (target_in made) b)
          (c.body.ensures.bytes ∙ sym c.body-2.ensures.bytes);
      room = c.deref_mut.ensures.len ∙ c.in-Ok-vec.ensures.len
          ∙ ap (λ (n : ℕ). BLOCK * n) (c.frame_bytes.ensures ∙ ap (λ (s : Settings). frame_bytes s) (sym c.in-Ok.ensures.target));
    }

pub returns-in_default-append_wave-clause-err : goal.returns-in_default-append_wave-clause-err
returns-in_default-append_wave-clause-err g c =
    let conversion : Conversion = record { source = c.args.source.now; target = c.args.target } in
    let made = c.in-Ok.conversion in
    let is : IsOf (source_in made) (target_in made) c.body-2.result.now conversion = record {
      source_is = c.in-Ok.ensures.source ∙ c.settings.ensures ∙ ap (λ (w : Wave). settings_of w) c.wave.ensures.value;
      target_is = c.in-Ok.ensures.target;
      body_is = c.body-2.ensures.bytes;
    } in
    let frames : c.count.result ≡ frames_converted conversion =
    c.count.ensures ∙ ap (λ (b : List ℕ). converted_frames (source_in made) (target_in made) b)
    (c.body.ensures.bytes ∙ sym c.body-2.ensures.bytes)
    ∙ frames-same (source_in made) (target_in made) c.body-2.result.now conversion is in
    let head : c.header-head.result ≡ header_of c.args.target (frames_converted conversion) =
    c.header-head.ensures ∙ ap (λ (n : ℕ). header_of c.args.target n) frames in
    let created = c.in-Ok-create.ensures in
    let failed = c.in_default-append_wave.ensures.err in
    cut-wave _ _ c.args.name.now c.header-head.result (source_in made) (target_in made) c.body-2.result.now (convert_line conversion)
    conversion is head refl
    (AtAppend _ refl (record {
      rose = rose_later _ _ _ created.ok.write_faults failed.rose;
      part = failed.part;
      front = failed.front;
      file = has_written c.args.name.now failed.part _ _ _ created.only created.ok failed.grows;
      sink = refl {a = g.K.Sink.seen c.args.out.now};
    }))

pub returns-in_default-put-clause-err : goal.returns-in_default-put-clause-err
returns-in_default-put-clause-err g c =
    let conversion : Conversion = record { source = c.args.source.now; target = c.args.target } in
    let made = c.in-Ok.conversion in
    let is : IsOf (source_in made) (target_in made) c.body-2.result.now conversion = record {
      source_is = c.in-Ok.ensures.source ∙ c.settings.ensures ∙ ap (λ (w : Wave). settings_of w) c.wave.ensures.value;
      target_is = c.in-Ok.ensures.target;
      body_is = c.body-2.ensures.bytes;
    } in
    let frames : c.count.result ≡ frames_converted conversion =
    c.count.ensures ∙ ap (λ (b : List ℕ). converted_frames (source_in made) (target_in made) b)
    (c.body.ensures.bytes ∙ sym c.body-2.ensures.bytes)
    ∙ frames-same (source_in made) (target_in made) c.body-2.result.now conversion is in
    let head : c.header-head.result ≡ header_of c.args.target (frames_converted conversion) =
    c.header-head.ensures ∙ ap (λ (n : ℕ). header_of c.args.target n) frames in
    let line : c.as_bytes.result.now ≡ convert_line conversion =
    c.as_bytes.ensures.value ∙ c.in-Ok-format.ensures.ok ∙ ap (λ (n : ℕ). codes "frames " ++ decimal n ++ codes "\n") frames in
    let created = c.in-Ok-create.ensures in
    let appended = c.in-Ok-append_wave.ensures in
    cut-wave _ _ c.args.name.now c.header-head.result (source_in made) (target_in made) c.body-2.result.now c.as_bytes.result.now conversion
    is head line
    (AtPut (record {
      written = record {
        file = has_written c.args.name.now (c.header-head.result ++ wave_body (source_in made) (target_in made) c.body-2.result.now) _ _ _
            created.only created.ok appended.ok.grows;
        read_faults = appended.only.writes.read_faults ∙ created.only.read_faults;
        write_faults = appended.ok.write_faults ∙ created.ok.write_faults;
      };
      put = c.in_default-put.ensures.err;
    }))

pub returns-clause-ok : goal.returns-clause-ok
returns-clause-ok g c =
    let conversion : Conversion = record { source = c.args.source.now; target = c.args.target } in
    let made = c.in-Ok.conversion in
    let is : IsOf (source_in made) (target_in made) c.body-2.result.now conversion = record {
      source_is = c.in-Ok.ensures.source ∙ c.settings.ensures ∙ ap (λ (w : Wave). settings_of w) c.wave.ensures.value;
      target_is = c.in-Ok.ensures.target;
      body_is = c.body-2.ensures.bytes;
    } in
    let frames : c.count.result ≡ frames_converted conversion =
    c.count.ensures ∙ ap (λ (b : List ℕ). converted_frames (source_in made) (target_in made) b)
    (c.body.ensures.bytes ∙ sym c.body-2.ensures.bytes)
    ∙ frames-same (source_in made) (target_in made) c.body-2.result.now conversion is in
    let head : c.header-head.result ≡ header_of c.args.target (frames_converted conversion) =
    c.header-head.ensures ∙ ap (λ (n : ℕ). header_of c.args.target n) frames in
    let line : c.as_bytes.result.now ≡ convert_line conversion =
    c.as_bytes.ensures.value ∙ c.in-Ok-format.ensures.ok ∙ ap (λ (n : ℕ). codes "frames " ++ decimal n ++ codes "\n") frames in
    let created = c.in-Ok-create.ensures in
    let appended = c.in-Ok-append_wave.ensures in
    written-wave _ _ c.args.name.now c.header-head.result (source_in made) (target_in made) c.body-2.result.now c.as_bytes.result.now
    conversion is head line
    (record {
      written = record {
        file = has_written c.args.name.now (c.header-head.result ++ wave_body (source_in made) (target_in made) c.body-2.result.now) _ _ _
            created.only created.ok appended.ok.grows;
        read_faults = appended.only.writes.read_faults ∙ created.only.read_faults;
        write_faults = appended.ok.write_faults ∙ created.ok.write_faults;
      };
      put = c.in-Ok-put.ensures.ok;
    })
