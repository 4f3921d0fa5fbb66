use Rattle.std.proofs.Common.{◌≡◌, ℕ, ◌*◌, ◌≤◌, replicate, ap, ◌∙◌, arith}
use Rattle.std.proofs.Math.Nat.{mul-le-mul_right}
use Rattle.pcm_format.specs.declared.settings.Settings.{Settings}
use Rattle.pcm_format.specs.Frames.{frame_bytes}
use Rattle.pcm_format.proofs.Streams.{frame_bytes-most}
use Rattle.pcm_wave.specs.Headers.{padding}
use Rattle.pcm_convert.specs.Conversions.{converted_body, converted_frames}
use Rattle.pcm_convert.specs.Stands.{source_in, target_in}
use Rattle.pcm_convert_command.specs.Converting.{wave_body}
use Rattle.pcm_convert_command.proofs.Blocks.{padded, padding-fails}
use Rattle.pcm_convert_command.proofs.Appending.{appends-on, appends-only, fails-before, fails-behind}
use Rattle.pcm_convert_command.proofs.convert.append_wave.Goals as goal

-- the header was cut short
pub returns-in_default : goal.returns-in_default
returns-in_default g c = record {
  only = c.in_default.ensures.only;
  ok = tt;
  err = fails-before _ _ c.args.head.now _ c.in_default.ensures.err;
}

-- the body was
pub returns-in_default-append_body : goal.returns-in_default-append_body
returns-in_default-append_body g c =
    let old = c.args.conversion.now in
    let head = c.in-Ok.ensures in
    let failed = c.in_default-append_body.ensures in
    record {
      only = appends-only _ _ _ head.only failed.only;
      ok = tt;
      err = fails-behind _ _ _ c.args.head.now (wave_body (source_in old) (target_in old) c.args.body.now) head.only head.ok
          (fails-before _ _ (converted_body (source_in old) (target_in old) c.args.body.now) _ failed.err);
    }

-- the bytes of all frames are counted in 64 bits
pub overflow_mul-frames : goal.overflow_mul-frames
overflow_mul-frames g c =
    let frames : c.args.frames ≤ 4294967295 = omega (arith, c.ranges.frames.fits) in
    let bytes = mul-le-mul_right c.frame_bytes.result frames in
    omega (arith, bytes, c.frame_bytes.ensures, frame_bytes-most c.target-target.result)

pub returns : goal.returns
returns g c =
    let old = c.args.conversion.now in
    let head = c.in-Ok.ensures in
    let body = c.in-Ok-append_body.ensures in
    let whole = converted_body (source_in old) (target_in old) c.args.body.now in
    let only = appends-only _ _ _ head.only body.only in
    let appended = appends-on _ _ _ c.args.head.now whole head.only head.ok body.ok in
    let size : c.args.frames * c.frame_bytes.result ≡ converted_frames (source_in old) (target_in old) c.args.body.now * frame_bytes
    (target_in old) =
    ap (λ (n : ℕ). n * c.frame_bytes.result) c.requires.count
    ∙ ap (λ (n : ℕ). converted_frames (source_in old) (target_in old) c.args.body.now * n)
    (c.frame_bytes.ensures ∙ ap (λ (s : Settings). frame_bytes s) c.target-target.ensures) in
    record {
      only = appends-only _ _ _ only c.append_padding.ensures.only;
      ok = padded c.append_padding.result _ _ _ c.args.head.now whole _ _ only appended (ap (λ (n : ℕ). replicate (padding n) 0) size)
          c.append_padding.ensures.ok;
      err = padding-fails c.append_padding.result _ _ _ c.args.head.now whole _ _ only appended
          (ap (λ (n : ℕ). replicate (padding n) 0) size) c.append_padding.ensures.err;
    }
