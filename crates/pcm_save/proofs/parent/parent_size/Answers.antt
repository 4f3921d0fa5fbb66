use Rattle.std.proofs.Common.{◌++◌, arith}
use Rattle.std.specs.List.{flat_map}
use Rattle.std.proofs.lemmas.List.{length-append}
use Rattle.pcm_vchan.specs.Parents.{map_channels, play_channels, record_channels}
use Rattle.pcm_save.specs.Mapping.{map_state}
use Rattle.pcm_save.specs.Outputs.{output_state}
use Rattle.pcm_save.specs.Parents.{slots_state}
use Rattle.pcm_save.specs.Playing.{play_state}
use Rattle.pcm_save.specs.Recording.{record_state}
use Rattle.pcm_save.proofs.parent.parent_size.Goals as goal

pub returns-clause-size : goal.returns-clause-size
returns-clause-size g c =
    let kept = g.B.Feeder.kept in
    let parent = c.args.parent.now in
    let playing = flat_map (play_state kept) (play_channels parent) in
    let recording = flat_map (record_state kept) (record_channels parent) in
    let mapped = flat_map (map_state kept) (map_channels parent) in
    omega (
      arith,
      length-append (output_state kept parent) (slots_state kept parent),
      length-append playing (recording ++ mapped),
      length-append recording mapped,
      c.size_slots-playing.ensures.size,
      c.size_slots-recording.ensures.size,
      c.size_slots-mapped.ensures.size,
      c.output_size.ensures.size,
    )
