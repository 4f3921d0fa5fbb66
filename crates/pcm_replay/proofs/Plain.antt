-- What a run leaves that has no shortage.
use Rattle.std.proofs.Common.{◌≡◌, List, ℕ, ◌++◌, Some, sym, ap, subst}
use Rattle.pcm_desk.specs.Device.{DeviceSeen}
use Rattle.pcm_config.specs.Configs.{device_seen}
use Rattle.pcm_sound.specs.DeviceList.{device_body}
use Rattle.pcm_sound.specs.Plain.{AgreeInCommon}
use Rattle.pcm_sound.specs.Valid.{StoryIsValid}
use Rattle.pcm_sound.proofs.Plain.{alike-bodies, plain-body}
use Rattle.pcm_sound.proofs.Stories.{valid-story}
use Rattle.pcm_verdict.specs.Outputs.{device_bytes_in, header_in, inputs_pool, replies_printed}
use Rattle.pcm_verdict.specs.Plain.{PlayAlike, story_in}
use Rattle.pcm_verdict.specs.Verdict.{Inputs}
use Rattle.pcm_verdict.proofs.Accepted.{IsPlayable, accepted-playable}
use Rattle.pcm_replay.specs.Accepted.{LeavesAlike, LeavesPlain, LeavesRun}
use Rattle.pcm_replay.specs.Calls.{Call}
use Rattle.pcm_convert_command.specs.Written.{WritesAll}

-- the story of what is playable is valid
valid-playable : (inputs : Inputs) → IsPlayable inputs → StoryIsValid (device_seen inputs.config) (story_in inputs)
valid-playable inputs playable = valid-story (device_seen inputs.config) (inputs_pool inputs) inputs.script.events playable.limits.device_is playable.fits

-- without a shortage it leaves what its clients play from their starts to their ends
pub plain-run : (call : Call) → LeavesRun call → LeavesPlain call
plain-run call leaves = λ name inputs is whole.
    let valid = valid-playable inputs (accepted-playable call.words call.before.files.content name inputs is.accepts) in
    subst (λ (body : List ℕ). WritesAll (record { file = Some (record { name = name; bytes = header_in inputs ++ body }); lines = replies_printed inputs }) call.before call.after)
    (plain-body (device_seen inputs.config) (story_in inputs) valid whole) (leaves name inputs is)

-- two runs that sound alike under one configuration give the same bytes, as far as both go
alike-run-bodies : (inputs other : Inputs) → IsPlayable inputs → IsPlayable other → PlayAlike inputs other → AgreeInCommon (device_bytes_in inputs) (device_bytes_in other)
alike-run-bodies inputs other one two alike =
    let device : DeviceSeen = device_seen inputs.config in
    let same : device_seen other.config ≡ device = ap device_seen alike.config in
    let valid : StoryIsValid device (story_in other) = subst (λ (d : DeviceSeen). StoryIsValid d (story_in other)) same (valid-playable other two) in
    subst (λ (d : DeviceSeen). AgreeInCommon (device_bytes_in inputs) (device_body d (story_in other))) (sym same)
    (alike-bodies device (story_in inputs) (story_in other) (valid-playable inputs one) valid alike.one_whole alike.other_whole alike.alike)

pub alike-run : (call : Call) → LeavesRun call → LeavesAlike call
alike-run call leaves = λ name inputs other is other_is alike. record {
  body = device_bytes_in inputs;
  written = (leaves name inputs is).written;
  alike = alike-run-bodies inputs other (accepted-playable call.words call.before.files.content name inputs is.accepts)
      (accepted-playable other_is.words other_is.contents other_is.name other other_is.accepts) alike;
}
