-- Calls one after another are the run of a script that has the same events.
use Rattle.std.proofs.Common.{◌≡◌, List, [], ◌∷◌, ◌++◌, map, refl, sym, ap, ◌∙◌, subst}
use Rattle.std.proofs.lemmas.List.{append-nil, append_assoc}
use Rattle.std.specs.List.{flat_map}
use Rattle.pcm_oss.specs.declared.event.Event.{Event}
use Rattle.pcm_oss.specs.Replies.{Reply}
use Rattle.pcm_wave.specs.declared.pool.Pool.{Pool}
use Rattle.pcm_feeder.specs.Kept.{Kept}
use Rattle.pcm_desk.specs.Device.{DeviceSeen}
use Rattle.pcm_sound.specs.DeviceList.{device_text}
use Rattle.pcm_sound.specs.Story.{Story, story_at_start, story_of, told}
use Rattle.pcm_sound.specs.StoryReplies.{replies, reply_to}
use Rattle.pcm_sound.proofs.Stories.{told_all-push}
use Rattle.pcm_engine.specs.declared.engine.EngineOf.{EngineOf}
use Rattle.pcm_engine.specs.Engines.{Stands, device_of}
use Rattle.pcm_session.specs.Runs.{CallMade, CallsLead, RunsAs}

pub runs-as : {B : Type 0} (kept : B → Kept) (pool : Pool) (before events : List Event) (calls : List CallMade) (old new : EngineOf B) → Stands kept old pool before → CallsLead kept pool calls events old new
    → RunsAs kept pool before events calls old new
runs-as kept pool before [] [] old new s same =
    let device = device_of old in
    record {
      stands = subst (λ (list : List Event). Stands kept new pool list) (sym (append-nil before)) (subst (λ (engine : EngineOf _). Stands kept engine pool before) (sym same) s);
      replies_are = refl;
      bytes_are = ap (device_text device pool) (append-nil before) ∙ sym (append-nil (device_text device pool before));
    }
runs-as kept pool before (event ∷ events) (call ∷ calls) old new s next =
    let device = device_of old in
    let step = next.step.called pool event next.called in
    let push : List Event = before ++ event ∷ [] in
    let rest = runs-as kept pool push events calls next.between new (step.stands before s) next.on in
    let joined : push ++ events ≡ before ++ event ∷ events = append_assoc before (event ∷ []) events in
    let same : device_of next.between ≡ device = next.step.rules.device in
    let story : Story = story_of device pool before in
    let on : story_of device pool push ≡ told device pool story event = told_all-push device pool (story_at_start device) before event in
    let replies_on : map (λ call. call.told) calls ≡ replies device pool (told device pool story event) events =
    subst (λ (d : DeviceSeen). map (λ call. call.told) calls ≡ replies d pool (story_of d pool push) events) same rest.replies_are
    ∙ ap (λ (s : Story). replies device pool s events) on in
    let bytes_on : device_text device pool (push ++ events) ≡ device_text device pool push ++ flat_map (λ call. call.handed) calls =
    subst (λ (d : DeviceSeen). device_text d pool (push ++ events) ≡ device_text d pool push ++ flat_map (λ call. call.handed) calls) same rest.bytes_are in
    record {
      stands = subst (λ (list : List Event). Stands kept new pool list) joined rest.stands;
      replies_are = ap (λ (reply : Reply). reply ∷ map (λ call. call.told) calls) (step.reply before s)
          ∙ ap (λ (list : List Reply). reply_to device story event ∷ list) replies_on;
      bytes_are = ap (device_text device pool) (sym joined) ∙ bytes_on
          ∙ ap (λ text. text ++ flat_map (λ call. call.handed) calls) (step.bytes before s)
          ∙ append_assoc (device_text device pool before) call.handed (flat_map (λ call. call.handed) calls);
    }
runs-as kept pool before [] (call ∷ calls) old new s none = absurd none
runs-as kept pool before (event ∷ events) [] old new s none = absurd none
