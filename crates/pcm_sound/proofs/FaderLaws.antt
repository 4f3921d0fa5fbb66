-- What the mixer device is asked sets gains from the next frame on, and changes nothing else.
use Rattle.std.proofs.Common.{◌≡◌, ℕ, ◌<◌, ◌≤◌, Bool, true, false, cond, List, [], ◌∷◌, refl, ap, ◌∙◌, All}
use Rattle.std.specs.Prelude.{not, ◌&&◌, ◌||◌}
use Rattle.pcm_oss.specs.declared.event.Event.{Event}
use Rattle.pcm_oss.specs.declared.event.Event.TheVariants.{Mixer}
use Rattle.pcm_oss.specs.declared.mix_request.MixRequest.{MixRequest}
use Rattle.pcm_wave.specs.declared.pool.Pool.{Pool}
use Rattle.pcm_mixdev.specs.Mixers.{master_gain, slot_gain}
use Rattle.pcm_desk.specs.declared.play_book.PlayBook.{PlayBook}
use Rattle.pcm_desk.specs.declared.play_book.PlayState.{PlayState}
use Rattle.pcm_desk.specs.declared.play_book.PlayState.TheVariants.{Draining}
use Rattle.pcm_desk.specs.declared.map_book.MapBook.{MapBook}
use Rattle.pcm_desk.specs.declared.record_book.RecordBook.{RecordBook}
use Rattle.pcm_desk.specs.Device.{DeviceSeen, IsDevice}
use Rattle.pcm_desk.specs.Desk.{map_at, play_at, record_at}
use Rattle.pcm_desk.specs.PlayBooks.{is_draining, is_started}
use Rattle.pcm_desk.specs.RunStates.{is_running}
use Rattle.pcm_desk.specs.Events.{Fits}
use Rattle.pcm_sound.specs.Areas.{silent_area}
use Rattle.pcm_sound.specs.Gains.{master_gain_at, slot_gain_at}
use Rattle.pcm_sound.specs.Recordings.{Recording, recording_from}
use Rattle.pcm_sound.specs.Runs.{Run, drops, marking}
use Rattle.pcm_sound.specs.Story.{Story, story_of, told}
use Rattle.pcm_sound.specs.Valid.{SlotIsValid}
use Rattle.pcm_sound.proofs.AreaLaws.{area-kept}
use Rattle.pcm_sound.proofs.DeviceLists.{master_gain-told, slot_gain-told}
use Rattle.pcm_sound.proofs.MapStories.{map_marking-same}
use Rattle.pcm_sound.proofs.Places.{told_run}
use Rattle.pcm_sound.proofs.Stories.{master-faded, slots-faded, valid-story}

-- the gains of the past stay
pub mixer-past : (device : DeviceSeen) (pool : Pool) (story : Story) (request : MixRequest) (slot position : ℕ) → let new : Story = told device pool story (Mixer request) in
    position < story.desk.mixed
    → (slot_gain_at new.faders slot position ≡ slot_gain_at story.faders slot position) × (master_gain_at new.faders position ≡ master_gain_at story.faders position)
mixer-past device pool story request slot position l = (slot_gain-told device pool story (Mixer request) slot position l, master_gain-told device pool story (Mixer request) position l)

-- from the next frame on they are those of the mixer device
pub mixer-next : (device : DeviceSeen) (pool : Pool) (events : List Event) (request : MixRequest) (slot position : ℕ) → IsDevice device → All (Fits device pool) events
    → let story : Story = story_of device pool events in let new : Story = told device pool story (Mixer request) in
    story.desk.mixed ≤ position
    → (slot_gain_at new.faders slot position ≡ slot_gain new.desk.mixer slot) × (master_gain_at new.faders position ≡ master_gain new.desk.mixer)
mixer-next device pool events request slot position d fit later =
    let story : Story = story_of device pool events in
    let v = valid-story device pool events d fit in
    (slots-faded device pool story (Mixer request) v slot position later, master-faded device pool story (Mixer request) v position later)

-- ---- what stays

-- a run that drained already, or doesn't drain, keeps that mark
drained_same : (drained draining : Bool) → (draining ≡ true → drained ≡ true) → (drained || draining || false) ≡ drained
drained_same true draining is = refl
drained_same false true is = absurd (let clash : false ≡ true = is refl in cc)
drained_same false false is = refl

told_same : (started draining dropping : Bool) (position : ℕ) (run : Run) → (draining ≡ true → run.drained ≡ true) → told_run started started draining dropping position run ≡ run
told_same true draining dropping position run is = ap (λ (drained : Bool). record run { drained = drained }) (drained_same run.drained draining is)
told_same false draining dropping position run is = ap (λ (drained : Bool). record run { drained = drained }) (drained_same run.drained draining is)

draining_started : (state : PlayState) → is_draining state ≡ true → is_started state ≡ true
draining_started (Draining closed) e = refl
draining_started _ e = cc

-- the runs of a slot whose book stays
marking_same : (device : DeviceSeen) (mixed position : ℕ) (event : Event) (book : PlayBook) (runs : List Run) → SlotIsValid device mixed book runs → marking position event book book runs ≡ runs
marking_same device mixed position event book [] v = refl
marking_same device mixed position event book (run ∷ runs) v =
    ap (λ (first : Run). first ∷ runs)
    (told_same (is_started book.state) (is_draining book.state) (drops event) position run
    (λ draining. (v.newest (v.started (draining_started book.state draining))).2 ∙ draining))

recording_same : (running : Bool) (start recording : Recording) → cond (not running && running) start recording ≡ recording
recording_same true start recording = refl
recording_same false start recording = refl

-- no request changes a run, an area or a recording
pub mixer-leaves : (device : DeviceSeen) (pool : Pool) (events : List Event) (request : MixRequest) (slot : ℕ) → IsDevice device → All (Fits device pool) events
    → let story : Story = story_of device pool events in let new : Story = told device pool story (Mixer request) in
    (new.runs slot ≡ story.runs slot) × (new.map_runs slot ≡ story.map_runs slot) × (new.areas slot ≡ story.areas slot) × (new.recordings slot ≡ story.recordings slot)
mixer-leaves device pool events request slot d fit =
    let story : Story = story_of device pool events in
    let v = valid-story device pool events d fit in
    let book : PlayBook = play_at device story.desk slot in
    let mapped : MapBook = map_at device story.desk slot in
    let recorded : RecordBook = record_at device story.desk slot in (
      marking_same device story.desk.mixed story.desk.mixed (Mixer request) book (story.runs slot) (v.slots slot),
      map_marking-same story.desk.mixed mapped mapped (story.map_runs slot) refl,
      ap (λ (anew : Bool). cond anew (silent_area mapped.opening) (story.areas slot)) (area-kept mapped),
      recording_same (is_running recorded.state) (recording_from story.desk.handed) (story.recordings slot),
    )
