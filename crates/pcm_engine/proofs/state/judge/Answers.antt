use Rattle.std.proofs.Common.{◌≡◌, ◌*◌, true, List, sym, ap, ◌∙◌, subst, true≢false}
use Rattle.std.specs.Prelude.{Option}
use Rattle.std.specs.List.{list_all}
use Rattle.pcm_engine.specs.Types.{Groups, Held, Here}
use Rattle.pcm_oss.specs.declared.fragments.TheConstants.{RING_BYTES}
use Rattle.pcm_play.specs.declared.channel.PlayChannelOf.{PlayChannelOf}
use Rattle.pcm_record.specs.declared.channel.RecordChannelOf.{RecordChannelOf}
use Rattle.pcm_map.specs.declared.channel.MapChannelOf.{MapChannelOf}
use Rattle.pcm_vchan.specs.Parents.{here_of, play_channels, record_channels}
use Rattle.pcm_engine.specs.Judged.{WaitInGroups, is_held_or_shut, map_keeps_pace, play_is_in_place, play_waits, record_keeps_pace, record_waits}
use Rattle.pcm_engine.proofs.state.judge.Goals as goal

pub returns-clause-place : goal.returns-clause-place
returns-clause-place g c =
    let parent = c.args.parent.now in
    let here = ap (λ (h : Here). list_all (play_is_in_place h) c.deref.result.now) (sym c.here.ensures) in
    record {
      playing = subst (λ (list : List (PlayChannelOf _)). list_all (play_is_in_place (here_of parent)) list ≡ true) c.deref.ensures.value (here ∙ sym c.are_in_place.ensures ∙ c.in_ok-ordered.ensures.passed);
      recording = subst (λ (list : List (RecordChannelOf _)). list_all (λ channel. record_keeps_pace parent.handed (RING_BYTES * parent.handed) channel.book) list ≡ true) c.deref-2.ensures.value (sym c.recordings_keep_pace.ensures ∙ c.in_ok-ordered-2.ensures.passed);
      mapped = subst (λ (list : List (MapChannelOf _)). list_all (λ channel. map_keeps_pace parent.mixed channel.book) list ≡ true) c.deref-3.ensures.value (sym c.maps_keep_pace.ensures ∙ c.in_ok-ordered-3.ensures.passed);
      taken = subst (λ (list : List (Option Held)). list_all (is_held_or_shut parent) list ≡ true) c.all_held.ensures.is (sym c.are_held_or_shut.ensures ∙ c.in_ok-ordered-4.ensures.passed);
      players = subst (λ (groups : Groups). WaitInGroups (λ channel. play_waits channel.book) groups.play (play_channels parent)) c.groups-groups.ensures
          (subst (WaitInGroups (λ channel. play_waits channel.book) c.groups-groups.result.play) c.deref-4.ensures.value (c.play_members_wait.ensures.0 c.in_ok-ordered-5.ensures.passed));
      recorders = subst (λ (groups : Groups). WaitInGroups (λ channel. record_waits channel.book) groups.recording (record_channels parent)) c.groups-groups.ensures
          (subst (WaitInGroups (λ channel. record_waits channel.book) c.groups-groups.result.recording) c.deref-5.ensures.value (c.record_members_wait.ensures.0 c.in_ok-ordered-6.ensures.passed));
    }

-- where a test failed, the parent and the descriptors aren't in place

pub returns-in_err-ordered-clause-taken : goal.returns-in_err-ordered-clause-taken
returns-in_err-ordered-clause-taken g c = λ is.
    let parent = c.args.parent.now in
    let here = ap (λ (h : Here). list_all (play_is_in_place h) c.deref.result.now) c.here.ensures in
    absurd (true≢false (sym (c.in_err-ordered.ensures.taken
    (c.are_in_place.ensures ∙ here ∙ ap (λ (list : List (PlayChannelOf _)). list_all (play_is_in_place (here_of parent)) list) c.deref.ensures.value ∙ is.playing))))

pub returns-in_err-ordered-2-clause-taken : goal.returns-in_err-ordered-2-clause-taken
returns-in_err-ordered-2-clause-taken g c = λ is.
    let parent = c.args.parent.now in
    absurd (true≢false (sym (c.in_err-ordered-2.ensures.taken
    (c.recordings_keep_pace.ensures
    ∙ ap (λ (list : List (RecordChannelOf _)). list_all (λ channel. record_keeps_pace parent.handed (RING_BYTES * parent.handed) channel.book) list) c.deref-2.ensures.value ∙ is.recording))))

pub returns-in_err-ordered-3-clause-taken : goal.returns-in_err-ordered-3-clause-taken
returns-in_err-ordered-3-clause-taken g c = λ is.
    let parent = c.args.parent.now in
    absurd (true≢false (sym (c.in_err-ordered-3.ensures.taken
    (c.maps_keep_pace.ensures ∙ ap (λ (list : List (MapChannelOf _)). list_all (λ channel. map_keeps_pace parent.mixed channel.book) list) c.deref-3.ensures.value ∙ is.mapped))))

pub returns-in_err-ordered-4-clause-taken : goal.returns-in_err-ordered-4-clause-taken
returns-in_err-ordered-4-clause-taken g c = λ is.
    absurd (true≢false (sym (c.in_err-ordered-4.ensures.taken
    (c.are_held_or_shut.ensures ∙ ap (λ (list : List (Option Held)). list_all (is_held_or_shut c.args.parent.now) list) c.all_held.ensures.is ∙ is.taken))))

pub returns-in_err-ordered-5-clause-taken : goal.returns-in_err-ordered-5-clause-taken
returns-in_err-ordered-5-clause-taken g c = λ is.
    absurd (true≢false (sym (c.in_err-ordered-5.ensures.taken (c.play_members_wait.ensures.1
    (subst (WaitInGroups (λ channel. play_waits channel.book) c.groups-groups.result.play) (sym c.deref-4.ensures.value)
    (subst (λ (groups : Groups). WaitInGroups (λ channel. play_waits channel.book) groups.play (play_channels c.args.parent.now)) (sym c.groups-groups.ensures) is.players))))))

pub returns-in_err-ordered-6-clause-taken : goal.returns-in_err-ordered-6-clause-taken
returns-in_err-ordered-6-clause-taken g c = λ is.
    absurd (true≢false (sym (c.in_err-ordered-6.ensures.taken (c.record_members_wait.ensures.1
    (subst (WaitInGroups (λ channel. record_waits channel.book) c.groups-groups.result.recording) (sym c.deref-5.ensures.value)
    (subst (λ (groups : Groups). WaitInGroups (λ channel. record_waits channel.book) groups.recording (record_channels c.args.parent.now)) (sym c.groups-groups.ensures) is.recorders))))))
