-- What the events of a run leave, one after another, and where that is cut short.
use Rattle.std.proofs.Common.{◌≡◌, ℕ, ◌+◌, List, [], ◌++◌, IsTrue, length, take, append_assoc, append-nil, refl, sym, ◌∙◌, ap, subst, arith}
use Rattle.std.proofs.lemmas.List.{take_all}
use Rattle.pcm_oss.specs.declared.event.Event.{Event}
use Rattle.pcm_wave.specs.declared.pool.Pool.{Pool}
use Rattle.pcm_desk.specs.Device.{DeviceSeen}
use Rattle.pcm_sound.specs.DeviceList.{device_text}
use Rattle.pcm_feeder.specs.declared.kind.Kind.{Kind}
use Rattle.pcm_feeder.specs.Kept.{Kept}
use Rattle.pcm_engine.specs.Engines.{device_of}
use Rattle.pcm_outside.specs.Files.{FilesSeen, Appends, Creates, Grows, OnlyAppends, OnlyWrites}
use Rattle.pcm_outside.specs.Sink.{SinkSeen, OnlyPuts, Puts, PutsMore}
use Rattle.pcm_replay.specs.Cuts.{CutsRun, RunInBytes, RunInLine}
use Rattle.pcm_inputs.specs.Outside.{Outside, outside}
use Rattle.pcm_replay.specs.Playback.{Playback, bytes_until, lines_until, playback, playback_of}
use Rattle.pcm_config.specs.Configs.{device_seen}
use Rattle.pcm_verdict.specs.Outputs.{header_in, inputs_pool}
use Rattle.pcm_verdict.specs.Transcript.{transcript}
use Rattle.pcm_verdict.specs.Verdict.{Inputs}
use Rattle.pcm_replay.specs.declared.replay.ReplayOf.{ReplayOf}
use Rattle.pcm_replay.specs.Playing.{HasPlayed, output_played}
use Rattle.pcm_replay.specs.Turns.{CutsEvents, CutsTurn, TurnInBytes, TurnInLine, IsNext, OnlyAdds, WritesFirst, WritesNext}
use Rattle.pcm_convert_command.specs.Written.{HasWritten, WritesAll}
use Rattle.pcm_convert_command.proofs.Appending.{appends-on, appends-only, grows-on, grows-nothing, has_written, rose_later}

-- ---- lines that were put

puts-only : (a b c : SinkSeen) → OnlyPuts a b → OnlyPuts b c → OnlyPuts a c
puts-only a b c one two = record { tells = two.tells ∙ one.tells; faults = omega (arith, one.faults, two.faults) }

puts_more-on : (a b c : SinkSeen) (one two : List ℕ) → OnlyPuts a b → PutsMore a b one → PutsMore b c two → PutsMore a c (one ++ two)
puts_more-on a b c one two only first next = λ told.
    next (only.tells ∙ told) ∙ ap (λ (bytes : List ℕ). bytes ++ two) (first told) ∙ append_assoc a.bytes one two

adds-only : (a b c : Outside) → OnlyAdds a b → OnlyAdds b c → OnlyAdds a c
adds-only a b c one two = record { files = appends-only _ _ _ one.files two.files; sink = puts-only _ _ _ one.sink two.sink }

-- ---- one event more

-- nothing was left yet
pub first-none : (playback : Playback) (outside : Outside) → IsTrue outside.files.stands → bytes_until playback 0 ≡ [] → WritesFirst playback 0 outside outside
first-none playback outside stands none = record {
  only = record {
    files = record { writes = record { tells = refl; read_faults = refl; failed = refl; write_faults = omega arith }; created = refl; stands = stands };
    sink = record { tells = refl; faults = omega arith };
  };
  appended = subst (λ (piece : List ℕ). Appends outside.files outside.files piece) (sym none) (record { grows = grows-nothing outside.files; write_faults = refl });
  put = record { grows = λ told. sym (append-nil outside.sink.bytes); faults = refl };
}

-- what the next event left after those before it
pub first-more : (playback : Playback) (done : ℕ) (before between after : Outside) → WritesFirst playback done before between → OnlyAdds between after → WritesNext playback done between after
    → WritesFirst playback (done + 1) before after
first-more playback done before between after first only next = record {
  only = adds-only before between after first.only only;
  appended = subst (λ (bytes : List ℕ). Appends before.files after.files bytes) (sym next.next.bytes_are)
      (appends-on _ _ _ (bytes_until playback done) next.bytes first.only.files first.appended next.writes.appended);
  put = subst (λ (lines : List ℕ). Puts before.sink after.sink lines) (sym next.next.line_is)
      (record {
        grows = puts_more-on before.sink between.sink after.sink (lines_until playback done) next.line first.only.sink first.put.grows next.writes.put.grows;
        faults = next.writes.put.faults ∙ first.put.faults;
      });
}

-- the first `done` events were run on a device, and left all that they were to leave
pub record IsPlaying {B : Type 0} (kind : B → Kind) (kept : B → Kept) (replay : ReplayOf B) (device : DeviceSeen) (pool : Pool) (events : List Event) (done : ℕ) (before now : Outside) : Type 0 where
  pub played : HasPlayed kind kept replay pool events done
  pub device_is : device_of replay.engine ≡ device
  pub first : WritesFirst (playback device pool events) done before now

-- ---- a run that was cut short in an event

-- a file that was created, and that a header was appended to
pub record HasHeader (name head : List ℕ) (before : Outside) (created headed : FilesSeen) : Type 0 where
  pub only : OnlyWrites before.files created
  pub creates : Creates before.files created name
  pub head_only : OnlyAppends created headed
  pub head_appended : Appends created headed head

-- no write failed as it was
header-faults : (name head : List ℕ) (before : Outside) (created headed : FilesSeen) → HasHeader name head before created headed → headed.write_faults ≡ before.files.write_faults
header-faults name head before created headed h = h.head_appended.write_faults ∙ h.creates.write_faults

-- what follows the header stands in the file after it
behind-header : (name head piece : List ℕ) (before : Outside) (created headed new : FilesSeen) → HasHeader name head before created headed → Grows headed new piece → HasWritten name (head ++ piece) before.files new
behind-header name head piece before created headed new h grows =
    has_written name (head ++ piece) before.files created new h.only h.creates (grows-on created headed new head piece h.head_only h.head_appended.grows grows)

cut-turn : (name head : List ℕ) (playback : Playback) (before between after : Outside) (created headed : FilesSeen) (done : ℕ) (bytes line : List ℕ) → HasHeader name head before created headed
    → WritesFirst playback done (outside headed before.sink) between → OnlyAdds between after → IsNext playback done bytes line → CutsTurn bytes line between after → CutsRun name head playback before after
cut-turn name head playback before between after created headed done bytes line h first only next (TurnInBytes failed same) = RunInBytes (record {
  rose = rose_later _ _ _ (first.appended.write_faults ∙ header-faults name head before created headed h) failed.rose;
  place = record { done = done; bytes = bytes; line = line; next = next; part = failed.part };
  front = failed.front;
  file = behind-header name head (bytes_until playback done ++ failed.part) before created headed after.files h
      (grows-on headed between.files after.files (bytes_until playback done) failed.part first.only.files first.appended.grows failed.grows);
  put = subst (λ (sink : SinkSeen). Puts before.sink sink (lines_until playback done)) (sym same) first.put;
})
cut-turn name head playback before between after created headed done bytes line h first only next (TurnInLine appended failed) =
    let all = appends-on _ _ _ (bytes_until playback done) bytes first.only.files first.appended appended in
    RunInLine (record {
      rose = rose_later _ _ _ first.put.faults failed.rose;
      place = record { done = done; bytes = bytes; line = line; next = next; part = failed.part };
      front = failed.front;
      written = record {
        file = behind-header name head (bytes_until playback done ++ bytes) before created headed after.files h all.grows;
        read_faults = only.files.writes.read_faults ∙ first.only.files.writes.read_faults ∙ h.head_only.writes.read_faults ∙ h.only.read_faults;
        write_faults = all.write_faults ∙ header-faults name head before created headed h;
      };
      put = puts_more-on before.sink between.sink after.sink (lines_until playback done) failed.part first.only.sink first.put.grows failed.grows;
    })

-- an event of a run was cut short, after the header and the events before it
pub cut-events : (name head : List ℕ) (playback : Playback) (before after : Outside) (created headed : FilesSeen) → HasHeader name head before created headed → CutsEvents playback (outside headed before.sink) after
    → CutsRun name head playback before after
cut-events name head playback before after created headed h cut =
    cut-turn name head playback before cut.between after created headed cut.done cut.next.bytes cut.next.line h cut.first cut.only cut.next.next cut.next.cuts

-- what a device plays of events is what a run plays of its inputs
pub playback-same : (device : DeviceSeen) (pool : Pool) (events : List Event) (inputs : Inputs) → device ≡ device_seen inputs.config → pool ≡ inputs_pool inputs → events ≡ inputs.script.events
    → playback device pool events ≡ playback_of inputs
playback-same device pool events inputs device_is pool_is events_are =
    ap (λ (d : DeviceSeen). playback d pool events) device_is
    ∙ ap (λ (p : Pool). playback (device_seen inputs.config) p events) pool_is
    ∙ ap (λ (list : List Event). playback (device_seen inputs.config) (inputs_pool inputs) list) events_are

-- and so is what it leaves
pub run-same : (P : List ℕ → Playback → Type 0) (head : List ℕ) (one : Playback) (inputs : Inputs) → head ≡ header_in inputs → one ≡ playback_of inputs → P head one → P (header_in inputs) (playback_of inputs)
run-same P head one inputs head_is is holds =
    subst (λ (h : List ℕ). P h (playback_of inputs)) head_is (subst (λ (p : Playback). P head p) is holds)

-- all events of a run left what they were to leave
pub written-events : (name head : List ℕ) (playback : Playback) (before after : Outside) (created headed : FilesSeen) → HasHeader name head before created headed
    → WritesFirst playback (length playback.events) (outside headed before.sink) after → WritesAll (output_played name head playback) before after
written-events name head playback before after created headed h first =
    let all : take (length playback.events) playback.events ≡ playback.events = take_all (length playback.events) playback.events (omega arith) in
    record {
      written = record {
        file = subst (λ (events : List Event). HasWritten name (head ++ device_text playback.device playback.pool events) before.files after.files) all
            (behind-header name head (bytes_until playback (length playback.events)) before created headed after.files h first.appended.grows);
        read_faults = first.only.files.writes.read_faults ∙ h.head_only.writes.read_faults ∙ h.only.read_faults;
        write_faults = first.appended.write_faults ∙ header-faults name head before created headed h;
      };
      put = subst (λ (events : List Event). Puts before.sink after.sink (transcript playback.device playback.pool events)) all first.put;
    }
