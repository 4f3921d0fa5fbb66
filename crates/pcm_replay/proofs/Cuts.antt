-- What files that were read, with nothing else done, change of what is written.
use Rattle.std.proofs.Common.{◌≡◌, ℕ, ◌++◌, List, Option, Some, None, ◌∙◌, ap, subst}
use Rattle.pcm_outside.specs.Counts.{Rose}
use Rattle.pcm_outside.specs.Files.{FilesSeen, FailsToCreate, IsLeft, OnlyReads}
use Rattle.pcm_outside.specs.Sink.{SinkSeen, FailsToPut, Puts, PutsMore}
use Rattle.pcm_inputs.specs.Outside.{Outside}
use Rattle.pcm_inputs.proofs.Parts.{reads-later}
use Rattle.pcm_verdict.specs.Outputs.{Output, Written, header_in, output_of}
use Rattle.pcm_verdict.specs.Verdict.{Accepted, Runs, Checks, Converts, Soaks}
use Rattle.pcm_replay.specs.Cuts.{CutsCall, CutsRun, RunAtCreate, RunInBytes, RunInHeader, RunInLine}
use Rattle.pcm_replay.specs.Playback.{Playback, bytes_until, lines_until, playback_of}
use Rattle.pcm_inputs.specs.Reads.{OnlyHasRead}
use Rattle.pcm_convert_command.specs.Written.{AtAppend, AtCreate, AtPut, CutAtAppend, CutAtCreate, CutsOutput, HasWritten, WritesAll, WritesFile}
use Rattle.pcm_convert_command.proofs.Appending.{rose_later}

-- what a read leaves alone, and then a write changes
pub has_written_later : (name bytes : List ℕ) (old read new : FilesSeen) → OnlyReads old read → HasWritten name bytes read new → HasWritten name bytes old new
has_written_later name bytes old read new only written = record {
  file = λ told. written.file (only.tells ∙ told);
  others = λ told other ne. written.others (only.tells ∙ told) other ne ∙ ap (λ (content : List ℕ → Option (List ℕ)). content other) only.content;
}

writes_file_later : (file : Option Written) (before between : Outside) (new : FilesSeen) → OnlyHasRead before between → WritesFile file between.files new → WritesFile file before.files new
writes_file_later None before between new only nothing = record {
  only = reads-later _ _ _ only.files nothing.only;
  kept = record { read_faults = nothing.kept.read_faults ∙ only.kept.read_faults; failed = nothing.kept.failed ∙ only.kept.failed };
}
writes_file_later (Some file) before between new only written = record {
  file = has_written_later file.name file.bytes before.files between.files new only.files written.file;
  read_faults = written.read_faults ∙ only.kept.read_faults;
  write_faults = written.write_faults ∙ only.files.write_faults;
}

fails_to_create_later : (name : List ℕ) (old read new : FilesSeen) → OnlyReads old read → FailsToCreate read new name → FailsToCreate old new name
fails_to_create_later name old read new only failed =
    let same : read.content name ≡ old.content name = ap (λ (content : List ℕ → Option (List ℕ)). content name) only.content in
    record {
      rose = rose_later _ _ _ only.write_faults failed.rose;
      stands = failed.stands;
      created = failed.created ∙ only.created;
      left = subst (λ (before : Option (List ℕ)). IsLeft before (new.content name)) same failed.left;
      others = λ other ne. failed.others other ne ∙ ap (λ (content : List ℕ → Option (List ℕ)). content other) only.content;
    }

pub written-later : (output : Output) (before between after : Outside) → OnlyHasRead before between → WritesAll output between after → WritesAll output before after
written-later output before between after only run = record {
  written = writes_file_later output.file before between after.files only run.written;
  put = subst (λ (sink : SinkSeen). Puts sink after.sink output.lines) only.sink run.put;
}

create_later : (file : Written) (before between after : Outside) → OnlyHasRead before between → CutAtCreate file between after → CutAtCreate file before after
create_later file before between after only cut =
    record { file = fails_to_create_later file.name before.files between.files after.files only.files cut.file; sink = cut.sink ∙ only.sink }

append_later : (file : Written) (before between after : Outside) → OnlyHasRead before between → CutAtAppend file between after → CutAtAppend file before after
append_later file before between after only cut = record {
  rose = rose_later _ _ _ only.files.write_faults cut.rose;
  part = cut.part;
  front = cut.front;
  file = has_written_later file.name cut.part before.files between.files after.files only.files cut.file;
  sink = cut.sink ∙ only.sink;
}

cut_output-later : (output : Output) (before between after : Outside) → OnlyHasRead before between → CutsOutput output between after → CutsOutput output before after
cut_output-later output before between after only (AtCreate file is cut) = AtCreate file is (create_later file before between after only cut)
cut_output-later output before between after only (AtAppend file is cut) = AtAppend file is (append_later file before between after only cut)
cut_output-later output before between after only (AtPut cut) = AtPut (record {
  written = writes_file_later output.file before between after.files only cut.written;
  put = subst (λ (sink : SinkSeen). FailsToPut sink after.sink output.lines) only.sink cut.put;
})

cut_run-later : (name head : List ℕ) (playback : Playback) (before between after : Outside) → OnlyHasRead before between → CutsRun name head playback between after → CutsRun name head playback before after
cut_run-later name head playback before between after only (RunAtCreate cut) = RunAtCreate (create_later (record { name = name; bytes = head }) before between after only cut)
cut_run-later name head playback before between after only (RunInHeader cut) = RunInHeader (append_later (record { name = name; bytes = head }) before between after only cut)
cut_run-later name head playback before between after only (RunInBytes cut) = RunInBytes (record {
  rose = rose_later _ _ _ only.files.write_faults cut.rose;
  place = cut.place;
  front = cut.front;
  file = has_written_later name (head ++ (bytes_until playback cut.place.done ++ cut.place.part)) before.files between.files after.files only.files cut.file;
  put = subst (λ (sink : SinkSeen). Puts sink after.sink (lines_until playback cut.place.done)) only.sink cut.put;
})
cut_run-later name head playback before between after only (RunInLine cut) = RunInLine (record {
  rose = subst (λ (sink : SinkSeen). Rose sink.faults after.sink.faults) only.sink cut.rose;
  place = cut.place;
  front = cut.front;
  written = writes_file_later (Some (record { name = name; bytes = head ++ (bytes_until playback cut.place.done ++ cut.place.bytes) })) before between after.files only cut.written;
  put = subst (λ (sink : SinkSeen). PutsMore sink after.sink (lines_until playback cut.place.done ++ cut.place.part)) only.sink cut.put;
})

-- where a call was cut short that was accepted
pub cut-later : (accepted : Accepted) (before between after : Outside) → OnlyHasRead before between → CutsCall accepted between after → CutsCall accepted before after
cut-later (Runs out inputs) before between after only cut = cut_run-later out (header_in inputs) (playback_of inputs) before between after only cut
cut-later (Checks inputs) before between after only cut = cut_output-later (output_of (Checks inputs)) before between after only cut
cut-later (Converts out conversion) before between after only cut = cut_output-later (output_of (Converts out conversion)) before between after only cut
cut-later (Soaks n) before between after only cut = cut_output-later (output_of (Soaks n)) before between after only cut
