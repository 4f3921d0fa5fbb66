use Rattle.std.proofs.Common.{◌≡◌, ◌+◌, ◌≤◌, length}
use Rattle.pcm_desk.specs.Device.{unfiltered}
use Rattle.pcm_script.specs.Lines.{empty_script}
use Rattle.pcm_script.specs.Words.{lines_of}
use Rattle.pcm_script.proofs.Reading.{with_lines, with_rest, left_of}
use Rattle.pcm_script.proofs.reader.script_with.Given as goal

abbrev pub decreases-loop-rest : goal.decreases-loop-rest
decreases-loop-rest l = left_of l.rest

abbrev pub invariant-loop-rest : goal.invariant-loop-rest
invariant-loop-rest l = record {
  line : l.line + left_of l.rest ≤ length l.bytes + 2;
  read : with_rest (unfiltered l.device) l.files.all.now l.draft l.line l.rest ≡ with_lines (unfiltered l.device) l.files.all.now empty_script 1 (lines_of l.bytes);
}
