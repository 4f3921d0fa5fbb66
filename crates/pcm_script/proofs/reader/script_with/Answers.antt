use Rattle.std.proofs.Common.{◌+◌, ◌≤◌, length, Ok, arith, sym, ap, ◌∙◌}
use Rattle.pcm_desk.specs.Device.{unfiltered}
use Rattle.std.proofs.lemmas.Result.{IfOk-at_ok}
use Rattle.pcm_script.proofs.Kept.{IsSound, script_read-sound}
use Rattle.pcm_script.proofs.Reading.{left_of-less, with_lines-more, with_lines-refused, with_rest-end, script_read-lines}
use Rattle.pcm_script.proofs.reader.script_with.Goals as goal

pub loop-rest-preserved : goal.loop-rest-preserved
loop-rest-preserved c =
    let held = rw c.in-Some.is at c.loop-rest.invariant.read in
    let before : c.loop-rest.line + (length c.in-Some.text.now + 1) ≤ length c.args.bytes.now +
    2 = rw c.in-Some.is at c.loop-rest.invariant.line in
    let less = left_of-less c.in-Some.text.now c.first_line.result.1 c.first_line.ensures.shorter in record {
      line = omega (arith, before, less);
      read = sym (with_lines-more _ _ _ _ _ c.in-Some.text.now c.first_line.result.0.now c.first_line.result.1 c.first_line.ensures.lines
          c.in-Ok.ensures) ∙ held;
    }

pub returns-in-Err-Refused-clause-read : goal.returns-in-Err-Refused-clause-read
returns-in-Err-Refused-clause-read c =
    let held = rw c.in-Some.is at c.loop-rest.invariant.read in
    let refused = rw c.in-Err-Refused.field-0-is at c.in-Err-Refused.ensures in
    rw c.in-Err-Refused.kind-is
    (script_read-lines _ _ _ (omega arith) ∙ sym held
    ∙ with_lines-refused _ _ _ _ _ c.in-Some.text.now c.first_line.result.0.now c.first_line.result.1 c.first_line.ensures.lines
    refused)

pub returns-clause-read : goal.returns-clause-read
returns-clause-read c =
    let held = rw c.in_default.is at c.loop-rest.invariant.read in
    script_read-lines _ _ _ (omega arith) ∙ sym held
    ∙ with_rest-end (unfiltered c.args.device.now) c.args.files.now.all.now c.loop-rest.draft c.loop-rest.line
    ∙ ap Ok (sym c.into_script.ensures)

pub returns-clause-fits : goal.returns-clause-fits
returns-clause-fits c =
    (IfOk-at_ok (IsSound (unfiltered c.args.device.now) c.args.files.now.all.now) (returns-clause-read c)
    (script_read-sound (unfiltered c.args.device.now) c.args.files.now.all.now c.args.bytes.now
    (record { some = c.requires.block; room = c.requires.ring }))).fits

pub returns-clause-counts : goal.returns-clause-counts
returns-clause-counts c =
    (IfOk-at_ok (IsSound (unfiltered c.args.device.now) c.args.files.now.all.now) (returns-clause-read c)
    (script_read-sound (unfiltered c.args.device.now) c.args.files.now.all.now c.args.bytes.now
    (record { some = c.requires.block; room = c.requires.ring }))).counts

pub returns-clause-frames : goal.returns-clause-frames
returns-clause-frames c =
    (IfOk-at_ok (IsSound (unfiltered c.args.device.now) c.args.files.now.all.now) (returns-clause-read c)
    (script_read-sound (unfiltered c.args.device.now) c.args.files.now.all.now c.args.bytes.now
    (record { some = c.requires.block; room = c.requires.ring }))).frames

pub returns-clause-sum : goal.returns-clause-sum
returns-clause-sum c =
    (IfOk-at_ok (IsSound (unfiltered c.args.device.now) c.args.files.now.all.now) (returns-clause-read c)
    (script_read-sound (unfiltered c.args.device.now) c.args.files.now.all.now c.args.bytes.now
    (record { some = c.requires.block; room = c.requires.ring }))).sum
