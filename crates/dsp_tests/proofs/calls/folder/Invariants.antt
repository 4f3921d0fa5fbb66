use Rattle.std.proofs.Common.{◌≡◌, None}
use Rattle.dsp_tests.proofs.calls.folder.Given as goal

-- nothing was created yet
abbrev pub invariant-loop-name : goal.invariant-loop-name
invariant-loop-name l = l.files.created ≡ None
