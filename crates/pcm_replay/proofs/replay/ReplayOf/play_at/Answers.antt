use Rattle.std.proofs.lemmas.Result.{on_err_weaker, on_ok_weaker}
use Rattle.pcm_replay.proofs.replay.ReplayOf.play_at.Goals as goal

-- the event's bytes and its line are written, or cut short
pub returns-clause-ok : goal.returns-clause-ok
returns-clause-ok g c =
    on_ok_weaker c.write_turn.result
    (λ writes. record {
      bytes = _;
      line = _;
      next = rw (c.deref.ensures.value, c.deref-2.ensures.value) c.step_at-bytes.ensures.next;
      writes = writes;
    })
    c.write_turn.ensures.ok

pub returns-clause-err : goal.returns-clause-err
returns-clause-err g c =
    on_err_weaker c.write_turn.result
    (λ cuts. record {
      bytes = _;
      line = _;
      next = rw (c.deref.ensures.value, c.deref-2.ensures.value) c.step_at-bytes.ensures.next;
      cuts = cuts;
    })
    c.write_turn.ensures.err
