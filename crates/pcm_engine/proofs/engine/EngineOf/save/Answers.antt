use Rattle.std.proofs.Common.{ℕ, ◌++◌, ap, ◌∙◌, arith}
use Rattle.std.proofs.lemmas.List.{length-append}
use Rattle.pcm_digest.specs.Digests.{digest_of}
use Rattle.pcm_state.specs.Numbers.{spelled_numbers}
use Rattle.pcm_state.proofs.Spelled.{length-numbers}
use Rattle.pcm_save.specs.Parents.{parent_state}
use Rattle.pcm_engine.specs.Saved.{descriptors_state, head_row}
use Rattle.pcm_engine.proofs.Saving.{held-fit, ready-fitted, three-same}
use Rattle.pcm_engine.proofs.engine.EngineOf.save.Goals as goal

pub save_parent-requires-clause-fitted : goal.save_parent-requires-clause-fitted
save_parent-requires-clause-fitted g c = ready-fitted g.B.Feeder.kind g.B.Feeder.kept c.args.self.now c.requires.ready

pub save_parent-requires-clause-size : goal.save_parent-requires-clause-size
save_parent-requires-clause-size g c =
    let engine = c.args.self.now in
    let row = head_row (digest_of engine.tables engine.parent.device) engine.parent.handed in
    let descriptors = descriptors_state engine.descriptors in
    let parent = parent_state g.B.Feeder.kept engine.parent in
    omega (
      arith,
      length-append (spelled_numbers row) (descriptors ++ parent),
      length-append descriptors parent,
      length-numbers row,
      c.size.ensures.size,
      c.requires.size,
      c.split_at_mut-head.ensures.back_len,
      c.split_at_mut-descriptors.ensures.back_len,
    )

pub save-requires-clause-slots : goal.save-requires-clause-slots
save-requires-clause-slots g c = held-fit c.args.self.now c.save_parent.ensures.whole.slots

pub returns : goal.returns
returns g c =
    let engine = c.args.self.now in
    record {
      fits = c.save_parent.ensures.fits;
      state = record {
        ready = c.requires.ready;
        whole = record { parent = c.save_parent.ensures.whole; descriptors = c.size.ensures.whole };
        is = three-same c.put_numbers.new.out c.save.new.out c.save_parent.new.out
            (spelled_numbers (head_row (digest_of engine.tables engine.parent.device) engine.parent.handed)) (descriptors_state engine.descriptors) (parent_state g.B.Feeder.kept engine.parent)
            (c.put_numbers.ensures.spelled ∙ ap (λ (digest : ℕ). spelled_numbers (head_row digest engine.parent.handed)) c.digest_of-digest.ensures) c.save.ensures.state c.save_parent.ensures.state;
      };
    }
