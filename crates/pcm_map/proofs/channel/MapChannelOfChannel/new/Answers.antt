use Rattle.std.proofs.Common.{take, ap, sym, subst, refl, ◌∙◌}
use Rattle.pcm_sequence.proofs.Items.{items-written}
use Rattle.pcm_oss.proofs.Limits.{usual-fragments}
use Rattle.pcm_plan.specs.Plans.{rate_in_plan}
use Rattle.pcm_chain.specs.Chains.{plan_in}
use Rattle.pcm_desk.specs.declared.map_book.MapBook.{MapBook}
use Rattle.pcm_desk.specs.declared.run_state.RunState.TheVariants.{Free}
use Rattle.pcm_desk.specs.MapBooks.{map_begun}
use Rattle.pcm_desk.specs.MapSafe.{MapIsSafe}
use Rattle.pcm_desk.specs.Openings.{ring_bytes}
use Rattle.pcm_desk.proofs.MapSafe.{map-safe-unstarted}
use Rattle.pcm_map.proofs.Moving.{stands-empty}
use Rattle.pcm_map.proofs.channel.MapChannelOfChannel.new.Goals as goal

pub invariant_of-result-clause-safe : goal.invariant_of-result-clause-safe
invariant_of-result-clause-safe g c =
    let rate = rate_in_plan (plan_in c.begin_run.new.path.chain) in
    subst (λ (b : MapBook). MapIsSafe rate (record b { state = Free })) (sym c.begun.ensures)
    (map-safe-unstarted rate (record (map_begun c.args.device.mix) { state = Free }) refl refl refl usual-fragments refl)

pub returns : goal.returns
returns g c =
    let begun = c.begun.ensures in
    record {
      unopened = record {
        device_is = c.begin_run.ensures.device ∙ c.in_ok-path.ensures.device;
        book = ap (λ (b : MapBook). record b { state = Free }) begun;
        kinds = c.begin_run.ensures.kinds;
        planned = c.begin_run.ensures.planned;
        stands = stands-empty g.B.Feeder.kept c.args.tables.now _ (ap (λ (b : MapBook). b.eaten) begun)
            (ap (λ (b : MapBook). b.given) begun) c.begin_run.ensures.empty;
        area = ap (take (ring_bytes c.begun.result.opening))
            (items-written c.new-area.result c.silence.new.area (c.silence.auto.area ∙ c.deref_mut.ensures.len)) ∙ c.silence.ensures;
      };
      boxes = c.begin_run.ensures.marks ∙ c.in_ok-path.ensures.boxes;
    }
