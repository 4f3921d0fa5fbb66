use Rattle.std.proofs.Common.{◌≡◌, ◌<◌, length, set, get_or, sym, ◌∙◌, subst, inl, inr, arith, add-one, get_or-set_same, get_or-set_other}
use Rattle.std.proofs.lemmas.Bool.{cases_lt}
use Rattle.std.proofs.lemmas.List.{get_or_default}
use Rattle.pcm_sequence.specs.Fixed.{fixed_items}
use Rattle.pcm_sequence.proofs.Items.{items-count}
use Rattle.pcm_feeder.specs.declared.stage.Gain.{Gain}
use Rattle.pcm_bus.specs.Blocks.{map_gains}
use Rattle.pcm_bus.proofs.mix.mix_each.Goals as goal

pub loop-slot-preserved : goal.loop-slot-preserved
loop-slot-preserved g c =
    let i = c.loop-slot.slot in
    let before = fixed_items c.args.channels.now in
    let between = fixed_items c.loop-slot.channels in
    let lent = c.index_mut.result.now in
    let there : i < length between = omega (arith, items-count c.loop-slot.channels, c.loop-slot.invariant.len) in
    let held = c.loop-slot.invariant.block in
    let Leaves = g.C.Mixed.leaves c.args.tables.now c.args.device c.args.here.mixed c.args.n in
    let Adds = λ (gain : Gain). g.C.Mixed.adds c.args.tables.now c.args.device c.args.n gain c.loop-slot.sum c.mix_in.new.sum in
    let is : (other : _) → lent ≡ get_or before i other = λ other. c.index_mut.ensures.value ∙ get_or_default between i lent other there
    ∙ c.loop-slot.invariant.rest i other (omega arith) in
    record {
      len = c.loop-slot.invariant.len;
      left = λ at other below. elim (cases_lt at i) [
        | inl less ↦ subst (Leaves (get_or before at other)) (sym (get_or-set_other between i at c.mix_in.new.self other (omega arith)))
            (c.loop-slot.invariant.left at other less)
        | inr more ↦ (
            let here : i ≡ at = omega arith in
            subst (λ k. Leaves (get_or before k other) (get_or (set between i c.mix_in.new.self) k other)) here
            (rw (get_or-set_same between i c.mix_in.new.self other there, ← is other) c.mix_in.ensures.left))
      ];
      rest = λ at other above. get_or-set_other between i at c.mix_in.new.self other (omega arith)
          ∙ c.loop-slot.invariant.rest at other (omega arith);
      sum = rw add-one (
        c.loop-slot.sum,
        (
          c.loop-slot.invariant.sum,
          λ other.
              subst (Adds (map_gains c.args.mixer.now c.args.first i)) (is other)
              (subst (λ (gain : Gain). Adds gain lent) c.slot_gain-gain.ensures.value c.mix_in.ensures.adds),
        ),
      );
      block = record {
        frames_whole = omega (arith, c.mix_in.auto.frames, held.frames_whole);
        sum_whole =
            omega (arith, c.mix_in.auto.sum, held.sum_whole);
        fits = c.mix_in.ensures.fits;
      };
    }
