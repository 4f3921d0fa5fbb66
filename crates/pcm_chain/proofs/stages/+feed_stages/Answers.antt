use Rattle.std.proofs.Common.{rules, ◌≡◌, ◌≤◌, ◌<◌, ◌-◌, ◌*◌, ◌++◌, length, take, drop, All, sym, ap, ◌∙◌, subst, arith}
use Rattle.std.proofs.lemmas.Grind.{common_steps}
use Rattle.std.proofs.lemmas.List.{length-take-le, take_at}
use Rattle.std.proofs.lemmas.List.Elements.{All-same, All-take}
use Rattle.pcm_num.specs.Limit.{FitsBits}
use Rattle.pcm_sequence.specs.Fixed.{fixed_items, fixed_len}
use Rattle.pcm_sequence.proofs.Items.{items-count}
use Rattle.pcm_feeder.specs.Turns.{Turn}
use Rattle.pcm_chain.specs.Boxes.{kept_in}
use Rattle.pcm_chain.specs.Feeds.{first_frames}
use Rattle.pcm_chain.proofs.Feeding.{stages-cut, ask-on, block-room, given-front, feeds, gone-on, gone-last, gone-none, at-head}
use Rattle.pcm_chain.proofs.Bits.{frames_of-bits}
use Rattle.pcm_chain.proofs.stages.+feed_stages.Goals as goal

pub returns-then-is_empty-clause-gone : goal.returns-then-is_empty-clause-gone
returns-then-is_empty-clause-gone g t c =
    let keeps = kept_in g.B.Feeder.kept c.args.boxes.now in
    let none : length c.args.stages.now ≡ 0 = search rules in
    let room : c.args.frames * c.args.source ≤ length
    (fixed_items c.args.staging.now.now) = omega (
      arith,
      c.args.staging.now.now_size,
      items-count c.args.staging.now.now,
      block-room
          c.args.frames c.args.source c.requires.offered c.requires.channels,
    ) in
    let n = c.args.frames * c.args.source in
    let samples = fixed_items c.args.staging.now.now in
    let front = take_at (take n samples) (drop n c.args.out.now) n (length-take-le n samples room) in
    let same = ap (λ list. list ++ drop n c.args.out.now) (c.copy_from_slice.ensures.after ∙ ap (take n) c.deref.ensures.value) in
    let have : All (FitsBits 32) (take n samples) =
    All-same (FitsBits 32) (take n samples) (take n (take n samples ++ drop n c.args.out.now)) (sym front)
    (All-take (FitsBits 32) n (take n samples ++ drop n c.args.out.now) (subst (All (FitsBits 32)) same c.tell_bits.ensures)) in
    let bits = frames_of-bits 32 c.args.source (take n samples) have in
    let gone = gone-none keeps keeps c.args.tables.now c.args.gain c.args.want c.args.stages.now c.args.frames c.args.source
    (fixed_items c.args.staging.now.now) c.args.out.now none c.requires.channels room bits in
    record {
      fed = gone.fed;
      given = gone.given;
      bits = gone.bits;
      out = same ∙ gone.out;
    }

pub feed_stage-requires : goal.feed_stage-requires
feed_stage-requires g t c = record {
  limits = search rules;
  fitted = search rules;
  gain_limits = c.requires.gain;
  filter = search rules;
  source = search rules;
  room = grind (arith, common_steps);
}

pub feed_stage-given-requires : goal.feed_stage-given-requires
feed_stage-given-requires g t c = record {
  limits = search rules;
  fitted = search rules;
  gain_limits = c.requires.gain;
  filter = search rules;
  source = search rules;
  room = grind (arith, common_steps);
}

pub returns-then-is_empty-2 : goal.returns-then-is_empty-2
returns-then-is_empty-2 g t c =
    let stages = c.args.stages.now in
    let some : 0 < length stages = search rules in
    let last : length (take (length stages - 1) (drop 1 stages)) ≡ 0 = search rules in
    let cut = stages-cut stages _ (λ none. absurd (omega (arith, none, some))) in
    let h = at-head g.B.Feeder.kept c.args.boxes.now c.args.source c.args.want (length c.args.out.now) stages _ _ cut c.requires.limits
    c.requires.fitted c.requires.room in
    let room : c.args.frames * c.args.source ≤ length
    (fixed_items c.args.staging.now.now) = omega (
      arith,
      c.args.staging.now.now_size,
      items-count c.args.staging.now.now,
      block-room
          c.args.frames c.args.source c.requires.offered c.requires.channels,
    ) in
    let same = c.deref-then-is_empty-2.ensures.value in
    let done = gone-last (kept_in g.B.Feeder.kept c.args.boxes.now) (kept_in g.B.Feeder.kept c.feed_stage.new.boxes) c.args.tables.now
    c.args.gain c.args.want stages _ _ c.args.frames c.args.source c.feed_stage.result
    (fixed_items c.args.staging.now.now) c.args.out.now c.feed_stage.new.output cut last h.limits h.fitted h.source
    (omega (arith, c.requires.channels.least)) room
    (rw same at c.feed_stage.ensures.kept) (rw same at c.feed_stage.ensures.given) (rw same at c.feed_stage.ensures.bits)
    (rw same at c.feed_stage.ensures.frames) in
    record {
      kinds = c.feed_stage.ensures.kinds;
      others = λ other differ. c.feed_stage.ensures.others other (h.first other differ);
      gone = done;
    }

pub feed_stages-requires : goal.feed_stages-requires
feed_stages-requires g t c κs within =
    let stages = c.args.stages.now in
    let some : 0 < length stages = search rules in
    let cut = stages-cut stages _ (λ none. absurd (omega (arith, none, some))) in
    let asks = ask-on g.B.Feeder.kept c.args.boxes.now c.feed_stage-given.new.boxes c.args.tables.now c.args.frames
    c.feed_stage-given.result c.args.want c.args.source (length c.args.out.now) stages _ _ cut
    c.requires.limits c.requires.distinct c.requires.fitted c.requires.tables c.requires.offered c.requires.wanted c.requires.level
    c.requires.room c.feed_stage-given.ensures.most c.feed_stage-given.ensures.others in (
      search rules,
      (
        within,
        (
          asks.limits,
          (
            asks.distinct,
            (
              asks.fitted,
              (
                c.requires.gain,
                (
                  asks.tables,
                  (
                    rw c.channels_out.ensures asks.channels,
                    (asks.offered, (c.requires.wanted, (asks.level, rw c.channels_out.ensures asks.room))),
                  ),
                ),
              ),
            ),
          ),
        ),
      ),
    )

pub returns : goal.returns
returns g t c =
    let kept = g.B.Feeder.kept in
    let stages = c.args.stages.now in
    let some : 0 < length stages = search rules in
    let cut = stages-cut stages _ (λ none. absurd (omega (arith, none, some))) in
    let h = at-head kept c.args.boxes.now c.args.source c.args.want (length c.args.out.now) stages _ _ cut c.requires.limits
    c.requires.fitted c.requires.room in
    let room : c.args.frames * c.args.source ≤ length
    (fixed_items c.args.staging.now.now) = omega (
      arith,
      c.args.staging.now.now_size,
      items-count c.args.staging.now.now,
      block-room
          c.args.frames c.args.source c.requires.offered c.requires.channels,
    ) in
    let same = c.deref-2.ensures.value in
    let above = (let a = c.requires.channels.least in let above : 0 < c.args.source = omega arith in above) in
    let does = feeds (kept_in kept c.args.boxes.now) c.args.tables.now c.args.gain c.args.want _ c.args.frames c.args.source
    (fixed_items c.args.staging.now.now) h.fitted h.source above room in
    let next = fixed_items c.turn.new.self.now in
    let next_is = c.turn.ensures
    ∙ take_at c.feed_stage-given.new.output (drop (length c.feed_stage-given.new.output) (fixed_items c.args.staging.now.next))
    (fixed_len c.args.staging.now.next) (omega (arith, c.feed_stage-given.auto.output, c.deref_mut.ensures.len))
    ∙ rw same at c.feed_stage-given.ensures.frames in
    let front = given-front (kept_in kept c.args.boxes.now) c.args.tables.now c.args.gain c.args.want _ c.args.frames
    c.feed_stage-given.result c.args.source (fixed_items c.args.staging.now.now) next _
    h.limits h.fitted h.source above room (rw same at c.feed_stage-given.ensures.given) next_is in
    let done = gone-on kept c.args.boxes.now c.feed_stage-given.new.boxes c.feed_stages.new.boxes c.args.tables.now c.args.gain c.args.want
    stages _ _ (first_frames c.args.frames c.args.source (fixed_items c.args.staging.now.now))
    (first_frames c.feed_stage-given.result c.channels_out.result next) c.feed_stages.result c.args.out.now c.feed_stages.new.out cut
    (search rules) c.requires.distinct c.feed_stage-given.ensures.others
    (rw same at c.feed_stage-given.ensures.kept ∙ ap (λ (t : Turn). t.kept) does)
    (ap (λ channels. first_frames c.feed_stage-given.result channels next) c.channels_out.ensures ∙ front)
    c.feed_stages.ensures.others c.feed_stages.ensures.gone in
    record {
      kinds = λ have. c.feed_stages.ensures.kinds (c.feed_stage-given.ensures.kinds have);
      others = λ other differ. c.feed_stages.ensures.others other (h.behind other differ)
          ∙ c.feed_stage-given.ensures.others other (h.first other differ);
      gone = done;
    }
