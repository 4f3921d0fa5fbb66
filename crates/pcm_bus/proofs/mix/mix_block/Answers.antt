use Rattle.std.proofs.Common.{◌≡◌, ◌*◌, ◌%◌, [], pos, length, get_or, replicate, All, refl, sym, ap, ◌∙◌, subst, rules, arith, zero-mul}
use Rattle.std.proofs.Math.Nat.{mul-mod_left}
use Rattle.std.proofs.lemmas.List.Elements.{All-replicate}
use Rattle.pcm_num.specs.Limit.{FitsBits}
use Rattle.pcm_sequence.specs.Fixed.{fixed_items, fixed_len}
use Rattle.pcm_sequence.proofs.Items.{items-count}
use Rattle.pcm_format.specs.Formats.{bits_of}
use Rattle.pcm_format.specs.Layouts.{channels_of}
use Rattle.pcm_format.proofs.Spelling.{silence-fits}
use Rattle.pcm_feeder.specs.declared.stage.Gain.{Gain}
use Rattle.pcm_feeder.specs.Fades.{faded}
use Rattle.pcm_feeder.proofs.FadedBits.{faded-fits}
use Rattle.pcm_desk.specs.Device.{seen}
use Rattle.pcm_desk.specs.Channels.{map_mixing, mixing}
use Rattle.pcm_sound.specs.MapRuns.{area_taken}
use Rattle.pcm_play.proofs.Moving.{moves-nothing}
use Rattle.pcm_map.specs.Channels.{MapAddsTo, area_of}
use Rattle.pcm_map.proofs.Moving.{moves-nothing as map-moves-nothing}
use Rattle.pcm_bus.specs.Blocks.{map_gains, Added}
use Rattle.pcm_bus.proofs.Blocks.{block-mixed, nothing-mixed}
use Rattle.pcm_bus.proofs.mix.mix_block.Goals as goal

pub mix_each-requires-clause-block : goal.mix_each-requires-clause-block
mix_each-requires-clause-block g c =
    let P = FitsBits (bits_of c.args.device.mix.format) in
    record {
      frames_whole = c.requires.part;
      sum_whole = c.fill.ensures.len ∙ c.requires.sum;
      fits = subst (All P) (sym (c.fill.ensures.after (λ y same. same)))
          (All-replicate P (length c.args.sum.now) (pos 0) (silence-fits (bits_of c.args.device.mix.format)));
    }

pub apply_gain-requires-clause-whole : goal.apply_gain-requires-clause-whole
apply_gain-requires-clause-whole g c =
    let size = channels_of c.args.device.mix.layout in
    ap (λ k. k % size) c.mix_each-then-n-gt0.ensures.block.sum_whole ∙ mul-mod_left c.args.n size

pub returns-then-n-gt0-clause-block : goal.returns-then-n-gt0-clause-block
returns-then-n-gt0-clause-block g c = λ sources stand.
    let silent = c.fill.ensures.after (λ y same. same) ∙ ap (λ k. replicate k (pos 0)) c.requires.sum in
    let slots : c.len-slots.result ≡ fixed_len c.args.channels.now = search rules in
    let second = subst (λ k. Added (MapAddsTo g.B.Feeder.kept c.args.tables.now c.args.device c.args.n) (map_gains c.args.mixer.now k)
    (fixed_items c.args.maps.now) (fixed_len c.args.maps.now) c.mix_each.new.sum c.mix_each-then-n-gt0.new.sum) slots
    c.mix_each-then-n-gt0.ensures.sum in
    c.apply_gain.ensures ∙ ap (λ (gain : Gain). faded c.args.device.mix.layout gain c.mix_each-then-n-gt0.new.sum) c.master.ensures.value
    ∙ block-mixed g.B.Feeder.kept c.args.tables.now c.args.device c.args.n c.args.mixer.now (fixed_items c.args.channels.now)
    (fixed_items c.args.maps.now) (fixed_len c.args.channels.now)
    (fixed_len c.args.maps.now) c.fill.new.self c.mix_each.new.sum c.mix_each-then-n-gt0.new.sum sources
    (sym (items-count c.args.channels.now)) (sym (items-count c.args.maps.now)) silent stand c.mix_each.ensures.sum second

pub returns-then-n-gt0-clause-fits : goal.returns-then-n-gt0-clause-fits
returns-then-n-gt0-clause-fits g c =
    let bits = bits_of c.args.device.mix.format in
    subst (All (FitsBits bits)) (sym c.apply_gain.ensures)
    (faded-fits bits c.args.device.mix.layout c.master.result c.mix_each-then-n-gt0.new.sum c.master.ensures.limits
    c.mix_each-then-n-gt0.ensures.block.fits)

pub returns-else-n-gt0-clause-mixed : goal.returns-else-n-gt0-clause-mixed
returns-else-n-gt0-clause-mixed g c =
    let none : 0 ≡ c.args.n = omega arith in
    record {
      len = refl;
      each = λ slot other there. (
          let channel = get_or (fixed_items c.args.channels.now) slot other in
          record {
            own = (c.requires.due.playing slot other there).own;
            moves = moves-nothing g.B.Feeder.kind g.B.Feeder.kept c.args.tables.now [] c.args.n channel;
            book = subst (λ n. channel.book ≡ mixing (seen c.args.tables.now c.args.device) c.args.here.mixed n channel.book) none refl;
          });
    }

pub returns-else-n-gt0-clause-taken : goal.returns-else-n-gt0-clause-taken
returns-else-n-gt0-clause-taken g c =
    let none : 0 ≡ c.args.n = omega arith in
    record {
      len = refl;
      each = λ slot other there. (
          let channel = get_or (fixed_items c.args.maps.now) slot other in
          record {
            own = (c.requires.due.mapped slot other there).own;
            plays = record {
              book = subst (λ n. channel.book ≡ map_mixing (seen c.args.tables.now c.args.device) n channel.book) none refl;
              moves = map-moves-nothing g.B.Feeder.kind g.B.Feeder.kept c.args.tables.now
                  (area_taken (seen c.args.tables.now channel.path.device) c.args.n channel.book (area_of channel)) c.args.n channel;
              area = refl;
            };
          });
    }

pub returns-else-n-gt0-clause-block : goal.returns-else-n-gt0-clause-block
returns-else-n-gt0-clause-block g c = λ sources stand.
    let channels = channels_of c.args.device.mix.layout in
    let none : c.args.n ≡ 0 = omega arith in
    c.fill.ensures.after (λ y same. same) ∙ ap (λ k. replicate k (pos 0)) c.requires.sum ∙ ap (λ n. replicate (n * channels) (pos 0)) none
    ∙ ap (λ k. replicate k (pos 0)) (zero-mul channels)
    ∙ nothing-mixed g.B.Feeder.kept c.args.tables.now c.args.device c.args.n c.args.mixer.now (fixed_items c.args.channels.now)
    (fixed_items c.args.maps.now) sources none stand
