use Rattle.std.proofs.Common.{◌≡◌, [], ◌∷◌, ◌++◌, ◌∙◌, append_assoc}
use Rattle.pcm_feeder.specs.declared.stage.Spec.TheVariants.{Volume}
use Rattle.pcm_feeder.specs.Limits.{AreFilters}
use Rattle.pcm_format.specs.Formats.{bits_of}
use Rattle.pcm_format.specs.Layouts.{channels_of}
use Rattle.pcm_plan.specs.Plans.{plan_play, converting, equaliser_stages, depth_stages}
use Rattle.pcm_plan.proofs.Fits.{play-fits}
use Rattle.pcm_plan.proofs.ways.plan_play.Goals as goal

pub of-requires : goal.of-requires
of-requires c =
    let tables = c.args.tables.now in
    let client = c.args.client.now in
    let device = c.args.device.now in
    let limits : AreFilters tables = c.list.ensures.limits in
    let way = converting tables c.args.quality client device in
    let equaliser = equaliser_stages tables (channels_of device.layout) in
    let last = depth_stages (bits_of device.format) (channels_of device.layout) in
    let stages : c.push_some-2.new.stages.items ≡ (plan_play tables c.args.quality client device).stages =
    rw (
      c.push_some-2.ensures.stages,
      c.depth_to.ensures,
      c.push.ensures.items,
      c.push_some.ensures.stages,
      c.equaliser_over.ensures,
      c.push_converting.ensures.stages,
      c.list.ensures.value,
      c.bits.ensures,
      c.channels-channels.ensures,
    )
    (append_assoc (way ++ equaliser) (Volume device.layout ∷ []) last ∙ append_assoc way equaliser (Volume device.layout ∷ last)) in
    rw stages (play-fits tables c.args.quality client device limits c.requires.rates.client c.requires.rates.device)
