use Rattle.std.proofs.Common.{◌≡◌, ◌++◌, refl}
use Rattle.pcm_format.specs.Formats.{bits_of}
use Rattle.pcm_format.specs.Layouts.{channels_of}
use Rattle.pcm_feeder.specs.Limits.{AreFilters}
use Rattle.pcm_plan.specs.Plans.{plan_record, converting, depth_stages}
use Rattle.pcm_plan.proofs.Fits.{record-fits}
use Rattle.pcm_plan.proofs.ways.plan_record.Goals as goal

pub of-requires : goal.of-requires
of-requires c =
    let tables = c.args.tables.now in
    let client = c.args.client.now in
    let device = c.args.device.now in
    let limits : AreFilters tables = c.list.ensures.limits in
    let stages : c.push_some.new.stages.items ≡ (plan_record tables c.args.quality client device).stages =
    rw (
      c.push_some.ensures.stages,
      c.depth_to-depth.ensures,
      c.push_converting.ensures.stages,
      c.list.ensures.value,
      c.bits.ensures,
      c.channels.ensures,
    )
    (refl {a = converting tables c.args.quality device client ++ depth_stages (bits_of client.format) (channels_of client.layout)}) in
    rw stages (record-fits tables c.args.quality client device limits c.requires.rates.client c.requires.rates.device)
