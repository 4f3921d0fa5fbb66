use Rattle.std.proofs.Common.{ℕ, sym, ap, ◌∙◌}
use Rattle.pcm_digest.specs.Digests.{device_numbers, filter_numbers, mixed_all}
use Rattle.pcm_digest.proofs.Mixing.{mixed-append}
use Rattle.pcm_digest.proofs.digest.digest_of.Goals as goal

pub returns : goal.returns
returns c =
    let device = c.args.device.now in
    let filters = c.args.tables.now in
    c.mix_filters.ensures ∙ ap (λ (d : ℕ). mixed_all d (filter_numbers filters)) c.mix_device.ensures ∙ sym (mixed-append 0 (device_numbers device) (filter_numbers filters))
