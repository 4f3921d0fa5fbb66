use Rattle.pcm_config.specs.Lists.{has_no_other, keys_seen}
use Rattle.pcm_config.proofs.Arrays.{all-seen}
use Rattle.pcm_config.proofs.lists.have_only.Goals as goal

pub returns : goal.returns
returns c = rw (← all-seen (has_no_other (keys_seen c.args.keys.now)) c.args.tables.now) c.each_has_no_other.ensures
