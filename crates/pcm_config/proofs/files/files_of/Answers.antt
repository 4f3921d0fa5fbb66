use Rattle.std.proofs.Common.{rules}
use Rattle.pcm_config.proofs.Order.{none-in-order}
use Rattle.pcm_config.proofs.files.files_of.Goals as goal

pub returns-in-None : goal.returns-in-None
returns-in-None c = record { read = search rules; order = rw (c.new-in-None.ensures, c.new.ensures.items) none-in-order }
