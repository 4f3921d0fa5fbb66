use Rattle.std.proofs.Common.{arith}
use Rattle.pcm_oss.proofs.Limits.{most-count}
use Rattle.pcm_oss.proofs.fragments.Fragments.to_arg.Goals as goal

pub overflow_mul-result : goal.overflow_mul-result
overflow_mul-result c = let most = most-count c.args.self.now c.requires in record { fits = omega arith }

pub overflow_add-result : goal.overflow_add-result
overflow_add-result c = let most = most-count c.args.self.now c.requires in let log = c.requires.most_log in record { fits = omega arith }
