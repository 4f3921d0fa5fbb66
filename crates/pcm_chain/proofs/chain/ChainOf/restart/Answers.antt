use Rattle.std.proofs.Common.{◌≡◌, length, refl, arith}
use Rattle.std.proofs.lemmas.List.Elements.{All-nil}
use Rattle.pcm_format.specs.Frames.{Frame}
use Rattle.pcm_format.specs.Layouts.{channels_of}
use Rattle.pcm_plan.specs.Plans.{rate_in_plan}
use Rattle.pcm_plan.proofs.Fits.{ratio-in}
use Rattle.pcm_chain.specs.Boxes.{kept_in}
use Rattle.pcm_chain.proofs.Counting.{none-stands}
use Rattle.pcm_chain.proofs.Pushing.{begun}
use Rattle.pcm_chain.proofs.Standing.{fresh-stages}
use Rattle.pcm_chain.proofs.chain.ChainOf.restart.Goals as goal

pub returns-clause-begins : goal.returns-clause-begins
returns-clause-begins g c tables =
    let plan = c.args.self.now.plan in
    let keeps = kept_in g.B.Feeder.kept c.fit_stages.new.boxes in
    record {
      fits = c.stages.ensures.fits;
      frames = All-nil (λ (frame : Frame). length frame ≡ channels_of plan.source);
      counts = rw c.none-self.ensures (none-stands (rate_in_plan plan) (ratio-in plan c.stages.ensures.fits));
      silent = omega arith;
      stages = fresh-stages keeps tables plan.stages (rw c.stages.ensures.value at c.fit_stages.ensures.fresh) c.stages.ensures.fits.specs;
    }

pub returns-clause-records : goal.returns-clause-records
returns-clause-records g c tables = begun g.B.Feeder.kept tables _ (returns-clause-begins g c tables)

pub returns-clause-exactly : goal.returns-clause-exactly
returns-clause-exactly g c tables = record { stands = returns-clause-begins g c tables; exact = refl }
